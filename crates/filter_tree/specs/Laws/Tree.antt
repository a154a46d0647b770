-- A law for each way through the evaluation of a filter's lines.
use Prim.Native.Nat.{ℕ, zero, suc, ◌+◌, ◌-◌, ◌≤◌, ◌<◌}
use Rattle.std.specs.Prelude.{◌≡◌, Bool, ◌||◌, List, eqb}
use Rattle.std.proofs.Math.Path.{refl, ap}
use Rattle.std.proofs.Common.{sym, ◌∙◌, true≢false}
use Rattle.std.proofs.Math.Bool.{true, false, cond}
use native.Mathlib.Omega.{arith}
use borrow.Author.Tests.{eq-eqb, ne_eqb}
use Rattle.rules.specs.Sheet.{Bytes, line, Sheet, end, broken}
use Rattle.rules.specs.Filter.{Assertion, Filter, truth, negation, evaluate}
use Rattle.rules.specs.Judge.{accept, Grammar}
use Rattle.rules.specs.Request.{filter}
use Rattle.rules.specs.Places.{lines_at}
use Rattle.tables.specs.FilterLines.{both_in, either_in, start_in, assertion_of, after_item, Evaluated, evaluated, parts_from, evaluate_line, evaluate_sheet, evaluate_lines}
use Rattle.tables.specs.Laws.Filter.{filter-read}
use Rattle.rules.specs.declared.Edition.{Edition}
use Rattle.rules.specs.declared.Truth.{Truth}
use Rattle.rules.specs.declared.Truth.TheVariants.{True, False, Undefined}
use Rattle.filter_lines.specs.Lines.{LinesNoted, kind_at, column_a, column_b, position_at, line_value, pieces_at}
use Rattle.filter_lines.specs.Laws.Lines.{row-lines}
use Rattle.filter_lines.specs.Laws.Pieces.{pieces_are}
use Rattle.filter_item.specs.Items.{assertion_by}
use Rattle.filter_truth.specs.Join.{join_by}
use Rattle.filter_tree.specs.Tree.{after_by}

-- ---- line by line

module _ (ed : Edition) (m : Assertion → Truth) {w : ℕ} {q : Bytes} {rows : List ℕ} {lines : ℕ} (h : LinesNoted w q rows lines) (k depth : ℕ) where
  -- too deep
  pub tree-none : depth ≡ 0 → evaluated Undefined (lines_at w q (position_at rows k)) ≡ evaluate_lines ed m depth (lines_at w q (position_at rows k))
  unfolding evaluate_lines
  tree-none e = rw e

  -- no line is left
  pub tree_over : lines ≤ k → k ≤ lines → evaluated Undefined (lines_at w q (position_at rows k)) ≡ evaluate_lines ed m depth (lines_at w q (position_at rows k))
  unfolding evaluate_lines evaluate_sheet
  tree_over l n = let z : k ≡ lines = omega (arith, l, n) in rw (z, h.ends) (over depth h.unread)
    where
      over : (depth : ℕ) (b : Bool) → evaluated Undefined (cond b broken end) ≡ evaluate_lines ed m depth (cond b broken end)
      over zero b = refl
      over (suc depth) true = refl
      over (suc depth) false = refl

  module _ (l : k < lines) (nz : depth ≡ 0 → ⊥) where
    abbrev one : Sheet → Evaluated
    one = evaluate_lines ed m (depth - 1)

    abbrev rest : Sheet
    rest = lines_at w q (position_at rows (k + 1))

    by-line : evaluate_lines ed m depth (lines_at w q (position_at rows k))
        ≡ evaluate_line ed m one (line (kind_at rows k) (column_a rows k) (column_b rows k) (h.line k l).third (line_value q rows k)) rest
    unfolding evaluate_lines evaluate_sheet
    by-line = deeper depth nz
        ∙ ap (evaluate_sheet ed m (evaluate_line ed m one)) (row-lines (h.line k l))
      where
        deeper : (depth : ℕ) → (depth ≡ 0 → ⊥) → evaluate_lines ed m depth (lines_at w q (position_at rows k)) ≡ evaluate_sheet ed m (evaluate_line ed m (evaluate_lines ed m (depth - 1))) (lines_at w q (position_at rows k))
        deeper zero nz = absurd (nz refl)
        deeper (suc depth) nz = let z : suc depth - 1 ≡ depth = omega arith in rw z

    pub tree-not : kind_at rows k ≡ 22 → evaluate_lines ed m depth (lines_at w q (position_at rows k)) ≡ evaluated (negation (one rest).truth) (one rest).rest
    unfolding evaluate_line
    tree-not e = by-line ∙ rw (ne_eqb (kind_at rows k) 20 (λ z. omega (arith, e, z)), ne_eqb (kind_at rows k) 21 (λ z. omega (arith, e, z)), eq-eqb (kind_at rows k) 22 e)

    -- "and", or else "or"
    pub tree-group : (eqb (kind_at rows k) 20 || eqb (kind_at rows k) 21) ≡ true
        → evaluate_lines ed m depth (lines_at w q (position_at rows k)) ≡ parts_from (join_by ed (eqb (kind_at rows k) 20)) one (column_a rows k) (start_in ed (truth (eqb (kind_at rows k) 20)) (column_a rows k)) rest
    unfolding evaluate_line
    tree-group e = by-line ∙ go (eqb (kind_at rows k) 20) (eqb (kind_at rows k) 21) e _
      where
        go : (x y : Bool) → (x || y) ≡ true → (other : Evaluated)
            → cond x (parts_from (both_in ed) one (column_a rows k) (start_in ed True (column_a rows k)) rest) (cond y (parts_from (either_in ed) one (column_a rows k) (start_in ed False (column_a rows k)) rest) other)
            ≡ parts_from (join_by ed x) one (column_a rows k) (start_in ed (truth x) (column_a rows k)) rest
        go true y e other = refl
        go false true e other = refl
        go false false e other = absurd (true≢false (sym e))

    pub tree-item : (kind_at rows k ≡ 22 → ⊥) → (eqb (kind_at rows k) 20 || eqb (kind_at rows k) 21) ≡ false
        → evaluate_lines ed m depth (lines_at w q (position_at rows k))
        ≡ evaluated (m (assertion_by (kind_at rows k) (column_a rows k) (line_value q rows k) (pieces_at q rows lines k))) (after_by (kind_at rows k) (column_b rows k) rest)
    unfolding evaluate_line assertion_of after_item after_by
    tree-item ne e = by-line ∙ go (eqb (kind_at rows k) 20) (eqb (kind_at rows k) 21) e _ _
      where
        go : (x y : Bool) → (x || y) ≡ false → (a b : Evaluated)
            → cond x a (cond y b (cond (eqb (kind_at rows k) 22) (evaluated (negation (one rest).truth) (one rest).rest)
            (evaluated (m (assertion_of (line (kind_at rows k) (column_a rows k) (column_b rows k) (h.line k l).third (line_value q rows k)) rest)) (after_item (line (kind_at rows k) (column_a rows k) (column_b rows k) (h.line k l).third (line_value q rows k)) rest))))
            ≡ evaluated (m (assertion_by (kind_at rows k) (column_a rows k) (line_value q rows k) (pieces_at q rows lines k))) (after_by (kind_at rows k) (column_b rows k) rest)
        go true y e a b = absurd (true≢false e)
        go false true e a b = absurd (true≢false e)
        go false false e a b = rw (ne_eqb (kind_at rows k) 22 ne, pieces_are h (column_b rows k) (k + 1) (omega (arith, l)))

-- ---- the parts one by one

module _ (join : Truth → Truth → Truth) (one : Sheet → Evaluated) (left : ℕ) (t : Truth) (s : Sheet) where
  pub parts-end : left ≤ 0 → parts_from join one left t s ≡ evaluated t s
  unfolding parts_from
  parts-end h = go left h
    where
      go : (left : ℕ) → left ≤ 0 → parts_from join one left t s ≡ evaluated t s
      go zero h = refl
      go (suc left) h = absurd (omega arith)

  pub parts-on : 0 < left → (u : Truth) (rest : Sheet) → evaluated u rest ≡ one s → parts_from join one left t s ≡ parts_from join one (left - 1) (join t u) rest
  unfolding parts_from
  parts-on h u rest e = go left h
    where
      go : (left : ℕ) → 0 < left → parts_from join one left t s ≡ parts_from join one (left - 1) (join t u) rest
      go zero h = absurd (omega arith)
      go (suc left) h = let z : suc left - 1 ≡ left = omega arith in rw z (ap (λ (r : Evaluated). parts_from join one left (join t r.truth) r.rest) (sym e))

-- ---- the request's filter

accepted : {A : Type 0} (x y : A) → accept x ≡ accept y → x ≡ y
accepted x y e = cc

pub whole-read : (g : Grammar) (ed : Edition) (m : Assertion → Truth) (s : Sheet) (f : Filter) → filter g 16 128 s (λ f left rest. accept f) ≡ accept f → (evaluate_lines ed m 16 s).truth ≡ evaluate ed m f
whole-read g ed m s f e = let r = filter-read g f ed m 16 128 s (λ f left rest. accept f) e in r.3 ∙ ap (evaluate ed m) (accepted r.0 f r.2)
