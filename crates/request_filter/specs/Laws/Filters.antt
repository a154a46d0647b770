-- Laws of `Filters`: the turns of the code's loop, and that the rules read the same filter.
use Prim.Native.Nat.{ℕ, zero, suc, ◌+◌, ◌-◌, ◌≤◌, ◌<◌}
use Rattle.std.specs.Prelude.{◌≡◌, refl, Bool, eqb}
use Rattle.std.proofs.Math.Bool.{true, false, cond}
use Rattle.std.proofs.Common.{sub-one}
use native.Mathlib.Omega.{arith}
use Rattle.rules.specs.Sheet.{Bytes, Sheet}
use Rattle.rules.specs.Filter.{equality, at_least, at_most, present, substrings, Filter, and, or, not', item, Filters, none, more}
use Rattle.rules.specs.Judge.{Verdict, refuse, Grammar}
use Rattle.rules.specs.Request.{filters, filter_of, filter}
use Rattle.rules.specs.Places.{lines_at}
use Rattle.request_piece.specs.Pieces.{pieces_at}
use Rattle.request_piece.specs.Laws.Pieces.{Follows, follows_by, follows-map, follows_then, filter-line-at, pieces_reader, pieces-follow}
use Rattle.sheet_line.specs.Line.{bytes_of, line_of}
use Rattle.sheet_line.specs.declared.Line.{Line}
use Rattle.sheet_due.specs.Lines.{seen_at, misplaced_by}
use Rattle.sheet_due.specs.Laws.Lines.{on_seen, misplaced-some, misplaced-at}
use Rattle.sheet_due.specs.declared.Seen.{Seen}
use Rattle.request_piece.specs.Progress.{Progress}
use Rattle.request_piece.specs.Progress.{Read}
use Rattle.request_filter.specs.Node.{Node}
use Rattle.request_filter.specs.Filters.{by_node, filter_at, item_node, node_at, node_by, node_of, parts_at}

-- ---- one turn of a loop

module _ (one : ℕ → ℕ → Progress) (pos left : ℕ) where
  pub parts-on : (n : ℕ) → 0 < n → {next room : ℕ} → one pos left ≡ Read next room → parts_at one n pos left ≡ parts_at one (n - 1) next room
  unfolding parts_at
  parts-on zero h e = absurd (omega arith)
  parts-on (suc n) h e = rw (sub-one, e)

  pub parts-stop : (n : ℕ) → 0 < n → {number : ℕ} → one pos left ≡ Progress.Refused number → parts_at one n pos left ≡ Progress.Refused number
  unfolding parts_at
  parts-stop zero h e = absurd (omega arith)
  parts-stop (suc n) h e = rw e

  pub parts_none : (n : ℕ) → n ≤ 0 → parts_at one n pos left ≡ Read pos left
  unfolding parts_at
  parts_none n h = let z : n ≡ 0 = omega arith in rw z

-- by depth
module _ (G : Grammar) (w : ℕ) (q : Bytes) (at left : ℕ) where
  pub filter_none : (depth : ℕ) → depth ≡ 0 → filter_at G w q depth at left ≡ Progress.Refused (misplaced_by G.refusals (seen_at G.forms w q at))
  unfolding filter_at
  filter_none depth e = rw e

  pub filter-node : (depth : ℕ) → (depth ≡ 0 → ⊥) → (x : Node) → node_at G w q at left ≡ x → filter_at G w q depth at left ≡ by_node (filter_at G w q (depth - 1)) x
  unfolding filter_at
  filter-node zero h x e = absurd (h refl)
  filter-node (suc depth) h x e = rw (sub-one, e)

-- ---- filters

-- how the rules read a filter, and some filters
abbrev filter_reader : Grammar → ℕ → Bytes → ℕ → ℕ → ℕ → (A : Type 0) → (Filter → ℕ → Sheet → Verdict A) → Verdict A
filter_reader G w q d at left A k = filter G d left (lines_at w q at) k

abbrev filters_reader : Grammar → ℕ → Bytes → ℕ → ℕ → ℕ → ℕ → (A : Type 0) → (Filters → ℕ → Sheet → Verdict A) → Verdict A
filters_reader G w q d n at left A k = filters (filter G d) n left (lines_at w q at) k

-- the rules read a filter as the code does
abbrev FilterFollows : Grammar → ℕ → Bytes → ℕ → ℕ → ℕ → Type 1
FilterFollows G w q d at left = Follows w q (filter_reader G w q d at left) (filter_at G w q d at left)

-- an item has no parts
item-step : (one : ℕ → ℕ → Progress) (st : Progress) → by_node one (item_node st) ≡ st
item-step one (Read next left) = refl
item-step one (Progress.Refused n) = refl

module _ (G : Grammar) (w : ℕ) (q : Bytes) (d : ℕ) (one : (at left : ℕ) → FilterFollows G w q d at left) where
  -- filters from a position on, by what the code does, if `one` filter is
  filters-follow : (n at left : ℕ) → Follows w q (filters_reader G w q d n at left) (parts_at (filter_at G w q d) n at left)
  unfolding filters parts_at
  filters-follow zero at left = (none, λ A k. refl)
  filters-follow (suc n) at left =
      follows_then w q (filter_reader G w q d at left)
      (λ A k f left s. filters (filter G d) n left s λ fs. k (more f fs))
      (parts_at (filter_at G w q d) n)
      (λ f next left. follows-map w q (more f) (filters_reader G w q d n next left) (parts_at (filter_at G w q d) n next left) (filters-follow n next left))
      (filter_at G w q d at left) (one at left)

  module _ (left : ℕ) (x : Line) where
    -- how the rules go on after a filter's line
    abbrev line_reader : (A : Type 0) → (Filter → ℕ → Sheet → Verdict A) → Verdict A
    line_reader A m = filter_of G (filter G d) m left (line_of q x) (lines_at w q x.next)

    -- by the kind of the line
    node-kind : let k = x.kind in (t₀ : Bool) → eqb k 20 ≡ t₀ → (t₁ : Bool) → eqb k 21 ≡ t₁ → (t₂ : Bool) → eqb k 22 ≡ t₂ → (t₃ : Bool) → eqb k 23 ≡ t₃
        → (t₄ : Bool) → eqb k 24 ≡ t₄ → (t₅ : Bool) → eqb k 25 ≡ t₅ → (t₆ : Bool) → eqb k 26 ≡ t₆ → (t₇ : Bool) → eqb k 27 ≡ t₇
        → Follows w q line_reader (by_node (filter_at G w q d) (node_of G w q left x))
    unfolding node_of filter_of parts_at
    node-kind true e₀ t₁ e₁ t₂ e₂ t₃ e₃ t₄ e₄ t₅ e₅ t₆ e₆ t₇ e₇ =
        rw e₀ (follows_by w q (λ A m. filters_reader G w q d x.a x.next left A (λ fs. m (and fs))) line_reader (λ A m. rw e₀) (parts_at (filter_at G w q d) x.a x.next left)
        (follows-map w q and (filters_reader G w q d x.a x.next left) (parts_at (filter_at G w q d) x.a x.next left) (filters-follow x.a x.next left)))
    node-kind false e₀ true e₁ t₂ e₂ t₃ e₃ t₄ e₄ t₅ e₅ t₆ e₆ t₇ e₇ =
        rw (e₀, e₁) (follows_by w q (λ A m. filters_reader G w q d x.a x.next left A (λ fs. m (or fs))) line_reader (λ A m. rw (e₀, e₁)) (parts_at (filter_at G w q d) x.a x.next left)
        (follows-map w q or (filters_reader G w q d x.a x.next left) (parts_at (filter_at G w q d) x.a x.next left) (filters-follow x.a x.next left)))
    node-kind false e₀ false e₁ true e₂ t₃ e₃ t₄ e₄ t₅ e₅ t₆ e₆ t₇ e₇ =
        rw (e₀, e₁, e₂) (follows_by w q (λ A m. filter_reader G w q d x.next left A (λ f. m (not' f))) line_reader (λ A m. rw (e₀, e₁, e₂)) (parts_at (filter_at G w q d) 1 x.next left)
        (follows_then w q (filter_reader G w q d x.next left) (λ A m f. m (not' f)) (parts_at (filter_at G w q d) 0) (λ f to left. (not' f, λ A m. refl)) (filter_at G w q d x.next left) (one x.next left)))
    node-kind false e₀ false e₁ false e₂ true e₃ t₄ e₄ t₅ e₅ t₆ e₆ t₇ e₇ =
        rw (e₀, e₁, e₂, e₃) (item (equality x.a (bytes_of q x)), λ A m. rw (e₀, e₁, e₂, e₃))
    node-kind false e₀ false e₁ false e₂ false e₃ true e₄ t₅ e₅ t₆ e₆ t₇ e₇ =
        rw (e₀, e₁, e₂, e₃, e₄) (item (at_least x.a (bytes_of q x)), λ A m. rw (e₀, e₁, e₂, e₃, e₄))
    node-kind false e₀ false e₁ false e₂ false e₃ false e₄ true e₅ t₆ e₆ t₇ e₇ =
        rw (e₀, e₁, e₂, e₃, e₄, e₅) (item (at_most x.a (bytes_of q x)), λ A m. rw (e₀, e₁, e₂, e₃, e₄, e₅))
    node-kind false e₀ false e₁ false e₂ false e₃ false e₄ false e₅ true e₆ t₇ e₇ =
        rw (e₀, e₁, e₂, e₃, e₄, e₅, e₆) (item (present x.a), λ A m. rw (e₀, e₁, e₂, e₃, e₄, e₅, e₆))
    node-kind false e₀ false e₁ false e₂ false e₃ false e₄ false e₅ false e₆ true e₇ =
        rw (e₀, e₁, e₂, e₃, e₄, e₅, e₆, e₇, item-step (filter_at G w q d) (pieces_at G w q true x.b x.next left))
        (follows_by w q (λ A m. pieces_reader G w q true x.b x.next left A (λ ps. m (item (substrings x.a ps)))) line_reader (λ A m. rw (e₀, e₁, e₂, e₃, e₄, e₅, e₆, e₇))
        (pieces_at G w q true x.b x.next left)
        (follows-map w q (λ ps. item (substrings x.a ps)) (pieces_reader G w q true x.b x.next left) (pieces_at G w q true x.b x.next left) (pieces-follow G w q true x.b x.next left)))
    node-kind false e₀ false e₁ false e₂ false e₃ false e₄ false e₅ false e₆ false e₇ =
        rw (e₀, e₁, e₂, e₃, e₄, e₅, e₆, e₇) (λ z. omega arith, λ A m. rw (e₀, e₁, e₂, e₃, e₄, e₅, e₆, e₇))

  -- by what was seen
  node_seen : (left : ℕ) (x : Seen) (t : Bool) → eqb left 0 ≡ t
      → Follows w q (λ A m. on_seen w q (refuse (G.refusals + 3)) (refuse (G.refusals + 2)) (λ x rest. cond (eqb left 0) (refuse (G.refusals + 3)) (filter_of G (filter G d) m (left - 1) x rest)) x)
      (by_node (filter_at G w q d) (node_by G w q left x))
  node_seen left (Seen.Line x) true z = rw z (λ y. omega arith, λ A m. refl)
  node_seen left (Seen.Line x) false z = rw z (node-kind (left - 1) x _ refl _ refl _ refl _ refl _ refl _ refl _ refl _ refl)
  node_seen left Seen.NotAllowed t z = (λ y. omega arith, λ A m. refl)
  node_seen left Seen.Missing t z = (λ y. omega arith, λ A m. refl)

  -- one level more
  filter-one : (at left : ℕ) → FilterFollows G w q (suc d) at left
  unfolding filter filter_at node_at
  filter-one at left =
      follows_by w q
      (λ A m. on_seen w q (refuse (G.refusals + 3)) (refuse (G.refusals + 2)) (λ x rest. cond (eqb left 0) (refuse (G.refusals + 3)) (filter_of G (filter G d) m (left - 1) x rest)) (seen_at G.forms w q at))
      (filter_reader G w q (suc d) at left)
      (λ A m. filter-line-at G w q at (filter_of G (filter G d) m) left)
      (by_node (filter_at G w q d) (node_at G w q at left))
      (node_seen left (seen_at G.forms w q at) (eqb left 0) refl)

-- the filter at a position, by what the code does
pub filter-follow : (G : Grammar) (w : ℕ) (q : Bytes) (depth at left : ℕ) → FilterFollows G w q depth at left
unfolding filter filter_at
filter-follow G w q zero at left = (misplaced-some G.refusals (seen_at G.forms w q at), λ A m. misplaced-at G w q at)
filter-follow G w q (suc depth) at left = filter-one G w q depth (filter-follow G w q depth) at left
