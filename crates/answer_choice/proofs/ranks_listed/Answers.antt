use Rattle.std.proofs.Common.{◌≡◌, ℕ, ◌+◌, ◌-◌, ◌≤◌, ◌<◌, Bool, false, ◌||◌, List, eqb, length, arith, refl, sym, ap, ◌∙◌, subst}
use Rattle.rules.specs.Lists.{any}
use Rattle.rules.specs.Sheet.{Bytes}
use Rattle.rules.specs.Places.{lines_at, types_of}
use Rattle.sheet_line.specs.Line.{taken_at}
use Rattle.sheet_line.specs.declared.Line.{Line}
use Rattle.sheet_line.specs.declared.Taken.{Taken}
use Rattle.access_set.specs.Member.{bit_of}
use Rattle.access_set.specs.Laws.Bit.{bit-none}
use Rattle.tables.specs.Book.{width, schema}
use Rattle.tables.specs.Held.{type_at, Distinct}
use Rattle.tables.specs.Laws.Book.{schema-length}
use Rattle.answer_choice.specs.Laws.Selected.{or-none, listed_more, listed-done, listed-broken, listed-end}
use Rattle.answer_choice.proofs.ranks_listed.Goals as goal

-- where no line is taken, none is left that lists a type
listed-none : (w : ℕ) (q : Bytes) (j : ℕ) (test : ℕ → Bool) (left : ℕ) → 0 < left → ((x : Line) → taken_at w q j ≡ Taken.Line x → ⊥) → any test (types_of left (lines_at w q j)) ≡ false
listed-none w q j test left h cut = go (taken_at w q j) refl
  where
    go : (t : Taken) → taken_at w q j ≡ t → any test (types_of left (lines_at w q j)) ≡ false
    go (Taken.Line x) e = absurd (cut x e)
    go Taken.NotInForm e = listed-broken w q j test left h e
    go Taken.End e = listed-end w q j test left h e

pub loop-init : goal.loop-init
loop-init c =
    let A = c.args in
    let b = A.book.now in
    let z : A.n - 0 ≡ A.n = omega arith in
    λ k l. rw z (ap (λ (t : Bool). t || any (eqb (type_at (schema b) k)) (types_of A.n (lines_at (width b) A.q.now A.i))) (bit-none k))

pub with_type-ranks-requires : goal.with_type-ranks-requires
with_type-ranks-requires c =
    let P = c.requires in
    subst (λ (ks : List ℕ). (length ks ≤ 64) × Distinct ks) (sym c.schema-types.ensures) (omega (arith, schema-length P.0, P.0.few-types), P.1)

pub loop-preserved : goal.loop-preserved
loop-preserved c =
    let A = c.args in
    let b = A.book.now in
    let L = c.loop in
    let told = subst (λ (ks : List ℕ). (k : ℕ) → k < length ks → bit_of c.with_type-ranks.result k ≡ (eqb (type_at ks k) c.in-Line.line.a || bit_of L.ranks k)) c.schema-types.ensures c.with_type-ranks.ensures in
    let one : A.n - (L.counter + 1) ≡ A.n - L.counter - 1 = omega arith in
    λ k l. rw one (listed_more (width b) A.q.now L.at (eqb (type_at (schema b) k)) (A.n - L.counter) (omega arith) _ (sym c.take.ensures ∙ c.in-Line.is) (bit_of L.ranks k) (bit_of c.with_type-ranks.result k) _ (told k l) (L.invariant k l))

pub returns-in_default : goal.returns-in_default
returns-in_default c =
    let A = c.args in
    let b = A.book.now in
    let L = c.loop in
    λ k l. or-none (bit_of L.ranks k) _ (listed-none (width b) A.q.now L.at (eqb (type_at (schema b) k)) (A.n - L.counter) (omega arith) (λ x e. c.in_default.not-Line x (c.take.ensures ∙ e))) ∙ L.invariant k l

pub returns : goal.returns
returns c =
    let A = c.args in
    let b = A.book.now in
    let L = c.loop in
    λ k l. or-none (bit_of L.ranks k) _ (listed-done (width b) A.q.now L.at (eqb (type_at (schema b) k)) (A.n - L.counter) (omega arith)) ∙ L.invariant k l
