-- Laws of `Judge`: what a verdict that accepts tells of its tests.
use Rattle.std.specs.Prelude.{ℕ, ◌≡◌, refl, Bool, true, false}
use Rattle.std.proofs.Common.{arith}
use Rattle.rules.specs.Judge.{Verdict, accept, refuse, refuse_if, then, fold, Grammar, misplaced}
use Rattle.rules.specs.Sheet.{Line, Sheet, end, broken, row}

module _ {A : Type 0} where
  pub refused-not : (n : ℕ) (a : A) → refuse n ≡ accept a → ⊥
  refused-not n a e = let z : ◌≡◌ {A = ℕ} 0 1 = cc in omega arith

  pub accepted-is : {a b : A} → accept a ≡ accept b → a ≡ b
  accepted-is e = cc

  -- a test that was passed over
  pub not-refused : (b : Bool) (n : ℕ) (v : Verdict A) (a : A) → refuse_if b n v ≡ accept a → (b ≡ false) × (v ≡ accept a)
  not-refused true n v a e = absurd (refused-not n a e)
  not-refused false n v a e = (refl, e)

pub misplaced-not : {A : Type 0} (g : Grammar) (s : Sheet) (a : A) → misplaced g s ≡ accept a → ⊥
unfolding misplaced
misplaced-not g end a e = refused-not _ a e
misplaced-not g broken a e = refused-not _ a e
misplaced-not g (row x rest) a e = refused-not _ a e

pub then-accepts : {A B : Type 0} (v : Verdict A) (next : A → Verdict B) (b : B) → then v next ≡ accept b → (a : A) × (v ≡ accept a) × (next a ≡ accept b)
then-accepts (accept a) next b e = (a, refl, e)
then-accepts (refuse n) next b e = absurd (refused-not n b e)

pub then-cong : {A B : Type 0} (v : Verdict A) (f g : A → Verdict B) → ((a : A) → v ≡ accept a → f a ≡ g a) → then v f ≡ then v g
then-cong (accept a) f g h = h a refl
then-cong (refuse n) f g h = refl

pub then-then : {A B C : Type 0} (v : Verdict A) (f : A → Verdict B) (g : B → Verdict C) → then (then v f) g ≡ then v (λ a. then (f a) g)
then-then (accept a) f g = refl
then-then (refuse n) f g = refl

-- a fold that accepts, line by line
module _ {A B : Type 0} (step : A → Line → Verdict A) (finish : A → Verdict B) where
  abbrev pub Run : A → Sheet → B → Type 0
  Run st end b = finish st ≡ accept b
  Run st broken b = ⊥
  Run st (row x rest) b = (next : A) × (step st x ≡ accept next) × Run next rest b

  pub fold-run : (n : ℕ) (s : Sheet) (st : A) (b : B) → fold step finish n st s ≡ accept b → Run st s b
  unfolding fold
  fold-run n end st b e = e
  fold-run n broken st b e = refused-not n b e
  fold-run n (row x rest) st b e = let r = then-accepts (step st x) _ b e in (r.0, r.1, fold-run n rest r.0 b r.2)
