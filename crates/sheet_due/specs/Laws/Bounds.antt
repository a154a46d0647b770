-- What the columns of an allowed line may hold, by the ranges of its form: the numbers of an accepted line are small.
use Rattle.std.specs.Prelude.{ℕ, ◌≤◌, ◌≡◌, refl, Bool, true, false, ◌&&◌, ◌||◌, leb}
use Rattle.std.proofs.lemmas.Bool.{false≢true}
use Rattle.std.proofs.Common.{eqb-true, leb-true}
use Rattle.rules.specs.Columns.{Range, unnamed, exactly, between, free, in_range, Form}
use Rattle.rules.proofs.Laws.Tests.{and_left, and_right}
use Rattle.sheet_form.specs.Columns.{fits_form}

-- a range as a statement
abbrev pub InRange : Range → ℕ → Type 0
InRange unnamed n = n ≡ 0
InRange (exactly m) n = n ≡ m
InRange (between low high) n = (low ≤ n) × (n ≤ high)
InRange free n = Unit {0}

within : (r : Range) (n : ℕ) → in_range r n ≡ true → InRange r n
within unnamed n e = eqb-true n 0 e
within (exactly m) n e = eqb-true n m e
within (between low high) n e = (leb-true low n (and_left (leb low n) (leb n high) e), leb-true n high (and_right (leb low n) (leb n high) e))
within free n e = tt

either : {P : Type 0} (x y : Bool) → (x ≡ true → P) → (y ≡ true → P) → (x || y) ≡ true → P
either true y f g e = f refl
either false y f g e = g e

module _ (a b c l : ℕ) where
  columns : (f : Form) → fits_form f a b c l ≡ true → InRange f.a a × InRange f.b b × InRange f.c c
  unfolding fits_form
  columns f e =
      let e₁ = and_right (in_range f.a a) (in_range f.b b && (in_range f.c c && in_range f.length l)) e in
      let e₂ = and_right (in_range f.b b) (in_range f.c c && in_range f.length l) e₁ in
      (within f.a a (and_left (in_range f.a a) _ e), within f.b b (and_left (in_range f.b b) _ e₁), within f.c c (and_left (in_range f.c c) _ e₂))

  -- by the form that a line fits: this one, or one of those after it
  pub by_form : {P : Type 0} (f : Form) (more : Bool) → (InRange f.a a × InRange f.b b × InRange f.c c → P) → (more ≡ true → P) → (fits_form f a b c l || more) ≡ true → P
  by_form f more g h = either (fits_form f a b c l) more (λ e. g (columns f e)) h

pub no-form : {P : Type 0} → false ≡ true → P
no-form e = absurd (false≢true e)
