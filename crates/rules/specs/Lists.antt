-- What is gathered from a list, what is found in it, and what is kept of it: the words in which the rules are written.
use Rattle.std.specs.Prelude.{Bool, true, false, ◌||◌, not}
use Rattle.std.proofs.Math.Option.{Option, none, some}
use mathlib.Core.List.{List, [], ◌∷◌, ◌++◌, Memᴰ}

module _ {ℓ} {A : Type ℓ} where
  -- `xs` where the test passes, else nothing
  abbrev pub given : Bool → List A → List A
  given true xs = xs
  given false xs = []

  -- does an element pass?
  abbrev pub any : (A → Bool) → List A → Bool
  any p [] = false
  any p (x ∷ xs) = p x || any p xs

  -- do all elements pass?
  abbrev pub all : (A → Bool) → List A → Bool
  all p xs = not (any (λ x. not (p x)) xs)

  abbrev pub first_or : Bool → A → Option A → Option A
  first_or true x o = some x
  first_or false x o = o

  -- the first element that passes
  abbrev pub first : (A → Bool) → List A → Option A
  first p [] = none
  first p (x ∷ xs) = first_or (p x) x (first p xs)

  -- the last element, `z` where there is none
  abbrev pub last_or : A → List A → A
  last_or z [] = z
  last_or z (x ∷ xs) = last_or x xs

  abbrev pub optional : Option A → List A
  optional none = []
  optional (some x) = x ∷ []

  abbrev pub is_empty : List A → Bool
  is_empty [] = true
  is_empty (x ∷ xs) = false

module _ {ℓ κ} {A : Type ℓ} {B : Type κ} where
  -- what each element gives, one after the other
  abbrev pub gather : (A → List B) → List A → List B
  gather f [] = []
  gather f (x ∷ xs) = f x ++ gather f xs

-- the elements that pass
abbrev pub keep {ℓ} : {A : Type ℓ} → (A → Bool) → List A → List A
keep p xs = gather (λ x. given (p x) (x ∷ [])) xs

-- the elements that pass, each reduced
abbrev pub sift {ℓ} : {A : Type ℓ} → (A → Bool) → (A → A) → List A → List A
sift p reduce xs = gather (λ x. given (p x) (reduce x ∷ [])) xs

-- the same elements, in whatever order
pub record SameMembers {A : Type 0} (xs ys : List A) : Type 0 where
  pub there : (x : A) → Memᴰ x xs → Memᴰ x ys
  pub back : (x : A) → Memᴰ x ys → Memᴰ x xs
