-- Lists that were sifted, and lists in which at most one element passes: who looks only at what is kept, and in it only at what is left,
-- sees the same in the sifted list.
use Rattle.std.specs.Prelude.{ℕ, zero, suc, ◌<◌, ◌≡◌, refl, Bool, true, false, ◌||◌, List, [], ◌∷◌, ◌++◌, map, length, get_or}
use Rattle.std.proofs.Common.{suc-le-suc, zero-le, le_of_suc-le-suc, not-suc-le-zero, sym, ap, ap₂, ◌∙◌, true≢false}
use Rattle.std.proofs.Math.Option.{Option, none, some}
use Rattle.rules.specs.Lists.{given, gather, any, first, first_or, keep, sift}
use Rattle.rules.proofs.Laws.Tests.{contra, or_right}

given-cong {ℓ} : {A : Type ℓ} (b : Bool) {xs ys : List A} → (b ≡ true → xs ≡ ys) → given b xs ≡ given b ys
given-cong true h = h refl
given-cong false h = refl

-- ---- a sifted list

module _ {ℓ} {A : Type ℓ} (kept : A → Bool) (reduce : A → A) where
  pub gather-sift {κ} : {B : Type κ} (p : A → Bool) (f : A → List B) → ((x : A) → p x ≡ true → kept x ≡ true)
      → ((x : A) → kept x ≡ true → p (reduce x) ≡ p x) → ((x : A) → p x ≡ true → f (reduce x) ≡ f x)
      → (xs : List A) → gather (λ x. given (p x) (f x)) (sift kept reduce xs) ≡ gather (λ x. given (p x) (f x)) xs
  gather-sift p f covered same-p same-f [] = refl
  gather-sift {B = B} p f covered same-p same-f (x ∷ xs) = go (kept x) refl (gather-sift p f covered same-p same-f xs)
    where
      f' : A → List B
      f' y = given (p y) (f y)

      go : (b : Bool) → kept x ≡ b → gather f' (sift kept reduce xs) ≡ gather f' xs
          → gather f' (given b (reduce x ∷ []) ++ sift kept reduce xs) ≡ f' x ++ gather f' xs
      go true e ih =
          let h : f' (reduce x) ≡ f' x = rw (same-p x e) (given-cong (p x) (same-f x)) in
          ap₂ (λ (l r : List B). l ++ r) h ih
      go false e ih = rw (contra (p x) (kept x) (covered x) e) ih

  -- the elements that pass, each reduced
  pub keep-sift : (p : A → Bool) → ((x : A) → p x ≡ true → kept x ≡ true) → ((x : A) → kept x ≡ true → p (reduce x) ≡ p x)
      → (xs : List A) → keep p (sift kept reduce xs) ≡ map reduce (keep p xs)
  keep-sift p covered same-p [] = refl
  keep-sift p covered same-p (x ∷ xs) = go (kept x) refl (keep-sift p covered same-p xs)
    where
      one : (b : Bool) → keep p (sift kept reduce xs) ≡ map reduce (keep p xs)
          → given b (reduce x ∷ []) ++ keep p (sift kept reduce xs) ≡ map reduce (given b (x ∷ []) ++ keep p xs)
      one true ih = ap (λ (l : List A). reduce x ∷ l) ih
      one false ih = ih

      go : (b : Bool) → kept x ≡ b → keep p (sift kept reduce xs) ≡ map reduce (keep p xs)
          → keep p (given b (reduce x ∷ []) ++ sift kept reduce xs) ≡ map reduce (given (p x) (x ∷ []) ++ keep p xs)
      go true e ih = rw (same-p x e) (one (p x) ih)
      go false e ih = rw (contra (p x) (kept x) (covered x) e) ih

  -- what is made of reduced elements, where it does not look at what was left out
  pub map-reduced {κ} : {B : Type κ} (f : A → B) → ((x : A) → f (reduce x) ≡ f x) → (xs : List A) → map f (map reduce xs) ≡ map f xs
  map-reduced f same [] = refl
  map-reduced {B = B} f same (x ∷ xs) = ap₂ (λ (y : B) (l : List B). y ∷ l) (same x) (map-reduced f same xs)

  pub any-sift : (p : A → Bool) → ((x : A) → p x ≡ true → kept x ≡ true) → ((x : A) → kept x ≡ true → p (reduce x) ≡ p x)
      → (xs : List A) → any p (sift kept reduce xs) ≡ any p xs
  any-sift p covered same-p [] = refl
  any-sift p covered same-p (x ∷ xs) = go (kept x) refl (any-sift p covered same-p xs)
    where
      go : (b : Bool) → kept x ≡ b → any p (sift kept reduce xs) ≡ any p xs
          → any p (given b (reduce x ∷ []) ++ sift kept reduce xs) ≡ (p x || any p xs)
      go true e ih = ap₂ (λ (l r : Bool). l || r) (same-p x e) ih
      go false e ih = rw (contra (p x) (kept x) (covered x) e) ih

  -- `respond` to the first that passes
  pub first-sift {κ} : {Y : Type κ} (respond : Option A → Y) (p : A → Bool) → ((x : A) → p x ≡ true → kept x ≡ true)
      → ((x : A) → kept x ≡ true → p (reduce x) ≡ p x) → ((x : A) → p x ≡ true → respond (some (reduce x)) ≡ respond (some x))
      → (xs : List A) → respond (first p (sift kept reduce xs)) ≡ respond (first p xs)
  first-sift respond p covered same-p same [] = refl
  first-sift respond p covered same-p same (x ∷ xs) = go (kept x) refl (first-sift respond p covered same-p same xs)
    where
      one : (b : Bool) → p x ≡ b → respond (first p (sift kept reduce xs)) ≡ respond (first p xs)
          → respond (first_or b (reduce x) (first p (sift kept reduce xs))) ≡ respond (first_or b x (first p xs))
      one true e ih = same x e
      one false e ih = ih

      go : (b : Bool) → kept x ≡ b → respond (first p (sift kept reduce xs)) ≡ respond (first p xs)
          → respond (first p (given b (reduce x ∷ []) ++ sift kept reduce xs)) ≡ respond (first_or (p x) x (first p xs))
      go true e ih = rw (same-p x e) (one (p x) refl ih)
      go false e ih = rw (contra (p x) (kept x) (covered x) e) ih

-- ---- at most one element passes

abbrev pub Once {ℓ} : {A : Type ℓ} → (A → Bool) → List A → Type 0
Once p [] = Unit {0}
Once p (x ∷ xs) = (p x ≡ true → any p xs ≡ false) × Once p xs

pub first-none {ℓ} : {A : Type ℓ} (p : A → Bool) (xs : List A) → any p xs ≡ false → first p xs ≡ none
first-none p [] e = refl
first-none p (x ∷ xs) e = go (p x) e (first-none p xs)
  where
    go : (b : Bool) → (b || any p xs) ≡ false → (any p xs ≡ false → first p xs ≡ none) → first_or b x (first p xs) ≡ none
    go true e ih = absurd (true≢false e)
    go false e ih = ih e

-- `respond` to the one that passes, where one that is not kept is treated as if there were none
module _ {ℓ} {A : Type ℓ} (kept : A → Bool) (reduce : A → A) where
  pub once-sift {κ} : {Y : Type κ} (respond : Option A → Y) (p : A → Bool)
      → ((x : A) → kept x ≡ false → respond (some x) ≡ respond none)
      → ((x : A) → kept x ≡ true → p (reduce x) ≡ p x) → ((x : A) → kept x ≡ true → respond (some (reduce x)) ≡ respond (some x))
      → (xs : List A) → Once p xs → respond (first p (sift kept reduce xs)) ≡ respond (first p xs)
  once-sift respond p hidden same-p same [] o = refl
  once-sift respond p hidden same-p same (x ∷ xs) o = go (kept x) refl (once-sift respond p hidden same-p same xs o.1)
    where
      one : (b : Bool) → kept x ≡ true → respond (first p (sift kept reduce xs)) ≡ respond (first p xs)
          → respond (first_or b (reduce x) (first p (sift kept reduce xs))) ≡ respond (first_or b x (first p xs))
      one true e ih = same x e
      one false e ih = ih

      gone : (b : Bool) → p x ≡ b → kept x ≡ false → respond (first p (sift kept reduce xs)) ≡ respond (first p xs)
          → respond (first p (sift kept reduce xs)) ≡ respond (first_or b x (first p xs))
      gone true h e ih = ih ∙ ap respond (first-none p xs (o.0 h)) ∙ sym (hidden x e)
      gone false h e ih = ih

      go : (b : Bool) → kept x ≡ b → respond (first p (sift kept reduce xs)) ≡ respond (first p xs)
          → respond (first p (given b (reduce x ∷ []) ++ sift kept reduce xs)) ≡ respond (first_or (p x) x (first p xs))
      go true e ih = rw (same-p x e) (one (p x) e ih)
      go false e ih = gone (p x) refl e ih

-- ---- a list by its indices

module _ {A : Type 0} (p : A → Bool) (z : A) where
  pub any_at : (xs : List A) (i : ℕ) → i < length xs → p (get_or xs i z) ≡ true → any p xs ≡ true
  any_at [] i l e = absurd (not-suc-le-zero l)
  any_at (x ∷ xs) zero l e = ap (λ (b : Bool). b || any p xs) e
  any_at (x ∷ xs) (suc i) l e = or_right (p x) (any p xs) (any_at xs i (le_of_suc-le-suc l) e)

  pub any_found : (xs : List A) → any p xs ≡ true → (i : ℕ) × (i < length xs) × (p (get_or xs i z) ≡ true)
  any_found [] e = absurd (true≢false (sym e))
  any_found (x ∷ xs) e = go (p x) refl e (any_found xs)
    where
      go : (b : Bool) → p x ≡ b → (b || any p xs) ≡ true → (any p xs ≡ true → (i : ℕ) × (i < length xs) × (p (get_or xs i z) ≡ true)) → (i : ℕ) × (i < suc (length xs)) × (p (get_or (x ∷ xs) i z) ≡ true)
      go true h r ih = (zero, suc-le-suc zero-le, h)
      go false h r ih = let t = ih r in (suc t.0, suc-le-suc t.1, t.2)

  pub any_none : (xs : List A) → ((i : ℕ) → i < length xs → p (get_or xs i z) ≡ true → ⊥) → any p xs ≡ false
  any_none [] h = refl
  any_none (x ∷ xs) h = go (p x) refl (any_none xs (λ i l. h (suc i) (suc-le-suc l)))
    where
      go : (b : Bool) → p x ≡ b → any p xs ≡ false → (b || any p xs) ≡ false
      go true e r = absurd (h zero (suc-le-suc zero-le) e)
      go false e r = r

  pub none-at : (xs : List A) → any p xs ≡ false → (i : ℕ) → i < length xs → p (get_or xs i z) ≡ true → ⊥
  none-at xs e i l h = true≢false (sym (any_at xs i l h) ∙ e)

  pub once-by-index : (xs : List A) → ((i j : ℕ) → i < j → j < length xs → p (get_or xs i z) ≡ true → p (get_or xs j z) ≡ true → ⊥) → Once p xs
  once-by-index [] h = tt
  once-by-index (x ∷ xs) h = (
    λ e. any_none xs (λ i l. h zero (suc i) (suc-le-suc zero-le) (suc-le-suc l) e),
    once-by-index xs (λ i j l b. h (suc i) (suc j) (suc-le-suc l) (suc-le-suc b)),
  )

-- what is made of an element, whatever stands beyond the list
pub get_d_map : {A B : Type 0} (f : A → B) (z : A) (y : B) (xs : List A) (i : ℕ) → i < length xs → get_or (map f xs) i y ≡ f (get_or xs i z)
get_d_map f z y [] i l = absurd (not-suc-le-zero l)
get_d_map f z y (x ∷ xs) zero l = refl
get_d_map f z y (x ∷ xs) (suc i) l = get_d_map f z y xs i (le_of_suc-le-suc l)

-- what none passes keeps nothing
pub keep-none : {A : Type 0} (p : A → Bool) (xs : List A) → any p xs ≡ false → keep p xs ≡ []
keep-none p [] e = refl
keep-none {A} p (x ∷ xs) e = go (p x) e (keep-none p xs)
  where
    go : (b : Bool) → (b || any p xs) ≡ false → (any p xs ≡ false → keep p xs ≡ []) → given b (x ∷ []) ++ keep p xs ≡ []
    go true r ih = absurd (true≢false r)
    go false r ih = ih r

-- a stronger test finds no more
pub any-weaken : {A : Type 0} (p q : A → Bool) → ((x : A) → p x ≡ true → q x ≡ true) → (xs : List A) → any q xs ≡ false → any p xs ≡ false
any-weaken p q h [] e = refl
any-weaken p q h (x ∷ xs) e = go (q x) refl e (any-weaken p q h xs)
  where
    go : (b : Bool) → q x ≡ b → (b || any q xs) ≡ false → (any q xs ≡ false → any p xs ≡ false) → (p x || any p xs) ≡ false
    go true i r ih = absurd (true≢false r)
    go false i r ih = rw (contra (p x) (q x) (h x) i) (ih r)
