-- What is found in a list goes by its members alone, where at most one of them passes; members of what is gathered.
use Rattle.std.specs.Prelude.{ℕ, zero, suc, ◌<◌, ◌≡◌, refl, ◌⊎◌, Bool, true, false, ◌||◌, length, get_or}
use Rattle.std.proofs.Common.{suc-le-suc, zero-le, le_of_suc-le-suc, not-suc-le-zero, arith, sym, ap, ◌∙◌, inl, inr}
use Rattle.std.proofs.lemmas.Bool.{false≢true}
use Rattle.std.proofs.Math.Option.{Option, none, some}
use mathlib.Core.List.{List, [], ◌∷◌, Memᴰ}
use Rattle.rules.specs.Lists.{any, first, first_or, gather, SameMembers}
use Rattle.rules.proofs.Laws.Tests.{bool-ext, or_right}

module _ {A : Type 0} (p : A → Bool) where
  -- a member that passes is found
  pub any-member : (xs : List A) (x : A) → Memᴰ x xs → p x ≡ true → any p xs ≡ true
  any-member [] x m h = elim m [ ]
  any-member (y ∷ ys) x (mathlib.Core.List.Memᴰ.head e) h = ap (λ (b : Bool). b || any p ys) (ap p (sym e) ∙ h)
  any-member (y ∷ ys) x (mathlib.Core.List.Memᴰ.tail m) h = or_right (p y) (any p ys) (any-member ys x m h)

  -- what is found is a member that passes
  pub member-of-any : (xs : List A) → any p xs ≡ true → (x : A) × Memᴰ x xs × (p x ≡ true)
  member-of-any [] e = absurd (false≢true e)
  member-of-any (y ∷ ys) e = go (p y) refl e (member-of-any ys)
    where
      go : (b : Bool) → p y ≡ b → (b || any p ys) ≡ true → (any p ys ≡ true → (x : A) × Memᴰ x ys × (p x ≡ true))
          → (x : A) × Memᴰ x (y ∷ ys) × (p x ≡ true)
      go true h r ih = (y, mathlib.Core.List.Memᴰ.head refl, h)
      go false h r ih = let q = ih r in (q.0, mathlib.Core.List.Memᴰ.tail q.1, q.2)

  pub any-members : (xs ys : List A) → SameMembers xs ys → any p xs ≡ any p ys
  any-members xs ys same =
      bool-ext (any p xs) (any p ys)
      (λ e. let q = member-of-any xs e in any-member ys q.0 (same.there q.0 q.1) q.2)
      (λ e. let q = member-of-any ys e in any-member xs q.0 (same.back q.0 q.1) q.2)

  first_member : (xs : List A) (x : A) → first p xs ≡ some x → Memᴰ x xs × (p x ≡ true)
  first_member [] x e = absurd (let z : ◌≡◌ {A = ℕ} 0 1 = cc in omega arith)
  first_member (y ∷ ys) x e = go (p y) refl e (first_member ys x)
    where
      go : (b : Bool) → p y ≡ b → first_or b y (first p ys) ≡ some x → (first p ys ≡ some x → Memᴰ x ys × (p x ≡ true))
          → Memᴰ x (y ∷ ys) × (p x ≡ true)
      go true h r ih = let q : y ≡ x = cc in (mathlib.Core.List.Memᴰ.head (sym q), ap p (sym q) ∙ h)
      go false h r ih = let q = ih r in (mathlib.Core.List.Memᴰ.tail q.0, q.1)

  no_member : (xs : List A) (x : A) → first p xs ≡ none → Memᴰ x xs → p x ≡ true → ⊥
  no_member [] x e m h = elim m [ ]
  no_member (y ∷ ys) x e (mathlib.Core.List.Memᴰ.head q) h = go (p y) (ap p (sym q) ∙ h) e
    where
      go : (b : Bool) → b ≡ true → first_or b y (first p ys) ≡ none → ⊥
      go true h r = let z : ◌≡◌ {A = ℕ} 0 1 = cc in omega arith
      go false h r = false≢true h
  no_member (y ∷ ys) x e (mathlib.Core.List.Memᴰ.tail m) h = go (p y) e (λ r. no_member ys x r m h)
    where
      go : (b : Bool) → first_or b y (first p ys) ≡ none → (first p ys ≡ none → ⊥) → ⊥
      go true r ih = let z : ◌≡◌ {A = ℕ} 0 1 = cc in omega arith
      go false r ih = ih r

  -- the one member that passes is the first that passes
  pub first_one : (xs : List A) (x : A) → Memᴰ x xs → p x ≡ true → ((y : A) → Memᴰ y xs → p y ≡ true → y ≡ x) → first p xs ≡ some x
  first_one xs x m h one = go (first p xs) refl
    where
      go : (o : Option A) → first p xs ≡ o → o ≡ some x
      go none e = absurd (no_member xs x e m h)
      go (some y) e = let q = first_member xs y e in ap some (one y q.0 q.1)

  pub first-nothing : (xs : List A) → ((y : A) → Memᴰ y xs → p y ≡ true → ⊥) → first p xs ≡ none
  first-nothing xs h = go (first p xs) refl
    where
      go : (o : Option A) → first p xs ≡ o → o ≡ none
      go none e = refl
      go (some y) e = let q = first_member xs y e in absurd (h y q.0 q.1)

  -- where at most one member passes, the first that passes is the same whatever the order
  pub first-members : (xs ys : List A) → SameMembers xs ys
      → ((x y : A) → Memᴰ x xs → Memᴰ y xs → p x ≡ true → p y ≡ true → x ≡ y) → first p xs ≡ first p ys
  first-members xs ys same one = go (first p ys) refl
    where
      go : (o : Option A) → first p ys ≡ o → first p xs ≡ o
      go none e = first-nothing xs (λ x m h. no_member ys x e (same.there x m) h)
      go (some y) e =
          let q = first_member ys y e in
          let m : Memᴰ y xs = same.back y q.0 in
          first_one xs y m q.1 (λ x n h. one x y n m h q.1)

module _ {A B : Type 0} (f : A → List B) (z : A) (b : B) where
  -- what is gathered comes from an element, which has a number
  pub gathered-at : (xs : List A) → Memᴰ b (gather f xs) → (i : ℕ) × (i < length xs) × Memᴰ b (f (get_or xs i z))
  gathered-at [] m = absurd (mathlib.Core.List.Memᴰ.not-nil m)
  gathered-at (x ∷ xs) m = go (mathlib.Core.List.Memᴰ.append_cases (f x) m) (gathered-at xs)
    where
      go : Memᴰ b (f x) ⊎ Memᴰ b (gather f xs) → (Memᴰ b (gather f xs) → (i : ℕ) × (i < length xs) × Memᴰ b (f (get_or xs i z)))
          → (i : ℕ) × (i < length (x ∷ xs)) × Memᴰ b (f (get_or (x ∷ xs) i z))
      go (inl q) ih = (zero, suc-le-suc zero-le, q)
      go (inr q) ih = let r = ih q in (suc r.0, suc-le-suc r.1, r.2)

  pub gathers-at : (xs : List A) (i : ℕ) → i < length xs → Memᴰ b (f (get_or xs i z)) → Memᴰ b (gather f xs)
  gathers-at [] i l m = absurd (not-suc-le-zero l)
  gathers-at (x ∷ xs) zero l m = mathlib.Core.List.Memᴰ.append_left (gather f xs) m
  gathers-at (x ∷ xs) (suc i) l m = mathlib.Core.List.Memᴰ.append_right (f x) (gathers-at xs i (le_of_suc-le-suc l) m)
