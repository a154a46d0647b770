-- A property of each element of a list.
use Rattle.std.specs.Prelude.{ℕ, zero, suc, ◌<◌, ◌≡◌, refl, Bool, true, false, ◌||◌, not, cond, List, [], ◌∷◌, ◌++◌, map, length, get_or, take, drop}
use Rattle.std.proofs.Common.{suc-le-suc, zero-le, le_of_suc-le-suc, not-suc-le-zero, sym, true≢false}
use Rattle.rules.specs.Lists.{given, gather, any, all, first, first_or, keep}
use Rattle.rules.specs.Derived.{Each, IfFound}

module _ {A : Type 0} where
  pub each_map : (P Q : A → Type 0) → ((x : A) → P x → Q x) → (xs : List A) → Each P xs → Each Q xs
  each_map P Q h [] k = tt
  each_map P Q h (x ∷ xs) k = (h x k.0, each_map P Q h xs k.1)

  pub each_both : (P Q : A → Type 0) (xs : List A) → Each P xs → Each Q xs → Each (λ x. P x × Q x) xs
  each_both P Q [] k l = tt
  each_both P Q (x ∷ xs) k l = ((k.0, l.0), each_both P Q xs k.1 l.1)

  pub all-each : (p : A → Bool) (xs : List A) → all p xs ≡ true → Each (λ x. p x ≡ true) xs
  all-each p [] e = tt
  all-each p (x ∷ xs) e = go (p x) refl e (all-each p xs)
    where
      go : (b : Bool) → p x ≡ b → not (not b || any (λ x. not (p x)) xs) ≡ true → (all p xs ≡ true → Each (λ x. p x ≡ true) xs) → (p x ≡ true) × Each (λ x. p x ≡ true) xs
      go true h e ih = (h, ih e)
      go false h e ih = absurd (true≢false (sym e))

  module _ (P : A → Type 0) where
    pub each_append : (xs ys : List A) → Each P xs → Each P ys → Each P (xs ++ ys)
    each_append [] ys k l = l
    each_append (x ∷ xs) ys k l = (k.0, each_append xs ys k.1 l)

    pub each-before : (xs ys : List A) → Each P (xs ++ ys) → Each P xs
    each-before [] ys k = tt
    each-before (x ∷ xs) ys k = (k.0, each-before xs ys k.1)

    pub each_after : (xs ys : List A) → Each P (xs ++ ys) → Each P ys
    each_after [] ys k = k
    each_after (x ∷ xs) ys k = each_after xs ys k.1

    pub each-given : (b : Bool) (xs : List A) → Each P xs → Each P (given b xs)
    each-given true xs k = k
    each-given false xs k = tt

    pub each-cond : (b : Bool) (xs ys : List A) → Each P xs → Each P ys → Each P (cond b xs ys)
    each-cond true xs ys k l = k
    each-cond false xs ys k l = l

    pub each_take : (n : ℕ) (xs : List A) → Each P xs → Each P (take n xs)
    each_take zero xs k = tt
    each_take (suc n) [] k = tt
    each_take (suc n) (x ∷ xs) k = (k.0, each_take n xs k.1)

    pub each-drop : (n : ℕ) (xs : List A) → Each P xs → Each P (drop n xs)
    each-drop zero xs k = k
    each-drop (suc n) [] k = tt
    each-drop (suc n) (x ∷ xs) k = each-drop n xs k.1

    pub each_keep : (p : A → Bool) (xs : List A) → Each P xs → Each P (keep p xs)
    each_keep p [] k = tt
    each_keep p (x ∷ xs) k = each_append (given (p x) (x ∷ [])) (keep p xs) (each-given (p x) (x ∷ []) (k.0, tt)) (each_keep p xs k.1)

    -- what was kept passed
    pub each-kept : (p : A → Bool) → ((x : A) → p x ≡ true → P x) → (xs : List A) → Each P (keep p xs)
    each-kept p h [] = tt
    each-kept p h (x ∷ xs) = go (p x) refl (each-kept p h xs)
      where
        go : (b : Bool) → p x ≡ b → Each P (keep p xs) → Each P (given b (x ∷ []) ++ keep p xs)
        go true e k = (h x e, k)
        go false e k = k

    pub each_first : (p : A → Bool) (xs : List A) → Each P xs → IfFound P (first p xs)
    each_first p [] k = tt
    each_first p (x ∷ xs) k = go (p x) (each_first p xs k.1)
      where
        go : (b : Bool) → IfFound P (first p xs) → IfFound P (first_or b x (first p xs))
        go true h = k.0
        go false h = h

    -- by index
    pub each_at : (z : A) (xs : List A) → Each P xs → (i : ℕ) → i < length xs → P (get_or xs i z)
    each_at z [] k i l = absurd (not-suc-le-zero l)
    each_at z (x ∷ xs) k zero l = k.0
    each_at z (x ∷ xs) k (suc i) l = each_at z xs k.1 i (le_of_suc-le-suc l)

    pub each-by-index : (z : A) (xs : List A) → ((i : ℕ) → i < length xs → P (get_or xs i z)) → Each P xs
    each-by-index z [] h = tt
    each-by-index z (x ∷ xs) h = (h zero (suc-le-suc zero-le), each-by-index z xs (λ i l. h (suc i) (suc-le-suc l)))

module _ {A B : Type 0} (Q : B → Type 0) where
  pub each-mapped : (f : A → B) (xs : List A) → Each (λ x. Q (f x)) xs → Each Q (map f xs)
  each-mapped f [] k = tt
  each-mapped f (x ∷ xs) k = (k.0, each-mapped f xs k.1)

  pub mapped-each : (f : A → B) (xs : List A) → Each Q (map f xs) → Each (λ x. Q (f x)) xs
  mapped-each f [] k = tt
  mapped-each f (x ∷ xs) k = (k.0, mapped-each f xs k.1)

  pub each-gathered : (f : A → List B) (xs : List A) → Each (λ x. Each Q (f x)) xs → Each Q (gather f xs)
  each-gathered f [] k = tt
  each-gathered f (x ∷ xs) k = each_append Q (f x) (gather f xs) k.0 (each-gathered f xs k.1)

  pub gathered-each : (f : A → List B) (xs : List A) → Each Q (gather f xs) → Each (λ x. Each Q (f x)) xs
  gathered-each f [] k = tt
  gathered-each f (x ∷ xs) k = (each-before Q (f x) (gather f xs) k, gathered-each f xs (each_after Q (f x) (gather f xs) k))
