-- Rows of numbers one after the other in an array: one more row, and what is read at a place of the array.
use Rattle.std.specs.Prelude.{ℕ, zero, suc, ◌+◌, ◌-◌, ◌*◌, ◌≤◌, ◌<◌, ◌≡◌, refl, List, [], ◌∷◌, ◌++◌, get_or, set, drop, replicate}
use Rattle.std.proofs.Common.{sym, ap, ◌∙◌, append_assoc, append-nil, add-suc, add-zero, not-suc-le-zero, le_of_suc-le-suc, get_or-append-add}
use native.Mathlib.Omega.{arith}
use Rattle.std.proofs.Math.Nat.{mul-le-mul_right}
use Rattle.std.proofs.Math.ListN.{length, length-append, get_or-append}
use Rattle.std.proofs.lemmas.List.{length-replicate, replicate-append-replicate}
use Rattle.std.proofs.lemmas.List.Edits.{sets, sets-eq}
use Rattle.std.proofs.Math.Seq.{drop_at, take-append_seam, drop-append-add}
use Rattle.rules.specs.Lists.{gather}
use Rattle.rules.specs.Derived.{put_at}

-- ---- a row into an array

-- the numbers of `row` stored one by one, from place `j` of the row that begins at `at`
abbrev pub stored : List ℕ → ℕ → ℕ → List ℕ → List ℕ
stored rows at j [] = rows
stored rows at j (x ∷ row) = stored (set rows (at + j) x) at (suc j) row

stored-sets : (rows : List ℕ) (at j : ℕ) (row : List ℕ) → stored rows at j row ≡ sets rows (at + j) row
stored-sets rows at j [] = refl
stored-sets rows at j (x ∷ row) = stored-sets (set rows (at + j) x) at (suc j) row ∙ ap (λ (i : ℕ). sets (set rows (at + j) x) i row) (add-suc at j)

pub put-stored : (rows : List ℕ) (at : ℕ) (row : List ℕ) → at + length row ≤ length rows → stored rows at 0 row ≡ put_at rows at row
unfolding put_at
put-stored rows at row h = stored-sets rows at 0 row ∙ ap (λ (i : ℕ). sets rows i row) (add-zero at) ∙ sets-eq row rows at h

put-seam : (p r s : List ℕ) (n : ℕ) → length p ≡ n → put_at (p ++ r) n s ≡ (p ++ s) ++ drop (length s) r
unfolding put_at
put-seam p r s n e = rw (← e, take-append_seam p r, drop-append-add p r (length s))

-- fewer zeros
zeros-drop : (n m : ℕ) → drop {A = ℕ} n (replicate (n + m) 0) ≡ replicate m 0
zeros-drop n m = ap (drop n) (sym (replicate-append-replicate n m 0)) ∙ drop_at (replicate n 0) (replicate m 0) n (length-replicate n 0)

-- ---- the rows `f x`, each of `n` numbers, of some elements, and zeros up to `m` rows

module _ {A : Type 0} (f : A → List ℕ) (n : ℕ) (long : (x : A) → length (f x) ≡ n) where
  gather-length : (xs : List A) → length (gather f xs) ≡ length xs * n
  gather-length [] = omega arith
  gather-length (x ∷ xs) = length-append (f x) (gather f xs) ∙ rw (long x, gather-length xs) (omega arith)

  gather-more : (xs : List A) (x : A) → gather f (xs ++ (x ∷ [])) ≡ gather f xs ++ f x
  gather-more [] x = append-nil (f x)
  gather-more (y ∷ xs) x = ap (λ (r : List ℕ). f y ++ r) (gather-more xs x) ∙ sym (append_assoc (f y) (gather f xs) (f x))

  -- number `j` of row `k`
  row_at : (d : A) (xs : List A) (r : List ℕ) (k j : ℕ) → k < length xs → j < n → get_or (gather f xs ++ r) (k * n + j) 0 ≡ get_or (f (get_or xs k d)) j 0
  row_at d [] r k j l h = absurd (not-suc-le-zero l)
  row_at d (x ∷ xs) r zero j l h =
      let e : zero * n + j ≡ j = omega arith in
      rw (e, append_assoc (f x) (gather f xs) r) (get_or-append (f x) (gather f xs ++ r) 0 j (omega (arith, long x)))
  row_at d (x ∷ xs) r (suc k) j l h =
      let e : suc k * n + j ≡ length (f x) + (k * n + j) = omega (arith, long x) in
      rw (e, append_assoc (f x) (gather f xs) r) (get_or-append-add (f x) (gather f xs ++ r) (k * n + j) 0 ∙ row_at d xs r k j (le_of_suc-le-suc l) h)

  module _ (m : ℕ) where
    unfoldable pub filled : List A → List ℕ
    filled xs = gather f xs ++ replicate (m * n - length xs * n) 0

    pub filled_none : filled [] ≡ replicate (m * n) 0
    unfolding filled
    filled_none = let e : m * n - 0 * n ≡ m * n = omega arith in rw e

    pub filled-length : (xs : List A) → length xs ≤ m → length (filled xs) ≡ m * n
    unfolding filled
    filled-length xs h = simp (length-append, gather-length, length-replicate) (omega (arith, mul-le-mul_right n h))

    pub filled-rest : (xs : List A) → drop (length xs * n) (filled xs) ≡ replicate (m * n - length xs * n) 0
    unfolding filled
    filled-rest xs = drop_at (gather f xs) (replicate (m * n - length xs * n) 0) (length xs * n) (gather-length xs)

    pub filled_more : (xs : List A) (x : A) → length xs < m → put_at (filled xs) (length xs * n) (f x) ≡ filled (xs ++ (x ∷ []))
    unfolding filled
    filled_more xs x h =
        let l : length (xs ++ (x ∷ [])) ≡ length xs + 1 = length-append xs (x ∷ []) in
        let e : m * n - length xs * n ≡ n + (m * n - length (xs ++ (x ∷ [])) * n) = rw l (omega (arith, mul-le-mul_right n h)) in
        put-seam (gather f xs) (replicate (m * n - length xs * n) 0) (f x) (length xs * n) (gather-length xs)
        ∙ rw (long x, e, zeros-drop n (m * n - length (xs ++ (x ∷ [])) * n), gather-more xs x)

    pub filled_at : (d : A) (xs : List A) (k j : ℕ) → k < length xs → j < n → get_or (filled xs) (k * n + j) 0 ≡ get_or (f (get_or xs k d)) j 0
    unfolding filled
    filled_at d xs k j l h = row_at d xs (replicate (m * n - length xs * n) 0) k j l h
