-- Laws of `Pieces`: a piece is looked for by its first byte, then by what it begins.
use Rattle.std.specs.Prelude.{ℕ, suc, ◌+◌, ◌-◌, ◌≤◌, ◌<◌, ◌≡◌, refl, Bool, true, false, not, cond, [], ◌∷◌, eqb, get_or, take, Some, None}
use Rattle.std.proofs.Common.{sym, ◌∙◌, add-zero, length-drop, drop_of_length-le}
use Rattle.std.proofs.Math.Path.{ap}
use native.Mathlib.Omega.{arith}
use borrow.Author.Tests.{not-true, eq-eqb, ne_eqb, le-leb, lt-leb}
use Rattle.std.proofs.Math.ListN.{length, drop}
use Rattle.std.proofs.Math.Seq.{drop-drop}
use Rattle.rules.proofs.Laws.Substrings.{find-by, folded-length}
use Rattle.rules.specs.Sheet.{Bytes}
use Rattle.rules.specs.Value.{text, small, folded, begins, ends, find}
use Rattle.value_collation.specs.Fold.{fold, four}
use Rattle.value_collation.specs.Laws.Fold.{folded-cons, folded-part, four-steps}
use Rattle.value_collation.specs.Compare.{common}
use Rattle.value_collation.specs.Laws.Compare.{common-bound, identical-common, begins-common}
use Rattle.value_substring.specs.Pieces.{seek, Sought}

module _ (b : ℕ) (v : Bytes) (from : ℕ) where
  pub sought-start : from ≤ length v → Sought b (folded text v) from from
  sought-start h = record { within = simp folded-length h; left = refl }

  step : (i : ℕ) → i < length v → not (eqb (small (get_or v i 0)) b) ≡ true → i + seek b (drop i (folded text v)) ≡ i + 1 + seek b (drop (i + 1) (folded text v))
  unfolding seek fold
  step i h e = rw (folded-cons text v i h, not-true (eqb (small (get_or v i 0)) b) e) (omega arith)

  module _ (i : ℕ) (now : Sought b (folded text v) from i) where
    pub sought-on : i < length v → (small (get_or v i 0) ≡ b → ⊥) → Sought b (folded text v) from (i + 1)
    sought-on h e = record { within = simp folded-length (omega arith); left = sym (step i h (ap not (ne_eqb (small (get_or v i 0)) b e))) ∙ now.left }

    pub sought-four : i + 4 ≤ length v → four (λ k. not (eqb (small (get_or v k 0)) b)) i ≡ true → Sought b (folded text v) from (i + 4)
    sought-four h e =
        record {
          within = simp folded-length h;
          left = sym (four-steps (λ k. k + seek b (drop k (folded text v))) (λ k. not (eqb (small (get_or v k 0)) b)) i (length v) step h e) ∙ now.left;
        }

    pub sought-at : i < length v → small (get_or v i 0) ≡ b → i ≡ from + seek b (drop from (folded text v))
    unfolding seek fold
    sought-at h e =
        let z : seek b (drop i (folded text v)) ≡ 0 = rw (folded-cons text v i h, eq-eqb (small (get_or v i 0)) b e) in
        omega (arith, now.left)

    pub sought-end : length v ≤ i → i ≡ from + seek b (drop from (folded text v))
    unfolding seek
    sought-end h =
        let l : length (folded text v) ≤ i = simp folded-length h in
        let z : seek b (drop i (folded text v)) ≡ 0 = rw (drop_of_length-le (folded text v) l) in
        omega (arith, now.left)

seek-bound : (b : ℕ) (a : Bytes) → seek b a ≤ length a
unfolding seek
seek-bound b [] = omega arith
seek-bound b (x ∷ xs) = go (eqb x b) (seek-bound b xs)
  where
    go : (t : Bool) → seek b xs ≤ length xs → cond t 0 (suc (seek b xs)) ≤ suc (length xs)
    go true h = omega arith
    go false h = omega arith

pub seek-within : (b : ℕ) (v : Bytes) (from : ℕ) → from ≤ length v → from + seek b (drop from (folded text v)) ≤ length v
seek-within b v from h = omega (arith, seek-bound b (drop from (folded text v)), length-drop from (folded text v), folded-length text v)

-- ---- a piece at a place

pub stands-common : (v p : Bytes) (at : ℕ)
    → eqb (common (folded text (take (length v - at) (drop at v))) (folded text p)) (length p) ≡ begins (drop at (folded text v)) (folded text p)
stands-common v p at = rw (folded-part text v at, ← folded-length text p) (sym (begins-common (drop at (folded text v)) (folded text p)))

-- ---- a piece anywhere

begins-short : (a p : Bytes) → length a < length p → begins a p ≡ false
begins-short a p h = begins-common a p ∙ ne_eqb (common a p) (length p) (λ e. omega (arith, (common-bound a p).0))

find-short : (p a : Bytes) (k : ℕ) → length a < length p → find p a k ≡ None
unfolding find
find-short p [] k h = rw (begins-short [] p h)
find-short p (x ∷ xs) k h = rw (begins-short (x ∷ xs) p h) (find-short p xs (k + 1) (omega arith))

pub any-empty : (p a : Bytes) → length p ≡ 0 → find (folded text p) a 0 ≡ Some 0
unfolding folded begins
any-empty [] a e = find-by [] a 0 refl
any-empty (x ∷ xs) a e = absurd (omega arith)

module _ (v p : Bytes) (i k : ℕ) where
  pub any_found : begins (drop i (folded text v)) (folded text p) ≡ true → find (folded text p) (drop i (folded text v)) k ≡ Some (k + length p)
  any_found e = rw (← folded-length text p) (find-by (folded text p) (drop i (folded text v)) k e)

  pub any-short : length v - i < length p → find (folded text p) (drop i (folded text v)) k ≡ None
  any-short h = find-short (folded text p) (drop i (folded text v)) k (simp (length-drop, folded-length) h)

find-seek : (b : ℕ) (p a : Bytes) (k : ℕ) → find (b ∷ p) a k ≡ find (b ∷ p) (drop (seek b a) a) (k + seek b a)
unfolding find seek begins
find-seek b p [] k = refl
find-seek b p (x ∷ xs) k = go (eqb x b) refl (find-seek b p xs (k + 1))
  where
    go : (t : Bool) → eqb x b ≡ t → find (b ∷ p) xs (k + 1) ≡ find (b ∷ p) (drop (seek b xs) xs) (k + 1 + seek b xs)
        → find (b ∷ p) (x ∷ xs) k ≡ find (b ∷ p) (drop (cond t 0 (suc (seek b xs))) (x ∷ xs)) (k + cond t 0 (suc (seek b xs)))
    go true e next = rw add-zero
    go false e next =
        let n : k + 1 + seek b xs ≡ k + suc (seek b xs) = omega arith in
        rw (e, ← n) next

module _ (v p : Bytes) (b : ℕ) (hp : 0 < length p) (first : b ≡ small (get_or p 0 0)) where
  sought : (i k : ℕ) → find (folded text p) (drop i (folded text v)) k
      ≡ find (folded text p) (drop (i + seek b (drop i (folded text v))) (folded text v)) (k + seek b (drop i (folded text v)))
  unfolding fold
  sought i k =
      let head : folded text p ≡ b ∷ drop 1 (folded text p) = folded-cons text p 0 hp ∙ ap (λ (x : ℕ). x ∷ drop 1 (folded text p)) (sym first) in
      rw (head, ← drop-drop) (find-seek b (drop 1 (folded text p)) (drop i (folded text v)) k)

  pub any-first : (from i : ℕ) → i ≡ from + seek b (drop from (folded text v))
      → find (folded text p) (drop i (folded text v)) (i - from) ≡ find (folded text p) (drop from (folded text v)) 0
  any-first from i e =
      let n : i - from ≡ 0 + seek b (drop from (folded text v)) = omega arith in
      rw (n, e) (sym (sought from 0))

  pub any-on : (from i j : ℕ) → from ≤ i → i < length v → begins (drop i (folded text v)) (folded text p) ≡ false → j ≡ i + 1 + seek b (drop (i + 1) (folded text v))
      → find (folded text p) (drop j (folded text v)) (j - from) ≡ find (folded text p) (drop i (folded text v)) (i - from)
  unfolding find
  any-on from i j l h e f =
      let n : j - from ≡ i - from + 1 + seek b (drop (i + 1) (folded text v)) = omega arith in
      rw (n, f) (sym (rw (folded-cons text v i h, rw (folded-cons text v i h) at e) (sought (i + 1) (i - from + 1))))

-- ---- a piece at the end

module _ (v p : Bytes) (from : ℕ) where
  pub ends-short : length v - from < length p → ends (drop from (folded text v)) (folded text p) ≡ false
  unfolding ends
  ends-short h = rw (lt-leb (length (folded text p)) (length (drop from (folded text v))) (simp (length-drop, folded-length) h))

  pub ends-stands : from ≤ length v → length p ≤ length v - from
      → ends (drop from (folded text v)) (folded text p) ≡ begins (drop (length v - length p) (folded text v)) (folded text p)
  unfolding ends
  ends-stands l h =
      let n : from + (length v - from - length p) ≡ length v - length p = omega arith in
      let m : length (drop (length v - length p) (folded text v)) ≡ length (folded text p) = simp (length-drop, folded-length) (omega arith) in
      simp (length-drop, folded-length, drop-drop, n, le-leb (length p) (length v - from) h)
      (identical-common (drop (length v - length p) (folded text v)) (folded text p) m ∙ rw m (sym (begins-common (drop (length v - length p) (folded text v)) (folded text p))))
