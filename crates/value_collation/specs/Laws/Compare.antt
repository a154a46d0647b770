-- Laws of `Compare`, one for each way through a loop, and what the beginning that two values share tells of equality and order.
use Rattle.std.specs.Prelude.{ℕ, suc, ◌+◌, ◌≤◌, ◌<◌, min, ◌≡◌, Bool, ◌&&◌, cond, eqb, get_or, drop}
use Rattle.std.proofs.Math.Path.{refl}
use Rattle.std.proofs.Common.{sym, ap, ◌∙◌, arith, zero-add, length-drop, drop_of_length-le}
use Rattle.std.proofs.Math.Bool.{true, false}
use mathlib.Core.List.{[], ◌∷◌}
use borrow.Author.Tests.{eqb-true, eqb-false, eq-eqb, lt-ltb, le-ltb}
use Rattle.std.proofs.Math.Dec.{eqb-zero-suc, eqb-suc-suc}
use Rattle.std.proofs.Math.ListN.{length}
use Rattle.rules.proofs.Laws.Value.{identical-eq, normal-other}
use Rattle.rules.proofs.Laws.Substrings.{folded-length}
use Rattle.rules.specs.Sheet.{Bytes}
use Rattle.rules.specs.Value.{text, folded, identical, same, begins, order_bytes}
use Rattle.std.specs.declared.cmp.Ordering.TheVariants.{Less, Equal, Greater}
use Rattle.value_collation.specs.Fold.{fold, four}
use Rattle.value_collation.specs.Laws.Fold.{folded-cons, four-steps}
use Rattle.value_collation.specs.Compare.{common, Shared}

module _ (s : ℕ) (v w : Bytes) (n : ℕ) (least : n ≡ min (length v) (length w)) where
  pub shared_start : Shared (folded s v) (folded s w) n 0
  shared_start = record { within = omega arith; left = zero-add (common (folded s v) (folded s w)) }

  module _ (i : ℕ) where
    step : i < n → eqb (fold s (get_or v i 0)) (fold s (get_or w i 0)) ≡ true
        → i + common (drop i (folded s v)) (drop i (folded s w)) ≡ i + 1 + common (drop (i + 1) (folded s v)) (drop (i + 1) (folded s w))
    unfolding common
    step h e = rw (folded-cons s v i (omega arith), folded-cons s w i (omega arith), e) (omega arith)

    module _ (now : Shared (folded s v) (folded s w) n i) where
      pub shared-on : i < n → eqb (fold s (get_or v i 0)) (fold s (get_or w i 0)) ≡ true → Shared (folded s v) (folded s w) n (i + 1)
      shared-on h e = record { within = omega arith; left = sym (step h e) ∙ now.left }

      pub shared-off : i < n → eqb (fold s (get_or v i 0)) (fold s (get_or w i 0)) ≡ false → i ≡ common (folded s v) (folded s w)
      unfolding common
      shared-off h e =
          let z : common (drop i (folded s v)) (drop i (folded s w)) ≡ 0 = rw (folded-cons s v i (omega arith), folded-cons s w i (omega arith), e) in
          omega (arith, now.left)

      pub shared-end : n ≤ i → i ≡ common (folded s v) (folded s w)
      shared-end h = omega (arith, now.left, ended (drop i (folded s v)) (drop i (folded s w)) (simp (length-drop, folded-length) (omega arith)))
        where
          ended : (a b : Bytes) → min (length a) (length b) ≡ 0 → common a b ≡ 0
          ended [] b e = unfold common in refl
          ended (x ∷ xs) [] e = unfold common in refl
          ended (x ∷ xs) (y ∷ ys) e = absurd (omega arith)

  pub shared-four : (i : ℕ) → Shared (folded s v) (folded s w) n i → i + 4 ≤ n → four (λ k. eqb (get_or v k 0) (get_or w k 0)) i ≡ true
      → Shared (folded s v) (folded s w) n (i + 4)
  shared-four i now h e =
      record {
        within = omega arith;
        left =
            sym (four-steps (λ k. k + common (drop k (folded s v)) (drop k (folded s w))) (λ k. eqb (get_or v k 0) (get_or w k 0)) i n
            (λ k l t. step k l (eq-eqb (fold s (get_or v k 0)) (fold s (get_or w k 0)) (ap (fold s) (eqb-true (get_or v k 0) (get_or w k 0) t)))) h e)
            ∙ now.left;
      }

-- ---- what it tells

eqb-cond : (t : Bool) (n m : ℕ) → eqb (cond t (suc n) 0) (suc m) ≡ (t && eqb n m)
eqb-cond true n m = eqb-suc-suc n m
eqb-cond false n m = eqb-zero-suc m

pub identical-common : (a b : Bytes) → length a ≡ length b → identical a b ≡ eqb (common a b) (length a)
unfolding identical common
identical-common [] [] e = refl
identical-common [] (y ∷ ys) e = absurd (omega arith)
identical-common (x ∷ xs) [] e = absurd (omega arith)
identical-common (x ∷ xs) (y ∷ ys) e = rw (identical-common xs ys (omega arith), eqb-cond (eqb x y) (common xs ys) (length xs))

-- values of a syntax other than text
module _ (s : ℕ) (v w : Bytes) (other : s ≡ text → ⊥) where
  pub same-common : length v ≡ length w → same s v w ≡ eqb (common (folded s v) (folded s w)) (length v)
  unfolding same
  same-common e = rw (normal-other s v other, normal-other s w other, ← folded-length s v) (identical-common (folded s v) (folded s w) (simp folded-length e))

  pub same-never : (length v ≡ length w → ⊥) → same s v w ≡ false
  unfolding same
  same-never h = rw (normal-other s v other, normal-other s w other) (go (identical (folded s v) (folded s w)) refl)
    where
      go : (t : Bool) → identical (folded s v) (folded s w) ≡ t → identical (folded s v) (folded s w) ≡ false
      go true e = absurd (h (simp folded-length at (ap length (identical-eq (folded s v) (folded s w) e))))
      go false e = e

pub begins-common : (a p : Bytes) → begins a p ≡ eqb (common a p) (length p)
unfolding begins common
begins-common [] [] = refl
begins-common (x ∷ xs) [] = refl
begins-common [] (y ∷ ys) = sym (eqb-zero-suc (length ys))
begins-common (x ∷ xs) (y ∷ ys) = rw (begins-common xs ys, eqb-cond (eqb x y) (common xs ys) (length ys))

pub common-bound : (a b : Bytes) → (common a b ≤ length a) × (common a b ≤ length b)
unfolding common
common-bound [] b = omega arith
common-bound (x ∷ xs) [] = omega arith
common-bound (x ∷ xs) (y ∷ ys) = go (eqb x y) (common-bound xs ys)
  where
    go : (t : Bool) → (common xs ys ≤ length xs) × (common xs ys ≤ length ys)
        → (cond t (suc (common xs ys)) 0 ≤ suc (length xs)) × (cond t (suc (common xs ys)) 0 ≤ suc (length ys))
    go true h = omega arith
    go false h = omega arith

-- after it the values differ, or one of them ends
common-differ : (a b as' bs : Bytes) (x y : ℕ) → drop (common a b) a ≡ x ∷ as' → drop (common a b) b ≡ y ∷ bs → x ≡ y → ⊥
unfolding common
common-differ [] b as' bs x y p q e = let z : ◌≡◌ {A = ℕ} 0 1 = cc in omega arith
common-differ (u ∷ us) [] as' bs x y p q e = let z : ◌≡◌ {A = ℕ} 0 1 = cc in omega arith
common-differ (u ∷ us) (w ∷ ws) as' bs x y p q e = go (eqb u w) refl p q (λ p q. common-differ us ws as' bs x y p q e)
  where
    go : (t : Bool) → eqb u w ≡ t → drop (cond t (suc (common us ws)) 0) (u ∷ us) ≡ x ∷ as' → drop (cond t (suc (common us ws)) 0) (w ∷ ws) ≡ y ∷ bs
        → (drop (common us ws) us ≡ x ∷ as' → drop (common us ws) ws ≡ y ∷ bs → ⊥) → ⊥
    go true t p q next = next p q
    go false t p q next = eqb-false u w t (cc)

-- values compare as what is left after it does
order-common : (a b : Bytes) → order_bytes a b ≡ order_bytes (drop (common a b) a) (drop (common a b) b)
unfolding order_bytes common
order-common [] [] = refl
order-common [] (y ∷ ys) = refl
order-common (x ∷ xs) [] = refl
order-common (x ∷ xs) (y ∷ ys) = go (eqb x y) refl (order-common xs ys)
  where
    go : (t : Bool) → eqb x y ≡ t → order_bytes xs ys ≡ order_bytes (drop (common xs ys) xs) (drop (common xs ys) ys)
        → order_bytes (x ∷ xs) (y ∷ ys) ≡ order_bytes (drop (cond t (suc (common xs ys)) 0) (x ∷ xs)) (drop (cond t (suc (common xs ys)) 0) (y ∷ ys))
    go true e next = rw (le-ltb x y (omega (arith, eqb-true x y e)), le-ltb y x (omega (arith, eqb-true x y e))) next
    go false e next = refl

module _ (s : ℕ) (v w : Bytes) (n : ℕ) (e : n ≡ common (folded s v) (folded s w)) where
  pub within : (n ≤ length v) × (n ≤ length w)
  within = let b = common-bound (folded s v) (folded s w) in omega (arith, b.0, b.1, folded-length s v, folded-length s w)

  left : order_bytes (folded s v) (folded s w) ≡ order_bytes (drop n (folded s v)) (drop n (folded s w))
  left = rw e (order-common (folded s v) (folded s w))

  gone : (l : Bytes) → n ≡ length l → drop n (folded s l) ≡ []
  gone l p = let h : length (folded s l) ≤ n = omega (arith, folded-length s l) in drop_of_length-le (folded s l) h

  pub order-equal : n ≡ length v → n ≡ length w → order_bytes (folded s v) (folded s w) ≡ Equal
  unfolding order_bytes
  order-equal p q = left ∙ rw (gone v p, gone w q)

  pub order-less : n ≡ length v → (n ≡ length w → ⊥) → order_bytes (folded s v) (folded s w) ≡ Less
  unfolding order_bytes
  order-less p q = left ∙ rw (gone v p, folded-cons s w n (omega (arith, within)))

  pub order-greater : (n ≡ length v → ⊥) → n ≡ length w → order_bytes (folded s v) (folded s w) ≡ Greater
  unfolding order_bytes
  order-greater p q = left ∙ rw (gone w q, folded-cons s v n (omega (arith, within)))

  module _ (hv : n < length v) (hw : n < length w) where
    pub order_below : fold s (get_or v n 0) < fold s (get_or w n 0) → order_bytes (folded s v) (folded s w) ≡ Less
    unfolding order_bytes
    order_below h = left ∙ rw (folded-cons s v n hv, folded-cons s w n hw, lt-ltb (fold s (get_or v n 0)) (fold s (get_or w n 0)) h)

    pub order-above : fold s (get_or w n 0) ≤ fold s (get_or v n 0) → order_bytes (folded s v) (folded s w) ≡ Greater
    unfolding order_bytes
    order-above h =
        let differ : fold s (get_or v n 0) ≡ fold s (get_or w n 0) → ⊥ =
        common-differ (folded s v) (folded s w) (drop (n + 1) (folded s v)) (drop (n + 1) (folded s w)) (fold s (get_or v n 0)) (fold s (get_or w n 0))
        (rw (← e) (folded-cons s v n hv)) (rw (← e) (folded-cons s w n hw)) in
        left ∙ rw (
          folded-cons s v n hv,
          folded-cons s w n hw,
          le-ltb (fold s (get_or v n 0)) (fold s (get_or w n 0)) h,
          lt-ltb (fold s (get_or w n 0)) (fold s (get_or v n 0)) (omega arith),
        )

-- ---- first bytes that differ

module _ (a b as' bs : Bytes) (x y : ℕ) (p : a ≡ x ∷ as') (q : b ≡ y ∷ bs) where
  heads-below : x < y → order_bytes a b ≡ Less
  unfolding order_bytes
  heads-below h = rw (p, q, lt-ltb x y h)

  heads-above : y < x → order_bytes a b ≡ Greater
  unfolding order_bytes
  heads-above h = rw (p, q, le-ltb x y (omega arith), lt-ltb y x h)

module _ (s : ℕ) (v w : Bytes) (hv : 0 < length v) (hw : 0 < length w) where
  pub first_below : fold s (get_or v 0 0) < fold s (get_or w 0 0) → order_bytes (folded s v) (folded s w) ≡ Less
  first_below h =
      heads-below (folded s v) (folded s w) (drop 1 (folded s v)) (drop 1 (folded s w)) (fold s (get_or v 0 0)) (fold s (get_or w 0 0))
      (folded-cons s v 0 hv) (folded-cons s w 0 hw) h

  pub first_above : fold s (get_or w 0 0) < fold s (get_or v 0 0) → order_bytes (folded s v) (folded s w) ≡ Greater
  first_above h =
      heads-above (folded s v) (folded s w) (drop 1 (folded s v)) (drop 1 (folded s w)) (fold s (get_or v 0 0)) (fold s (get_or w 0 0))
      (folded-cons s v 0 hv) (folded-cons s w 0 hw) h
