-- Laws of one word's bits: of `&`, `|`, `1 << i` and the count of trailing zeros.
use Prim.Native.Nat.{ℕ, zero, suc, ◌*◌, ◌/◌, ◌%◌, ◌^◌, ◌≤◌, ◌<◌, min, max, zero-le, suc-le-suc}
use Rattle.std.specs.Prelude.{◌≡◌, Bool, true, false, ◌&&◌, ◌||◌, not, cond}
use Rattle.std.proofs.Math.Path.{refl}
use Rattle.std.proofs.Common.{sym, ap, ◌∙◌, subst, le_of_suc-le-suc, not-suc-le-zero, one-mul, pow-suc, one-add, lit<, shr-shr, shl_exact, eq-eqb, ne_eqb, eqb-true}
use Rattle.std.proofs.Math.Nat.{zero-div}
use native.Mathlib.Omega.{arith}
use Rattle.std.proofs.Math.Dec.{eqb}
use Rattle.std.specs.Int.Bits.{bit_and, bit_or, bit_xor, differ, and_step, or_step, xor_step, shifted_half, shifted_even}
use Rattle.std.proofs.lemmas.Nat.{and_shr, or_shr, xor_shr}
use Rattle.std.specs.Int.Count.{count_trailing_zeros, under}
use Rattle.std.proofs.lemmas.Bool.{eqb-false}
use Rattle.access_set.specs.Member.{bit_of, Lowest}

-- ---- `&` and `|`

module _ (x y i : ℕ) where
  pub bit-and : bit_of (bit_and x y) i ≡ (bit_of x i && bit_of y i)
  unfolding bit_of
  bit-and = rw (and_shr x y i) (digit (x / 2 ^ i) (y / 2 ^ i))
    where
      one : (a b : ℕ) → a < 2 → b < 2 → eqb (min a b) 1 ≡ (eqb a 1 && eqb b 1)
      one zero zero h k = refl
      one zero (suc zero) h k = refl
      one (suc zero) zero h k = refl
      one (suc zero) (suc zero) h k = refl
      one (suc (suc a)) b h k = absurd (not-suc-le-zero (le_of_suc-le-suc (le_of_suc-le-suc h)))
      one zero (suc (suc b)) h k = absurd (not-suc-le-zero (le_of_suc-le-suc (le_of_suc-le-suc k)))
      one (suc zero) (suc (suc b)) h k = absurd (not-suc-le-zero (le_of_suc-le-suc (le_of_suc-le-suc k)))

      digit : (u v : ℕ) → eqb (bit_and u v % 2) 1 ≡ (eqb (u % 2) 1 && eqb (v % 2) 1)
      digit u v =
          let e : bit_and u v % 2 ≡ min (u % 2) (v % 2) = omega (arith, and_step u v) in
          rw e (one (u % 2) (v % 2) (omega arith) (omega arith))

  pub bit-or : bit_of (bit_or x y) i ≡ (bit_of x i || bit_of y i)
  unfolding bit_of
  bit-or = rw (or_shr x y i) (digit (x / 2 ^ i) (y / 2 ^ i))
    where
      one : (a b : ℕ) → a < 2 → b < 2 → eqb (max a b) 1 ≡ (eqb a 1 || eqb b 1)
      one zero zero h k = refl
      one zero (suc zero) h k = refl
      one (suc zero) zero h k = refl
      one (suc zero) (suc zero) h k = refl
      one (suc (suc a)) b h k = absurd (not-suc-le-zero (le_of_suc-le-suc (le_of_suc-le-suc h)))
      one zero (suc (suc b)) h k = absurd (not-suc-le-zero (le_of_suc-le-suc (le_of_suc-le-suc k)))
      one (suc zero) (suc (suc b)) h k = absurd (not-suc-le-zero (le_of_suc-le-suc (le_of_suc-le-suc k)))

      digit : (u v : ℕ) → eqb (bit_or u v % 2) 1 ≡ (eqb (u % 2) 1 || eqb (v % 2) 1)
      digit u v =
          let e : bit_or u v % 2 ≡ max (u % 2) (v % 2) = omega (arith, or_step u v) in
          rw e (one (u % 2) (v % 2) (omega arith) (omega arith))

  pub bit-xor : bit_of (bit_xor x y) i ≡ cond (bit_of x i) (not (bit_of y i)) (bit_of y i)
  unfolding bit_of
  bit-xor = rw (xor_shr x y i) (digit (x / 2 ^ i) (y / 2 ^ i))
    where
      small : (a b : ℕ) → a < 2 → b < 2 → differ a b < 2
      small zero b h k = k
      small (suc zero) zero h k = h
      small (suc zero) (suc zero) h k = omega arith
      small (suc (suc a)) b h k = absurd (not-suc-le-zero (le_of_suc-le-suc (le_of_suc-le-suc h)))
      small (suc zero) (suc (suc b)) h k = absurd (not-suc-le-zero (le_of_suc-le-suc (le_of_suc-le-suc k)))

      one : (a b : ℕ) → a < 2 → b < 2 → eqb (differ a b) 1 ≡ cond (eqb a 1) (not (eqb b 1)) (eqb b 1)
      one zero b h k = refl
      one (suc zero) zero h k = refl
      one (suc zero) (suc zero) h k = refl
      one (suc (suc a)) b h k = absurd (not-suc-le-zero (le_of_suc-le-suc (le_of_suc-le-suc h)))
      one (suc zero) (suc (suc b)) h k = absurd (not-suc-le-zero (le_of_suc-le-suc (le_of_suc-le-suc k)))

      digit : (u v : ℕ) → eqb (bit_xor u v % 2) 1 ≡ cond (eqb (u % 2) 1) (not (eqb (v % 2) 1)) (eqb (v % 2) 1)
      digit u v =
          let s : differ (u % 2) (v % 2) < 2 = small (u % 2) (v % 2) (omega arith) (omega arith) in
          let e : bit_xor u v % 2 ≡ differ (u % 2) (v % 2) = omega (arith, xor_step u v, s) in
          rw e (one (u % 2) (v % 2) (omega arith) (omega arith))

-- ---- a bit of the half

pub bit-zero : (x : ℕ) → bit_of x 0 ≡ eqb (x % 2) 1
unfolding bit_of
bit-zero x = let e : x / 1 ≡ x = omega arith in ap (λ (m : ℕ). eqb (m % 2) 1) e

pub bit-suc : (x i : ℕ) → bit_of x (suc i) ≡ bit_of (x / 2) i
unfolding bit_of
bit-suc x i = ap (λ (m : ℕ). eqb (m % 2) 1) (ap (λ (m : ℕ). x / 2 ^ m) (sym (one-add i)) ∙ sym (shr-shr x 1 i))

pub bit-none : (i : ℕ) → bit_of 0 i ≡ false
unfolding bit_of
bit-none i = let e : 0 / 2 ^ i ≡ 0 = zero-div (2 ^ i) in rw e

-- ---- `1 << j`

pub one_shl : (j : ℕ) → j < 64 → (1 * 2 ^ j) % 2 ^ 64 ≡ 2 ^ j
one_shl j h = shl_exact {a = 1} 1 j 64 (lit< tt) (subst (λ (x : ℕ). x ≤ 64) (sym (one-add j)) h) ∙ one-mul (2 ^ j)

half_pow : (j : ℕ) → 2 ^ suc j / 2 ≡ 2 ^ j
half_pow j = let e : 1 * 2 ^ suc j ≡ 2 ^ suc j = one-mul (2 ^ suc j) in ap (λ (m : ℕ). m / 2) (sym e) ∙ shifted_half 1 j ∙ one-mul (2 ^ j)

even-pow : (j : ℕ) → 2 ^ suc j % 2 ≡ 0
even-pow j = ap (λ (m : ℕ). m % 2) (sym (one-mul (2 ^ suc j))) ∙ shifted_even 1 j

pub bit-pow : (j i : ℕ) → bit_of (2 ^ j) i ≡ eqb i j
bit-pow zero zero = unfold bit_of in refl
bit-pow zero (suc i) = bit-suc 1 i ∙ bit-none i ∙ sym (ne_eqb (suc i) 0 (λ e. omega arith))
bit-pow (suc j) zero = bit-zero (2 ^ suc j) ∙ ap (λ (m : ℕ). eqb m 1) (even-pow j) ∙ sym (ne_eqb 0 (suc j) (λ e. omega arith))
bit-pow (suc j) (suc i) = bit-suc (2 ^ suc j) i ∙ ap (λ (m : ℕ). bit_of m i) (half_pow j) ∙ bit-pow j i ∙ same (eqb i j) refl
  where
    same : (t : Bool) → eqb i j ≡ t → t ≡ eqb (suc i) (suc j)
    same true e = sym (eq-eqb (suc i) (suc j) (ap suc (eqb-true i j e)))
    same false e = let d : i ≡ j → ⊥ = eqb-false i j e in sym (ne_eqb (suc i) (suc j) (λ f. d (omega arith)))

-- ---- the count of trailing zeros

-- a place below the count is clear
trailing_below : (k x j : ℕ) → j < count_trailing_zeros k x → bit_of x j ≡ false
unfolding count_trailing_zeros
trailing_below zero x j h = absurd (not-suc-le-zero h)
trailing_below (suc k) x j h = go (x % 2) refl j h (λ i l. trailing_below k (x / 2) i l)
  where
    go : (d : ℕ) → x % 2 ≡ d → (j : ℕ) → j < under d (count_trailing_zeros k (x / 2)) → ((i : ℕ) → i < count_trailing_zeros k (x / 2) → bit_of (x / 2) i ≡ false) → bit_of x j ≡ false
    go zero e zero h ih = bit-zero x ∙ ap (λ (m : ℕ). eqb m 1) e
    go zero e (suc j) h ih = bit-suc x j ∙ ih j (le_of_suc-le-suc h)
    go (suc d) e j h ih = absurd (not-suc-le-zero h)

-- the place that is counted, if there is one, is set
trailing-set : (k x : ℕ) → count_trailing_zeros k x < k → bit_of x (count_trailing_zeros k x) ≡ true
unfolding count_trailing_zeros
trailing-set zero x h = absurd (not-suc-le-zero h)
trailing-set (suc k) x h = go (x % 2) refl h (trailing-set k (x / 2))
  where
    go : (d : ℕ) → x % 2 ≡ d → under d (count_trailing_zeros k (x / 2)) < suc k → (count_trailing_zeros k (x / 2) < k → bit_of (x / 2) (count_trailing_zeros k (x / 2)) ≡ true) → bit_of x (under d (count_trailing_zeros k (x / 2))) ≡ true
    go zero e h ih = bit-suc x (count_trailing_zeros k (x / 2)) ∙ ih (le_of_suc-le-suc h)
    go (suc d) e h ih = bit-zero x ∙ eq-eqb (x % 2) 1 (let l : x % 2 < 2 = omega arith in omega arith)

-- there is one in a number of `k` bits that is not 0
trailing-some : (k x : ℕ) → x < 2 ^ k → 0 < x → count_trailing_zeros k x < k
unfolding count_trailing_zeros
trailing-some zero x h p = absurd (let l : x < 1 = h in omega arith)
trailing-some (suc k) x h p = go (x % 2) refl (trailing-some k (x / 2))
  where
    go : (d : ℕ) → x % 2 ≡ d → (x / 2 < 2 ^ k → 0 < x / 2 → count_trailing_zeros k (x / 2) < k) → under d (count_trailing_zeros k (x / 2)) < suc k
    go zero e ih = let l : x < 2 * 2 ^ k = subst (λ (m : ℕ). x < m) (pow-two k) h in suc-le-suc (ih (omega arith) (omega arith))
      where
        pow-two : (k : ℕ) → 2 ^ suc k ≡ 2 * 2 ^ k
        pow-two k = let e : 2 ^ suc k ≡ 2 ^ k * 2 = pow-suc 2 k in omega (arith, e)
    go (suc d) e ih = suc-le-suc zero-le

pub lowest-trailing : (x : ℕ) → x < 2 ^ 64 → 0 < x → Lowest x (count_trailing_zeros 64 x)
lowest-trailing x h p = let l : count_trailing_zeros 64 x < 64 = trailing-some 64 x h p in record { within = l; set = trailing-set 64 x l; below = trailing_below 64 x }
