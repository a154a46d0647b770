-- Laws of `Numeral`.
use Rattle.std.specs.Prelude.{ℕ, zero, suc, ◌+◌, ◌-◌, ◌*◌, ◌^◌, ◌≤◌, ◌<◌, ◌≡◌, refl, Bool, true, false, cond, [], ◌∷◌, leb, ltb, pos, neg_ℤ, ◌-ℤ◌, get_or, drop, Some, None}
use Rattle.std.proofs.Common.{◌∙◌, add-zero, pow-suc, mul-le-mul_right, add-one, ltb-true, leb-true, eq-eqb, ne_eqb, lt-ltb, le-ltb, lit<, drop-cons, get_or-drop, to_z, SFits}
use native.Mathlib.Omega.{arith}
use Rattle.std.proofs.Math.Nat.{pow-le-pow_right}
use Rattle.std.proofs.lemmas.Bool.{lt-leb}
use Rattle.std.proofs.Math.IntN.{+ℤ_idl}
use Rattle.std.proofs.Math.ListN.{length, length-drop, drop_of_length-le}
use Rattle.std.proofs.Math.Facts.{to_z_pos}
use Rattle.std.specs.Int.{w64}
use Rattle.rules.proofs.Laws.Value.{digits-cons, numeral-digits}
use Rattle.rules.specs.Sheet.{Bytes, digits, numeral}
use Rattle.rules.specs.Value.{negative, positive, integer_of}
use Rattle.rules.specs.Sheet.{Column}
use Rattle.value_integer.specs.Numeral.{digit, bounded}

-- ---- digits

digits-digit : (v b : ℕ) (bs : Bytes) → digits v (b ∷ bs) ≡ cond (ltb 9 (digit b)) None (digits (v * 10 + digit b) bs)
unfolding digits digit
digits-digit v b bs = go (leb 48 b) (leb b 57) refl refl
  where
    go : (s t : Bool) → leb 48 b ≡ s → leb b 57 ≡ t → cond s (cond t (digits (v * 10 + (b - 48)) bs) None) None
        ≡ cond (ltb 9 (cond s (cond t (b - 48) 10) 10)) None (digits (v * 10 + cond s (cond t (b - 48) 10) 10) bs)
    go true true p q = rw (le-ltb 9 (b - 48) (omega (arith, leb-true 48 b p, leb-true b 57 q)))
    go true false p q = refl
    go false t p q = refl

module _ (l : Bytes) (i v : ℕ) where
  pub digits-off : i < length l → 9 < digit (get_or l i 0) → digits v (drop i l) ≡ None
  digits-off h e = rw (drop-cons l i 0, digits-digit, lt-ltb 9 (digit (get_or l i 0)) e)

  pub digits-on : i < length l → digit (get_or l i 0) ≤ 9 → digits v (drop i l) ≡ digits (v * 10 + digit (get_or l i 0)) (drop (i + 1) l)
  digits-on h e = rw (add-one, drop-cons l i 0, digits-digit, le-ltb 9 (digit (get_or l i 0)) e)

  pub digits-end : length l ≤ i → digits v (drop i l) ≡ Some v
  unfolding digits
  digits-end h = rw drop_of_length-le

-- k digits give a number below 10 ^ k
pub below_on : (v d k : ℕ) → v < 10 ^ k → d ≤ 9 → v * 10 + d < 10 ^ (k + 1)
below_on v d k h e = rw (add-one, pow-suc) (omega arith)

pub below-18 : (v k : ℕ) → v < 10 ^ k → k ≤ 18 → v < 1000000000000000000
below-18 v k h e = let p : 10 ^ k ≤ 10 ^ 18 = pow-le-pow_right (lit< tt) e in omega arith

-- ---- numerals

numeral-zero : (bs : Bytes) → 1 < length bs → get_or bs 0 0 ≡ 48 → numeral bs ≡ None
unfolding numeral
numeral-zero [] h e = refl
numeral-zero (b ∷ []) h e = absurd (omega arith)
numeral-zero (b ∷ (c ∷ cs)) h e = rw (eq-eqb b 48 e)

numeral-one : (bs : Bytes) → length bs ≡ 1 → numeral bs ≡ digits 0 bs
unfolding numeral
numeral-one [] e = absurd (omega arith)
numeral-one (b ∷ []) e = refl
numeral-one (b ∷ (c ∷ cs)) e = absurd (omega arith)

numeral-many : (bs : Bytes) → 0 < length bs → (get_or bs 0 0 ≡ 48 → ⊥) → numeral bs ≡ digits 0 bs
unfolding numeral
numeral-many [] h e = absurd (omega arith)
numeral-many (b ∷ []) h e = refl
numeral-many (b ∷ (c ∷ cs)) h e = rw (ne_eqb b 48 e)

-- the numeral of the bytes of `l` from `k` on
module _ (l : Bytes) (k : ℕ) where
  pub bounded-none : length l - k ≡ 0 → bounded (drop k l) ≡ None
  unfolding bounded numeral
  bounded-none e = let h : length l ≤ k = omega arith in rw (drop_of_length-le l h)

  pub bounded-long : 19 < length l - k → bounded (drop k l) ≡ None
  unfolding bounded
  bounded-long h = rw (lt-ltb 19 (length (drop k l)) (simp length-drop h))

  module _ (h : length l - k ≤ 19) where
    short : bounded (drop k l) ≡ numeral (drop k l)
    unfolding bounded
    short = rw (le-ltb 19 (length (drop k l)) (simp length-drop h))

    pub bounded-zero : 1 < length l - k → get_or l k 0 ≡ 48 → bounded (drop k l) ≡ None
    bounded-zero g e = short ∙ numeral-zero (drop k l) (simp length-drop g) (simp (get_or-drop, add-zero) e)

    pub bounded-one : length l - k ≡ 1 → bounded (drop k l) ≡ digits 0 (drop k l)
    bounded-one e = short ∙ numeral-one (drop k l) (simp length-drop e)

    pub bounded-many : 0 < length l - k → (get_or l k 0 ≡ 48 → ⊥) → bounded (drop k l) ≡ digits 0 (drop k l)
    bounded-many g e = short ∙ numeral-many (drop k l) (simp length-drop g) (simp (get_or-drop, add-zero) e)

digits-least : (bs : Bytes) (v m : ℕ) → digits v bs ≡ Some m → v * 10 ^ length bs ≤ m
unfolding digits
digits-least [] v m e = let p : v ≡ m = cc in omega arith
digits-least (b ∷ bs) v m e = rw pow-suc (omega (arith, digits-least bs (v * 10 + (b - 48)) m (digits-cons v b bs m e).2))

-- a numeral of more than 19 digits is above 2 ^ 63
numeral-long : (bs : Bytes) (m : ℕ) → 19 < length bs → numeral bs ≡ Some m → 9223372036854775808 < m
unfolding numeral
numeral-long [] m h e = absurd (omega arith)
numeral-long (b ∷ bs) m h e =
    let d = numeral-digits b bs m e in
    let l : 19 ≤ length bs = omega arith in
    let n : 10 ^ 19 ≤ 10 ^ length bs = pow-le-pow_right (lit< tt) l in
    let f : 1 ≤ 0 * 10 + (b - 48) = omega (arith, d.1 (omega arith)) in
    omega (arith, digits-least bs (0 * 10 + (b - 48)) m (digits-cons 0 b bs m d.0).2, mul-le-mul_right (10 ^ length bs) f)

pub negative-bounded : (bs : Bytes) → negative (bounded bs) ≡ negative (numeral bs)
unfolding bounded
negative-bounded bs = go (ltb 19 (length bs)) (numeral bs) refl refl
  where
    go : (t : Bool) (c : Column) → ltb 19 (length bs) ≡ t → numeral bs ≡ c → negative (cond t None c) ≡ negative c
    go false c p e = refl
    go true None p e = refl
    go true (Some m) p e =
        let h = numeral-long bs m (ltb-true 19 (length bs) p) e in
        rw (ne_eqb m 0 (omega arith), lt-leb m 9223372036854775808 h)

pub positive-bounded : (bs : Bytes) → positive (bounded bs) ≡ positive (numeral bs)
unfolding bounded
positive-bounded bs = go (ltb 19 (length bs)) (numeral bs) refl refl
  where
    go : (t : Bool) (c : Column) → ltb 19 (length bs) ≡ t → numeral bs ≡ c → positive (cond t None c) ≡ positive c
    go false c p e = refl
    go true None p e = refl
    go true (Some m) p e = rw (le-ltb m 9223372036854775808 (omega (arith, numeral-long bs m (ltb-true 19 (length bs) p) e)))

-- ---- integers

pub integer-none : (v : Bytes) → length v ≡ 0 → integer_of v ≡ None
unfolding integer_of
integer-none [] e = refl
integer-none (b ∷ bs) e = absurd (omega arith)

pub integer-minus : (v : Bytes) → (length v ≡ 0 → ⊥) → get_or v 0 0 ≡ 45 → integer_of v ≡ negative (numeral (drop 1 v))
unfolding integer_of
integer-minus [] h e = absurd (h refl)
integer-minus (b ∷ bs) h e = rw (eq-eqb b 45 e)

pub integer-plain : (v : Bytes) → (length v ≡ 0 → ⊥) → (get_or v 0 0 ≡ 45 → ⊥) → integer_of v ≡ positive (numeral (drop 0 v))
unfolding integer_of
integer-plain [] h e = absurd (h refl)
integer-plain (b ∷ bs) h e = rw (ne_eqb b 45 e)

-- the machine's minus
pub minus : (m : ℕ) → m < 9223372036854775808 → pos 0 -ℤ to_z w64 m ≡ neg_ℤ (pos m)
minus m h = rw (to_z_pos w64 h) (+ℤ_idl (neg_ℤ (pos m)))

pub minus-fits : (m : ℕ) → m ≤ 9223372036854775808 → SFits w64 (neg_ℤ (pos m))
minus-fits zero h = record { sfits = lit< tt }
minus-fits (suc m) h = record { sfits = omega arith }
