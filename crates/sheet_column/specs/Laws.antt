-- What the loops over a column need: the definitions of `rules.Sheet` at a place of a list, a law for each way through the code.
use Prim.Native.Nat.{ℕ, zero, suc, ◌+◌, ◌-◌, ◌*◌, ◌^◌, ◌≤◌, ◌<◌}
use Rattle.std.specs.Prelude.{◌≡◌, Bool, true, false, get_or, take, drop, ltb, Some, None}
use Rattle.std.proofs.Math.Path.{refl}
use Rattle.std.proofs.Common.{sym, ◌∙◌, lt_of_lt_of_le, pow-suc, drop_of_length-le}
use mathlib.Core.List.{[], ◌∷◌}
use Rattle.std.proofs.Math.Numerals.{add-one}
use native.Mathlib.Omega.{arith}
use Rattle.std.proofs.Math.Nat.{pow-le-pow_right}
use Rattle.std.proofs.Math.ListN.{length}
use Rattle.std.proofs.Math.Seq.{drop-cons}
use borrow.Author.Tests.{eq-eqb, ne_eqb, le-leb, lt-leb, ltb-true, ltb-false}
use Rattle.rules.specs.Sheet.{Bytes, strip, digits, numeral, column_of}
use Rattle.rules.specs.Sheet.{Column}
use Rattle.sheet_column.specs.Coded.{Coded, Spaces}

module _ (l : Bytes) (i : ℕ) (h : i < length l) where
  pub strip-space : get_or l i 0 ≡ 32 → strip (drop i l) ≡ strip (drop (i + 1) l)
  unfolding strip
  strip-space e = rw (add-one, drop-cons l i 0, eq-eqb (get_or l i 0) 32 e)

  pub strip-stop : (get_or l i 0 ≡ 32 → ⊥) → strip (drop i l) ≡ drop i l
  unfolding strip
  strip-stop e = rw (drop-cons l i 0, ne_eqb (get_or l i 0) 32 e)

  pub digits_low : (v : ℕ) → get_or l i 0 < 48 → digits v (drop i l) ≡ None
  unfolding digits
  digits_low v e = rw (drop-cons l i 0, lt-leb 48 (get_or l i 0) e)

  pub digits-high : (v : ℕ) → 57 < get_or l i 0 → digits v (drop i l) ≡ None
  unfolding digits
  digits-high v e = rw (drop-cons l i 0, le-leb 48 (get_or l i 0) (omega arith), lt-leb (get_or l i 0) 57 e)

  pub digits-on : (v : ℕ) → 48 ≤ get_or l i 0 → get_or l i 0 ≤ 57 → digits v (drop i l) ≡ digits (v * 10 + (get_or l i 0 - 48)) (drop (i + 1) l)
  unfolding digits
  digits-on v e f = rw (add-one, drop-cons l i 0, le-leb 48 (get_or l i 0) e, le-leb (get_or l i 0) 57 f)

pub strip-end : (l : Bytes) (i : ℕ) → length l ≤ i → strip (drop i l) ≡ []
unfolding strip
strip-end l i h = rw drop_of_length-le

pub digits-end : (l : Bytes) (i v : ℕ) → length l ≤ i → digits v (drop i l) ≡ Some v
unfolding digits
digits-end l i v h = rw drop_of_length-le

-- a number of `i` digits is below 10 ^ i
pub digit_room : (v i d : ℕ) → v < 10 ^ i → d ≤ 9 → v * 10 + d < 10 ^ (i + 1)
digit_room v i d h e = rw (add-one, pow-suc) (omega arith)

pub power-room : (v i n : ℕ) → v < 10 ^ i → i ≤ n → v < 10 ^ n
power-room v i n h e = lt_of_lt_of_le h (pow-le-pow_right (omega arith) e)

pub power-positive : (i : ℕ) → 0 < 10 ^ i
power-positive i = pow-le-pow_right {n = 10} (omega arith) {i = 0} {j = i} (omega arith)

-- a column whose first byte after the spaces stands at `k`
module _ (l : Bytes) (k : ℕ) (e : drop k l ≡ strip l) where
  pub column-empty : length l ≤ k → column_of l ≡ None
  unfolding column_of numeral
  column-empty h = rw (← e, drop_of_length-le)

  pub column-zero : get_or l k 0 ≡ 48 → k + 1 < length l → column_of l ≡ None
  unfolding column_of numeral
  column-zero z h =
      let h₀ : k < length l = omega arith in
      let h₁ : suc k < length l = omega (arith, add-one k) in
      rw (← e, drop-cons l k 0, drop-cons l (suc k) 0, eq-eqb (get_or l k 0) 48 z)

  pub column-one : k < length l → length l ≤ k + 1 → column_of l ≡ digits 0 (drop k l)
  unfolding column_of numeral
  column-one h f =
      let g : length l ≤ suc k = omega arith in
      rw (← e, drop-cons l k 0, drop_of_length-le)

  pub column-many : k < length l → (get_or l k 0 ≡ 48 → ⊥) → column_of l ≡ digits 0 (drop k l)
  unfolding column_of numeral
  column-many h z = rw (← e, drop-cons l k 0) (more (drop (suc k) l))
    where
      more : (r : Bytes) → numeral (get_or l k 0 ∷ r) ≡ digits 0 (get_or l k 0 ∷ r)
      more [] = refl
      more (b ∷ bs) = rw (ne_eqb (get_or l k 0) 48 z)

-- ---- a column with one digit or two

-- a space on the left
pub column-space : (t : ℕ) (r : Bytes) → t ≡ 32 → column_of (t ∷ r) ≡ column_of r
unfolding column_of strip
column-space t r e = rw (eq-eqb t 32 e)

-- a space and a digit
pub one-digit : (t u : ℕ) → t ≡ 32 → 48 ≤ u → u ≤ 57 → column_of (t ∷ (u ∷ [])) ≡ Some (u - 48)
unfolding column_of numeral strip digits
one-digit t u e h g =
    let m : 0 * 10 + (u - 48) ≡ u - 48 = omega arith in
    rw (eq-eqb t 32 e, ne_eqb u 32 (λ e. omega arith), le-leb 48 u h, le-leb u 57 g, m)

-- two digits with no leading zero
pub two_digits : (t u : ℕ) → 49 ≤ t → t ≤ 57 → 48 ≤ u → u ≤ 57 → column_of (t ∷ (u ∷ [])) ≡ Some (t * 10 + u - 528)
unfolding column_of numeral strip digits
two_digits t u h g e f =
    let m : (0 * 10 + (t - 48)) * 10 + (u - 48) ≡ t * 10 + u - 528 = omega arith in
    rw (ne_eqb t 32 (λ e. omega arith), ne_eqb t 48 (λ e. omega arith), le-leb 48 t (omega arith), le-leb t 57 g, le-leb 48 u e, le-leb u 57 f, m)

byte-first : (l : Bytes) (i j : ℕ) → j ≡ i + 1 → i < length l → drop i l ≡ get_or l i 0 ∷ drop j l
byte-first l i j e h = rw (e, add-one, drop-cons l i 0)

-- four bytes, one by one
pub four-each : (l : Bytes) (i : ℕ) → get_or l i 0 ≡ 32 → get_or l (i + 1) 0 ≡ 32 → get_or l (i + 2) 0 ≡ 32 → get_or l (i + 3) 0 ≡ 32 → Spaces l i 4
four-each l i e₀ e₁ e₂ e₃ zero h = let z : i + 0 ≡ i = omega arith in rw z e₀
four-each l i e₀ e₁ e₂ e₃ (suc zero) h = e₁
four-each l i e₀ e₁ e₂ e₃ (suc (suc zero)) h = e₂
four-each l i e₀ e₁ e₂ e₃ (suc (suc (suc zero))) h = e₃
four-each l i e₀ e₁ e₂ e₃ (suc (suc (suc (suc j)))) h = absurd (omega arith)

-- spaces, then a column
spaces-first : (l : Bytes) (i n m : ℕ) → i + n ≤ length l → Spaces l i n → column_of (take (n + m) (drop i l)) ≡ column_of (take m (drop (i + n) l))
spaces-first l i zero m h e = let z : i + 0 ≡ i = omega arith in let o : 0 + m ≡ m = omega arith in rw (z, o)
spaces-first l i (suc n) m h e =
    let z : i + 0 ≡ i = omega arith in
    let k : (i + 1) + n ≡ i + suc n = omega arith in
    let o : suc n + m ≡ suc (n + m) = omega arith in
    rw (o, byte-first l i (i + 1) refl (omega arith))
    (column-space (get_or l i 0) (take (n + m) (drop (i + 1) l)) (rw z at (e 0 (omega arith)))
    ∙ spaces-first l (i + 1) n m (omega arith) (λ j g. let q : (i + 1) + j ≡ i + suc j = omega arith in rw q (e (suc j) (omega arith)))
    ∙ rw k)

-- two fours of spaces that overlap or touch
fours : (l : Bytes) (i w : ℕ) → 6 ≤ w → w ≤ 10 → Spaces l i 4 → Spaces l (i + w - 2 - 4) 4 → Spaces l i (w - 2)
fours l i w h g e f j k = go (ltb j 4) refl
  where
    go : (b : Bool) → ltb j 4 ≡ b → get_or l (i + j) 0 ≡ 32
    go true b = e j (ltb-true j 4 b)
    go false b = let high : 4 ≤ j = ltb-false j 4 b in let q : (i + w - 2 - 4) + (j + 6 - w) ≡ i + j = omega arith in rw q at (f (j + 6 - w) (omega arith))

-- spaces, then two bytes
pub brief-column : (l : Bytes) (i w : ℕ) → 6 ≤ w → w ≤ 10 → i + w ≤ length l → Spaces l i 4 → Spaces l (i + w - 2 - 4) 4
    → column_of (take w (drop i l)) ≡ column_of (get_or l (i + w - 2) 0 ∷ (get_or l (i + w - 2 + 1) 0 ∷ []))
brief-column l i w h g k e f =
    let n : w - 2 + 2 ≡ w = omega arith in
    let m : i + (w - 2) ≡ i + w - 2 = omega arith in
    (rw n at (spaces-first l i (w - 2) 2 (omega arith) (fours l i w h g e f)))
    ∙ rw (m, byte-first l (i + w - 2) (i + w - 2 + 1) refl (omega arith), byte-first l (i + w - 2 + 1) (i + w - 2 + 2) (omega arith) (omega arith))

-- ---- a column as one number

pub coded_none : {x : Column} → x ≡ None → Coded x 18446744073709551615
coded_none e = record { malformed = λ z. e; number = λ n. absurd (n refl) }

pub coded-number : {x : Column} (v : ℕ) → v < 18446744073709551615 → x ≡ Some v → Coded x v
coded-number v h e = record { malformed = λ z. absurd (omega (arith, h, z)); number = λ n. e }

pub coded-same : {x y : Column} {r : ℕ} → x ≡ y → Coded x r → Coded y r
coded-same e k = record { malformed = λ z. sym e ∙ k.malformed z; number = λ n. sym e ∙ k.number n }

-- by way of another number, one of the reader of any column or one below 100
pub coded_by : {x : Column} {r v : ℕ} → r ≡ v → Coded x v → Coded x r
coded_by e k = rw e k

pub coded-brief : {x : Column} (r v : ℕ) → r ≡ v → v < 100 → (v < 100 → x ≡ Some v) → Coded x r
coded-brief r v e h f = coded_by e (coded-number v (omega arith) (f h))
