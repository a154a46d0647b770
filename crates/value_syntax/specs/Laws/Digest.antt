-- Laws of `Digest`.
use Prim.Native.Nat.{ℕ, zero, suc, ◌+◌, ◌-◌, ◌*◌, ◌/◌, ◌%◌, ◌^◌, ◌≤◌, ◌<◌}
use Rattle.std.specs.Prelude.{◌≡◌, refl, Bool, true, false, cond, [], ◌∷◌, map, eqb, leb, length, get_or, take, drop}
use Rattle.std.proofs.Common.{sym, ap₂, ◌∙◌, leb-true, length-drop, take_all}
use Rattle.std.proofs.Math.Path.{ap}
use Rattle.std.proofs.Math.Nat.{min-zero}
use native.Mathlib.Omega.{arith}
use Rattle.std.proofs.Math.Numerals.{add-one}
use Rattle.std.specs.Int.Bits.{bit_and, bit_or, and_step, and_block, and_zero_r, or_block, or_zero_r}
use Rattle.std.proofs.lemmas.Nat.{and_le_r, or_lt}
use Rattle.std.proofs.Math.ListN.{drop_of_length-le}
use Rattle.std.proofs.Math.Seq.{drop-cons}
use Rattle.rules.specs.Sheet.{Bytes}
use Rattle.rules.specs.Value.{text, small, tidied, folded, normal, same}
use Rattle.rules.proofs.Laws.Value.{same-iff}
use Rattle.value_blank.specs.declared.Text.{Text}
use Rattle.value_blank.specs.Blank.{is_tidy, text_of}
use Rattle.value_blank.specs.Laws.Blank.{tidy-tidied}
use Rattle.value_blank.specs.Laws.Text.{text-bytes}
use Rattle.value_syntax.specs.Digest.{caseless, number, word, stirred, mixed, digest}

mixed-bound : (h : ℕ) (v : Bytes) → mixed h v < 4294967296
unfolding mixed
mixed-bound h [] = omega arith
mixed-bound h (a ∷ []) = omega arith
mixed-bound h (a ∷ (b ∷ [])) = omega arith
mixed-bound h (a ∷ (b ∷ (c ∷ []))) = omega arith
mixed-bound h (a ∷ (b ∷ (c ∷ (d ∷ v)))) = mixed-bound (stirred h (word a b c d)) v

pub digest-bound : (h : ℕ) (v : Bytes) → digest h v < 4294967296
unfolding digest
digest-bound h v = mixed-bound h (take 64 (tidied v))

-- ---- equal values have one digest

caseless-small : (b : ℕ) → caseless (small b) ≡ caseless b
unfolding caseless small
caseless-small b = go (leb 65 b) (leb b 90) refl refl
  where
    letter : (q r : ℕ) → r < 32 → bit_and q 2 ≡ 2 → bit_or (q * 32 + r) (bit_and (q * 32 + r) 64 / 2) ≡ bit_or q 1 * 32 + r
    letter q r h e =
        ap (λ (x : ℕ). bit_or (q * 32 + r) (x / 2)) (and_block 5 q 2 r 0 h (omega arith) ∙ ap₂ (λ (x y : ℕ). x * 32 + y) e (and_zero_r r))
        ∙ or_block 5 q 1 r 0 h (omega arith) ∙ ap (λ (x : ℕ). bit_or q 1 * 32 + x) (or_zero_r r)

    go : (s t : Bool) → leb 65 b ≡ s → leb b 90 ≡ t → caseless (cond s (cond t (b + 32) b) b) ≡ caseless b
    go true true p q =
        let l : (65 ≤ b) × (b ≤ 90) = (leb-true 65 b p, leb-true b 90 q) in
        let capital : 2 * 32 + (b - 64) ≡ b = omega (arith, l) in
        let other : b + 32 ≡ 3 * 32 + (b - 64) = omega (arith, l) in
        let r : b - 64 < 32 = omega (arith, l) in
        ap caseless other ∙ letter 3 (b - 64) r refl ∙ sym (letter 2 (b - 64) r refl) ∙ ap caseless capital
    go true false p q = refl
    go false t p q = refl

mixed-small : (h : ℕ) (v : Bytes) → mixed h (map small v) ≡ mixed h v
unfolding mixed
mixed-small h [] = refl
mixed-small h (a ∷ []) = rw (caseless-small a)
mixed-small h (a ∷ (b ∷ [])) = rw (caseless-small a, caseless-small b)
mixed-small h (a ∷ (b ∷ (c ∷ []))) = rw (caseless-small a, caseless-small b, caseless-small c)
mixed-small h (a ∷ (b ∷ (c ∷ (d ∷ v)))) =
    rw (caseless-small a, caseless-small b, caseless-small c, caseless-small d) (mixed-small (stirred h (word a b c d)) v)

take-map : (n : ℕ) (l : Bytes) → map small (take n l) ≡ take n (map small l)
take-map zero l = refl
take-map (suc n) [] = refl
take-map (suc n) (b ∷ bs) = ap (λ (x : Bytes). small b ∷ x) (take-map n bs)

pub digest-same : (h s : ℕ) (u v : Bytes) → same s u v ≡ true → digest h u ≡ digest h v
unfolding normal folded digest
digest-same h s u v e = go (eqb s text) ((same-iff s u v).0 e)
  where
    small-digest : (w : Bytes) → digest h w ≡ mixed h (take 64 (map small (tidied w)))
    small-digest w = sym (mixed-small h (take 64 (tidied w))) ∙ ap (mixed h) (take-map 64 (tidied w))

    go : (t : Bool) → cond t (map small (cond t (tidied u) u)) (cond t (tidied u) u) ≡ cond t (map small (cond t (tidied v) v)) (cond t (tidied v) v) → digest h u ≡ digest h v
    go true p = small-digest u ∙ ap (λ (l : Bytes). mixed h (take 64 l)) p ∙ sym (small-digest v)
    go false p = ap (digest h) p

-- ---- four bytes at once

pub caseless-bound : (b : ℕ) → b < 256 → caseless b < 256
unfolding caseless
caseless-bound b h = or_lt 8 b (bit_and b 64 / 2) h (omega (arith, and_le_r b 64))

-- an operation on bits works on each byte apart
module _ (op : ℕ → ℕ → ℕ) (block : (k a b r s : ℕ) → r < 2 ^ k → s < 2 ^ k → op (a * 2 ^ k + r) (b * 2 ^ k + s) ≡ op a b * 2 ^ k + op r s) where
  by_bytes : (a b c d e f g h : ℕ) → (a < 256) × ((b < 256) × (c < 256)) → (e < 256) × ((f < 256) × (g < 256))
      → op (number a b c d) (number e f g h) ≡ number (op a e) (op b f) (op c g) (op d h)
  by_bytes a b c d e f g h x y =
      ap₂ op (nested a b c d) (nested e f g h) ∙ block 8 ((d * 256 + c) * 256 + b) ((h * 256 + g) * 256 + f) a e x.0 y.0
      ∙ ap (λ (n : ℕ). n * 256 + op a e)
      (block 8 (d * 256 + c) (h * 256 + g) b f x.1.0 y.1.0 ∙ ap (λ (n : ℕ). n * 256 + op b f) (block 8 d h c g x.1.1 y.1.1))
      ∙ sym (nested (op a e) (op b f) (op c g) (op d h))
    where
      nested : (p q r s : ℕ) → number p q r s ≡ ((s * 256 + r) * 256 + q) * 256 + p
      nested p q r s = omega arith

halves : (p q r s : ℕ) → (p % 2 ≡ 0) × ((q % 2 ≡ 0) × ((r % 2 ≡ 0) × (s % 2 ≡ 0))) → number p q r s / 2 ≡ number (p / 2) (q / 2) (r / 2) (s / 2)
halves p q r s h = omega arith

module _ (a b c d : ℕ) (h : (a < 256) × ((b < 256) × (c < 256))) where
  pub word-at-once : bit_or (number a b c d) (bit_and (number a b c d) 1077952576 / 2) ≡ word a b c d
  unfolding caseless
  word-at-once =
      ap (λ (n : ℕ). bit_or (number a b c d) (n / 2)) (by_bytes bit_and and_block a b c d 64 64 64 64 h (omega arith, (omega arith, omega arith)))
      ∙ ap (bit_or (number a b c d)) (halves (bit_and a 64) (bit_and b 64) (bit_and c 64) (bit_and d 64) (even a, (even b, (even c, even d))))
      ∙ by_bytes bit_or or_block a b c d (bit_and a 64 / 2) (bit_and b 64 / 2) (bit_and c 64 / 2) (bit_and d 64 / 2) h (low a, (low b, low c))
    where
      even : (n : ℕ) → bit_and n 64 % 2 ≡ 0
      even n = omega (arith, and_step n 64, min-zero (n % 2))

      low : (n : ℕ) → bit_and n 64 / 2 < 256
      low n = omega (arith, and_le_r n 64)

  pub word_bound : d < 256 → word a b c d < 2 ^ 32
  word_bound l = omega (arith, caseless-bound a h.0, caseless-bound b h.1.0, caseless-bound c h.1.1, caseless-bound d l)

-- ---- the two ways to a digest

pub digest-tidy : (h : ℕ) (v : Bytes) → length v ≤ 64 → is_tidy v ≡ true → digest h v ≡ mixed h v
unfolding digest
digest-tidy h v l e = ap (mixed h) (ap (take 64) (tidy-tidied v e) ∙ take_all 64 v l)

pub digest-tidied : (h : ℕ) (v : Bytes) (t : Text) → t ≡ text_of (take 64 (tidied v)) → digest h v ≡ mixed h (take (t.length - 0) t.bytes)
unfolding digest
digest-tidied h v t e = ap (mixed h) (sym (text-bytes t (take 64 (tidied v)) e))

-- ---- the loops: the bytes before `i` are in `h`

-- the bytes mixed into `h` one by one
unfoldable pub singly : ℕ → Bytes → ℕ
singly h [] = h % 4294967296
singly h (b ∷ bs) = singly (stirred h (caseless b)) bs

few : (h : ℕ) (v : Bytes) → length v < 4 → mixed h v ≡ singly h v
unfolding mixed singly
few h [] l = refl
few h (a ∷ []) l = refl
few h (a ∷ (b ∷ [])) l = refl
few h (a ∷ (b ∷ (c ∷ []))) l = refl
few h (a ∷ (b ∷ (c ∷ (d ∷ v)))) l = absurd (omega arith)

module _ (v : Bytes) (i h : ℕ) where
  pub mixed-on : 4 ≤ length v - i
      → mixed h (drop i v) ≡ mixed (stirred h (word (get_or v i 0) (get_or v (i + 1) 0) (get_or v (i + 2) 0) (get_or v (i + 3) 0))) (drop (i + 4) v)
  unfolding mixed
  mixed-on l =
      rw (
        drop-cons v i 0 (omega arith),
        drop-cons v (suc i) 0 (omega arith),
        drop-cons v (suc (suc i)) 0 (omega arith),
        drop-cons v (suc (suc (suc i))) 0 (omega arith),
        four,
        three,
        two,
        add-one,
      )
    where
      two : i + 2 ≡ suc (suc i)
      two = omega arith

      three : i + 3 ≡ suc (suc (suc i))
      three = omega arith

      four : i + 4 ≡ suc (suc (suc (suc i)))
      four = omega arith

  pub mixed-few : length v - i < 4 → mixed h (drop i v) ≡ singly h (drop i v)
  mixed-few l = few h (drop i v) (rw (length-drop i v) l)

  pub singly-on : i < length v → singly h (drop i v) ≡ singly (stirred h (caseless (get_or v i 0))) (drop (i + 1) v)
  unfolding singly
  singly-on l = rw (add-one, drop-cons v i 0)

  pub singly-end : length v ≤ i → singly h (drop i v) ≡ h % 4294967296
  unfolding singly
  singly-end l = rw drop_of_length-le
