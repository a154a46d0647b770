-- Laws of `marked`: the row has the member, and nothing else changes.
use Prim.Native.Nat.{ℕ, zero, suc, ◌+◌, ◌*◌, ◌/◌, ◌%◌, ◌^◌, ◌≤◌, ◌<◌}
use Rattle.std.specs.Prelude.{◌≡◌, Bool, true, false, ◌&&◌, ◌||◌, List, eqb, ltb, length, set}
use Rattle.std.proofs.Math.Path.{refl}
use Rattle.std.proofs.Common.{sym, ap, ap₂, ◌∙◌, zero-mul, one-mul, le_of_suc-le-suc, not-suc-le-zero, arith, shl_exact, get_or-set_same, eq-eqb, ne_eqb, eqb-true, ltb-true, ltb-false}
use Rattle.std.specs.Int.Bits.{bit_or}
use Rattle.std.proofs.Math.ListN.{get_or, length-set}
use Rattle.std.proofs.Math.Seq.{get_or-set_other}
use Rattle.std.proofs.lemmas.Bool.{eqb-false}
use Rattle.access_set.specs.Member.{bit_of}
use Rattle.access_set.specs.Laws.Bit.{bit-or, bit-none, bit-pow}
use Rattle.tables.specs.Sets.{in_row}
use Rattle.access_items.specs.Mark.{marked}
use Rattle.access_items.specs.Laws.Rows.{in-row, in-beyond}

-- the shift that the code makes
pub shifted : (b j : ℕ) → b < 2 → (b * 2 ^ (j % 64)) % 2 ^ 64 ≡ b * 2 ^ (j % 64)
shifted b j h = shl_exact {a = b} 1 (j % 64) 64 h (omega arith)

module _ (t : List ℕ) (r j b : ℕ) where
  pub marked-length : length (marked t r j b) ≡ length t
  unfolding marked
  marked-length = length-set t (r * 4 + j / 64) (bit_or (get_or t (r * 4 + j / 64) 0) (b * 2 ^ (j % 64)))

  pub marked_other : (i : ℕ) → (i ≡ r * 4 + j / 64 → ⊥) → get_or (marked t r j b) i 0 ≡ get_or t i 0
  unfolding marked
  marked_other i h = get_or-set_other t (r * 4 + j / 64) i (bit_or (get_or t (r * 4 + j / 64) 0) (b * 2 ^ (j % 64))) 0 h

  module _ (room : r * 4 + 4 ≤ length t) (small : j < 256) (two : b < 2) where
    -- the bit of one word
    bit_at : (b : ℕ) → b < 2 → (m i : ℕ) → bit_of (b * 2 ^ m) i ≡ (eqb i m && eqb b 1)
    bit_at zero h m i = ap (λ (x : ℕ). bit_of x i) (zero-mul (2 ^ m)) ∙ bit-none i ∙ none (eqb i m)
      where
        none : (x : Bool) → false ≡ (x && false)
        none true = refl
        none false = refl
    bit_at (suc zero) h m i = ap (λ (x : ℕ). bit_of x i) (one-mul (2 ^ m)) ∙ bit-pow m i ∙ all (eqb i m)
      where
        all : (x : Bool) → x ≡ (x && true)
        all true = refl
        all false = refl
    bit_at (suc (suc b)) h m i = absurd (not-suc-le-zero (le_of_suc-le-suc (le_of_suc-le-suc h)))

    flip : (x y : Bool) → (x || y) ≡ (y || x)
    flip true true = refl
    flip true false = refl
    flip false true = refl
    flip false false = refl

    pub marked-in : (f i : ℕ) → in_row (marked t r j b) f i ≡ ((eqb i j && (eqb f r && eqb b 1)) || in_row t f i)
    unfolding marked
    marked-in f i = go (ltb i 256) refl
      where
        W : ℕ
        W = get_or t (r * 4 + j / 64) 0

        t' : List ℕ
        t' = set t (r * 4 + j / 64) (bit_or W (b * 2 ^ (j % 64)))

        miss : (eqb i j && (eqb f r && eqb b 1)) ≡ false → in_row t f i ≡ ((eqb i j && (eqb f r && eqb b 1)) || in_row t f i)
        miss e = sym (ap (λ (x : Bool). x || in_row t f i) e)

        no_place : (i ≡ j → ⊥) → (eqb i j && (eqb f r && eqb b 1)) ≡ false
        no_place d = ap (λ (x : Bool). x && (eqb f r && eqb b 1)) (ne_eqb i j d)

        no_row : (f ≡ r → ⊥) → (eqb i j && (eqb f r && eqb b 1)) ≡ false
        no_row d = ap (λ (x : Bool). eqb i j && (x && eqb b 1)) (ne_eqb f r d) ∙ none (eqb i j)
          where
            none : (x : Bool) → (x && false) ≡ false
            none true = refl
            none false = refl

        here : i < 256 → f ≡ r → i / 64 ≡ j / 64 → in_row t' f i ≡ ((eqb i j && (eqb f r && eqb b 1)) || in_row t f i)
        here l e d =
            in-row t' f i l ∙ ap (λ (m : ℕ). bit_of (get_or t' m 0) (i % 64)) at
            ∙ ap (λ (x : ℕ). bit_of x (i % 64)) (get_or-set_same t (r * 4 + j / 64) (bit_or W (b * 2 ^ (j % 64))) 0 (omega arith))
            ∙ bit-or W (b * 2 ^ (j % 64)) (i % 64)
            ∙ flip (bit_of W (i % 64)) (bit_of (b * 2 ^ (j % 64)) (i % 64))
            ∙ ap₂ (λ (x y : Bool). x || y)
            (bit_at b two (j % 64) (i % 64) ∙ ap₂ (λ (x y : Bool). x && (y && eqb b 1)) (same (eqb (i % 64) (j % 64)) refl) (sym (eq-eqb f r e)))
            (ap (λ (m : ℕ). bit_of (get_or t m 0) (i % 64)) (sym at) ∙ sym (in-row t f i l))
          where
            at : f * 4 + i / 64 ≡ r * 4 + j / 64
            at = omega arith

            same : (x : Bool) → eqb (i % 64) (j % 64) ≡ x → x ≡ eqb i j
            same true q = let g : i % 64 ≡ j % 64 = eqb-true (i % 64) (j % 64) q in sym (eq-eqb i j (omega arith))
            same false q = let g : i % 64 ≡ j % 64 → ⊥ = eqb-false (i % 64) (j % 64) q in sym (ne_eqb i j (λ z. g (ap (λ (m : ℕ). m % 64) z)))

        away : i < 256 → (f * 4 + i / 64 ≡ r * 4 + j / 64 → ⊥) → in_row t' f i ≡ in_row t f i
        away l d =
            in-row t' f i l
            ∙ ap (λ (x : ℕ). bit_of x (i % 64)) (get_or-set_other t (r * 4 + j / 64) (f * 4 + i / 64) (bit_or W (b * 2 ^ (j % 64))) 0 d)
            ∙ sym (in-row t f i l)

        by : i < 256 → (x : Bool) → eqb f r ≡ x → (y : Bool) → eqb (i / 64) (j / 64) ≡ y → in_row t' f i ≡ ((eqb i j && (eqb f r && eqb b 1)) || in_row t f i)
        by l true p true q = here l (eqb-true f r p) (eqb-true (i / 64) (j / 64) q)
        by l true p false q =
            let e : f ≡ r = eqb-true f r p in
            let d : i / 64 ≡ j / 64 → ⊥ = eqb-false (i / 64) (j / 64) q in
            away l (λ z. d (omega arith)) ∙ miss (no_place (λ z. d (ap (λ (m : ℕ). m / 64) z)))
        by l false p y q = let d : f ≡ r → ⊥ = eqb-false f r p in away l (λ z. d (omega arith)) ∙ miss (no_row d)

        go : (x : Bool) → ltb i 256 ≡ x → in_row t' f i ≡ ((eqb i j && (eqb f r && eqb b 1)) || in_row t f i)
        go true e = by (ltb-true i 256 e) (eqb f r) refl (eqb (i / 64) (j / 64)) refl
        go false e =
            let l : 256 ≤ i = ltb-false i 256 e in
            in-beyond t' f i l ∙ sym (in-beyond t f i l) ∙ miss (no_place (λ z. omega arith))
