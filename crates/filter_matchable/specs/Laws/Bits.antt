-- Laws of bits that are set one after the other.
use Rattle.std.specs.Prelude.{ℕ, ◌/◌, ◌%◌, ◌^◌, ◌<◌, ◌≡◌, Bool, ◌&&◌, ◌||◌, cond, List, length, get_or, set}
use Rattle.std.proofs.Math.Path.{refl, ap}
use Rattle.std.proofs.Common.{sym, ap₂, ◌∙◌, arith, get_or-set_same, get_or-set_other}
use Rattle.std.proofs.Math.Bool.{true, false}
use Rattle.std.specs.Int.Bits.{bit_or}
use Rattle.std.proofs.Math.Dec.{eqb}
use borrow.Author.Tests.{eq-eqb, ne_eqb, eqb-true, eqb-false}
use Rattle.access_set.specs.Member.{bit_of}
use Rattle.access_set.specs.Laws.Bit.{bit-or, bit-pow, bit-none}
use Rattle.filter_matchable.specs.Matchable.{bit_at}

-- the bit of place `n`, or none
bit-if : (b : Bool) (n i : ℕ) → bit_of (cond b (2 ^ n) 0) i ≡ (eqb i n && b)
bit-if true n i = bit-pow n i ∙ all (eqb i n)
  where
    all : (c : Bool) → c ≡ (c && true)
    all true = refl
    all false = refl
bit-if false n i = bit-none i ∙ none (eqb i n)
  where
    none : (c : Bool) → false ≡ (c && false)
    none true = refl
    none false = refl

module _ (x y : ℕ) (b : Bool) (n : ℕ) (e : y ≡ cond b (2 ^ n) 0) where
  pub word_more : (i : ℕ) → bit_of (bit_or x y) i ≡ (bit_of x i || eqb i n && b)
  word_more i = bit-or x y i ∙ ap (λ (c : Bool). bit_of x i || c) (ap (λ (z : ℕ). bit_of z i) e ∙ bit-if b n i)

  pub word-other : (i : ℕ) → (i ≡ n → ⊥) → bit_of (bit_or x y) i ≡ bit_of x i
  word-other i d = word_more i ∙ ap (λ (c : Bool). bit_of x i || c && b) (ne_eqb i n d) ∙ none (bit_of x i)
    where
      none : (c : Bool) → (c || false) ≡ c
      none true = refl
      none false = refl

  pub word-here : bit_of x n ≡ false → bit_of (bit_or x y) n ≡ b
  word-here h = word_more n ∙ ap₂ (λ (c t : Bool). c || t && b) h (eq-eqb n n refl)

-- the same in a row of words, at bit `j`
module _ (words : List ℕ) (j y : ℕ) (b : Bool) (e : y ≡ cond b (2 ^ (j % 64)) 0) (l : j / 64 < length words) where
  abbrev more : List ℕ
  more = set words (j / 64) (bit_or (get_or words (j / 64) 0) y)

  word_at : get_or more (j / 64) 0 ≡ bit_or (get_or words (j / 64) 0) y
  word_at = get_or-set_same words (j / 64) (bit_or (get_or words (j / 64) 0) y) 0 l

  pub bits-other : (i : ℕ) → (i ≡ j → ⊥) → bit_at (set words (j / 64) (bit_or (get_or words (j / 64) 0) y)) i ≡ bit_at words i
  unfolding bit_at
  bits-other i d = go (eqb (i / 64) (j / 64)) refl
    where
      go : (t : Bool) → eqb (i / 64) (j / 64) ≡ t → bit_of (get_or (set words (j / 64) (bit_or (get_or words (j / 64) 0) y)) (i / 64) 0) (i % 64) ≡ bit_of (get_or words (i / 64) 0) (i % 64)
      go true f =
          let q : i / 64 ≡ j / 64 = eqb-true (i / 64) (j / 64) f in
          ap (λ (m : ℕ). bit_of (get_or (set words (j / 64) (bit_or (get_or words (j / 64) 0) y)) m 0) (i % 64)) q
          ∙ ap (λ (z : ℕ). bit_of z (i % 64)) word_at
          ∙ word-other (get_or words (j / 64) 0) y b (j % 64) e (i % 64) (λ r. d (omega (arith, q, r)))
          ∙ ap (λ (m : ℕ). bit_of (get_or words m 0) (i % 64)) (sym q)
      go false f = ap (λ (z : ℕ). bit_of z (i % 64)) (get_or-set_other words (j / 64) (i / 64) (bit_or (get_or words (j / 64) 0) y) 0 (eqb-false (i / 64) (j / 64) f))

  pub bits-here : bit_at words j ≡ false → bit_at (set words (j / 64) (bit_or (get_or words (j / 64) 0) y)) j ≡ b
  unfolding bit_at
  bits-here h = ap (λ (z : ℕ). bit_of z (j % 64)) word_at ∙ word-here (get_or words (j / 64) 0) y b (j % 64) e h
