-- Laws of `Mask`: one line more, and a line's own rank.
use Rattle.std.specs.Prelude.{ℕ, zero, suc, ◌+◌, ◌%◌, ◌^◌, ◌≤◌, ◌<◌, ◌≡◌, Bool, not, ◌&&◌, ◌||◌, cond, List, ltb}
use Rattle.std.proofs.Math.Path.{refl}
use Rattle.std.proofs.Common.{sym, ap, ap₂, ◌∙◌, add-one, arith}
use Rattle.std.proofs.Math.Bool.{true, false}
use Rattle.std.proofs.Math.Decide.{dec_lt}
use Rattle.std.specs.Int.Bits.{bit_or}
use Rattle.std.proofs.Math.Dec.{eqb}
use borrow.Author.Tests.{eq-eqb, ne_eqb, eqb-true, eqb-false, ltb-true, ltb-false}
use Rattle.access_set.specs.Member.{bit_of}
use Rattle.access_set.specs.Laws.Bit.{bit-none}
use Rattle.filter_lines.specs.Lines.{kind_at, type_rank}
use Rattle.filter_matchable.specs.Mask.{operator_at, occurs, Masks}
use Rattle.filter_matchable.specs.Laws.Bits.{word_more}

pub mask-none : (rows : List ℕ) → Masks rows 0 0
unfolding occurs
mask-none rows = record { rank = λ r l. bit-none r }

-- the bit that a line adds
module _ (n place r : ℕ) (small : r < 64) where
  added : (b t : Bool) → ltb place 64 ≡ t → (eqb r (place % 64) && (b && t)) ≡ (b && eqb place r)
  added true true e =
      let l : place < 64 = ltb-true place 64 e in
      let z : place % 64 ≡ place = omega arith in
      ap (λ (m : ℕ). eqb r m && true) z ∙ turned (eqb r place) refl
    where
      turned : (u : Bool) → eqb r place ≡ u → (u && true) ≡ eqb place r
      turned true f = sym (eq-eqb place r (sym (eqb-true r place f)))
      turned false f = sym (ne_eqb place r (λ g. eqb-false r place f (sym g)))
  added true false e = none (eqb r (place % 64)) ∙ sym (ne_eqb place r (λ g. let l : 64 ≤ place = ltb-false place 64 e in omega arith))
    where
      none : (c : Bool) → (c && false) ≡ false
      none true = refl
      none false = refl
  added false t e = none (eqb r (place % 64))
    where
      none : (c : Bool) → (c && false) ≡ false
      none true = refl
      none false = refl

pub mask-on : (rows : List ℕ) (k x y : ℕ) (b : Bool) → b ≡ (not (operator_at rows k) && ltb (type_rank rows k) 64) → y ≡ cond b (2 ^ (type_rank rows k % 64)) 0 → Masks rows k x → Masks rows (k + 1) (bit_or x y)
unfolding occurs
mask-on rows k x y b g e h = record { rank = λ r l. rw (add-one k) (here r l) }
  where
    swap : (u v : Bool) → (u || v) ≡ (v || u)
    swap true true = refl
    swap true false = refl
    swap false true = refl
    swap false false = refl

    here : (r : ℕ) → r < 64 → bit_of (bit_or x y) r ≡ (not (operator_at rows k) && eqb (type_rank rows k) r || occurs rows k r)
    here r l =
        word_more x y b (type_rank rows k % 64) e r
        ∙ ap₂ ◌||◌ (h.rank r l) (ap (λ (c : Bool). eqb r (type_rank rows k % 64) && c) g ∙ added k (type_rank rows k) r l (not (operator_at rows k)) (ltb (type_rank rows k) 64) refl)
        ∙ swap (occurs rows k r) (not (operator_at rows k) && eqb (type_rank rows k) r)

-- an item's own rank occurs
pub occurs-own : (rows : List ℕ) (n k : ℕ) → k < n → operator_at rows k ≡ false → occurs rows n (type_rank rows k) ≡ true
unfolding occurs
occurs-own rows zero k l e = absurd (omega arith)
occurs-own rows (suc n) k l e = go (dec_lt k n) (λ m. occurs-own rows n k m e)
  where
    last : (a : Bool) → (a || true) ≡ true
    last true = refl
    last false = refl

    go : Dec (k < n) → (k < n → occurs rows n (type_rank rows k) ≡ true) → (not (operator_at rows n) && eqb (type_rank rows n) (type_rank rows k) || occurs rows n (type_rank rows k)) ≡ true
    go (yes m) ih = ap (λ (c : Bool). not (operator_at rows n) && eqb (type_rank rows n) (type_rank rows k) || c) (ih m) ∙ last (not (operator_at rows n) && eqb (type_rank rows n) (type_rank rows k))
    go (no m) ih =
        let z : k ≡ n = omega arith in
        ap (λ (c : Bool). c || occurs rows n (type_rank rows k)) (ap₂ (λ (o p : Bool). not o && p) (ap (operator_at rows) (sym z) ∙ e) (eq-eqb (type_rank rows n) (type_rank rows k) (ap (type_rank rows) (sym z))))

-- is line `k` an operator?
module _ (rows : List ℕ) (k : ℕ) where
  pub operator-group : (eqb (kind_at rows k) 20 || eqb (kind_at rows k) 21) ≡ true → operator_at rows k ≡ true
  unfolding operator_at
  operator-group e = rw e

  pub operator-not : kind_at rows k ≡ 22 → operator_at rows k ≡ true
  unfolding operator_at
  operator-not e = rw (eq-eqb (kind_at rows k) 22 e) (last (eqb (kind_at rows k) 20 || eqb (kind_at rows k) 21))
    where
      last : (a : Bool) → (a || true) ≡ true
      last true = refl
      last false = refl

  pub operator-none : (eqb (kind_at rows k) 20 || eqb (kind_at rows k) 21) ≡ false → (kind_at rows k ≡ 22 → ⊥) → operator_at rows k ≡ false
  unfolding operator_at
  operator-none e d = rw (e, ne_eqb (kind_at rows k) 22 d)
