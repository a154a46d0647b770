-- Laws of rows: a member by its word, rows of the same words, a row of zeros, and a place more.
use Rattle.std.specs.Prelude.{ℕ, zero, suc, ◌+◌, ◌*◌, ◌/◌, ◌%◌, ◌≤◌, ◌<◌, ◌≡◌, refl, Bool, true, false, ◌&&◌, ◌||◌, List, eqb, ltb, get_or, replicate}
use Rattle.std.proofs.Common.{sym, ap, ◌∙◌, subst, arith, eqb-true, lt-ltb, le-ltb, ltb-true, ltb-false}
use Rattle.std.proofs.lemmas.List.{get_or-replicate, length-replicate}
use Rattle.std.proofs.Math.ListN.{get_or-eq_default}
use Rattle.std.proofs.lemmas.Bool.{eqb-false}
use Rattle.access_set.specs.Member.{bit_of, word_of, member}
use Rattle.access_set.specs.Laws.Bit.{bit-none}
use Rattle.access_set.specs.Laws.Sets.{member-beyond}
use Rattle.tables.specs.Sets.{row_of, in_row}

-- ---- words

word-of : (t : List ℕ) (r k : ℕ) → k < 4 → word_of (row_of t r) k ≡ get_or t (r * 4 + k) 0
unfolding word_of row_of
word-of t r zero h = let e : r * 4 ≡ r * 4 + 0 = omega arith in ap (λ (m : ℕ). get_or t m 0) e
word-of t r (suc zero) h = refl
word-of t r (suc (suc zero)) h = refl
word-of t r (suc (suc (suc zero))) h = refl
word-of t r (suc (suc (suc (suc k)))) h = absurd (omega arith)

-- a member by its word
pub in-row : (t : List ℕ) (r j : ℕ) → j < 256 → in_row t r j ≡ bit_of (get_or t (r * 4 + j / 64) 0) (j % 64)
unfolding in_row member
in-row t r j h = ap (λ (x : ℕ). bit_of x (j % 64)) (word-of t r (j / 64) (omega arith))

pub in-beyond : (t : List ℕ) (r j : ℕ) → 256 ≤ j → in_row t r j ≡ false
unfolding in_row
in-beyond t r j h = member-beyond (row_of t r) j h

-- rows of the same words
pub same_row : (s t : List ℕ) (r : ℕ) → ((i : ℕ) → r * 4 ≤ i → i < r * 4 + 4 → get_or s i 0 ≡ get_or t i 0) → (j : ℕ) → in_row s r j ≡ in_row t r j
same_row s t r h j = go (ltb j 256) refl
  where
    go : (b : Bool) → ltb j 256 ≡ b → in_row s r j ≡ in_row t r j
    go true e =
        let l : j < 256 = ltb-true j 256 e in
        in-row s r j l ∙ ap (λ (x : ℕ). bit_of x (j % 64)) (h (r * 4 + j / 64) (omega arith) (omega arith)) ∙ sym (in-row t r j l)
    go false e = let l : 256 ≤ j = ltb-false j 256 e in in-beyond s r j l ∙ sym (in-beyond t r j l)

-- a row of zeros
pub clear-row : (t : List ℕ) (r : ℕ) → ((i : ℕ) → r * 4 ≤ i → i < r * 4 + 4 → get_or t i 0 ≡ 0) → (j : ℕ) → in_row t r j ≡ false
clear-row t r h j = go (ltb j 256) refl
  where
    go : (b : Bool) → ltb j 256 ≡ b → in_row t r j ≡ false
    go true e = in-row t r j (ltb-true j 256 e) ∙ ap (λ (x : ℕ). bit_of x (j % 64)) (h (r * 4 + j / 64) (omega arith) (omega (arith, ltb-true j 256 e))) ∙ bit-none (j % 64)
    go false e = in-beyond t r j (ltb-false j 256 e)

-- ---- zeros

pub zeros : (n t : ℕ) → ◌≡◌ {A = ℕ} (get_or (replicate n 0) t 0) 0
zeros n t = go (ltb t n) refl
  where
    go : (b : Bool) → ltb t n ≡ b → ◌≡◌ {A = ℕ} (get_or (replicate n 0) t 0) 0
    go true e = get_or-replicate n t 0 0 (ltb-true t n e)
    go false e = get_or-eq_default (replicate n 0) 0 {n = t} (subst (λ (m : ℕ). m ≤ t) (sym (length-replicate n 0)) (ltb-false t n e))

-- ---- one place more

-- the places below `p`, with `p`
pub more-in : (j p : ℕ) (by : ℕ → Bool) → ((eqb j p && by p) || (ltb j p && by j)) ≡ (ltb j (suc p) && by j)
more-in j p by = go (eqb j p) refl (ltb j p) refl
  where
    none : (b : Bool) → (b || false) ≡ b
    none true = refl
    none false = refl

    go : (t : Bool) → eqb j p ≡ t → (u : Bool) → ltb j p ≡ u → ((t && by p) || (u && by j)) ≡ (ltb j (suc p) && by j)
    go true e u f =
        let g : j ≡ p = eqb-true j p e in
        ap (λ (v : Bool). by p || (v && by j)) (sym f ∙ le-ltb j p (omega arith))
        ∙ none (by p) ∙ ap by (sym g) ∙ ap (λ (v : Bool). v && by j) (sym (lt-ltb j (suc p) (omega arith)))
    go false e true f = let l : j < p = ltb-true j p f in ap (λ (v : Bool). v && by j) (sym (lt-ltb j (suc p) (omega arith)))
    go false e false f =
        let l : p ≤ j = ltb-false j p f in
        let d : j ≡ p → ⊥ = eqb-false j p e in
        ap (λ (v : Bool). v && by j) (sym (le-ltb j (suc p) (omega arith)))
