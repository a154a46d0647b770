-- Laws of blanks, one for each way through a loop.
use Rattle.std.specs.Prelude.{ℕ, suc, ◌+◌, ◌-◌, ◌≤◌, ◌<◌, ◌≡◌, Bool, ◌&&◌, ◌||◌, not, cond, [], ◌∷◌, ◌++◌, eqb, ltb, length, get_or, drop, Some, None}
use Rattle.std.proofs.Math.Path.{refl}
use Rattle.std.proofs.Common.{sym, ap, ◌∙◌, subst, arith, add-one, zero-add, length-drop, drop-drop, get_or-drop}
use Rattle.std.proofs.Math.Bool.{true, false}
use Rattle.std.proofs.lemmas.Bool.{false≢true}
use borrow.Author.Tests.{eqb-true, eqb-false, eq-eqb, ne_eqb, ltb-true, ltb-false}
use Rattle.std.proofs.Math.Dec.{eqb-suc-zero}
use Rattle.std.proofs.Math.ListN.{drop_of_length-le}
use Rattle.std.proofs.Math.Seq.{drop-cons}
use Rattle.rules.specs.Lists.{given}
use Rattle.rules.specs.Sheet.{Bytes, strip}
use Rattle.rules.specs.Value.{blank_first, shorten, trim, or_blank, tidied}
use Rattle.rules.specs.Derived.{words}
use Rattle.rules.proofs.Laws.Blanks.{words-blank, words-byte, tidied-words}
use Rattle.value_blank.specs.Blank.{Next}
use Rattle.value_blank.specs.Blank.{pair_at, doubled_at, has_run, is_tidy, blanks, skipped, next_at}

-- ---- runs

first-is : (v : Bytes) (i : ℕ) → i < length v → blank_first (drop i v) ≡ eqb (get_or v i 0) 32
first-is v i h = rw (drop-cons v i 0)

run-one : (v : Bytes) (i j : ℕ) → j ≡ i + 1 → j < length v → has_run (drop i v) ≡ (pair_at v i || has_run (drop j v))
unfolding has_run
run-one v i j e h = rw (e, drop-cons v i 0 (omega arith), ← first-is v (i + 1) (omega arith), add-one i)

-- two places at a time, by the byte between them
module _ (v : Bytes) (i : ℕ) where
  pub run-two : i + 2 < length v → has_run (drop i v) ≡ ((pair_at v i || pair_at v (i + 1)) || has_run (drop (i + 2) v))
  run-two h =
      rw (run-one v i (i + 1) refl (omega arith), run-one v (i + 1) (i + 2) (omega arith) h) (go (pair_at v i) (pair_at v (i + 1)) (has_run (drop (i + 2) v)))
    where
      go : (x y z : Bool) → (x || (y || z)) ≡ ((x || y) || z)
      go true y z = refl
      go false y z = refl

  pub pairs-beside : get_or v (i + 1) 0 ≡ 32 → (eqb (get_or v i 0) 32 || eqb (get_or v (i + 2) 0) 32) ≡ (pair_at v i || pair_at v (i + 1))
  pairs-beside e =
      let two : i + 1 + 1 ≡ i + 2 = omega arith in
      rw (two, eq-eqb (get_or v (i + 1) 0) 32 e) (go (eqb (get_or v i 0) 32) (eqb (get_or v (i + 2) 0) 32))
    where
      go : (x y : Bool) → (x || y) ≡ ((x && true) || y)
      go true y = refl
      go false y = refl

  pub pairs-none : (get_or v (i + 1) 0 ≡ 32 → ⊥) → (pair_at v i || pair_at v (i + 1)) ≡ false
  pairs-none e = rw (ne_eqb (get_or v (i + 1) 0) 32 e) (go (eqb (get_or v i 0) 32))
    where
      go : (x : Bool) → ((x && false) || false) ≡ false
      go true = refl
      go false = refl

pub run_end : (v : Bytes) (i : ℕ) → length v - i < 2 → has_run (drop i v) ≡ false
run_end v i h = go (drop i v) (rw length-drop h)
  where
    go : (l : Bytes) → length l < 2 → has_run l ≡ false
    go [] h = unfold has_run in refl
    go (b ∷ []) h = unfold has_run in off (eqb b 32)
      where
        off : (t : Bool) → ((t && false) || false) ≡ false
        off true = refl
        off false = refl
    go (b ∷ (c ∷ cs)) h = absurd (omega arith)

pub run-last : (v : Bytes) (i : ℕ) → length v - i ≤ 2 → 1 < length v - i → has_run (drop i v) ≡ pair_at v i
run-last v i m h = run-one v i (i + 1) refl (omega arith) ∙ rw (run_end v (i + 1) (omega arith)) (go (pair_at v i))
  where
    go : (t : Bool) → (t || false) ≡ t
    go true = refl
    go false = refl

-- ---- a text that is tidied as it stands

pub no_run : (v : Bytes) → has_run v ≡ false → shorten v ≡ v
unfolding has_run shorten
no_run [] e = refl
no_run (b ∷ bs) e = go (eqb b 32 && blank_first bs) (has_run bs) refl e (no_run bs)
  where
    go : (t r : Bool) → has_run bs ≡ r → (t || r) ≡ false → (has_run bs ≡ false → shorten bs ≡ bs) → cond t (shorten bs) (b ∷ shorten bs) ≡ b ∷ bs
    go true r p e next = absurd (false≢true (sym e))
    go false r p e next = ap (λ (l : Bytes). b ∷ l) (next (p ∙ e))

no_last : (b : ℕ) (bs : Bytes) → eqb (get_or (b ∷ bs) (length bs) 0) 32 ≡ false → trim (b ∷ bs) ≡ b ∷ bs
unfolding trim
no_last b [] e = rw e
no_last b (c ∷ cs) e = rw (no_last c cs e) (go (eqb b 32))
  where
    go : (t : Bool) → cond (t && false) [] (b ∷ (c ∷ cs)) ≡ b ∷ (c ∷ cs)
    go true = refl
    go false = refl

pub tidy-tidied : (v : Bytes) → is_tidy v ≡ true → tidied v ≡ v
unfolding is_tidy tidied strip
tidy-tidied [] e = absurd (false≢true e)
tidy-tidied (b ∷ bs) e = let one : suc (length bs) - 1 ≡ length bs = omega arith in
    go (eqb b 32) (eqb (get_or (b ∷ bs) (length bs) 0) 32) (has_run (b ∷ bs)) refl refl refl (rw (eqb-suc-zero (length bs), one) at e)
  where
    go : (s t r : Bool) → eqb b 32 ≡ s → eqb (get_or (b ∷ bs) (length bs) 0) 32 ≡ t → has_run (b ∷ bs) ≡ r → cond s false (cond t false (not r)) ≡ true
        → or_blank (shorten (trim (cond (eqb b 32) (strip bs) (b ∷ bs)))) ≡ b ∷ bs
    go true t r p q h e = absurd (false≢true e)
    go false true r p q h e = absurd (false≢true e)
    go false false true p q h e = absurd (false≢true e)
    go false false false p q h e = rw (p, no_last b bs q, no_run (b ∷ bs) h)

-- ---- blanks passed over

pub doubled-inner : (v : Bytes) (i : ℕ) → i + 1 < length v → pair_at v i ≡ doubled_at v i
doubled-inner v i h = ap (λ (b : Bool). eqb (get_or v i 0) 32 && b) (sym (first-is v (i + 1) h))

pub doubled-last : (v : Bytes) (i : ℕ) → length v ≤ i + 1 → doubled_at v i ≡ false
doubled-last v i h = rw (drop_of_length-le v h) (go (eqb (get_or v i 0) 32))
  where
    go : (t : Bool) → (t && false) ≡ false
    go true = refl
    go false = refl

module _ (v : Bytes) (k : ℕ) where
  pub skip-on : k < length v → get_or v k 0 ≡ 32 → skipped v (k + 1) ≡ skipped v k
  unfolding blanks
  skip-on h e = rw (add-one k, drop-cons v k 0, eq-eqb (get_or v k 0) 32 e) (omega arith)

  pub skip_stop : k < length v → (get_or v k 0 ≡ 32 → ⊥) → k ≡ skipped v k
  unfolding blanks
  skip_stop h e = rw (drop-cons v k 0, ne_eqb (get_or v k 0) 32 e) (omega arith)

  pub skip-end : length v ≤ k → k ≡ skipped v k
  unfolding blanks
  skip-end h = rw drop_of_length-le (omega arith)

blanks-most : (l : Bytes) → blanks l ≤ length l
unfolding blanks
blanks-most [] = omega arith
blanks-most (b ∷ bs) = go (eqb b 32) (blanks-most bs)
  where
    go : (t : Bool) → blanks bs ≤ length bs → cond t (suc (blanks bs)) 0 ≤ suc (length bs)
    go true h = omega arith
    go false h = omega arith

pub skip-within : (v : Bytes) (i : ℕ) → i ≤ length v → (i ≤ skipped v i) × (skipped v i ≤ length v)
skip-within v i h = let m = blanks-most (drop i v) in omega (arith, m, length-drop i v)

-- the byte after blanks is none
blanks-past : (l : Bytes) → blanks l < length l → get_or l (blanks l) 0 ≡ 32 → ⊥
unfolding blanks
blanks-past [] h e = omega arith
blanks-past (b ∷ bs) h e = go (eqb b 32) refl h e (blanks-past bs)
  where
    go : (t : Bool) → eqb b 32 ≡ t → cond t (suc (blanks bs)) 0 < suc (length bs) → get_or (b ∷ bs) (cond t (suc (blanks bs)) 0) 0 ≡ 32
        → (blanks bs < length bs → get_or bs (blanks bs) 0 ≡ 32 → ⊥) → ⊥
    go true p h e next = next (omega arith) e
    go false p h e next = eqb-false b 32 p e

past : (v : Bytes) (i : ℕ) → skipped v i < length v → get_or v (skipped v i) 0 ≡ 32 → ⊥
past v i h e = blanks-past (drop i v) (omega (arith, length-drop i v)) (get_or-drop i v (blanks (drop i v)) 0 ∙ e)

-- ---- what comes next of the words

-- blanks that are passed over leave a gap where something is written
words-skip : (s g : Bool) (l : Bytes) → words s g l ≡ words s (cond (eqb (blanks l) 0) g s) (drop (blanks l) l)
unfolding blanks
words-skip s g [] = refl
words-skip s g (b ∷ bs) = go (eqb b 32) refl (words-skip s s bs)
  where
    one : (t : Bool) → cond t s s ≡ s
    one true = refl
    one false = refl

    go : (t : Bool) → eqb b 32 ≡ t → words s s bs ≡ words s (cond (eqb (blanks bs) 0) s s) (drop (blanks bs) bs)
        → words s g (b ∷ bs) ≡ words s (cond (eqb (cond t (suc (blanks bs)) 0) 0) g s) (drop (cond t (suc (blanks bs)) 0) (b ∷ bs))
    go true e ih = rw (eqb-suc-zero (blanks bs)) (words-blank s g b bs (eqb-true b 32 e) ∙ ih ∙ rw (one (eqb (blanks bs) 0)))
    go false e ih = refl

module _ (v : Bytes) (i : ℕ) where
  from_end : (s g : Bool) → length v ≤ skipped v i → words s g (drop i v) ≡ []
  unfolding words
  from_end s g h = words-skip s g (drop i v) ∙ rw (drop-drop (blanks (drop i v)) i v, drop_of_length-le v h)

  from-here : (s g : Bool) → skipped v i < length v
      → words s g (drop (skipped v i) v) ≡ given g (32 ∷ []) ++ (get_or v (skipped v i) 0 ∷ words true false (drop (skipped v i + 1) v))
  from-here s g h = rw (add-one, drop-cons v (skipped v i) 0 h) (words-byte s g (get_or v (skipped v i) 0) (drop (suc (skipped v i)) v) (past v i h))

  from_past : (s g : Bool) → i < skipped v i → words s g (drop i v) ≡ words s s (drop (skipped v i) v)
  from_past s g h = words-skip s g (drop i v) ∙ rw (ne_eqb (blanks (drop i v)) 0 (λ z. omega arith), drop-drop (blanks (drop i v)) i v)

-- what is left of the words where this comes next
abbrev pub shown : Bytes → Next → Bytes
shown v (Some (b, k)) = b ∷ words true false (drop k v)
shown v None = []

-- and how far it goes
abbrev pub Ahead : Bytes → ℕ → Next → Type 0
Ahead v i (Some (b, k)) = (i < k) × (k ≤ length v)
Ahead v i None = Unit {0}

pub next-words : (v : Bytes) (i : ℕ) → i ≤ length v → (words true false (drop i v) ≡ shown v (next_at v i)) × Ahead v i (next_at v i)
unfolding next_at
next-words v i l = go (eqb (skipped v i) (length v)) (ltb i (skipped v i)) refl refl
  where
    go : (s t : Bool) → eqb (skipped v i) (length v) ≡ s → ltb i (skipped v i) ≡ t
        → (words true false (drop i v) ≡ shown v (cond s None (cond t (Some (32, skipped v i)) (Some (get_or v (skipped v i) 0, skipped v i + 1)))))
        × Ahead v i (cond s None (cond t (Some (32, skipped v i)) (Some (get_or v (skipped v i) 0, skipped v i + 1))))
    go true t p q = (from_end v i true false (omega (arith, eqb-true (skipped v i) (length v) p)), tt)
    go false true p q =
        let h : i < skipped v i = ltb-true i (skipped v i) q in
        let m : skipped v i < length v = omega (arith, skip-within v i l, eqb-false (skipped v i) (length v) p) in
        (from_past v i true false h ∙ from-here v i true true m ∙ ap (λ (l : Bytes). 32 ∷ l) (sym (from-here v i true false m)), omega arith)
    go false false p q =
        let e : i ≡ skipped v i = omega (arith, ltb-false i (skipped v i) q, skip-within v i l) in
        let m : skipped v i < length v = omega (arith, skip-within v i l, eqb-false (skipped v i) (length v) p) in
        (ap (λ (k : ℕ). words true false (drop k v)) e ∙ from-here v i true false m, omega arith)

module _ (v : Bytes) (i : ℕ) (h : i ≤ length v) where
  pub next-byte : (b k : ℕ) → next_at v i ≡ Some (b, k) → (words true false (drop i v) ≡ b ∷ words true false (drop k v)) × ((i < k) × (k ≤ length v))
  next-byte b k e = subst (λ (x : Next). (words true false (drop i v) ≡ shown v x) × Ahead v i x) e (next-words v i h)

  pub next-end : next_at v i ≡ None → words true false (drop i v) ≡ []
  next-end e = (next-words v i h).0 ∙ ap (shown v) e

-- ---- from the beginning

module _ (v : Bytes) (i : ℕ) (e : i ≡ skipped v 0) where
  -- nothing but blanks
  pub tidied-none : i ≡ length v → tidied v ≡ 32 ∷ []
  tidied-none h = tidied-words v ∙ ap or_blank (from_end v 0 false false (omega arith))

  -- a byte that is no blank
  pub first_some : (i ≡ length v → ⊥) → (words true false (drop i v) ≡ get_or v i 0 ∷ words true false (drop (i + 1) v)) × (get_or v i 0 ≡ 32 → ⊥)
  first_some h =
      let m : skipped v 0 < length v = omega (arith, skip-within v 0 (omega arith)) in
      rw e (from-here v 0 true false m, past v 0 m)

  pub tidied-some : (i ≡ length v → ⊥) → tidied v ≡ words true false (drop i v)
  tidied-some h =
      let m : skipped v 0 < length v = omega (arith, skip-within v 0 (omega arith)) in
      let first = from-here v 0 false false m in
      tidied-words v ∙ ap or_blank (start ∙ first) ∙ sym (rw e (from-here v 0 true false m))
    where
      start : words false false v ≡ words false false (drop (skipped v 0) v)
      start = words-skip false false v ∙ rw (zero-add) (go (eqb (blanks v) 0))
        where
          go : (t : Bool) → words false (cond t false false) (drop (blanks v) v) ≡ words false false (drop (blanks v) v)
          go true = refl
          go false = refl
