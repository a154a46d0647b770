-- #102, blanks in text: which blanks do not count, that the normal form is normal, how long it is, and that it is made in one pass.
use Rattle.std.specs.Prelude.{ℕ, suc, ◌+◌, ◌≤◌, ◌≡◌, Bool, true, ◌&&◌, cond, [], ◌∷◌, ◌++◌, map, leb, eqb, length}
use Rattle.std.proofs.Math.Path.{refl, ap}
use Rattle.std.proofs.Common.{sym, ap₂, ◌∙◌, arith, leb-true, eqb-true, ne_eqb, le-leb}
use Rattle.std.proofs.Math.Bool.{false}
use Rattle.std.proofs.lemmas.Bool.{lt-leb}
use Rattle.rules.specs.Lists.{is_empty, given}
use Rattle.rules.specs.Sheet.{Bytes, strip}
use Rattle.rules.specs.Value.{text, small, blank_first, shorten, trim, or_blank, tidied, folded, normal}
use Rattle.rules.specs.Derived.{words}

-- ---- in one pass

module _ (started gap : Bool) (c : ℕ) (cs : Bytes) where
  pub words-blank : c ≡ 32 → words started gap (c ∷ cs) ≡ words started started cs
  unfolding words
  words-blank e = rw e

  pub words-byte : (c ≡ 32 → ⊥) → words started gap (c ∷ cs) ≡ given gap (32 ∷ []) ++ (c ∷ words true false cs)
  unfolding words
  words-byte e = rw (ne_eqb c 32 e)

-- after something is written, only the blanks at the end are dropped, and runs
words_are : (w : Bytes) → (words true false w ≡ shorten (trim w)) × (words true true w ≡ shorten (trim (32 ∷ w)))
unfolding words trim shorten
words_are [] = (refl, refl)
words_are (c ∷ cs) = go (eqb c 32) refl (words_are cs)
  where
    go : (b : Bool) → eqb c 32 ≡ b → (words true false cs ≡ shorten (trim cs)) × (words true true cs ≡ shorten (trim (32 ∷ cs)))
        → (words true false (c ∷ cs) ≡ shorten (trim (c ∷ cs))) × (words true true (c ∷ cs) ≡ shorten (trim (32 ∷ (c ∷ cs))))
    go true e ih = let blank : c ≡ 32 = eqb-true c 32 e in rw blank (ih.1, ih.1 ∙ run (is_empty (trim cs)))
      where
        run : (t : Bool) → shorten (cond t [] (32 ∷ trim cs)) ≡ shorten (cond (is_empty (cond t [] (32 ∷ trim cs))) [] (32 ∷ cond t [] (32 ∷ trim cs)))
        run true = refl
        run false = refl
    go false e ih = rw (e, e, ih.0) (refl, refl)

words-strip : (w : Bytes) → words false false w ≡ words true false (strip w)
unfolding words strip
words-strip [] = refl
words-strip (c ∷ cs) = go (eqb c 32) refl (words-strip cs)
  where
    go : (b : Bool) → eqb c 32 ≡ b → words false false cs ≡ words true false (strip cs)
        → cond b (words false false cs) (c ∷ words true false cs) ≡ words true false (cond b (strip cs) (c ∷ cs))
    go true e ih = ih
    go false e ih = rw e

pub tidied-words : (v : Bytes) → tidied v ≡ or_blank (words false false v)
unfolding tidied
tidied-words v = ap or_blank (sym (words-strip v ∙ (words_are (strip v)).0))

-- ---- blanks that do not count

-- #102: "drop blanks at both ends": before
pub tidied-before : (v : Bytes) → tidied (32 ∷ v) ≡ tidied v
unfolding tidied strip
tidied-before v = refl

words-after : (s g : Bool) (v : Bytes) → words s g (v ++ (32 ∷ [])) ≡ words s g v
unfolding words
words-after s g [] = refl
words-after s g (c ∷ cs) = rw (words-after s s cs, words-after true false cs)

-- and after
pub tidied-after : (v : Bytes) → tidied (v ++ (32 ∷ [])) ≡ tidied v
tidied-after v = tidied-words (v ++ (32 ∷ [])) ∙ ap or_blank (words-after false false v) ∙ sym (tidied-words v)

words-run : (s g : Bool) (a b : Bytes) → words s g (a ++ (32 ∷ (32 ∷ b))) ≡ words s g (a ++ (32 ∷ b))
unfolding words
words-run s g [] b = refl
words-run s g (c ∷ cs) b = rw (words-run s s cs b, words-run true false cs b)

-- "and take a run inside as one"
pub tidied-run : (a b : Bytes) → tidied (a ++ (32 ∷ (32 ∷ b))) ≡ tidied (a ++ (32 ∷ b))
tidied-run a b = tidied-words (a ++ (32 ∷ (32 ∷ b))) ∙ ap or_blank (words-run false false a b) ∙ sym (tidied-words (a ++ (32 ∷ b)))

-- ---- the normal form is normal

words-again : (g : Bool) (w : Bytes) → words true false (words true g w) ≡ words true g w
unfolding words
words-again g [] = refl
words-again g (c ∷ cs) = go (eqb c 32) refl (words-again true cs) (words-again false cs) g
  where
    go : (b : Bool) → eqb c 32 ≡ b → words true false (words true true cs) ≡ words true true cs → words true false (words true false cs) ≡ words true false cs
        → (g : Bool) → words true false (cond b (words true true cs) (given g (32 ∷ []) ++ (c ∷ words true false cs))) ≡ cond b (words true true cs) (given g (32 ∷ []) ++ (c ∷ words true false cs))
    go true e p q g = p
    go false e p q true = rw (e, q)
    go false e p q false = rw (e, q)

words-twice : (w : Bytes) → words false false (words false false w) ≡ words false false w
unfolding words
words-twice [] = refl
words-twice (c ∷ cs) = go (eqb c 32) refl (words-twice cs)
  where
    go : (b : Bool) → eqb c 32 ≡ b → words false false (words false false cs) ≡ words false false cs
        → words false false (cond b (words false false cs) (c ∷ words true false cs)) ≡ cond b (words false false cs) (c ∷ words true false cs)
    go true e ih = ih
    go false e ih = rw (e, words-again false cs)

pub tidied-tidied : (v : Bytes) → tidied (tidied v) ≡ tidied v
tidied-tidied v = rw (tidied-words v) (go (words false false v) (words-twice v))
  where
    go : (w : Bytes) → words false false w ≡ w → tidied (or_blank w) ≡ or_blank w
    go [] e = unfold tidied strip trim shorten in refl
    go (b ∷ bs) e = tidied-words (b ∷ bs) ∙ ap or_blank e

pub small-small : (b : ℕ) → small (small b) ≡ small b
unfolding small
small-small b = go (leb 65 b) (leb b 90) refl refl
  where
    go : (s t : Bool) → leb 65 b ≡ s → leb b 90 ≡ t → small (cond s (cond t (b + 32) b) b) ≡ cond s (cond t (b + 32) b) b
    go true true p q = rw (lt-leb (b + 32) 90 (omega (arith, leb-true 65 b p)), le-leb 65 (b + 32) (omega (arith, leb-true 65 b p)))
    go true false p q = rw (p, q)
    go false t p q = rw p

-- a blank is no letter, and no letter is a blank
pub small-blank : (b : ℕ) → eqb (small b) 32 ≡ eqb b 32
unfolding small
small-blank b = go (leb 65 b) (leb b 90) refl
  where
    go : (s t : Bool) → leb 65 b ≡ s → eqb (cond s (cond t (b + 32) b) b) 32 ≡ eqb b 32
    go true true p = ne_eqb (b + 32) 32 (λ e. omega (arith, leb-true 65 b p)) ∙ sym (ne_eqb b 32 (λ e. omega (arith, leb-true 65 b p)))
    go true false p = refl
    go false t p = refl

pub words_small : (s g : Bool) (w : Bytes) → map small (words s g w) ≡ words s g (map small w)
unfolding words
words_small s g [] = refl
words_small s g (c ∷ cs) = rw (small-blank c) (go (eqb c 32) g (words_small s s cs) (words_small true false cs))
  where
    go : (b g : Bool) → map small (words s s cs) ≡ words s s (map small cs) → map small (words true false cs) ≡ words true false (map small cs)
        → map small (cond b (words s s cs) (given g (32 ∷ []) ++ (c ∷ words true false cs))) ≡ cond b (words s s (map small cs)) (given g (32 ∷ []) ++ (small c ∷ words true false (map small cs)))
    go true g p q = p
    go false true p q = unfold small in rw q
    go false false p q = rw q

-- letters and blanks may be dealt with in either order
pub tidied-small : (v : Bytes) → map small (tidied v) ≡ tidied (map small v)
tidied-small v = ap (map small) (tidied-words v) ∙ go (words false false v) ∙ ap or_blank (words_small false false v) ∙ sym (tidied-words (map small v))
  where
    go : (w : Bytes) → map small (or_blank w) ≡ or_blank (map small w)
    go [] = unfold small in refl
    go (b ∷ bs) = refl

pub normal-text : (v : Bytes) → normal text v ≡ or_blank (words false false (map small v))
unfolding normal folded
normal-text v = tidied-small v ∙ tidied-words (map small v)

pub normal-normal : (s : ℕ) (v : Bytes) → normal s (normal s v) ≡ normal s v
unfolding normal folded
normal-normal s v = go (eqb s text)
  where
    twice : (w : Bytes) → map small (map small w) ≡ map small w
    twice [] = refl
    twice (b ∷ bs) = ap₂ (λ (x : ℕ) (xs : Bytes). x ∷ xs) (small-small b) (twice bs)

    by : Bool → Bytes → Bytes
    by t w = cond t (map small (cond t (tidied w) w)) (cond t (tidied w) w)

    go : (t : Bool) → by t (by t v) ≡ by t v
    go true = ap (map small) (sym (tidied-small (tidied v)) ∙ ap (map small) (tidied-tidied v)) ∙ twice (tidied v)
    go false = refl

-- ---- its length

words-length : (s g : Bool) (w : Bytes) → length (words s g w) ≤ cond g 1 0 + length w
unfolding words
words-length s g [] = omega arith
words-length s g (c ∷ cs) = go (eqb c 32) s g (words-length s s cs) (words-length true false cs)
  where
    go : (b s g : Bool) → length (words s s cs) ≤ cond s 1 0 + length cs → length (words true false cs) ≤ 0 + length cs
        → length (cond b (words s s cs) (given g (32 ∷ []) ++ (c ∷ words true false cs))) ≤ cond g 1 0 + suc (length cs)
    go true true true p q = omega arith
    go true true false p q = omega arith
    go true false true p q = omega arith
    go true false false p q = omega arith
    go false s true p q = omega arith
    go false s false p q = omega arith

-- never empty, and not longer than a value that is not empty
pub tidied-length : (v : Bytes) (n : ℕ) → 1 ≤ n → length v ≤ n → (1 ≤ length (tidied v)) × (length (tidied v) ≤ n)
tidied-length v n h k = rw (tidied-words v) (go (words false false v) (words-length false false v))
  where
    go : (w : Bytes) → length w ≤ 0 + length v → (1 ≤ length (or_blank w)) × (length (or_blank w) ≤ n)
    go [] l = (omega arith, h)
    go (b ∷ bs) l = (omega arith, omega arith)

pub shorten-length : (p : Bytes) → length (shorten p) ≤ length p
unfolding shorten
shorten-length [] = omega arith
shorten-length (c ∷ cs) = go (eqb c 32 && blank_first cs) (shorten-length cs)
  where
    go : (b : Bool) → length (shorten cs) ≤ length cs → length (cond b (shorten cs) (c ∷ shorten cs)) ≤ suc (length cs)
    go true ih = omega arith
    go false ih = omega arith
