-- Laws of `Decided` and `First`: what is asked, by other words; and what is left of the candidates when those about other values are passed over.
use Rattle.std.specs.Prelude.{ℕ, ◌≤◌, ◌<◌, ◌≡◌, Bool, true, not, ◌&&◌, ◌||◌, List, eqb, ltb, Some, None}
use Rattle.std.proofs.Math.Path.{refl}
use Rattle.std.proofs.Common.{sym, ap, ◌∙◌, subst, true≢false, arith, ne_eqb, ltb-true, ltb-false}
use Rattle.std.proofs.Math.Bool.{false}
use Rattle.std.proofs.lemmas.Bool.{eqb-false}
use Rattle.rules.proofs.Laws.Tests.{and_left, or_right}
use Rattle.rules.specs.Value.{Found}
use Rattle.access_set.specs.declared.Bits.{Bits}
use Rattle.access_set.specs.Member.{member, Least}
use Rattle.access_set.specs.Laws.Sets.{member-beyond}
use Rattle.tables.specs.Sets.{grants_row, row_of, in_row}
use Rattle.access_may.specs.Decided.{Decided, First}

-- ---- Bool

not-true : (b : Bool) → (b ≡ true → ⊥) → b ≡ false
not-true true h = absurd (h refl)
not-true false h = refl

-- ---- the decision

-- a row that was loaded
pub row-member : (sets : List ℕ) (r : ℕ) (x : Bits) → x ≡ row_of sets r → (j : ℕ) → member x j ≡ in_row sets r j
unfolding in_row
row-member sets r x e j = ap (λ (s : Bits). member s j) e

module _ (sets : List ℕ) where
  module _ (asked : ℕ → Bool) where
    pub decided-none : (f : Found) → f ≡ None → Least asked f → Decided sets asked false
    decided-none f e l = record { first = None; least = subst (Least asked) e l; verdict = refl }

    pub decided-at : (i : ℕ) (f : Found) → f ≡ Some i → Least asked f → (r : Bool) → r ≡ in_row sets grants_row i → Decided sets asked r
    decided-at i f e l r g = record { first = Some i; least = subst (Least asked) e l; verdict = g }

-- ---- the first as a place

first-same : (p q : ℕ → Bool) → ((j : ℕ) → p j ≡ q j) → (end i : ℕ) → First p end i → First q end i
first-same p q h end i f = record {
  within = f.within;
  passes = λ b. sym (h i) ∙ f.passes b;
  below = λ j b. sym (h j) ∙ f.below j b;
}

pub first-none : (p : ℕ → Bool) (f : Found) → f ≡ None → Least p f → First p 256 256
first-none p f e l = let g : Least p None = subst (Least p) e l in record { within = omega arith; passes = λ b. absurd (omega arith); below = λ j b. g j }

pub first-at : (p : ℕ → Bool) (i : ℕ) (f : Found) → f ≡ Some i → Least p f → First p 256 i
first-at p i f e l = let g : Least p (Some i) = subst (Least p) e l in let b : i < 256 = g.0 in record { within = omega arith; passes = λ b. g.1; below = g.2 }

-- ---- what is left of the candidates

-- `s` has what is asked, of its members `stands` tells which are, and `i` is the first
pub record Left (asked stands : ℕ → Bool) (s : Bits) (i : ℕ) : Type 0 where
  pub kept : (j : ℕ) → asked j ≡ true → member s j ≡ true
  pub only : (j : ℕ) → member s j ≡ true → stands j ≡ asked j
  pub first : First (member s) 256 i

pub left-start : (stands : ℕ → Bool) (s : Bits) (i : ℕ) → First (member s) 256 i → Left (λ j. member s j && stands j) stands s i
left-start stands s i f = record {
  kept = λ j e. and_left (member s j) (stands j) e;
  only = λ j e. sym (ap (λ (b : Bool). b && stands j) e);
  first = f;
}

module _ {asked stands : ℕ → Bool} {s : Bits} {i : ℕ} (h : Left asked stands s i) where
  -- one that is not left is not asked
  gone : (j : ℕ) → member s j ≡ false → asked j ≡ false
  gone j e = not-true (asked j) (λ f. true≢false (sym (h.kept j f) ∙ e))

  pub left_end : (end : ℕ) → end ≤ i → First asked end end
  left_end end b = record {
    within = omega arith;
    passes = λ l. absurd (omega arith);
    below = λ j l. gone j (h.first.below j (omega arith));
  }

  module _ (l : i < 256) where
    pub left-member : member s i ≡ true
    left-member = h.first.passes l

    pub left-found : (end : ℕ) → i < end → stands i ≡ true → First asked end i
    left-found end b k = record {
      within = omega arith;
      passes = λ x. sym (h.only i left-member) ∙ k;
      below = λ j x. gone j (h.first.below j x);
    }

    module _ (s' : Bits) (w : (j : ℕ) → member s' j ≡ (member s j && not (eqb j i))) (i' : ℕ) (f : First (member s') 256 i') where
      pub left-more : stands i ≡ false → Left asked stands s' i'
      left-more k = record {
        kept = λ j a. w j ∙ both (member s j) (eqb j i) (h.kept j a) (ne_eqb j i (λ q. true≢false (sym a ∙ ap asked q ∙ sym (h.only i left-member) ∙ k)));
        only = λ j a. h.only j (and_left (member s j) (not (eqb j i)) (sym (w j) ∙ a));
        first = f;
      }
        where
          both : (a b : Bool) → a ≡ true → b ≡ false → (a && not b) ≡ true
          both true false p q = refl
          both true true p q = absurd (true≢false q)
          both false b p q = absurd (true≢false (sym p))

      -- no number up to `i` is left
      before : (j : ℕ) → j ≤ i → member s' j ≡ false
      before j b = w j ∙ go (eqb j i) refl
        where
          none : (a : Bool) → (a && not true) ≡ false
          none true = refl
          none false = refl

          go : (t : Bool) → eqb j i ≡ t → (member s j && not t) ≡ false
          go true q = none (member s j)
          go false q =
              let d : j ≡ i → ⊥ = eqb-false j i q in
              ap (λ (a : Bool). a && true) (h.first.below j (omega arith))

      pub left-later : i < i'
      left-later = go (ltb i i') refl
        where
          go : (t : Bool) → ltb i i' ≡ t → i < i'
          go true q = ltb-true i i' q
          go false q = let b : i' ≤ i = ltb-false i i' q in absurd (true≢false (sym (f.passes (omega arith)) ∙ before i' b))

-- ---- candidates about all values and about one

neither : (a b c : Bool) → a ≡ false → (b && c) ≡ false → (a || b && c) ≡ false
neither true b c e f = e
neither false b c e f = f

off : (b c : Bool) → b ≡ false → (b && c) ≡ false
off true c e = absurd (true≢false e)
off false c e = refl

module _ (sets : List ℕ) (all single : Bits) (ok : ℕ → Bool) where
  abbrev asked : ℕ → Bool
  asked j = member all j || member single j && ok j

  -- the first asked decides, by its place
  decided-first : (i : ℕ) → First asked 256 i → (r : Bool) → r ≡ in_row sets grants_row i → Decided sets asked r
  unfolding in_row
  decided-first i f r e = go (ltb i 256) refl
    where
      beyond : (j : ℕ) → 256 ≤ j → asked j ≡ false
      beyond j b = neither (member all j) (member single j) (ok j) (member-beyond all j b) (off (member single j) (ok j) (member-beyond single j b))

      none : 256 ≤ i → (j : ℕ) → asked j ≡ false
      none b j = at (ltb j i) refl
        where
          at : (t : Bool) → ltb j i ≡ t → asked j ≡ false
          at true q = f.below j (ltb-true j i q)
          at false q = let l : i ≤ j = ltb-false j i q in beyond j (omega arith)

      go : (t : Bool) → ltb i 256 ≡ t → Decided sets asked r
      go true q = let l : i < 256 = ltb-true i 256 q in record { first = Some i; least = (l, f.passes l, f.below); verdict = e }
      go false q = let l : 256 ≤ i = ltb-false i 256 q in record { first = None; least = none l; verdict = e ∙ member-beyond (row_of sets grants_row) i l }

  module _ (end : ℕ) (a : First (member all) 256 end) where
    -- the first about all values stands before those about one
    pub decided-all : (i : ℕ) → First (member single) 256 i → end ≤ i → (r : Bool) → r ≡ in_row sets grants_row end → Decided sets asked r
    decided-all i f b = decided-first end record {
      within = a.within;
      passes = λ l. ap (λ (x : Bool). x || member single end && ok end) (a.passes l);
      below = λ j l. neither (member all j) (member single j) (ok j) (a.below j l) (off (member single j) (ok j) (f.below j (omega arith)));
    }

    -- the first about this value before it, or it
    pub decided-one : (p : ℕ → Bool) → ((j : ℕ) → p j ≡ (member single j && ok j)) → (i : ℕ) → First p end i → (r : Bool) → r ≡ in_row sets grants_row i → Decided sets asked r
    decided-one p h i f =
        decided-first i
        record {
          within = let x : i ≤ end = g.within in let y : end ≤ 256 = a.within in omega arith;
          passes = λ l. go l (ltb i end) refl;
          below = λ j l. let x : i ≤ end = g.within in neither (member all j) (member single j) (ok j) (a.below j (omega arith)) (g.below j l);
        }
      where
        g : First (λ j. member single j && ok j) end i
        g = first-same p (λ j. member single j && ok j) h end i f

        go : i < 256 → (t : Bool) → ltb i end ≡ t → asked i ≡ true
        go l true q = or_right (member all i) (member single i && ok i) (g.passes (ltb-true i end q))
        go l false q =
            let x : end ≤ i = ltb-false i end q in
            let y : i ≤ end = g.within in
            let e : end ≡ i = omega arith in
            ap (λ (b : Bool). b || member single i && ok i) (subst (λ (k : ℕ). member all k ≡ true) e (a.passes (omega arith)))
