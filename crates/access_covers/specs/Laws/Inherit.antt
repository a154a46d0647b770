-- Laws of inheritance, in the order of the entries: each row is made of the one above it.
use Prim.Native.Nat.{ℕ, zero, suc, ◌+◌, ◌-◌, ◌*◌, ◌/◌, ◌%◌, ◌≤◌, ◌<◌}
use Rattle.std.specs.Prelude.{◌≡◌, Bool, ◌&&◌, ◌||◌, List, ltb, length, get_or}
use Rattle.std.proofs.Math.Path.{refl, ap}
use Rattle.std.proofs.Common.{sym, ap₂, ◌∙◌, subst, not-suc-le-zero, add-one, arith, ne_eqb, eqb-true, ltb-true, ltb-false}
use Rattle.std.proofs.Math.Bool.{true, false, cond}
use Rattle.std.proofs.Math.Nat.{le_of_suc-le-suc}
use Rattle.std.proofs.Math.Dec.{eqb}
use Rattle.std.proofs.Math.ListN.{get_or-eq_default}
use Rattle.std.proofs.lemmas.Bool.{eqb-false}
use Rattle.rules.specs.Directory.{Stored, blank}
use Rattle.tables.specs.Numbers.{climbs, reaches}
use Rattle.tables.specs.Sets.{below_row, grants_row, in_row}
use Rattle.access_covers.specs.Row.{entry_inherited}
use Rattle.access_covers.specs.Noted.{covers_to}
use Rattle.access_covers.specs.Laws.Row.{Inherits, inherits-of}
use Rattle.access_covers.specs.Laws.Enter.{alone_by, own_by, root-alone, enters_row, enters-alone, enters_below}

-- ---- one entry more

pub covers_more : (parents s t u : List ℕ) (k : ℕ) → t ≡ covers_to parents k s → u ≡ entry_inherited (k + 1) (get_or parents k 0) t → u ≡ covers_to parents (k + 1) s
unfolding covers_to
covers_more parents s t u k h e = e ∙ ap (entry_inherited (k + 1) (get_or parents k 0)) h ∙ ap (λ (m : ℕ). covers_to parents m s) (sym (add-one k))

-- the table keeps its size, and the words after the rows of the entries
module _ (parents t : List ℕ) (room : grants_row * 4 ≤ length t) (few : length parents ≤ 256) where
  pub record Kept (k : ℕ) : Type 0 where
    pub size : length (covers_to parents k t) ≡ length t
    pub after : (i : ℕ) → grants_row * 4 ≤ i → get_or (covers_to parents k t) i 0 ≡ get_or t i 0

  -- the entry of index `k` inherits
  inherits-at : (k : ℕ) → k < length parents → Kept k → Inherits (k + 1) (get_or parents k 0) (covers_to parents k t) (covers_to parents (suc k) t)
  unfolding covers_to
  inherits-at k l h = inherits-of (k + 1) (get_or parents k 0) (covers_to parents k t) (omega (arith, h.size)) (omega arith)

  pub kept : (k : ℕ) → k ≤ length parents → Kept k
  unfolding covers_to
  kept zero l = record { size = refl; after = λ i h. refl }
  kept (suc k) l = more (kept k (omega arith))
    where
      more : Kept k → Kept (suc k)
      more h = let I = inherits-at k l h in record { size = I.size ∙ h.size; after = λ i b. I.after i b ∙ h.after i b }

  pub inherits-next : (k : ℕ) → k < length parents → Inherits (k + 1) (get_or parents k 0) (covers_to parents k t) (covers_to parents (suc k) t)
  inherits-next k l = inherits-at k l (kept k (omega arith))

-- ---- what an entry has of the items that go on below

-- does a reach that goes on below reach entry number `e`?
unfoldable below_by : List Stored → ℕ → ℕ → Bool
below_by es r e = cond (ltb r 2) false (cond (eqb (r % 2) 1) false (climbs es e (r / 2 - 1) e))

-- with those that are for the entry alone, that is all
reaches-parts : (es : List Stored) (r k : ℕ) → (alone_by r (suc k) || below_by es r (suc k)) ≡ reaches es r (suc k)
unfolding reaches alone_by below_by
reaches-parts es r k = go (ltb r 2) refl
  where
    either : (o a c : Bool) → (cond o a false || cond o false c) ≡ cond o a c
    either true true c = refl
    either true false c = refl
    either false a c = refl

    go : (b : Bool) → ltb r 2 ≡ b
        → (cond b false (cond (eqb (r % 2) 1) (eqb (suc k) (r / 2)) false) || cond b false (cond (eqb (r % 2) 1) false (climbs es (suc k) (r / 2 - 1) (suc k))))
        ≡ cond (eqb r 0) false (cond (eqb (r % 2) 1) (eqb (suc k) (r / 2)) (climbs es (suc k) (r / 2 - 1) (suc k)))
    go true e = low r (ltb-true r 2 e)
      where
        low : (r : ℕ) → r < 2 → false ≡ cond (eqb r 0) false (cond (eqb (r % 2) 1) (eqb (suc k) (r / 2)) (climbs es (suc k) (r / 2 - 1) (suc k)))
        low zero h = refl
        low (suc zero) h = sym (ne_eqb (suc k) 0 (λ z. omega arith))
        low (suc (suc r)) h = absurd (not-suc-le-zero (le_of_suc-le-suc (le_of_suc-le-suc h)))
    go false e =
        rw (ne_eqb r 0 (λ z. let l : 2 ≤ r = ltb-false r 2 e in omega arith))
        (either (eqb (r % 2) 1) (eqb (suc k) (r / 2)) (climbs es (suc k) (r / 2 - 1) (suc k)))

module _ (es : List Stored) (rising : (k : ℕ) → k < length es → (get_or es k blank).parent ≤ k) where
  up : (k : ℕ) → (get_or es k blank).parent ≤ k
  up k = go (ltb k (length es)) refl
    where
      go : (t : Bool) → ltb k (length es) ≡ t → (get_or es k blank).parent ≤ k
      go true e = rising k (ltb-true k (length es) e)
      go false e =
          let z : (get_or es k blank).parent ≡ 0 = ap (λ (x : Stored). x.parent) (get_or-eq_default es blank {n = k} (ltb-false k (length es) e)) in
          omega arith

  climbs-enough : (f g b k : ℕ) → k ≤ f → k ≤ g → climbs es f b k ≡ climbs es g b k
  unfolding climbs
  climbs-enough zero zero b k h i = refl
  climbs-enough zero (suc g) b zero h i = refl
  climbs-enough zero (suc g) b (suc k) h i = absurd (not-suc-le-zero h)
  climbs-enough (suc f) zero b zero h i = refl
  climbs-enough (suc f) zero b (suc k) h i = absurd (not-suc-le-zero i)
  climbs-enough (suc f) (suc g) b zero h i = refl
  climbs-enough (suc f) (suc g) b (suc k) h i =
      ap (λ (t : Bool). eqb (suc k) b || t)
      (climbs-enough f g b (get_or es k blank).parent (omega (arith, up k, le_of_suc-le-suc h)) (omega (arith, up k, le_of_suc-le-suc i)))

  below_suc : (r k : ℕ) → below_by es r (suc k) ≡ (own_by r (suc k) || below_by es r (get_or es k blank).parent)
  unfolding below_by own_by climbs
  below_suc r k =
      ap (λ (t : Bool). cond (ltb r 2) false (cond (eqb (r % 2) 1) false (eqb (suc k) (r / 2 - 1) || t)))
      (climbs-enough k (get_or es k blank).parent (r / 2 - 1) (get_or es k blank).parent (up k) (omega arith))
      ∙ go (ltb r 2) (eqb (r % 2) 1) (eqb (suc k) (r / 2 - 1)) (climbs es (get_or es k blank).parent (r / 2 - 1) (get_or es k blank).parent)
    where
      go : (z o a c : Bool) → cond z false (cond o false (a || c)) ≡ (cond z false (cond o false a) || cond z false (cond o false c))
      go true o a c = refl
      go false true a c = refl
      go false false a c = refl

below-zero : (es : List Stored) (r : ℕ) → below_by es r 0 ≡ own_by r 0
unfolding below_by own_by climbs
below-zero es r = refl

-- ---- the rows up to entry number `k`

pub record Inherited (es : List Stored) (n : ℕ) (R : ℕ → ℕ) (k : ℕ) (t : List ℕ) : Type 0 where
  pub root : (j : ℕ) → in_row t 0 j ≡ false
  pub covers-done : (e j : ℕ) → e < k → in_row t (suc e) j ≡ (ltb j n && reaches es (R j) (suc e))
  covers-due : (e j : ℕ) → k < e → e ≤ 256 → in_row t e j ≡ (ltb j n && alone_by (R j) e)
  below-done : (e j : ℕ) → e ≤ k → in_row t (below_row + e) j ≡ (ltb j n && below_by es (R j) e)
  below-due : (e j : ℕ) → k < e → e ≤ 256 → in_row t (below_row + e) j ≡ (ltb j n && own_by (R j) e)

pub inherited-none : (es : List Stored) (n : ℕ) (R : ℕ → ℕ) (t : List ℕ) → ((f j : ℕ) → f < grants_row → in_row t f j ≡ (ltb j n && enters_row (R j) f)) → Inherited es n R 0 t
inherited-none es n R t h = record {
  root = λ j. alone 0 j (omega arith) ∙ ap (λ (b : Bool). ltb j n && b) (root-alone (R j)) ∙ none (ltb j n);
  covers-done = λ e j l. absurd (not-suc-le-zero l);
  covers-due = λ e j l m. alone e j m;
  below-done = λ e j l. let z : e ≡ 0 = omega arith in
      subst (λ (m : ℕ). in_row t (below_row + m) j ≡ (ltb j n && below_by es (R j) m)) (sym z) (own 0 j (omega arith) ∙ ap (λ (b : Bool). ltb j n && b) (sym (below-zero es (R j))));
  below-due = λ e j l m. own e j m;
}
  where
    none : (b : Bool) → (b && false) ≡ false
    none true = refl
    none false = refl

    alone : (e j : ℕ) → e ≤ 256 → in_row t e j ≡ (ltb j n && alone_by (R j) e)
    alone e j l = h e j (omega arith) ∙ ap (λ (b : Bool). ltb j n && b) (enters-alone (R j) e l)

    own : (e j : ℕ) → e ≤ 256 → in_row t (below_row + e) j ≡ (ltb j n && own_by (R j) e)
    own e j l = h (below_row + e) j (omega arith) ∙ ap (λ (b : Bool). ltb j n && b) (enters_below (R j) e l)

module _ (es : List Stored) (rising : (k : ℕ) → k < length es → (get_or es k blank).parent ≤ k) (n : ℕ) (R : ℕ → ℕ) (k : ℕ) (small : k < 256) (above : ℕ)
    (parent : above ≡ (get_or es k blank).parent) (s t : List ℕ) (I : Inherits (k + 1) above s t) (h : Inherited es n R k s)
  where
    spread : (a x y : Bool) → ((a && x) || (a && y)) ≡ (a && (x || y))
    spread true x y = refl
    spread false x y = refl

    -- another entry's rows are as they were
    c-other : (e j : ℕ) → e ≤ 256 → (e ≡ k + 1 → ⊥) → in_row t e j ≡ in_row s e j
    c-other e j l q = I.beside e j q (λ z. omega arith)

    b-other : (e j : ℕ) → (e ≡ k + 1 → ⊥) → in_row t (below_row + e) j ≡ in_row s (below_row + e) j
    b-other e j q = I.beside (below_row + e) j (λ z. omega arith) (λ z. q (omega arith))

    -- what the entry has of the items that go on below
    joined : (j : ℕ) → (in_row s (below_row + (k + 1)) j || in_row s (below_row + above) j) ≡ (ltb j n && below_by es (R j) (suc k))
    joined j =
        ap₂ (λ (x y : Bool). x || y) (h.below-due (k + 1) j (omega arith) (omega arith)) (h.below-done above j (omega (arith, up es rising k)))
        ∙ ap₂ (λ (m i : ℕ). (ltb j n && own_by (R j) m) || (ltb j n && below_by es (R j) i)) (add-one k) parent
        ∙ spread (ltb j n) (own_by (R j) (suc k)) (below_by es (R j) (get_or es k blank).parent)
        ∙ ap (λ (b : Bool). ltb j n && b) (sym (below_suc es rising (R j) k))

    c-here : (j : ℕ) → in_row t (k + 1) j ≡ (ltb j n && reaches es (R j) (suc k))
    c-here j =
        I.covers-row j
        ∙ ap₂ (λ (x y : Bool). x || y) (h.covers-due (k + 1) j (omega arith) (omega arith) ∙ ap (λ (m : ℕ). ltb j n && alone_by (R j) m) (add-one k)) (joined j)
        ∙ spread (ltb j n) (alone_by (R j) (suc k)) (below_by es (R j) (suc k))
        ∙ ap (λ (b : Bool). ltb j n && b) (reaches-parts es (R j) k)

    pub inherited-more : Inherited es n R (k + 1) t
    inherited-more = record {
      root = λ j. c-other 0 j (omega arith) (λ q. omega arith) ∙ h.root j;
      covers-done = λ e j l. c-done e j l (eqb e k) refl;
      covers-due = λ e j l m. c-other e j m (λ q. omega arith) ∙ h.covers-due e j (omega arith) m;
      below-done = λ e j l. b-done e j l (eqb e (k + 1)) refl;
      below-due = λ e j l m. b-other e j (λ q. omega arith) ∙ h.below-due e j (omega arith) m;
    }
      where
        c-done : (e j : ℕ) → e < k + 1 → (b : Bool) → eqb e k ≡ b → in_row t (suc e) j ≡ (ltb j n && reaches es (R j) (suc e))
        c-done e j l true q =
            let g : e ≡ k = eqb-true e k q in
            subst (λ (i : ℕ). in_row t (suc i) j ≡ (ltb j n && reaches es (R j) (suc i))) (sym g) (ap (λ (m : ℕ). in_row t m j) (sym (add-one k)) ∙ c-here j)
        c-done e j l false q = let g : e ≡ k → ⊥ = eqb-false e k q in c-other (suc e) j (omega arith) (λ z. g (omega arith)) ∙ h.covers-done e j (omega arith)

        b-done : (e j : ℕ) → e ≤ k + 1 → (b : Bool) → eqb e (k + 1) ≡ b → in_row t (below_row + e) j ≡ (ltb j n && below_by es (R j) e)
        b-done e j m true q =
            let g : e ≡ k + 1 = eqb-true e (k + 1) q in
            ap (λ (i : ℕ). in_row t (below_row + i) j) g ∙ I.below_row_lem j ∙ joined j ∙ ap (λ (i : ℕ). ltb j n && below_by es (R j) i) (sym (g ∙ add-one k))
        b-done e j m false q = let g : e ≡ k + 1 → ⊥ = eqb-false e (k + 1) q in b-other e j g ∙ h.below-done e j (omega arith)
