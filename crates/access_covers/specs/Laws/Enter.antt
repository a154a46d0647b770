-- Laws of `Enter`: which entries a reach names, an item at its entry, and all items.
use Prim.Native.Nat.{ℕ, zero, suc, ◌+◌, ◌-◌, ◌*◌, ◌/◌, ◌%◌, ◌≤◌, ◌<◌}
use Rattle.std.specs.Prelude.{◌≡◌, Bool, ◌&&◌, ◌||◌, List, length, get_or}
use Rattle.std.proofs.Math.Path.{refl, sym, ap}
use Rattle.std.proofs.Common.{◌∙◌, add-one, arith}
use Rattle.std.proofs.Math.Bool.{true, false, cond}
use Rattle.std.proofs.Math.Dec.{eqb, ltb}
use borrow.Author.Tests.{eq-eqb, ne_eqb, eqb-true, eqb-false, le-ltb, ltb-true, ltb-false}
use Rattle.tables.specs.Sets.{below_row, grants_row, in_row}
use Rattle.access_items.specs.Mark.{marked}
use Rattle.access_items.specs.Laws.Rows.{clear-row, more-in}
use Rattle.access_items.specs.Laws.Mark.{marked-length, marked_other, marked-in}
use Rattle.access_covers.specs.Enter.{last_reach, reach_row, reach_entered, reach_at, all_entered}

-- ---- which entries a reach names

-- does a reach name the entry `e` alone? Never the root
unfoldable pub alone_by : ℕ → ℕ → Bool
alone_by r e = cond (ltb r 2) false (cond (eqb (r % 2) 1) (eqb e (r / 2)) false)

-- does it name the entry `e` with all below?
unfoldable pub own_by : ℕ → ℕ → Bool
own_by r e = cond (ltb r 2) false (cond (eqb (r % 2) 1) false (eqb e (r / 2 - 1)))

-- the root is never named alone
pub root-alone : (r : ℕ) → alone_by r 0 ≡ false
unfolding alone_by
root-alone r = go (ltb r 2) refl (eqb (r % 2) 1)
  where
    go : (b : Bool) → ltb r 2 ≡ b → (o : Bool) → cond b false (cond o (eqb 0 (r / 2)) false) ≡ false
    go true e o = refl
    go false e true = let l : 2 ≤ r = ltb-false r 2 e in ne_eqb 0 (r / 2) (λ z. omega arith)
    go false e false = refl

-- does it name row `f`?
unfoldable pub enters_row : ℕ → ℕ → Bool
enters_row r f = cond (ltb r 2) false (cond (ltb last_reach r) false (eqb f (reach_row r)))

module _ (r e : ℕ) (small : e ≤ 256) where
  -- the row of an entry
  pub enters-alone : enters_row r e ≡ alone_by r e
  unfolding enters_row alone_by
  enters-alone = go (ltb r 2) refl (ltb last_reach r) refl (eqb (r % 2) 1)
    where
      go : (b : Bool) → ltb r 2 ≡ b → (u : Bool) → ltb last_reach r ≡ u → (o : Bool)
          → cond b false (cond u false (eqb e (cond o (r / 2) (below_row + r / 2 - 1)))) ≡ cond b false (cond o (eqb e (r / 2)) false)
      go true p u q o = refl
      go false p true q true = let h : last_reach < r = ltb-true last_reach r q in sym (ne_eqb e (r / 2) (λ z. omega arith))
      go false p true q false = refl
      go false p false q true = refl
      go false p false q false = let h : 2 ≤ r = ltb-false r 2 p in ne_eqb e (below_row + r / 2 - 1) (λ z. omega arith)

  -- the row of what is below it
  pub enters_below : enters_row r (below_row + e) ≡ own_by r e
  unfolding enters_row own_by
  enters_below = go (ltb r 2) refl (ltb last_reach r) refl (eqb (r % 2) 1) refl
    where
      go : (b : Bool) → ltb r 2 ≡ b → (u : Bool) → ltb last_reach r ≡ u → (o : Bool) → eqb (r % 2) 1 ≡ o
          → cond b false (cond u false (eqb (below_row + e) (cond o (r / 2) (below_row + r / 2 - 1)))) ≡ cond b false (cond o false (eqb e (r / 2 - 1)))
      go true p u q o w = refl
      go false p true q true w = refl
      go false p true q false w =
          let h : last_reach < r = ltb-true last_reach r q in
          let d : r % 2 ≡ 1 → ⊥ = eqb-false (r % 2) 1 w in
          sym (ne_eqb e (r / 2 - 1) (λ z. omega arith))
      go false p false q true w =
          let h : r ≤ last_reach = ltb-false last_reach r q in
          let d : r % 2 ≡ 1 = eqb-true (r % 2) 1 w in
          ne_eqb (below_row + e) (r / 2) (λ z. omega arith)
      go false p false q false w = same (eqb e (r / 2 - 1)) refl
        where
          low : 2 ≤ r
          low = ltb-false r 2 p

          same : (x : Bool) → eqb e (r / 2 - 1) ≡ x → eqb (below_row + e) (below_row + r / 2 - 1) ≡ x
          same true v = let z : e ≡ r / 2 - 1 = eqb-true e (r / 2 - 1) v in eq-eqb (below_row + e) (below_row + r / 2 - 1) (omega (arith, low))
          same false v = let z : e ≡ r / 2 - 1 → ⊥ = eqb-false e (r / 2 - 1) v in ne_eqb (below_row + e) (below_row + r / 2 - 1) (λ y. z (omega (arith, low)))

-- ---- an item entered

-- the item at place `p` enters the rows that `hit` names, which are those of the entries, and no word after them changes
pub record Entered (p : ℕ) (hit : ℕ → Bool) (s t : List ℕ) : Type 0 where
  pub size : length t ≡ length s
  pub rows : (f j : ℕ) → in_row t f j ≡ ((eqb j p && hit f) || in_row s f j)
  pub after : (i : ℕ) → grants_row * 4 ≤ i → get_or t i 0 ≡ get_or s i 0

module _ (t : List ℕ) (room : grants_row * 4 ≤ length t) (p : ℕ) (small : p < 256) (r : ℕ) where
  pub reach-entered : Entered p (enters_row r) t (reach_entered r p t)
  unfolding enters_row reach_entered
  reach-entered = go (ltb r 2) (ltb last_reach r) refl
    where
      nowhere : Entered p (λ f. false) t t
      nowhere = record { size = refl; rows = λ f j. none (eqb j p) (in_row t f j); after = λ i l. refl }
        where
          none : (x m : Bool) → m ≡ ((x && false) || m)
          none true m = refl
          none false m = refl

      within : r ≤ last_reach → (o : Bool) → cond o (r / 2) (below_row + r / 2 - 1) < grants_row
      within h true = omega arith
      within h false = omega arith

      there : (f : ℕ) → f < grants_row → Entered p (λ g. eqb g f) t (marked t f p 1)
      there f l = record {
        size = marked-length t f p 1;
        rows = λ g j. marked-in t f p 1 (omega arith) small (omega arith) g j ∙ ap (λ (x : Bool). (eqb j p && x) || in_row t g j) (all (eqb g f));
        after = λ i b. marked_other t f p 1 i (λ z. omega arith);
      }
        where
          all : (x : Bool) → (x && true) ≡ x
          all true = refl
          all false = refl

      go : (b u : Bool) → ltb last_reach r ≡ u → Entered p (λ f. cond b false (cond u false (eqb f (reach_row r)))) t (cond b t (cond u t (marked t (reach_row r) p 1)))
      go true u q = nowhere
      go false true q = nowhere
      go false false q = there (reach_row r) (within (ltb-false last_reach r q) (eqb (r % 2) 1))

-- ---- all items

-- the rows of the entries, and of what is below them, have no member
abbrev pub RowsClear : List ℕ → Type 0
RowsClear t = (i : ℕ) → i < grants_row * 4 → get_or t i 0 ≡ 0

module _ (reach order t : List ℕ) where
  -- one item more
  pub entered-more : (s u : List ℕ) (n : ℕ) → s ≡ all_entered reach order n t → u ≡ reach_entered (reach_at reach order n) n s → u ≡ all_entered reach order (n + 1) t
  unfolding all_entered
  entered-more s u n h e = e ∙ ap (reach_entered (reach_at reach order n) n) h ∙ ap (λ (m : ℕ). all_entered reach order m t) (sym (add-one n))

  -- the items at the places below `n`, in the rows that they name
  pub record Owned (n : ℕ) (u : List ℕ) : Type 0 where
    pub size : length u ≡ length t
    pub rows : RowsClear t → (f j : ℕ) → f < grants_row → in_row u f j ≡ (ltb j n && enters_row (reach_at reach order j) f)
    pub after : (i : ℕ) → grants_row * 4 ≤ i → get_or u i 0 ≡ get_or t i 0

  pub owned-all : grants_row * 4 ≤ length t → (n : ℕ) → n ≤ 256 → Owned n (all_entered reach order n t)
  unfolding all_entered
  owned-all room zero l = record {
    size = refl;
    rows = λ clear f j h. clear-row t f (λ i a b. clear i (omega arith)) j ∙ ap (λ (x : Bool). x && enters_row (reach_at reach order j) f) (sym (le-ltb j 0 (omega arith)));
    after = λ i h. refl;
  }
  owned-all room (suc n) l = more (owned-all room n (omega arith))
    where
      more : Owned n (all_entered reach order n t) → Owned (suc n) (reach_entered (reach_at reach order n) n (all_entered reach order n t))
      more o =
          let E = reach-entered (all_entered reach order n t) (omega (arith, o.size)) n l (reach_at reach order n) in record {
            size = E.size ∙ o.size;
            rows = λ clear f j h.
                E.rows f j ∙ ap (λ (x : Bool). (eqb j n && enters_row (reach_at reach order n) f) || x) (o.rows clear f j h) ∙ more-in j n (λ i. enters_row (reach_at reach order i) f);
            after = λ i h. E.after i h ∙ o.after i h;
          }
