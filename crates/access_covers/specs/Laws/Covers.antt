-- Laws of `Covers` and `Rights`: the rows are the items that concern each entry, and beside the sets of the items they are what the requester may.
use Prim.Native.Nat.{ℕ, zero, suc, ◌+◌, ◌*◌, ◌≤◌, ◌<◌}
use Rattle.std.specs.Prelude.{◌≡◌, refl, Bool, true, false, ◌&&◌, List, ltb, get_or, take, drop, replicate}
use Rattle.std.proofs.Common.{sym, ap, ap₂, ◌∙◌, add-one, arith, get_or-take, ltb-true}
use Rattle.std.proofs.Math.Path.{subst}
use Rattle.std.proofs.Math.ListN.{length}
use Rattle.std.proofs.lemmas.List.{length-replicate}
use Rattle.rules.specs.Sheet.{Bytes}
use Rattle.rules.specs.Directory.{Stored}
use Rattle.rules.specs.Directory as Directory
use Rattle.rules.specs.Permission.{Item}
use Rattle.rules.specs.Decision.{Setting}
use Rattle.rules.proofs.Laws.Lists.{get_d_map}
use Rattle.rules.specs.Derived.{concerns, no_item, item_at}
use Rattle.tables.specs.Numbers.{reaches, reach_of}
use Rattle.tables.specs.Laws.Reach.{reach-concerns}
use Rattle.name.specs.Schema.{Rising}
use Rattle.tables.specs.Sets.{grants_row, permission_row, what_row, type_row, digest_column, value_place_column, value_length_column, SETS, in_row, Items, Covers, Rights}
use Rattle.access_items.specs.Sorted.{Sorted}
use Rattle.access_items.specs.Note.{items_noted}
use Rattle.access_items.specs.Laws.Rows.{same_row}
use Rattle.access_items.specs.Laws.Items.{items-length, items-front, items-noted}
use Rattle.access_covers.specs.Enter.{reach_at, all_entered}
use Rattle.access_covers.specs.Noted.{covers_to, covers_noted, rights_noted}
use Rattle.access_covers.specs.Sources.{Sources}
use Rattle.access_covers.specs.Laws.Row.{Inherits}
use Rattle.access_covers.specs.Laws.Enter.{RowsClear, Owned, owned-all}
use Rattle.access_covers.specs.Laws.Inherit.{Kept, kept, inherits-next, Inherited, inherited-none, inherited-more}

-- ---- the covers, whatever they stand for

module _ (reach order parents sets : List ℕ) (size : length sets ≡ SETS) (few : length order ≤ 256) (few' : length parents ≤ 256) where
  -- the table before the first entry inherits
  abbrev entered : List ℕ
  entered = all_entered reach order (length order) sets

  own : Owned reach order sets (length order) entered
  own = owned-all reach order sets (omega arith) (length order) few

  next-inherits : (k : ℕ) → k < length parents → Inherits (k + 1) (get_or parents k 0) (covers_to parents k entered) (covers_to parents (suc k) entered)
  next-inherits = inherits-next parents entered (omega (arith, own.size)) few'

  K : Kept parents entered (omega (arith, own.size)) few' (length parents)
  K = kept parents entered (omega (arith, own.size)) few' (length parents) (omega arith)

  covers-size : length (covers_noted reach order parents sets) ≡ SETS
  unfolding covers_noted
  covers-size = K.size ∙ own.size ∙ size

  covers-after : (i : ℕ) → grants_row * 4 ≤ i → get_or (covers_noted reach order parents sets) i 0 ≡ get_or sets i 0
  unfolding covers_noted
  covers-after i l = K.after i l ∙ own.after i l

-- the table that the loop leaves
pub covers-whole : (reach order parents sets s t : List ℕ) (k : ℕ) → k ≤ length parents → length parents ≤ k → s ≡ all_entered reach order (length order) sets → t ≡ covers_to parents k s
    → t ≡ covers_noted reach order parents sets
unfolding covers_noted
covers-whole reach order parents sets s t k l h d e =
    let z : k ≡ length parents = omega arith in
    e ∙ ap₂ (covers_to parents) z d

-- the items first
pub rights-whole : (rights schema order reach parents sets s t : List ℕ) → s ≡ items_noted rights schema order (length order) sets → t ≡ covers_noted reach order parents s
    → t ≡ rights_noted rights schema order reach parents sets
unfolding rights_noted
rights-whole rights schema order reach parents sets s t h e = e ∙ ap (covers_noted reach order parents) h

-- ---- what they stand for

module _ (σ : Setting) (es : List Stored) (reach order parents : List ℕ) (given : Sources σ es reach order parents) where
  -- an item of the order has a reach
  pub within-reach : (p : ℕ) → p < length order → get_or order p 0 < 256
  within-reach p l = omega (arith, given.ranked.within p (subst (λ (m : ℕ). p < m) given.count l), given.few-items)

  -- parents stand before their children
  pub parents-rise : (k : ℕ) → k < length parents → get_or parents k 0 ≤ k
  parents-rise k l =
      let b : k < length es = subst (λ (m : ℕ). k < m) given.parents-noted l in
      omega (arith, given.parent k b, given.accepted.parents k b)

  covers_of : (t : List ℕ) (k : ℕ) → length parents ≤ k → Inherited es (length order) (reach_at reach order) k t → Covers σ es order t
  covers_of t k done h = record {
    root = h.root;
    entry = λ e j l.
        h.covers-done e j (omega (arith, given.parents-noted))
        ∙ ap (λ (m : ℕ). ltb j m && reaches es (reach_at reach order j) (suc e)) given.count
        ∙ below e j l (ltb j (length σ.items)) refl;
  }
    where
      below : (k j : ℕ) → k < length es → (b : Bool) → ltb j (length σ.items) ≡ b
          → (b && reaches es (reach_at reach order j) (suc k)) ≡ (b && concerns σ (get_or es k Directory.blank).name (item_at σ.items order j))
      below k j l false e = refl
      below k j l true e =
          let l' = given.ranked.within j (ltb-true j (length σ.items) e) in
          ap (λ (r : ℕ). reaches es r (suc k))
          (sym (get_or-take (length σ.items) reach (get_or order j 0) 0 l') ∙ ap (λ (x : List ℕ). get_or x (get_or order j 0) 0) given.reach-is
          ∙ get_d_map (reach_of σ es) no_item 0 σ.items (get_or order j 0) l')
          ∙ reach-concerns σ es given.accepted k l (item_at σ.items order j)

  -- of a table without members in the rows of the entries
  module _ (sets : List ℕ) (size : length sets ≡ SETS) (clear : RowsClear sets) where
    few : length order ≤ 256
    few = omega (arith, given.count, given.few-items)

    few' : length parents ≤ 256
    few' = omega (arith, given.parents-noted, given.few)

    abbrev C : ℕ → List ℕ
    C k = covers_to parents k (all_entered reach order (length order) sets)

    inherited : (k : ℕ) → k ≤ length parents → Inherited es (length order) (reach_at reach order) k (C k)
    unfolding covers_to
    inherited zero l = inherited-none es (length order) (reach_at reach order) (C 0) ((own reach order parents sets size few few').rows clear)
    inherited (suc k) l =
        let b : k < length es = subst (λ (m : ℕ). k < m) given.parents-noted l in
        subst (λ (m : ℕ). Inherited es (length order) (reach_at reach order) m (C (suc k))) (add-one k)
        (inherited-more es given.accepted.parents (length order) (reach_at reach order) k (omega (arith, given.few)) (get_or parents k 0) (given.parent k b) (C k) (C (suc k))
        (next-inherits reach order parents sets size few few' k l) (inherited k (omega arith)))

    pub covers-noted : Covers σ es order (covers_noted reach order parents sets)
    unfolding covers_noted
    covers-noted = covers_of (C (length parents)) (length parents) (omega arith) (inherited (length parents) (omega arith))

-- the sets of the items stand from the words of grants_row on
items_kept : (is : List Item) (order schema : List ℕ) (p : Bytes) (s t : List ℕ) → ((i : ℕ) → grants_row * 4 ≤ i → get_or t i 0 ≡ get_or s i 0) → Items is order schema p s → Items is order schema p t
items_kept is order schema p s t e h = record {
  ranked = h.ranked;
  few = h.few;
  grants = λ j l. row grants_row j (omega arith) ∙ h.grants j l;
  permission = λ b j a l. row (permission_row + b) j (omega arith) ∙ h.permission b j a l;
  what = λ x j a l. row (what_row + x) j (omega arith) ∙ h.what x j a l;
  type = λ r j a l. row (type_row + r) j (omega arith) ∙ h.type r j a l;
  slot = λ r j a b l. row r j (omega arith) ∙ h.slot r j a b l;
  digests = λ j l. e (digest_column + j) (omega arith) ∙ h.digests j l;
  value = λ j l. ap₂ (λ (m n : ℕ). take m (drop n p)) (e (value_length_column + j) (omega arith)) (e (value_place_column + j) (omega arith)) ∙ h.value j l;
  within = λ j l. omega (arith, e (value_place_column + j) (omega arith), e (value_length_column + j) (omega arith), h.within j l);
}
  where
    row : (r j : ℕ) → grants_row ≤ r → in_row t r j ≡ in_row s r j
    row r j l = same_row t s r (λ i a b. e i (omega arith)) j

-- what the requester may
pub rights-noted : (σ : Setting) (es : List Stored) (w : ℕ) (p : Bytes) (rights scopes schema order reach parents : List ℕ) → Rising 0 schema → length schema ≤ 64
    → Sorted w p σ.items rights scopes order → Sources σ es reach order parents → Rights σ es schema p (rights_noted rights schema order reach parents (replicate SETS 0))
unfolding rights_noted
rights-noted σ es w p rights scopes schema order reach parents rising few S R = record {
  order = order;
  items = items_kept σ.items order schema p (items_noted rights schema order (length order) (replicate SETS 0)) _
      (covers-after reach order parents (items_noted rights schema order (length order) (replicate SETS 0)) size (omega (arith, R.count, R.few-items)) (omega (arith, R.parents-noted, R.few)))
      (items-noted w p σ.items rights scopes order S schema rising few);
  covers = covers-noted σ es reach order parents R (items_noted rights schema order (length order) (replicate SETS 0)) size (items-front w p σ.items rights scopes order S schema rising few);
}
  where
    size : length (items_noted rights schema order (length order) (replicate SETS 0)) ≡ SETS
    size = items-length rights schema order (length order) (replicate SETS 0) ∙ length-replicate {A = ℕ} SETS 0

pub rights-size : (rights schema order reach parents : List ℕ) → length order ≤ 256 → length parents ≤ 256 → length (rights_noted rights schema order reach parents (replicate SETS 0)) ≡ SETS
unfolding rights_noted
rights-size rights schema order reach parents few few' =
    covers-size reach order parents (items_noted rights schema order (length order) (replicate SETS 0))
    (items-length rights schema order (length order) (replicate SETS 0) ∙ length-replicate {A = ℕ} SETS 0) few few'
