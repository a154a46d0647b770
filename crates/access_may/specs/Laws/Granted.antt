-- What is decided by sets of items is what the rules grant.
use Prim.Native.Nat.{ℕ, zero, suc, ◌+◌, ◌%◌, ◌^◌, ◌≤◌, ◌<◌}
use Rattle.std.specs.Prelude.{◌≡◌, refl, Bool, true, false, List, ltb, length, get_or, Some, None}
use Rattle.std.proofs.Math.Path.{sym, ap, ap₂}
use Rattle.std.proofs.Common.{◌∙◌, true≢false, arith, lt-ltb, ltb-true}
use Rattle.std.proofs.Math.Bool.{◌&&◌, ◌||◌}
use Rattle.std.proofs.Math.Dec.{eqb}
use Rattle.rules.specs.Sheet.{Bytes}
use Rattle.rules.specs.Value.{by_found}
use Rattle.rules.specs.Name.{Schema, Name, equal}
use Rattle.rules.specs.Directory as Directory
use Rattle.rules.specs.Directory.{Stored}
use Rattle.rules.specs.Permission.{Item}
use Rattle.rules.specs.Decision.{Setting, Thing, entry, of_type, of_value, base_covers, who_fits, what_covers, names, level_fits, applies, granted}
use Rattle.rules.specs.Derived.{concerns, item_at}
use Rattle.rules.proofs.Laws.First.{decided-first, decided-none}
use Rattle.rules.specs.Value.{Found}
use Rattle.value_syntax.specs.Digest.{digest}
use Rattle.name.specs.Schema.{equal_by}
use Rattle.name.specs.Laws.Schema.{equal-at}
use Rattle.access_set.specs.Member.{Least}
use Rattle.tables.specs.Book.{schema_column, schema, type_count}
use Rattle.tables.specs.Held.{type_at}
use Rattle.tables.specs.Sets.{grants_row, permission_row, what_row, type_row, in_row, first_slot, second_slot, Rights, granted_at}
use Rattle.tables.specs.World.{World}
use Rattle.tables.specs.Laws.Book.{schema-length, type-at}
use Rattle.access_may.specs.Decided.{Decided}
use Rattle.access_may.specs.Single.{agrees_at, same_at}
use Rattle.access_may.specs.Laws.Schema.{syntax-ranked}
use Rattle.access_may.specs.Laws.Single.{slot-first}

-- ---- the first item that applies

regroup : (a b c d e : Bool) → (((a && (b && e)) && d) && c) ≡ (a && (b && (c && (d && e))))
regroup false b c d e = refl
regroup true false c d e = refl
regroup true true true true true = refl
regroup true true true true false = refl
regroup true true true false true = refl
regroup true true true false false = refl
regroup true true false true true = refl
regroup true true false true false = refl
regroup true true false false true = refl
regroup true true false false false = refl

module _ (σ : Setting) (es : List Stored) (schema : List ℕ) (p : Bytes) (sets : List ℕ) (rights : Rights σ es schema p sets) where
  abbrev item : ℕ → Item
  item j = item_at σ.items rights.order j

  module _ (x : Thing) (q : ℕ) (small : q < 6) (about : ℕ → Bool) (covering : (j : ℕ) → j < length σ.items → about j ≡ what_covers σ (item_at σ.items rights.order j) x) where
    module _ (k : ℕ) (l : k < length es) (asked : ℕ → Bool) (all : (j : ℕ) → asked j ≡ ((in_row sets (suc k) j && in_row sets (permission_row + q) j) && about j)) where
      abbrev n : Name
      n = (get_or es k Directory.blank).name

      asked-applies : (j : ℕ) → j < length σ.items → asked j ≡ applies σ n x (2 ^ q) (item j)
      unfolding applies concerns names
      asked-applies j b =
          let i = item j in
          all j
          ∙ ap₂ ◌&&◌
          (ap₂ ◌&&◌ (rights.covers.entry k j l ∙ ap (λ (t : Bool). t && concerns σ n i) (lt-ltb j (length σ.items) b)) (rights.items.permission q j small b))
          (covering j b)
          ∙ regroup (base_covers σ i n) (who_fits σ i n) (what_covers σ i x) (names σ i (2 ^ q)) (level_fits σ i)

      only : (j : ℕ) → asked j ≡ true → j < length σ.items
      only j e = by (ltb j (length σ.items)) refl
        where
          by : (t : Bool) → ltb j (length σ.items) ≡ t → j < length σ.items
          by true g = ltb-true j (length σ.items) g
          by false g = absurd (true≢false (sym e ∙ all j ∙ ap (λ (t : Bool). (t && in_row sets (permission_row + q) j) && about j) (rights.covers.entry k j l ∙ ap (λ (t : Bool). t && concerns σ n (item j)) g)))

      first-grants : (f : Found) → Least asked f → by_found f (in_row sets grants_row) ≡ granted σ n x (2 ^ q)
      first-grants (Some i) g =
          let b : i < length σ.items = only i g.1 in
          rights.items.grants i b
          ∙ sym (decided-first σ n x (2 ^ q) rights.order rights.items.ranked i b (sym (asked-applies i b) ∙ g.1) (λ j c. sym (asked-applies j (omega arith)) ∙ g.2 j c))
      first-grants None g = sym (decided-none σ n x (2 ^ q) rights.order rights.items.ranked (λ j b. sym (asked-applies j b) ∙ g j))

    -- the root has no items
    module _ (asked : ℕ → Bool) (all : (j : ℕ) → asked j ≡ ((in_row sets 0 j && in_row sets (permission_row + q) j) && about j)) where
      unasked : (j : ℕ) → asked j ≡ false
      unasked j = all j ∙ ap (λ (t : Bool). (t && in_row sets (permission_row + q) j) && about j) (rights.covers.root j)

      first-none : (f : Found) → Least asked f → by_found f (in_row sets grants_row) ≡ false
      first-none (Some i) g = absurd (true≢false (sym g.1 ∙ unasked i))
      first-none None g = refl

    -- those asked are the items of the entry that name the permission and are about the thing
    pub decided-granted : (e : ℕ) → e ≤ length es → (asked : ℕ → Bool) → ((j : ℕ) → asked j ≡ ((in_row sets e j && in_row sets (permission_row + q) j) && about j)) → (r : Bool) → Decided sets asked r → r ≡ granted_at σ es e x (2 ^ q)
    unfolding granted_at
    decided-granted zero l asked all r d = d.verdict ∙ first-none asked all d.first d.least
    decided-granted (suc k) l asked all r d = d.verdict ∙ first-grants k l asked all d.first d.least

-- ---- the three questions

module _ (σ : Setting) (es : List Stored) (d p : Bytes) (book held sets : List ℕ) (world : World σ es d p book held sets) (q : ℕ) (small : q < 6) (e : ℕ) (l : e ≤ length es) where
  abbrev right : Rights σ es (schema book) p sets
  right = world.rights

  pub entry-granted : (asked : ℕ → Bool) → ((j : ℕ) → asked j ≡ ((in_row sets e j && in_row sets (permission_row + q) j) && in_row sets what_row j)) → (r : Bool) → Decided sets asked r → r ≡ granted_at σ es e entry (2 ^ q)
  unfolding what_covers
  entry-granted = decided-granted σ es (schema book) p sets right entry q small (in_row sets what_row) (λ j b. right.items.what 0 j (omega arith) b) e l

  module _ (rank : ℕ) (known : rank < length (schema book)) where
    pub type-granted : (asked : ℕ → Bool) → ((j : ℕ) → asked j ≡ ((in_row sets e j && in_row sets (permission_row + q) j) && (in_row sets (what_row + 1) j || (in_row sets (what_row + 2) j || in_row sets (what_row + 3) j && in_row sets (type_row + rank) j)))) → (r : Bool) → Decided sets asked r
        → r ≡ granted_at σ es e (of_type (type_at (schema book) rank)) (2 ^ q)
    unfolding what_covers
    type-granted =
        decided-granted σ es (schema book) p sets right (of_type (type_at (schema book) rank)) q small (λ j. in_row sets (what_row + 1) j || (in_row sets (what_row + 2) j || in_row sets (what_row + 3) j && in_row sets (type_row + rank) j))
        (λ j b.
        ap₂ ◌||◌ (right.items.what 1 j (omega arith) b)
        (ap₂ ◌||◌ (right.items.what 2 j (omega arith) b) (ap₂ ◌&&◌ (right.items.what 3 j (omega arith) b) (right.items.type rank j known b))))
        e l

  module _ (rank : ℕ) (few : rank < type_count book) (v : Bytes) where
    known : rank < length (schema book)
    known = omega (arith, schema-length world.entries.fits, few)

    abbrev syntax : ℕ
    syntax = get_or book (schema_column + rank) 0 % 4

    -- slots, digest and bytes together tell whether the item is about this value
    same-equal : (j : ℕ) → j < length σ.items → same_at sets p syntax v j ≡ equal σ.schema (type_at (schema book) rank) (item_at σ.items right.order j).value v
    unfolding same_at agrees_at
    same-equal j b =
        let u : Bytes = (item_at σ.items right.order j).value in
        ap₂ ◌&&◌ (ap₂ ◌&&◌ (right.items.slot (first_slot (digest 0 v)) j (omega arith) (omega arith) b) (right.items.slot (second_slot (digest 0 v)) j (omega arith) (omega arith) b))
        (ap₂ ◌&&◌ (ap (λ (h : ℕ). eqb h (digest 0 v)) (right.items.digests j b)) (ap (λ (x : Bytes). equal_by syntax x v) (right.items.value j b)))
        ∙ slot-first syntax u v
        ∙ ap (λ (k : ℕ). equal_by (k % 4) u v) (sym (type-at book rank few))
        ∙ sym (equal-at (schema book) (type_at (schema book) rank) (get_or (schema book) rank 0 % 4) (syntax-ranked (schema book) world.entries.distinct rank known) u v)
        ∙ ap (λ (S : Schema). equal S (type_at (schema book) rank) u v) (sym world.entries.schema-is)

    value-about : (j : ℕ) → j < length σ.items
        → (in_row sets (what_row + 2) j || in_row sets (type_row + rank) j && (in_row sets (what_row + 4) j || in_row sets (what_row + 5) j && same_at sets p syntax v j))
        ≡ what_covers σ (item_at σ.items right.order j) (of_value (type_at (schema book) rank) v)
    unfolding what_covers
    value-about j b =
        ap₂ ◌||◌ (right.items.what 2 j (omega arith) b)
        (ap₂ ◌&&◌ (right.items.type rank j known b)
        (ap₂ ◌||◌ (right.items.what 4 j (omega arith) b) (ap₂ ◌&&◌ (right.items.what 5 j (omega arith) b) (same-equal j b))))

    pub value-granted : (all single : ℕ → Bool)
        → ((j : ℕ) → all j ≡ ((in_row sets e j && in_row sets (permission_row + q) j) && (in_row sets (what_row + 2) j || in_row sets (type_row + rank) j && in_row sets (what_row + 4) j)))
        → ((j : ℕ) → single j ≡ ((in_row sets e j && in_row sets (permission_row + q) j) && (in_row sets (type_row + rank) j && in_row sets (what_row + 5) j)))
        → (r : Bool) → Decided sets (λ j. all j || single j && same_at sets p syntax v j) r → r ≡ granted_at σ es e (of_value (type_at (schema book) rank) v) (2 ^ q)
    value-granted all single f g =
        decided-granted σ es (schema book) p sets right (of_value (type_at (schema book) rank) v) q small
        (λ j. in_row sets (what_row + 2) j || in_row sets (type_row + rank) j && (in_row sets (what_row + 4) j || in_row sets (what_row + 5) j && same_at sets p syntax v j)) value-about e l (λ j. all j || single j && same_at sets p syntax v j)
        (λ j.
        ap₂ (λ (a s : Bool). a || s && same_at sets p syntax v j) (f j) (g j)
        ∙ together (in_row sets e j) (in_row sets (permission_row + q) j) (in_row sets (what_row + 2) j) (in_row sets (type_row + rank) j) (in_row sets (what_row + 4) j) (in_row sets (what_row + 5) j) (same_at sets p syntax v j))
      where
        together : (e n a t b c k : Bool) → ((e && n) && (a || t && b) || ((e && n) && (t && c)) && k) ≡ ((e && n) && (a || t && (b || c && k)))
        together false n a t b c k = refl
        together true false a t b c k = refl
        together true true true t b c k = refl
        together true true false true b c k = refl
        together true true false false b c k = refl
