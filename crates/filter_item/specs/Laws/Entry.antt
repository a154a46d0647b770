-- The rows of an entry are its values: what is found by them is what the rules ask of the entry.
use Rattle.std.specs.Prelude.{ℕ, suc, ◌+◌, ◌-◌, ◌%◌, ◌≤◌, ◌<◌, ◌≡◌, Bool, true, false, ◌&&◌, ◌||◌, List, [], ◌∷◌, length, get_or, Some}
use Rattle.std.proofs.Math.Path.{refl, sym, ap, ap₂}
use Rattle.std.proofs.Common.{◌∙◌, arith, eq-eqb, ne_eqb, eqb-true}
use Rattle.std.proofs.Math.Bool.{cond}
use Rattle.std.proofs.Math.Dec.{eqb}
use Rattle.std.proofs.lemmas.Bool.{eqb-false}
use Rattle.rules.specs.Lists.{any}
use Rattle.rules.specs.Sheet.{Bytes}
use Rattle.rules.specs.Value.{Piece}
use Rattle.rules.specs.Name.{Name, Part, part}
use Rattle.rules.specs.Directory.{Stored, blank, held_of, entry_of}
use Rattle.rules.specs.Permission.{FilterMatch}
use Rattle.rules.specs.Decision.{Setting, of_type, of_value, granted}
use Rattle.rules.specs.Filter.{truth}
use Rattle.rules.specs.FilterItem.{holds, some_value, item_truth}
use Rattle.rules.proofs.Laws.Held.{holds-flat, some_value-flat}
use Rattle.rules.specs.declared.Truth.{Truth}
use Rattle.rules.specs.declared.Truth.TheVariants.{Undefined}
use Rattle.name.specs.Schema.{rank_in, syntax_in}
use Rattle.name.specs.Laws.Schema.{rank-type, syntax-known, syntax-unknown}
use Rattle.access_set.specs.Member.{bit_of}
use Rattle.tables.specs.Book.{first_column, schema_column, type_count, schema, first_at}
use Rattle.tables.specs.Held.{rank_at, bytes_at, type_at, ValueAt}
use Rattle.tables.specs.Sets.{granted_at}
use Rattle.tables.specs.World.{Entries}
use Rattle.tables.specs.Laws.Book.{end_is, schema-length, type-at}
use Rattle.filter_matchable.specs.Matchable.{bit_at, MatchableAt}
use Rattle.filter_item.specs.Rows.{some_from, matchable_at, held_row, some_row}
use Rattle.filter_item.specs.Items.{assertion_by, defined_by, passes_by, satisfied_in}
use Rattle.filter_item.specs.Laws.Items.{counts_by, satisfied_by, item-unknown, item-undecided, item-decided}

-- rows in turn, and parts in turn
some-parts : (p : ℕ → Bool) (f : Part → Bool) (vs : List Part) (first : ℕ) → ((j : ℕ) → j < length vs → p (first + j) ≡ f (get_or vs j (part 0 []))) → some_from p first (length vs) ≡ any f vs
unfolding some_from
some-parts p f [] first h = refl
some-parts p f (v ∷ vs) first h =
    let z : first + 0 ≡ first = omega arith in
    ap₂ ◌||◌ (ap p (sym z) ∙ h 0 (omega arith))
    (some-parts p f vs (suc first) (λ j l. let y : suc first + j ≡ first + suc j = omega arith in ap p y ∙ h (suc j) (omega arith)))

module _ (σ : Setting) (es : List Stored) (d : Bytes) (book held : List ℕ) (noted : Entries σ es d book held) (k : ℕ) (l : k < length es) (rank : ℕ) (known : rank < length (schema book)) where
  abbrev parts : List Part
  parts = (get_or es k blank).values

  abbrev name : Name
  name = (get_or es k blank).name

  abbrev t : ℕ
  t = type_at (schema book) rank

  row : (j : ℕ) → j < length parts → ValueAt (schema book) d (get_or parts j (part 0 [])) held (first_at book k + j)
  row j m = (noted.values k l).row j m

  count : first_at book (suc k) - first_at book k ≡ length parts
  count = omega (arith, (noted.values k l).count)

  -- ranks are equal where types are
  same_rank : (j : ℕ) → j < length parts → eqb (rank_at held (first_at book k + j)) rank ≡ eqb (get_or parts j (part 0 [])).type t
  same_rank j m = go (eqb (rank_at held (first_at book k + j)) rank) refl
    where
      go : (b : Bool) → eqb (rank_at held (first_at book k + j)) rank ≡ b → b ≡ eqb (get_or parts j (part 0 [])).type t
      go true e = sym (eq-eqb (get_or parts j (part 0 [])).type t (sym (row j m).type ∙ ap (type_at (schema book)) (eqb-true (rank_at held (first_at book k + j)) rank e)))
      go false e = sym (ne_eqb (get_or parts j (part 0 [])).type t (λ q. eqb-false (rank_at held (first_at book k + j)) rank e (noted.distinct (rank_at held (first_at book k + j)) rank (row j m).rank known ((row j m).type ∙ q))))

  held_in : held_row held (first_at book k) (first_at book (suc k)) rank ≡ holds (record { name = name; held = held_of parts }) t
  unfolding held_row
  held_in =
      ap (some_from (λ i. eqb (rank_at held i) rank) (first_at book k)) count
      ∙ some-parts (λ i. eqb (rank_at held i) rank) (λ p. eqb p.type t) parts (first_at book k) same_rank
      ∙ sym (holds-flat name parts t)

  module _ (asked type_count : ℕ) (values : List ℕ) (seen : MatchableAt σ es d book held k asked type_count values) (wanted : bit_of asked rank ≡ true) where
    -- a row counts where its value does
    row_counts : (test : Bytes → Bool) (j : ℕ) → j < length parts
        → (matchable_at held values (first_at book k) rank (first_at book k + j) && test (bytes_at d held (first_at book k + j))) ≡ counts_by σ name t FilterMatch test (get_or parts j (part 0 []))
    unfolding matchable_at granted_at
    row_counts test j m = go (eqb (rank_at held (first_at book k + j)) rank) refl
      where
        granted-row : rank_at held (first_at book k + j) ≡ rank
            → bit_at values (first_at book k + j - first_at book k) ≡ granted σ name (of_value (get_or parts j (part 0 [])).type (get_or parts j (part 0 [])).value) FilterMatch
        granted-row e =
            seen.values-matchable.value (first_at book k + j) (omega arith) (omega (arith, m, (noted.values k l).count))
            ∙ ap (λ (b : Bool). b && granted_at σ es (suc k) (of_value (type_at (schema book) (rank_at held (first_at book k + j))) (bytes_at d held (first_at book k + j))) FilterMatch) (ap (bit_of asked) e ∙ wanted)
            ∙ ap₂ (λ (x : ℕ) (u : Bytes). granted σ name (of_value x u) FilterMatch) (row j m).type (row j m).value

        go : (b : Bool) → eqb (rank_at held (first_at book k + j)) rank ≡ b
            → ((b && bit_at values (first_at book k + j - first_at book k)) && test (bytes_at d held (first_at book k + j))) ≡ counts_by σ name t FilterMatch test (get_or parts j (part 0 []))
        go true e =
            ap₂ ◌&&◌ (granted-row (eqb-true (rank_at held (first_at book k + j)) rank e)) (ap test (row j m).value)
            ∙ ap (λ (b : Bool). b && (granted σ name (of_value (get_or parts j (part 0 [])).type (get_or parts j (part 0 [])).value) FilterMatch && test (get_or parts j (part 0 [])).value)) (sym e ∙ same_rank j m)
        go false e = ap (λ (b : Bool). b && (granted σ name (of_value (get_or parts j (part 0 [])).type (get_or parts j (part 0 [])).value) FilterMatch && test (get_or parts j (part 0 [])).value)) (sym e ∙ same_rank j m)

    some_in : (test : Bytes → Bool) → some_row d held values (first_at book k) (first_at book (suc k)) rank test ≡ some_value σ (record { name = name; held = held_of parts }) t FilterMatch test
    unfolding some_row
    some_in test =
        ap (some_from (λ i. matchable_at held values (first_at book k) rank i && test (bytes_at d held i)) (first_at book k)) count
        ∙ some-parts (λ i. matchable_at held values (first_at book k) rank i && test (bytes_at d held i)) (counts_by σ name t FilterMatch test) parts (first_at book k) (row_counts test)
        ∙ sym (some_value-flat σ name parts t FilterMatch test)

    satisfied-in : (s kind : ℕ) (ps : List Piece) (v : Bytes)
        → satisfied_in d held values (first_at book k) (first_at book (suc k)) rank s kind ps v ≡ satisfied_by σ (record { name = name; held = held_of parts }) s kind t ps v
    unfolding satisfied_in satisfied_by
    satisfied-in s kind ps v = ap₂ (λ (a b : Bool). cond (eqb kind 26) a b) held_in (some_in (passes_by s kind ps v))

-- ---- the item's truth: a law for each way through the code

module _ (σ : Setting) (es : List Stored) (d : Bytes) (book held : List ℕ) (noted : Entries σ es d book held) (k : ℕ) (l : k < length es)
    (kind t place : ℕ) (v : Bytes) (ps : List Piece) (is : place ≡ rank_in (schema book) t) where
  abbrev found : Truth
  found = item_truth σ (entry_of (get_or es k blank)) (assertion_by kind t v ps)

  pub item-beyond : type_count book ≤ place → Undefined ≡ found
  unfolding entry_of
  item-beyond b =
      sym (item-unknown σ (get_or es k blank).name (get_or es k blank).values (schema book) noted.schema-is kind t v ps (syntax-unknown (schema book) t (omega (arith, b, is, schema-length noted.fits))))

  module _ (few : place < type_count book) where
    known : place < length (schema book)
    known = omega (arith, few, schema-length noted.fits)

    type-is : type_at (schema book) place ≡ t
    type-is = ap (type_at (schema book)) is ∙ rank-type (schema book) t (rw is at known)

    abbrev syntax : ℕ
    syntax = get_or book (schema_column + place) 0 % 4

    with-syntax : syntax_in (schema book) t ≡ Some syntax
    with-syntax = syntax-known (schema book) t (rw is at known) ∙ ap (λ (i : ℕ). Some (get_or (schema book) i 0 % 4)) (sym is) ∙ ap (λ (x : ℕ). Some (x % 4)) (type-at book place few)

    undecided : (defined_by syntax kind ps v && granted σ (get_or es k blank).name (of_type t) FilterMatch) ≡ false → Undefined ≡ found
    unfolding entry_of
    undecided h = sym (item-undecided σ (get_or es k blank).name (get_or es k blank).values (schema book) noted.schema-is kind t v ps syntax with-syntax h)

    module _ (asked type_count : ℕ) (values : List ℕ) (seen : MatchableAt σ es d book held k asked type_count values) (wanted : bit_of asked place ≡ true) where
      -- the type's bit
      type-bit : bit_of type_count place ≡ granted σ (get_or es k blank).name (of_type t) FilterMatch
      unfolding granted_at
      type-bit =
          seen.types-matchable.type place known
          ∙ ap (λ (b : Bool). b && granted_at σ es (suc k) (of_type (type_at (schema book) place)) FilterMatch) wanted
          ∙ ap (λ (x : ℕ). granted σ (get_or es k blank).name (of_type x) FilterMatch) type-is

      swapped : (bit_of type_count place && defined_by syntax kind ps v) ≡ (defined_by syntax kind ps v && granted σ (get_or es k blank).name (of_type t) FilterMatch)
      swapped = ap (λ (b : Bool). b && defined_by syntax kind ps v) type-bit ∙ swap (granted σ (get_or es k blank).name (of_type t) FilterMatch) (defined_by syntax kind ps v)
        where
          swap : (a b : Bool) → (a && b) ≡ (b && a)
          swap true true = refl
          swap true false = refl
          swap false true = refl
          swap false false = refl

      -- `b` is whether the item is decidable, `c` whether it is satisfied, as the code found it
      pub item-undecidable : (b : Bool) → b ≡ (bit_of type_count place && defined_by syntax kind ps v) → b ≡ false → Undefined ≡ found
      item-undecidable b e h = undecided (sym swapped ∙ sym e ∙ h)

      told : (bit_of type_count place && defined_by syntax kind ps v) ≡ true → truth (satisfied_in d held values (first_at book k) (first_at book (suc k)) place syntax kind ps v) ≡ found
      unfolding entry_of
      told h =
          ap truth (satisfied-in σ es d book held noted k l place known asked type_count values seen wanted syntax kind ps v)
          ∙ ap (λ (x : ℕ). truth (satisfied_by σ (record { name = (get_or es k blank).name; held = held_of (get_or es k blank).values }) syntax kind x ps v)) type-is
          ∙ sym (item-decided σ (get_or es k blank).name (get_or es k blank).values (schema book) noted.schema-is kind t v ps syntax with-syntax (sym swapped ∙ h))

      pub item-told : (b c : Bool) (r : Truth) → b ≡ (bit_of type_count place && defined_by syntax kind ps v) → b ≡ true
          → c ≡ satisfied_in d held values (first_at book k) (get_or book (first_column + 1 + k) 0) place syntax kind ps v → r ≡ truth c → r ≡ found
      item-told b c r e h s q = q ∙ ap truth (s ∙ ap (λ (end : ℕ). satisfied_in d held values (first_at book k) end place syntax kind ps v) (end_is book k)) ∙ told (sym e ∙ h)
