-- Laws of the rows of an entry: they lie within the table and the directory, and the permissions on them are those of its full name.
use Rattle.std.specs.Prelude.{ℕ, zero, suc, ◌+◌, ◌-◌, ◌/◌, ◌≤◌, ◌<◌, ◌≡◌, refl, List, [], ◌∷◌, length, get_or, take, drop}
use Rattle.std.proofs.Common.{zero-le, suc-le-suc, sym, ap, ◌∙◌, subst, arith, length-drop}
use Rattle.std.proofs.Math.Decide.{dec_lt}
use Rattle.rules.specs.Sheet.{Bytes}
use Rattle.rules.specs.Directory.{Stored, blank, name_at}
use Rattle.rules.specs.Decision.{Setting, Thing, granted}
use Rattle.tables.specs.Book.{schema_column, type_count, entry_count, schema, first_at}
use Rattle.tables.specs.Laws.Book.{schema-length, type-at}
use Rattle.tables.specs.Held.{rank_at, place_at, size_at, type_at, HeldAt}
use Rattle.tables.specs.Sets.{granted_at}
use Rattle.tables.specs.World.{Entries}
use Rattle.tables.specs.Laws.World as World
use Rattle.answer_information.specs.Information.{OneRank}

-- ---- the entry of number `e`

pub index-suc : (e : ℕ) → 1 ≤ e → e ≡ suc (e - 1)
index-suc zero h = absurd (omega arith)
index-suc (suc k) h = omega arith

-- what is granted on it is granted on its full name
pub granted-named : (σ : Setting) (es : List Stored) (e : ℕ) → 1 ≤ e → (x : Thing) (q : ℕ) → granted_at σ es e x q ≡ granted σ (name_at es e) x q
unfolding granted_at name_at
granted-named σ es zero h x q = absurd (omega arith)
granted-named σ es (suc k) h x q = refl

module _ {σ : Setting} {es : List Stored} {d : Bytes} {book held : List ℕ} (E : Entries σ es d book held) where
  pub ranked : (rank : ℕ) → rank < type_count book → rank < length (schema book)
  ranked rank l = omega (arith, l, schema-length E.fits)

  -- the number of a type, as the code makes it
  pub type-number : (rank : ℕ) → rank < type_count book → get_or book (schema_column + rank) 0 / 4 ≡ type_at (schema book) rank
  type-number rank l = ap (λ (x : ℕ). x / 4) (sym (type-at book rank l))

  module _ (e : ℕ) (some : 1 ≤ e) (entry : e ≤ entry_count book) where
    pub there : e ≤ length es
    there = omega (arith, entry, E.count)

    index : e - 1 < entry_count book
    index = omega (arith, some, entry)

    -- its rows
    pub rows_of : HeldAt (schema book) d (get_or es (e - 1) blank).values held (first_at book (e - 1)) (first_at book e)
    rows_of =
        subst (λ (n : ℕ). HeldAt (schema book) d (get_or es (e - 1) blank).values held (first_at book (e - 1)) (first_at book n)) (sym (index-suc e some)) (World.rows_of E (e - 1) index)

    -- a row lies within the directory, and so its bytes are few
    module _ (i : ℕ) (from : first_at book (e - 1) ≤ i) (until : i < first_at book e) where
      before : i < first_at book (suc (e - 1))
      before = subst (λ (n : ℕ). i < first_at book n) (index-suc e some) until

      pub row-rank : rank_at held i < type_count book
      row-rank = World.rank-within E (e - 1) index i from before

      pub row_within : place_at held i + size_at held i ≤ length d
      row_within = World.bytes-within E (e - 1) index i from before

take_short : (n : ℕ) (l : Bytes) → length (take n l) ≤ length l
take_short zero l = zero-le
take_short (suc n) [] = zero-le
take_short (suc n) (x ∷ xs) = suc-le-suc (take_short n xs)

pub part-few : (d : Bytes) (place n : ℕ) → length (take n (drop place d)) ≤ length d
part-few d place n = omega (arith, take_short n (drop place d), length-drop place d)

-- ---- rows of one rank

module _ (held : List ℕ) (i end : ℕ) where
  pub alike-start : i < end → OneRank held i end (i + 1)
  alike-start l = record {
    after = omega arith;
    within = omega (arith, l);
    same = λ j a b. ap (λ (m : ℕ). rank_at held m) (omega (arith, a, b));
  }

  pub alike-on : (r : ℕ) → OneRank held i end r → r < end → rank_at held r ≡ rank_at held i → OneRank held i end (r + 1)
  alike-on r a l e = record {
    after = omega (arith, a.after);
    within = omega (arith, l);
    same = λ j f g. go j f g (dec_lt j r);
  }
    where
      go : (j : ℕ) → i ≤ j → j < r + 1 → Dec (j < r) → rank_at held j ≡ rank_at held i
      go j f g (yes h) = a.same j f h
      go j f g (no h) = let q : j ≡ r = omega (arith, g, h) in ap (λ (m : ℕ). rank_at held m) q ∙ e
