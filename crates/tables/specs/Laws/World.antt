-- Laws of `World`: what single numbers of the tables stand for.
use Rattle.std.specs.Prelude.{ℕ, suc, ◌+◌, ◌-◌, ◌≤◌, ◌<◌, ◌≡◌, List, length, get_or}
use Rattle.std.proofs.Common.{arith, add-one}
use Rattle.rules.specs.Sheet.{Bytes}
use Rattle.rules.specs.Directory.{Stored, blank}
use Rattle.rules.specs.Decision.{Setting, Thing, granted}
use Rattle.tables.specs.Book.{type_count, entry_count, schema, parent_at, first_at}
use Rattle.tables.specs.Held.{ROWS, rank_at, place_at, size_at, HeldAt}
use Rattle.tables.specs.Sets.{granted_at}
use Rattle.tables.specs.World.{EntryAt, Entries, Known, KnownEntry, KnownTypes}
use Rattle.tables.specs.Laws.Book.{schema-length}
use Rattle.tables.specs.Laws.Held.{row_at}

-- a permission on the entry of index `k`, by its number as the code has it
pub granted-next : (σ : Setting) (es : List Stored) (k : ℕ) (x : Thing) (q : ℕ) → granted_at σ es (k + 1) x q ≡ granted σ (get_or es k blank).name x q
unfolding granted_at
granted-next σ es k x q = rw (add-one k)

module _ {σ : Setting} {es : List Stored} {d : Bytes} {book held : List ℕ} (h : Entries σ es d book held) (k : ℕ) (l : k < entry_count book) where
  pub inside : k < length es
  inside = omega (arith, l, h.count)

  pub entry_at : EntryAt d (get_or es k blank) book k
  entry_at = h.listed k inside

  pub parent_is : parent_at book k ≡ (get_or es k blank).parent
  parent_is = entry_at.parent

  -- "a parent number that is not below the entry's own" is refused
  pub parent-falls : parent_at book k ≤ k
  parent-falls = omega (arith, parent_is, h.accepted.parents k inside)

  -- the rows of the entry's values
  pub rows_of : HeldAt (schema book) d (get_or es k blank).values held (first_at book k) (first_at book (suc k))
  rows_of = h.values k inside

  pub rows-within : (first_at book k ≤ first_at book (suc k)) × (first_at book (suc k) ≤ ROWS)
  rows-within = (omega (arith, rows_of.count), rows_of.room)

  module _ (i : ℕ) (from : first_at book k ≤ i) (to : i < first_at book (suc k)) where
    pub rank-within : rank_at held i < type_count book
    rank-within = omega (arith, (row_at rows_of i from to).rank, schema-length h.fits)

    pub bytes-within : place_at held i + size_at held i ≤ length d
    bytes-within = (row_at rows_of i from to).within

    pub bytes-short : size_at held i ≤ 64
    bytes-short = (row_at rows_of i from to).short

-- ---- what is known of the sets alone

module _ {d p : Bytes} {book held sets : List ℕ} (h : Known d p book held sets) (e : ℕ) (l : e ≤ entry_count book) where
  pub known-entry : KnownEntry sets e
  known-entry = (h.0, h.1, d, p, book, held, h.2, omega (arith, l, h.2.entries.count))

  pub known-types : (n : ℕ) → n ≤ type_count book → KnownTypes sets e n
  known-types n m = (h.0, h.1, d, p, book, held, h.2, omega (arith, l, h.2.entries.count), omega (arith, m, schema-length h.2.entries.fits))

pub entry-most : {sets : List ℕ} {e : ℕ} → KnownEntry sets e → e ≤ 256
entry-most (σ, es, d, p, book, held, w, l) = omega (arith, l, w.entries.count, w.entries.fits.few-entries)

pub types-most : {sets : List ℕ} {e n : ℕ} → KnownTypes sets e n → (e ≤ 256) × (n ≤ 64)
types-most (σ, es, d, p, book, held, w, l, m) =
    (omega (arith, l, w.entries.count, w.entries.fits.few-entries), omega (arith, m, schema-length w.entries.fits, w.entries.fits.few-types))

pub types-fewer : {sets : List ℕ} {e n : ℕ} → KnownTypes sets e n → (m : ℕ) → m ≤ n → KnownTypes sets e m
types-fewer (σ, es, d, p, book, held, w, l, h) m k = (σ, es, d, p, book, held, w, l, omega (arith, h, k))
