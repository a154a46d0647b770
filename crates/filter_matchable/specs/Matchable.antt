-- What was asked for an entry before the items of a filter: FilterMatch on its types and values, a bit for each.
use Rattle.std.specs.Prelude.{ℕ, suc, ◌+◌, ◌-◌, ◌/◌, ◌%◌, ◌≤◌, ◌<◌, ◌≡◌, Bool, true, ◌&&◌, List, length, get_or}
use Rattle.rules.specs.Sheet.{Bytes}
use Rattle.rules.specs.Directory.{Stored}
use Rattle.rules.specs.Permission.{FilterMatch}
use Rattle.rules.specs.Decision.{Setting, of_type, of_value}
use Rattle.access_set.specs.Member.{bit_of}
use Rattle.tables.specs.Book.{type_count, schema, first_at}
use Rattle.tables.specs.Held.{ROWS, rank_at, place_at, size_at, bytes_at, type_at}
use Rattle.tables.specs.Sets.{granted_at}
use Rattle.filter_lines.specs.Lines.{type_rank}

-- bit `j` of a row of words
unfoldable pub bit_at : List ℕ → ℕ → Bool
bit_at words j = bit_of (get_or words (j / 64) 0) (j % 64)

-- FilterMatch on the value in row `i` of entry number `e`, if its rank is asked about
abbrev pub value_seen : Setting → List Stored → Bytes → List ℕ → List ℕ → ℕ → ℕ → ℕ → Bool
value_seen σ es d book held e asked i = bit_of asked (rank_at held i) && granted_at σ es e (of_value (type_at (schema book) (rank_at held i)) (bytes_at d held i)) FilterMatch

-- the bits of the first `n` types: FilterMatch on each in entry number `e`, if it is asked about
pub record MatchableTypes (σ : Setting) (es : List Stored) (book : List ℕ) (e asked n x : ℕ) : Type 0 where
  pub type : (r : ℕ) → r < n → bit_of x r ≡ (bit_of asked r && granted_at σ es e (of_type (type_at (schema book) r)) FilterMatch)

-- the bits of the values in the rows before `end` of the entry of index `k`
pub record MatchableValues (σ : Setting) (es : List Stored) (d : Bytes) (book held : List ℕ) (k asked end : ℕ) (values : List ℕ) : Type 0 where
  pub value : (i : ℕ) → first_at book k ≤ i → i < end → bit_at values (i - first_at book k) ≡ value_seen σ es d book held (suc k) asked i

-- the bits of all types and of all values of the entry of index `k`
pub record MatchableAt (σ : Setting) (es : List Stored) (d : Bytes) (book held : List ℕ) (k asked type_count : ℕ) (values : List ℕ) : Type 0 where
  pub types-matchable : MatchableTypes σ es book (suc k) asked (length (schema book)) type_count
  pub values-matchable : MatchableValues σ es d book held k asked (first_at book (suc k)) values

-- the type of line `line`, if the schema has it, is asked about
abbrev pub AskedIn : List ℕ → List ℕ → ℕ → ℕ → Type 0
AskedIn book rows line asked = type_rank rows line < type_count book → bit_of asked (type_rank rows line) ≡ true

-- the bytes of the rows from `first` to `end` are parts of the directory, and few
pub record RowsWithin (d : Bytes) (held : List ℕ) (first end : ℕ) : Type 0 where
  pub room : end ≤ ROWS
  pub part : (i : ℕ) → first ≤ i → i < end → place_at held i + size_at held i ≤ length d
  pub short : (i : ℕ) → first ≤ i → i < end → size_at held i ≤ 64
