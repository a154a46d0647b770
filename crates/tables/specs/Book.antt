-- The book: the numbers noted of the directory's schema and entries, in one table. Three counts come first, then the columns, each at a fixed place.
use Rattle.std.specs.Prelude.{ℕ, ◌+◌, ◌≤◌, ◌≡◌, List, length, get_or, take, drop}
use Rattle.rules.specs.Sheet.{Bytes}

-- the row of each entry's first value, of 256 entries, and the row after the last value
abbrev pub FIRST-ROWS : ℕ
FIRST-ROWS = 257

-- where the columns begin, each after the one before it: 8 numbers for the counts, 64 for the types, 256 each for the entries
abbrev pub schema_column : ℕ
schema_column = 8

abbrev pub place_column : ℕ
place_column = schema_column + 64

abbrev pub parent_column : ℕ
parent_column = place_column + 256

abbrev pub naming_column : ℕ
naming_column = parent_column + 256

abbrev pub length_column : ℕ
length_column = naming_column + 256

abbrev pub first_column : ℕ
first_column = length_column + 256

abbrev pub target_column : ℕ
target_column = first_column + FIRST-ROWS

-- how many numbers the book has
abbrev pub BOOK : ℕ
BOOK = target_column + 256

-- the width of a column of the sheets, and how many types and entries there are
abbrev pub width : List ℕ → ℕ
width b = get_or b 0 0

abbrev pub type_count : List ℕ → ℕ
type_count b = get_or b 1 0

abbrev pub entry_count : List ℕ → ℕ
entry_count b = get_or b 2 0

-- the schema, a number for each type
unfoldable pub schema : List ℕ → List ℕ
schema b = take (type_count b) (drop schema_column b)

-- of the entry of index `k`: where its naming value's bytes begin on the directory, its parent's number, its naming type, the length of that value
abbrev pub naming_place : List ℕ → ℕ → ℕ
naming_place b k = get_or b (place_column + k) 0

abbrev pub parent_at : List ℕ → ℕ → ℕ
parent_at b k = get_or b (parent_column + k) 0

abbrev pub naming_at : List ℕ → ℕ → ℕ
naming_at b k = get_or b (naming_column + k) 0

abbrev pub length_at : List ℕ → ℕ → ℕ
length_at b k = get_or b (length_column + k) 0

-- the bytes of its naming value, a part of the directory
abbrev pub naming_of : List ℕ → Bytes → ℕ → Bytes
naming_of b d k = take (length_at b k) (drop (naming_place b k) d)

-- the parents' numbers, as a column
unfoldable pub parents : List ℕ → List ℕ
parents b = take (entry_count b) (drop parent_column b)

-- the row of the first value of the entry of index `k`; the values of an entry end where those of the next begin
abbrev pub first_at : List ℕ → ℕ → ℕ
first_at b k = get_or b (first_column + k) 0

-- the target of the entry of index `k`: 0 where it is no alias, else where its K 9 lines begin, times 16, and how many they are
abbrev pub target_at : List ℕ → ℕ → ℕ
target_at b k = get_or b (target_column + k) 0

-- a table of the book's size, with counts that its columns have room for
pub record BookFits (b : List ℕ) : Type 0 where
  pub size : length b ≡ BOOK
  pub narrow : 6 ≤ width b
  pub wide : width b ≤ 18
  pub few-types : type_count b ≤ 64
  pub few-entries : entry_count b ≤ 256
