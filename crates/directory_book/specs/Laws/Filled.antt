-- Laws of `filled`: the counts and the columns of the book are the notes'.
use Rattle.std.specs.Prelude.{ℕ, ◌+◌, ◌*◌, ◌≤◌, ◌<◌, ◌≡◌, length, get_or, take, drop}
use Rattle.std.proofs.Math.Path.{refl, ap}
use Rattle.std.proofs.Common.{sym, ◌∙◌, arith, length-set, get_or-set_same, get_or-set_other}
use mathlib.Core.List.{List, [], ◌∷◌}
use Rattle.std.proofs.Math.ListN.{set}
use Rattle.tables.specs.Book.{FIRST-ROWS, schema_column, place_column, parent_column, naming_column, length_column, first_column, target_column, BOOK, width, type_count, entry_count, schema, naming_place, parent_at, naming_at, length_at, first_at, target_at}
use Rattle.directory_sheet.specs.declared.Notes.{Notes}
use Rattle.directory_book.specs.Filled.{column_put, places_of, filled}
use Rattle.directory_book.specs.Laws.Put.{put_on, put-skip, BookColumn, entered, stored_each, entered_on, put-length, put-here, put-before, number_at, number_of, places-length, place_of}

-- the notes' arrays have their lengths, and no more is counted than they hold
pub record Fit (r : Notes) : Type 0 where
  pub types : r.types ≤ 64
  pub count : r.count ≤ 256
  pub schema : length r.schema ≡ 64
  pub at : length r.at ≡ 256
  pub parents : length r.parents ≡ 256
  pub naming : length r.naming ≡ 256
  pub lengths : length r.lengths ≡ 256
  pub first : length r.first ≡ FIRST-ROWS
  pub targets : length r.targets ≡ 256

-- ---- the columns of the entries, entry by entry

abbrev later : Notes → List BookColumn
later r = record { place = parent_column; numbers = r.parents } ∷ record { place = naming_column; numbers = r.naming } ∷ record { place = length_column; numbers = r.lengths } ∷ record { place = first_column; numbers = r.first } ∷ record { place = target_column; numbers = r.targets } ∷ []

abbrev pub book_columns : ℕ → Notes → List BookColumn
book_columns w r = record { place = place_column; numbers = places_of w r.at } ∷ later r

pub entry-on : (w : ℕ) (r : Notes) (b : List ℕ) → Fit r → length b ≡ BOOK → (k : ℕ) → k < r.count → {now : List ℕ} → now ≡ entered (book_columns w r) k b
    → set (set (set (set (set (set now (place_column + k) (get_or r.at k 0 + 5 * w)) (parent_column + k) (get_or r.parents k 0)) (naming_column + k) (get_or r.naming k 0)) (length_column + k) (get_or r.lengths k 0)) (first_column + k) (get_or r.first k 0)) (target_column + k) (get_or r.targets k 0)
    ≡ entered (book_columns w r) (k + 1) b
entry-on w r b fit size k l e =
    ap (λ (x : List ℕ). stored_each (later r) k (set x (place_column + k) (get_or r.at k 0 + 5 * w))) e
    ∙ ap (λ (v : ℕ). stored_each (later r) k (set (entered (book_columns w r) k b) (place_column + k) v)) (sym (place_of w r.at k (omega (arith, l, fit.at, fit.count))))
    ∙ entered_on (book_columns w r) k b size
    ((omega arith, omega (arith, places-length w r.at)), omega arith, ((omega arith, omega arith), omega arith, ((omega arith, omega arith), omega arith, ((omega arith, omega arith), omega arith, ((omega arith, omega arith), omega arith, ((omega arith, omega arith), tt, tt))))))

-- the numbers of the notes, in the book
pub record Copied (w : ℕ) (r : Notes) (b : List ℕ) : Type 0 where
  pub size : length b ≡ BOOK
  pub width_is : width b ≡ w
  pub types_are : type_count b ≡ r.types
  pub entries-are : entry_count b ≡ r.count
  pub schema-is : schema b ≡ take r.types r.schema
  pub place_is : (k : ℕ) → k < r.count → naming_place b k ≡ get_or r.at k 0 + 5 * w
  pub parent_is : (k : ℕ) → k < r.count → parent_at b k ≡ get_or r.parents k 0
  pub naming-is : (k : ℕ) → k < r.count → naming_at b k ≡ get_or r.naming k 0
  pub length-is : (k : ℕ) → k < r.count → length_at b k ≡ get_or r.lengths k 0
  pub first-is : (k : ℕ) → k ≤ r.count → first_at b k ≡ get_or r.first k 0
  pub target_is : (k : ℕ) → k < r.count → target_at b k ≡ get_or r.targets k 0

module _ (w : ℕ) (r : Notes) (b : List ℕ) (fit : Fit r) (size : length b ≡ BOOK) where
  -- ---- the book after each column

  abbrev n : ℕ
  n = r.count

  abbrev b₀ : List ℕ
  b₀ = set (set (set b 0 w) 1 r.types) 2 n

  abbrev b₁ : List ℕ
  b₁ = column_put b₀ schema_column r.schema r.types

  abbrev b₂ : List ℕ
  b₂ = column_put b₁ place_column (places_of w r.at) n

  abbrev b₃ : List ℕ
  b₃ = column_put b₂ parent_column r.parents n

  abbrev b₄ : List ℕ
  b₄ = column_put b₃ naming_column r.naming n

  abbrev b₅ : List ℕ
  b₅ = column_put b₄ length_column r.lengths n

  abbrev b₆ : List ℕ
  b₆ = column_put b₅ first_column r.first (n + 1)

  pub size₀ : length b₀ ≡ BOOK
  size₀ = simp length-set size

  pub size₁ : length b₁ ≡ BOOK
  size₁ = put-length b₀ schema_column r.schema r.types (omega (arith, size₀)) (omega arith) ∙ size₀

  places : n ≤ length (places_of w r.at)
  places = omega (arith, places-length w r.at, fit.at, fit.count)

  size₂ : length b₂ ≡ BOOK
  size₂ = put-length b₁ place_column (places_of w r.at) n (omega (arith, size₁)) places ∙ size₁

  size₃ : length b₃ ≡ BOOK
  size₃ = put-length b₂ parent_column r.parents n (omega (arith, size₂)) (omega arith) ∙ size₂

  size₄ : length b₄ ≡ BOOK
  size₄ = put-length b₃ naming_column r.naming n (omega (arith, size₃)) (omega arith) ∙ size₃

  size₅ : length b₅ ≡ BOOK
  size₅ = put-length b₄ length_column r.lengths n (omega (arith, size₄)) (omega arith) ∙ size₄

  size₆ : length b₆ ≡ BOOK
  size₆ = put-length b₅ first_column r.first (n + 1) (omega (arith, size₅)) (omega arith) ∙ size₅

  size₇ : length (filled w r b) ≡ BOOK
  unfolding filled
  size₇ = put-length b₆ target_column r.targets n (omega (arith, size₆)) (omega arith) ∙ size₆

  -- ---- the last row after the last entry

  pub last_on : {now : List ℕ} → now ≡ entered (book_columns w r) n b₁ → set now (first_column + n) (get_or r.first n 0) ≡ filled w r b
  unfolding filled
  last_on e =
      ap (λ (x : List ℕ). set x (first_column + n) (get_or r.first n 0)) e
      ∙ put-skip (column_put b₅ first_column r.first n) target_column r.targets n (first_column + n) (get_or r.first n 0) (omega arith) (omega (arith, size₅, put-length b₅ first_column r.first n (omega (arith, size₅)) (omega arith)))
      ∙ ap (λ (x : List ℕ). column_put x target_column r.targets n) (put_on b₅ first_column r.first n refl (omega (arith, size₅)) (omega arith))

  -- ---- a part before the columns that come later

  before₁ : (j m : ℕ) → j + m ≤ schema_column → take m (drop j b₁) ≡ take m (drop j b₀)
  before₁ j m h = put-before b₀ schema_column r.schema r.types (omega (arith, size₀)) (omega arith) j m h

  before₂ : (j m : ℕ) → j + m ≤ place_column → take m (drop j b₂) ≡ take m (drop j b₁)
  before₂ j m h = put-before b₁ place_column (places_of w r.at) n (omega (arith, size₁)) places j m h

  before₃ : (j m : ℕ) → j + m ≤ parent_column → take m (drop j b₃) ≡ take m (drop j b₂)
  before₃ j m h = put-before b₂ parent_column r.parents n (omega (arith, size₂)) (omega arith) j m h

  before₄ : (j m : ℕ) → j + m ≤ naming_column → take m (drop j b₄) ≡ take m (drop j b₃)
  before₄ j m h = put-before b₃ naming_column r.naming n (omega (arith, size₃)) (omega arith) j m h

  before₅ : (j m : ℕ) → j + m ≤ length_column → take m (drop j b₅) ≡ take m (drop j b₄)
  before₅ j m h = put-before b₄ length_column r.lengths n (omega (arith, size₄)) (omega arith) j m h

  before₇ : (j m : ℕ) → j + m ≤ target_column → take m (drop j (filled w r b)) ≡ take m (drop j b₆)
  unfolding filled
  before₇ j m h = put-before b₆ target_column r.targets n (omega (arith, size₆)) (omega arith) j m h

  before₆ : (j m : ℕ) → j + m ≤ first_column → take m (drop j (filled w r b)) ≡ take m (drop j b₅)
  before₆ j m h = before₇ j m (omega arith) ∙ put-before b₅ first_column r.first (n + 1) (omega (arith, size₅)) (omega arith) j m h

  -- ---- the columns

  -- a part before the columns of the entries, and those after the places
  head_at_lem : (j m : ℕ) → j + m ≤ parent_column → take m (drop j (filled w r b)) ≡ take m (drop j b₂)
  head_at_lem j m h = before₆ j m (omega arith) ∙ before₅ j m (omega arith) ∙ before₄ j m (omega arith) ∙ before₃ j m h

  schema-at : take r.types (drop schema_column (filled w r b)) ≡ take r.types r.schema
  schema-at =
      head_at_lem schema_column r.types (omega arith) ∙ before₂ schema_column r.types (omega arith)
      ∙ put-here b₀ schema_column r.schema r.types (omega (arith, size₀)) (omega arith)

  module _ (k : ℕ) (l : k < n) where
    place_at_lem : naming_place (filled w r b) k ≡ get_or r.at k 0 + 5 * w
    place_at_lem =
        number_of (filled w r b) (places_of w r.at) place_column n k (head_at_lem place_column n (omega arith) ∙ put-here b₁ place_column (places_of w r.at) n (omega (arith, size₁)) places) l
        ∙ place_of w r.at k (omega (arith, l, fit.at, fit.count))

    parent-at : parent_at (filled w r b) k ≡ get_or r.parents k 0
    parent-at =
        number_of (filled w r b) r.parents parent_column n k
        (before₆ parent_column n (omega arith) ∙ before₅ parent_column n (omega arith) ∙ before₄ parent_column n (omega arith) ∙ put-here b₂ parent_column r.parents n (omega (arith, size₂)) (omega arith)) l

    naming-at : naming_at (filled w r b) k ≡ get_or r.naming k 0
    naming-at =
        number_of (filled w r b) r.naming naming_column n k
        (before₆ naming_column n (omega arith) ∙ before₅ naming_column n (omega arith) ∙ put-here b₃ naming_column r.naming n (omega (arith, size₃)) (omega arith)) l

    length-at : length_at (filled w r b) k ≡ get_or r.lengths k 0
    length-at =
        number_of (filled w r b) r.lengths length_column n k (before₆ length_column n (omega arith) ∙ put-here b₄ length_column r.lengths n (omega (arith, size₄)) (omega arith)) l

  first-at : (k : ℕ) → k ≤ n → first_at (filled w r b) k ≡ get_or r.first k 0
  first-at k h = number_of (filled w r b) r.first first_column (n + 1) k (before₇ first_column (n + 1) (omega arith) ∙ put-here b₅ first_column r.first (n + 1) (omega (arith, size₅)) (omega arith)) (omega arith)

  target_at_lem : (k : ℕ) → k < n → target_at (filled w r b) k ≡ get_or r.targets k 0
  unfolding filled
  target_at_lem k l = number_of (filled w r b) r.targets target_column n k (put-here b₆ target_column r.targets n (omega (arith, size₆)) (omega arith)) l

  -- ---- the counts

  count_at : (k : ℕ) → k < schema_column → get_or (filled w r b) k 0 ≡ get_or b₀ k 0
  count_at k h =
      sym (number_at (filled w r b) k)
      ∙ ap (λ (x : List ℕ). get_or x 0 0) (head_at_lem k 1 (omega arith) ∙ before₂ k 1 (omega arith) ∙ before₁ k 1 (omega arith))
      ∙ number_at b₀ k

  width-at : width (filled w r b) ≡ w
  width-at =
      count_at 0 (omega arith)
      ∙ get_or-set_other (set (set b 0 w) 1 r.types) 2 0 n 0 (λ e. omega arith)
      ∙ get_or-set_other (set b 0 w) 1 0 r.types 0 (λ e. omega arith)
      ∙ get_or-set_same b 0 w 0 (omega arith)

  types-at : type_count (filled w r b) ≡ r.types
  types-at =
      count_at 1 (omega arith)
      ∙ get_or-set_other (set (set b 0 w) 1 r.types) 2 1 n 0 (λ e. omega arith)
      ∙ get_or-set_same (set b 0 w) 1 r.types 0 (simp length-set (omega arith))

  entries_at : entry_count (filled w r b) ≡ n
  entries_at = count_at 2 (omega arith) ∙ get_or-set_same (set (set b 0 w) 1 r.types) 2 n 0 (simp length-set (omega arith))

  pub copied : Copied w r (filled w r b)
  unfolding schema
  copied = record {
    size = size₇;
    width_is = width-at;
    types_are = types-at;
    entries-are = entries_at;
    schema-is = rw types-at schema-at;
    place_is = place_at_lem;
    parent_is = parent-at;
    naming-is = naming-at;
    length-is = length-at;
    first-is = first-at;
    target_is = target_at_lem;
  }
