-- The values that the entries hold, K 3, in directory order: each by three numbers, the rank of its type in the schema, where its bytes begin on
-- the directory, and how many they are. The ranks come first, then the places, then the sizes.
use Rattle.std.specs.Prelude.{ℕ, ◌+◌, ◌*◌, ◌/◌, ◌≤◌, ◌<◌, ◌≡◌, List, [], length, get_or, take, drop, replicate}
use Rattle.rules.specs.Sheet.{Bytes}
use Rattle.rules.specs.Name.{Part, part}

-- how many rows there are: a directory has at most 65,536 bytes, and a line at least 31, five columns of 6 bytes and its end
abbrev pub ROWS : ℕ
ROWS = 65536 / 31 + 1

-- how many numbers, three columns of the rows
abbrev pub HELD : ℕ
HELD = 3 * ROWS

-- where the sizes begin, after the ranks and the places
abbrev pub sizes : ℕ
sizes = 2 * ROWS

-- the table with no value
abbrev pub none_held : List ℕ
none_held = replicate HELD 0

-- the numbers of row `i`
abbrev pub rank_at : List ℕ → ℕ → ℕ
rank_at h i = get_or h i 0

abbrev pub place_at : List ℕ → ℕ → ℕ
place_at h i = get_or h (ROWS + i) 0

abbrev pub size_at : List ℕ → ℕ → ℕ
size_at h i = get_or h (sizes + i) 0

-- the bytes of row `i`, a part of the directory
abbrev pub bytes_at : Bytes → List ℕ → ℕ → Bytes
bytes_at d h i = take (size_at h i) (drop (place_at h i) d)

-- the number of the type of this rank
abbrev pub type_at : List ℕ → ℕ → ℕ
type_at schema rank = get_or schema rank 0 / 4

-- no two of the types have one number
abbrev pub Distinct : List ℕ → Type 0
Distinct schema = (i j : ℕ) → i < length schema → j < length schema → type_at schema i ≡ type_at schema j → i ≡ j

-- row `i` is the value `v`
pub record ValueAt (schema : List ℕ) (d : Bytes) (v : Part) (h : List ℕ) (i : ℕ) : Type 0 where
  pub rank : rank_at h i < length schema
  pub type : type_at schema (rank_at h i) ≡ v.type
  pub within : place_at h i + size_at h i ≤ length d
  pub short : size_at h i ≤ 64
  pub value : bytes_at d h i ≡ v.value

-- the rows from `first` to `end` are the values `vs`
pub record HeldAt (schema : List ℕ) (d : Bytes) (vs : List Part) (h : List ℕ) (first end : ℕ) : Type 0 where
  pub count : first + length vs ≡ end
  pub room : end ≤ ROWS
  pub row : (j : ℕ) → j < length vs → ValueAt schema d (get_or vs j (part 0 [])) h (first + j)
