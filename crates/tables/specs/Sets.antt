-- Sets of items, four words to a row. The items are numbered by their places in the order of weight, so that the first member of a set decides.
--
--   0 to 256         the items that cover the entry of that number and fit the requester; none for the root, 0
--   below_row        257 rows by the same numbers: those that also cover what is below; of the root, too
--   grants_row       those that grant
--   permission_row    six rows: those that name Read, Browse, ReturnDN, DiscloseOnError, Compare, FilterMatch
--   what_row          six: those about 0 the entry, 1 all types, 2 all types and values, 3 a type, 4 all values of a type, 5 one value
--   type_row          64: those that name the type of that rank
--   first_slot_row   32: those whose value's digest has that first slot
--   second_slot_row  32: those whose value's digest has that second slot
--
-- After the rows, a number for each item: the digest of its value, where the value begins on the permission sheet, its length.
use Rattle.std.specs.Prelude.{ℕ, zero, suc, ◌+◌, ◌*◌, ◌/◌, ◌%◌, ◌^◌, ◌≤◌, ◌<◌, ◌≡◌, Bool, false, ◌&&◌, ◌||◌, List, eqb, ltb, length, get_or, take, drop}
use Rattle.rules.specs.Sheet.{Bytes}
use Rattle.rules.specs.Directory.{Stored, blank}
use Rattle.rules.specs.Permission.{Item}
use Rattle.rules.specs.Decision.{Setting, Thing, granted}
use Rattle.rules.specs.Derived.{concerns, item_at, Ranked}
use Rattle.value_syntax.specs.Digest.{digest}
use Rattle.access_set.specs.declared.Bits.{Bits}
use Rattle.access_set.specs.Member.{member}
use Rattle.tables.specs.Held.{type_at}

-- ---- where they begin, each after those before them

abbrev pub below_row : ℕ
below_row = 257

abbrev pub grants_row : ℕ
grants_row = below_row + 257

abbrev pub permission_row : ℕ
permission_row = grants_row + 1

abbrev pub what_row : ℕ
what_row = permission_row + 6

abbrev pub type_row : ℕ
type_row = what_row + 6

abbrev pub first_slot_row : ℕ
first_slot_row = type_row + 64

abbrev pub second_slot_row : ℕ
second_slot_row = first_slot_row + 32

-- how many rows there are
abbrev pub set_rows : ℕ
set_rows = second_slot_row + 32

-- a row is four words; then come the numbers of 256 items
abbrev pub digest_column : ℕ
digest_column = set_rows * 4

abbrev pub value_place_column : ℕ
value_place_column = digest_column + 256

abbrev pub value_length_column : ℕ
value_length_column = value_place_column + 256

-- how many numbers the sets have
abbrev pub SETS : ℕ
SETS = value_length_column + 256

-- ---- the rows

unfoldable pub row_of : List ℕ → ℕ → Bits
row_of t r = record { a = get_or t (r * 4) 0; b = get_or t (r * 4 + 1) 0; c = get_or t (r * 4 + 2) 0; d = get_or t (r * 4 + 3) 0 }

-- is the item at place `j` in row `r`?
unfoldable pub in_row : List ℕ → ℕ → ℕ → Bool
in_row t r j = member (row_of t r) j

-- the row of a digest's first slot: by five bits above those of the directory's buckets
abbrev pub first_slot : ℕ → ℕ
first_slot digest = first_slot_row + digest / 2048 % 32

-- and that of its second slot: by five bits above them
abbrev pub second_slot : ℕ → ℕ
second_slot digest = second_slot_row + digest / 65536 % 32

-- has a digest its slot in row `r`?
unfoldable pub slotted : ℕ → ℕ → Bool
slotted digest r = eqb r (first_slot digest) || eqb r (second_slot digest)

-- ---- the numbers

-- the digest of the value of the item at place `j`
abbrev pub digest_at : List ℕ → ℕ → ℕ
digest_at t j = get_or t (digest_column + j) 0

-- the value, a part of the permission sheet
abbrev pub item_value : List ℕ → Bytes → ℕ → Bytes
item_value t p j = take (get_or t (value_length_column + j) 0) (drop (get_or t (value_place_column + j) 0) p)

-- the values of all items lie within the sheet
abbrev pub ValuesWithin : List ℕ → Bytes → Type 0
ValuesWithin t p = (j : ℕ) → j < 256 → get_or t (value_place_column + j) 0 + get_or t (value_length_column + j) 0 ≤ length p

-- ---- what they stand for

-- the items of one permission sheet, `order` being their order; `schema` has the types and `p` the bytes
pub record Items (is : List Item) (order schema : List ℕ) (p : Bytes) (sets : List ℕ) : Type 0 where
  pub ranked : Ranked is order
  pub few : length is ≤ 256
  pub grants : (j : ℕ) → j < length is → in_row sets grants_row j ≡ (item_at is order j).grants
  pub permission : (b j : ℕ) → b < 6 → j < length is → in_row sets (permission_row + b) j ≡ eqb ((item_at is order j).permissions / 2 ^ b % 2) 1
  pub what : (x j : ℕ) → x < 6 → j < length is → in_row sets (what_row + x) j ≡ eqb (item_at is order j).what x
  pub type : (r j : ℕ) → r < length schema → j < length is → in_row sets (type_row + r) j ≡ eqb (item_at is order j).type (type_at schema r)
  pub slot : (r j : ℕ) → first_slot_row ≤ r → r < set_rows → j < length is → in_row sets r j ≡ slotted (digest 0 (item_at is order j).value) r
  pub digests : (j : ℕ) → j < length is → digest_at sets j ≡ digest 0 (item_at is order j).value
  pub value : (j : ℕ) → j < length is → item_value sets p j ≡ (item_at is order j).value
  pub within : ValuesWithin sets p

-- the items that cover each entry and fit the requester
pub record Covers (σ : Setting) (es : List Stored) (order sets : List ℕ) : Type 0 where
  pub root : (j : ℕ) → in_row sets 0 j ≡ false
  pub entry : (k j : ℕ) → k < length es → in_row sets (suc k) j ≡ (ltb j (length σ.items) && concerns σ (get_or es k blank).name (item_at σ.items order j))

-- what the requester may
pub record Rights (σ : Setting) (es : List Stored) (schema : List ℕ) (p : Bytes) (sets : List ℕ) : Type 0 where
  pub order : List ℕ
  pub items : Items σ.items order schema p sets
  pub covers : Covers σ es order sets

-- is permission `q` granted on the thing `x` of entry number `e`? "0 is the root", and "every permission on it is refused"
unfoldable pub granted_at : Setting → List Stored → ℕ → Thing → ℕ → Bool
granted_at σ es zero x q = false
granted_at σ es (suc k) x q = granted σ (get_or es k blank).name x q
