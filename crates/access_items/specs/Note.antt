-- What one item adds to the table: the rows that it enters, and the numbers of its value. `rights` are the items' rows of rights, and the item's
-- begins at `at`; `j` is its place in the order.
use Rattle.std.specs.Prelude.{ℕ, zero, suc, ◌+◌, ◌*◌, ◌/◌, ◌%◌, ◌^◌, ◌≤◌, ◌<◌, cond, List, ltb, length, get_or, set}
use Rattle.name.specs.Schema.{rank_in}
use Rattle.permission_sheet.specs.Noted.{DIGEST, GRANTS, WHAT, TYPE, PERMISSIONS, VALUE, LENGTH, RIGHTS, ALL-RIGHTS}
use Rattle.tables.specs.Sets.{grants_row, permission_row, what_row, type_row, digest_column, value_place_column, value_length_column, first_slot, second_slot}
use Rattle.access_items.specs.Mark.{marked}

-- the row is there, and its numbers are those of an accepted item
pub record Small (rights : List ℕ) (at : ℕ) : Type 0 where
  pub within : at + RIGHTS ≤ ALL-RIGHTS
  pub digest : get_or rights (at + DIGEST) 0 < 4294967296
  pub grants : get_or rights (at + GRANTS) 0 < 2
  pub what : get_or rights (at + WHAT) 0 < 6

-- so are the rows of all items of an order
abbrev pub Rows : List ℕ → List ℕ → Type 0
Rows rights order = (j : ℕ) → j < length order → Small rights (get_or order j 0 * RIGHTS)

-- the first `n` permissions of a mask
unfoldable pub permitted : ℕ → ℕ → ℕ → List ℕ → List ℕ
permitted zero mask j t = t
permitted (suc b) mask j t = marked (permitted b mask j t) (permission_row + b) j (mask / 2 ^ b % 2)

-- whether the item grants, and what
unfoldable pub grants_noted : List ℕ → ℕ → ℕ → List ℕ → List ℕ
grants_noted rights at j t = permitted 6 (get_or rights (at + PERMISSIONS) 0) j (marked t grants_row j (get_or rights (at + GRANTS) 0))

-- what it is about: the kind, and the slots of its value's digest
unfoldable pub about_noted : List ℕ → ℕ → ℕ → List ℕ → List ℕ
about_noted rights at j t =
    let d = get_or rights (at + DIGEST) 0 in
    marked (marked (marked t (what_row + get_or rights (at + WHAT) 0) j 1) (first_slot d) j 1) (second_slot d) j 1

-- the type `a` that it names, if the schema has it
unfoldable pub type_noted : List ℕ → ℕ → ℕ → List ℕ → List ℕ
type_noted schema a j t = cond (ltb (rank_in schema a) (length schema)) (marked t (type_row + rank_in schema a) j 1) t

-- the digest, the place and the length of its value
unfoldable pub value_noted : List ℕ → ℕ → ℕ → List ℕ → List ℕ
value_noted rights at j t =
    set (set (set t (digest_column + j) (get_or rights (at + DIGEST) 0)) (value_place_column + j) (get_or rights (at + VALUE) 0)) (value_length_column + j) (get_or rights (at + LENGTH) 0)

-- the item
unfoldable pub item_noted : List ℕ → ℕ → List ℕ → ℕ → List ℕ → List ℕ
item_noted rights at schema j t =
    value_noted rights at j (type_noted schema (get_or rights (at + TYPE) 0) j (about_noted rights at j (grants_noted rights at j t)))

-- the first `n` items in their order
unfoldable pub items_noted : List ℕ → List ℕ → List ℕ → ℕ → List ℕ → List ℕ
items_noted rights schema order zero t = t
items_noted rights schema order (suc n) t = item_noted rights (get_or order n 0 * RIGHTS) schema n (items_noted rights schema order n t)
