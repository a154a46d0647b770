-- The rows of rights of a sheet's items, and the order of the items by weight.
use Rattle.std.specs.Prelude.{ℕ, ◌≤◌, ◌≡◌, List, length}
use Rattle.rules.specs.Sheet.{Bytes}
use Rattle.rules.specs.Permission.{Item}
use Rattle.rules.specs.Derived.{Ranked}
use Rattle.permission_sheet.specs.Noted.{Table}

-- of the items `is` of the sheet `p`, in columns of `w` bytes
pub record Sorted (w : ℕ) (p : Bytes) (is : List Item) (rights scopes order : List ℕ) : Type 0 where
  pub small : length p ≤ 65536
  pub table : Table w p is rights scopes
  pub ranked : Ranked is order
  pub count : length order ≡ length is
