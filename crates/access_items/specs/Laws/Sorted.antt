-- A law of `Sorted`: what the judge of the permission sheet notes, with an order of the items.
use Rattle.std.specs.Prelude.{ℕ, ◌≤◌, ◌≡◌, List, [], ltb, length}
use Rattle.std.proofs.Common.{ltb-false}
use Rattle.rules.specs.Sheet.{Bytes, lines}
use Rattle.rules.specs.declared.Format.{Format}
use Rattle.rules.specs.Judge.{accept}
use Rattle.rules.specs.Name.{Schema}
use Rattle.rules.specs.Permission.{Item, items, permissions_of}
use Rattle.rules.proofs.Laws.Judge.{not-refused}
use Rattle.rules.specs.Derived.{Ranked}
use Rattle.permission_sheet.specs.Noted.{NotedItems, PermissionsNoted}
use Rattle.access_items.specs.Sorted.{Sorted}

-- an accepted sheet is not long
accepted-small : (f : Format) (S : Schema) (p : Bytes) (is : List Item) → permissions_of f S p ≡ accept is → length p ≤ 65536
unfolding permissions_of
accepted-small f S p is e = ltb-false 65536 (length p) (not-refused (ltb 65536 (length p)) 11 (items f.top S 256 [] (lines f.width p)) is e).0

pub sorted_of : (f : Format) (S : Schema) (p : Bytes) (is : List Item) (r : NotedItems) (rights scopes order : List ℕ) → permissions_of f S p ≡ accept is → PermissionsNoted f p is r rights scopes → Ranked is order → length order ≡ length is
    → Sorted f.width p is rights scopes order
sorted_of f S p is r rights scopes order e n ranked count = record { small = accepted-small f S p is e; table = n.table; ranked = ranked; count = count }
