-- The rows of an item, and their places among all rows: the definitions that the contracts of this crate cite. That they are what the rules give
-- is proved in `Laws`.
use Rattle.std.specs.Prelude.{ℕ, List, [], ◌∷◌}
use Rattle.rules.specs.Sheet.{Bytes}
use Rattle.value_syntax.specs.Digest.{digest}
use Rattle.sheet_line.specs.Line.{bytes_of}
use Rattle.permission_item.specs.declared.ItemLines.{ItemLines}
use Rattle.permission_weight.specs.Weight.{weight_of, score_of}

unfoldable pub rights_row : Bytes → ItemLines → List ℕ
rights_row p i =
    score_of (weight_of i.head.a i.user.a i.target.a) i.head.c
    ∷ digest 0 (bytes_of p i.target)
    ∷ i.head.c
    ∷ i.target.a
    ∷ i.target.b
    ∷ i.mask.a
    ∷ i.target.place
    ∷ i.target.length
    ∷ []

unfoldable pub scopes_row : ItemLines → List ℕ
scopes_row i =
    i.base.a
    ∷ i.base.next
    ∷ i.base.b
    ∷ i.user.a
    ∷ i.user.next
    ∷ i.user.b
    ∷ i.head.b
    ∷ []
