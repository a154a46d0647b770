-- Items about one value: the value that stands on the permission sheet, compared with the value asked about.
use Rattle.std.specs.Prelude.{ℕ, Bool, ◌&&◌, List, eqb}
use Rattle.rules.specs.Sheet.{Bytes}
use Rattle.value_syntax.specs.Digest.{digest}
use Rattle.name.specs.Schema.{equal_by}
use Rattle.tables.specs.Sets.{digest_at, item_value, in_row, first_slot, second_slot}

-- the value of the item at place `j` is equal to `v`, whose digest is `h`, by digest and bytes
unfoldable pub agrees_at : List ℕ → Bytes → ℕ → ℕ → Bytes → ℕ → Bool
agrees_at sets p syntax h v j = eqb (digest_at sets j) h && equal_by syntax (item_value sets p j) v

-- the same, by the slots of the digest first
unfoldable pub same_at : List ℕ → Bytes → ℕ → Bytes → ℕ → Bool
same_at sets p syntax v j =
    (in_row sets (first_slot (digest 0 v)) j && in_row sets (second_slot (digest 0 v)) j) && agrees_at sets p syntax (digest 0 v) v j
