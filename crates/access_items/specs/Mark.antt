-- One member of a set in a row of the table.
use Rattle.std.specs.Prelude.{ℕ, ◌+◌, ◌*◌, ◌/◌, ◌%◌, ◌^◌, List, get_or, set}
use Rattle.std.specs.Int.Bits.{bit_or}

-- the item at place `j` enters row `r` if `b` is 1
unfoldable pub marked : List ℕ → ℕ → ℕ → ℕ → List ℕ
marked t r j b = set t (r * 4 + j / 64) (bit_or (get_or t (r * 4 + j / 64) 0) (b * 2 ^ (j % 64)))
