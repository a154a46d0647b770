-- Whole rows of the table, and what an entry inherits.
use Rattle.std.specs.Prelude.{ℕ, ◌+◌, ◌*◌, List, set}
use Rattle.access_set.specs.declared.Bits.{Bits}
use Rattle.access_set.specs.Member.{join}
use Rattle.tables.specs.Sets.{below_row, row_of}

-- row `r` becomes `s`
unfoldable pub row_stored : List ℕ → ℕ → Bits → List ℕ
row_stored t r s = set (set (set (set t (r * 4) s.a) (r * 4 + 1) s.b) (r * 4 + 2) s.c) (r * 4 + 3) s.d

-- entry `e` inherits from the one above it: the items that also cover what is below that one cover `e` and what is below it
unfoldable pub entry_inherited : ℕ → ℕ → List ℕ → List ℕ
entry_inherited e above t =
    let s = join (row_of t (below_row + e)) (row_of t (below_row + above)) in
    row_stored (row_stored t (below_row + e) s) e (join (row_of t e) s)
