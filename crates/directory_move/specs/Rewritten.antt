-- The lines of a sheet, printed in columns of another width.
use Rattle.std.specs.Prelude.{ℕ, List, [], ◌∷◌}
use Rattle.rules.specs.Sheet.{Bytes, Line, Sheet, end, broken, row, print}
use Rattle.rules.specs.Places.{lines_at}

-- the lines of a sheet, up to its end or to a line not in form
abbrev pub lines_of : Sheet → List Line
lines_of end = []
lines_of broken = []
lines_of (row x rest) = x ∷ lines_of rest

-- the lines of the sheet `s` from `at` on, in columns of width `w`, printed in the width `v`
unfoldable pub rewritten_from : ℕ → ℕ → Bytes → ℕ → Bytes
rewritten_from w v s at = print v (lines_of (lines_at w s at))
