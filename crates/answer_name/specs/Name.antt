-- The line of a naming part.
use Rattle.std.specs.Prelude.{ℕ}
use Rattle.rules.specs.Sheet.{Line, line}
use Rattle.rules.specs.Directory.{Stored}

-- a line of a kind with the naming part of an entry, `c` in its column C
abbrev pub naming_line : ℕ → ℕ → Stored → Line
naming_line kind c e = line kind e.naming.type 0 c e.naming.value
