-- The most bytes that each part of an answer has, and the whole of it. A function that writes a part is called where the part ends within the room of the
-- whole, which is below 2 ^ 64: so every place is a number of 64 bits.
use Rattle.std.specs.Prelude.{ℕ, ◌+◌, ◌*◌, ◌/◌}
use Rattle.rules.specs.Sheet.{line_size}

-- a line: its columns have at most 18 bytes each, and its bytes stand on a sheet of at most 65,536
abbrev pub line_room : ℕ
line_room = line_size 18 65536

-- an entry and its full name: K 33, and K 9 for it and what is above it, of 256 entries
abbrev pub name_room : ℕ
name_room = (1 + 256) * line_room

-- what is returned of an entry: a K 34 and a K 35 at most for each value, of as many as a directory has lines of at least 31 bytes
abbrev pub information_room : ℕ
information_room = (65536 / 31 + 1) * (2 * line_room)

-- an entry found
abbrev pub found_room : ℕ
found_room = name_room + information_room

-- an answer: K 30, and 256 entries found at most
abbrev pub answer_room : ℕ
answer_room = line_room + 256 * found_room
