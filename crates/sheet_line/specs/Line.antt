-- A line taken from a sheet, by numbers: its columns, where its bytes begin, how many they are, and where the next line begins.
use Rattle.std.specs.Prelude.{ℕ, ◌+◌, ◌*◌, take, drop}
use Rattle.rules.specs.Sheet.{Bytes, line, front_of}
use Rattle.rules.specs.Sheet as Rules
use Rattle.rules.specs.declared.Front.{Front}
use Rattle.sheet_line.specs.declared.Line.{Line}
use Rattle.sheet_line.specs.declared.Taken.{Taken}

-- where the bytes of the line at the position `at` begin: after five columns
abbrev pub place_of : ℕ → ℕ → ℕ
place_of w at = at + 5 * w

-- what stands at the position `at`, where this is at the front of the rest
abbrev pub taken_by : ℕ → ℕ → Front → Taken
taken_by w at (Front.Taken k a b c l) = Taken.Line (record { kind = k; a = a; b = b; c = c; place = place_of w at; length = l; next = place_of w at + l + 1 })
taken_by w at Front.NotInForm = Taken.NotInForm
taken_by w at Front.End = Taken.End

-- what stands at the position `at` of the sheet `s`
unfoldable pub taken_at : ℕ → Bytes → ℕ → Taken
taken_at w s at = taken_by w at (front_of w (drop at s))

-- the bytes of a line of the sheet `s`
abbrev pub bytes_of : Bytes → Line → Bytes
bytes_of s x = take x.length (drop x.place s)

-- a line of the sheet `s` with its bytes
abbrev pub line_of : Bytes → Line → Rules.Line
line_of s x = line x.kind x.a x.b x.c (bytes_of s x)
