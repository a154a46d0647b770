-- What the code decides on a value line.
use Rattle.std.specs.Prelude.{ℕ, cond, List, ltb}
use Rattle.rules.specs.Sheet.{Bytes}
use Rattle.rules.specs.Name.{Part, part}
use Rattle.sheet_line.specs.declared.Line.{Line}
use Rattle.sheet_line.specs.Line.{bytes_of}
use Rattle.name.specs.Schema.{rank_in}
use Rattle.directory_schema.specs.Lines.{columns_fit}
use Rattle.directory_duplicates.specs.Mark.{Mark}
use Rattle.directory_duplicates.specs.Twins.{owner_of}
use Rattle.directory_duplicates.specs.Noted.{RulingNoted}
use Rattle.directory_duplicates.specs.Rulings.{refusing, ruled_of}

-- a value line of entry `number`, after a value of type `last`, where `top` is the highest type
unfoldable pub value_ruling : ℕ → ℕ → ℕ → Line → Bytes → List ℕ → List ℕ → List Mark → RulingNoted
value_ruling top number last x s ks table ms =
    cond (columns_fit top x) (cond (ltb x.a last) (refusing 3) (ruled_of (owner_of number) (rank_in ks x.a) x.place x.length s ks table ms)) (refusing 2)

-- the value that a line brings
abbrev pub brought_by : Bytes → Line → Part
brought_by s x = part x.a (bytes_of s x)
