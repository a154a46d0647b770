-- What the code decides on an entry line.
use Rattle.std.specs.Prelude.{ℕ, Bool, cond, List, eqb, leb, ltb, length, get_or}
use Rattle.rules.specs.Sheet.{Bytes}
use Rattle.rules.specs.Directory.{Stored, name_at, under_alias}
use Rattle.sheet_line.specs.declared.Line.{Line}
use Rattle.name.specs.Schema.{rank_in}
use Rattle.directory_schema.specs.Lines.{columns_fit}
use Rattle.directory_duplicates.specs.Mark.{Mark}
use Rattle.directory_duplicates.specs.Noted.{RulingNoted}
use Rattle.directory_duplicates.specs.Rulings.{refusing, ruled_of}

-- how many depths are kept: of the root, which is 0, and of 256 entries
abbrev pub depth_count : ℕ
depth_count = 257

-- the depth of entry number `k`, and 8 for an alias: below either there is no room
abbrev pub level_of : List Stored → ℕ → ℕ
level_of es k = cond (under_alias es k) 8 (length (name_at es k))

-- an entry line by the tests of its parent's number, of the entry before it, of the count and of its depth
abbrev pub place_number : Bool → Bool → Bool → Bool → ℕ
place_number high lacks many deep = cond high 2 (cond lacks 6 (cond many 3 (cond deep 3 0)))

-- what refuses an entry line with parent `a` after `count` entries, whatever its value is; 0 where nothing does
unfoldable pub place_refusal : List ℕ → ℕ → Bool → ℕ → ℕ
place_refusal depths count lacks a = place_number (ltb count a) lacks (leb 256 count) (leb 8 (get_or depths a 0))

-- a line after `count` entries, where `top` is the highest type
unfoldable pub entry_ruling : ℕ → List ℕ → ℕ → Bool → Line → Bytes → List ℕ → List ℕ → List Mark → RulingNoted
entry_ruling top depths count lacks x s ks table ms =
    cond (columns_fit top x)
    (cond (eqb x.kind 2)
    (cond (eqb (place_refusal depths count lacks x.a) 0) (ruled_of x.a (rank_in ks x.b) x.place x.length s ks table ms) (refusing (place_refusal depths count lacks x.a)))
    (refusing 3))
    (refusing 2)
