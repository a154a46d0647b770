-- A filter's lines noted by six numbers each: kind, A, B, where the line begins, where its bytes begin, and the rank of type A in the schema.
use Rattle.std.specs.Prelude.{ℕ, zero, suc, ◌+◌, ◌-◌, ◌*◌, ◌/◌, ◌≤◌, ◌<◌, ◌≡◌, Bool, cond, List, [], ◌∷◌, map, length, get_or, take, drop, set}
use Rattle.rules.specs.Sheet.{Bytes, end, broken}
use Rattle.rules.specs.Value.{Piece, text, folded, matches}
use Rattle.rules.specs.Derived.{compared}
use Rattle.rules.specs.Places.{lines_at}
use Rattle.sheet_line.specs.Line.{taken_at}
use Rattle.sheet_line.specs.declared.Line.{Line}
use Rattle.sheet_line.specs.declared.Taken.TheVariants as Taken
use Rattle.name.specs.Schema.{rank_in}

-- how many lines there can be: a request in columns of 6 bytes has at most 8,192 bytes, and a line at least 31
abbrev pub LINES : ℕ
LINES = 8192 / 31 + 1

-- how many numbers are noted: a row for each line, and one for the position after the last
abbrev pub FILTER : ℕ
FILTER = (LINES + 1) * 6

-- the numbers of line `k`, and where the next line begins
abbrev pub kind_at : List ℕ → ℕ → ℕ
kind_at rows k = get_or rows (k * 6) 0

abbrev pub column_a : List ℕ → ℕ → ℕ
column_a rows k = get_or rows (k * 6 + 1) 0

abbrev pub column_b : List ℕ → ℕ → ℕ
column_b rows k = get_or rows (k * 6 + 2) 0

abbrev pub position_at : List ℕ → ℕ → ℕ
position_at rows k = get_or rows (k * 6 + 3) 0

abbrev pub value_place : List ℕ → ℕ → ℕ
value_place rows k = get_or rows (k * 6 + 4) 0

abbrev pub type_rank : List ℕ → ℕ → ℕ
type_rank rows k = get_or rows (k * 6 + 5) 0

abbrev pub next_position : List ℕ → ℕ → ℕ
next_position rows k = get_or rows (k * 6 + 9) 0

-- the bytes of line `k`
abbrev pub line_value : Bytes → List ℕ → ℕ → Bytes
line_value q rows k = take (next_position rows k - 1 - value_place rows k) (drop (value_place rows k) q)

-- the `n` lines from line `k` on, as pieces
unfoldable pub pieces_in : Bytes → List ℕ → ℕ → ℕ → List Piece
pieces_in q rows k zero = []
pieces_in q rows k (suc n) = record { place = column_a rows k; bytes = line_value q rows k } ∷ pieces_in q rows (k + 1) n

-- all pieces stand in a text without stray blanks, in order and without overlap
unfoldable pub pieces_stand : Bytes → List Piece → Bool
pieces_stand v ps = matches (map (compared text) ps) (folded text v)

-- the lesser of two numbers
unfoldable pub lesser : ℕ → ℕ → ℕ
lesser zero b = 0
lesser (suc a) zero = 0
lesser (suc a) (suc b) = suc (lesser a b)

-- the pieces that follow line `k`, if there are so many lines
abbrev pub pieces_at : Bytes → List ℕ → ℕ → ℕ → List Piece
pieces_at q rows lines k = pieces_in q rows (k + 1) (lesser (column_b rows k) (lines - (k + 1)))

-- the bytes of the first `count` lines lie on the sheet, and are few
pub record RowsPlaced (q : Bytes) (rows : List ℕ) (count : ℕ) : Type 0 where
  pub room : count * 6 + 6 ≤ length rows
  pub few : count ≤ LINES
  pub begins : (k : ℕ) → k < count → value_place rows k < next_position rows k
  pub within : (k : ℕ) → k < count → next_position rows k ≤ length q
  pub short : (k : ℕ) → k < count → next_position rows k ≤ value_place rows k + 65

-- the line that row `k` notes; its C and its length are not noted
abbrev pub line_at : List ℕ → ℕ → ℕ → ℕ → Line
line_at rows k third size = record { kind = kind_at rows k; a = column_a rows k; b = column_b rows k; c = third; place = value_place rows k; length = size; next = next_position rows k }

-- row `k` is the line at its position
pub record LineRow (w : ℕ) (q : Bytes) (rows : List ℕ) (k : ℕ) : Type 0 where
  pub third : ℕ
  pub size : ℕ
  pub taken : taken_at w q (position_at rows k) ≡ Taken.Line (line_at rows k third size)

-- the first `count` rows are lines, and no line follows
pub record LinesNoted (w : ℕ) (q : Bytes) (rows : List ℕ) (count : ℕ) : Type 0 where
  pub placed : RowsPlaced q rows count
  pub line : (k : ℕ) → k < count → LineRow w q rows k
  pub unread : Bool
  pub ends : lines_at w q (position_at rows count) ≡ cond unread broken end

-- the rows are lines of some sheet
abbrev pub KnownLines : List ℕ → ℕ → Type 0
KnownLines rows count = (w : ℕ) × (q : Bytes) × LinesNoted w q rows count

-- .. with the ranks of their types
pub record Typed (schema rows : List ℕ) (count : ℕ) : Type 0 where
  pub rank : (k : ℕ) → k < count → type_rank rows k ≡ rank_in schema (column_a rows k)

-- what stands beyond the first `count` rows and the position after them is as it was `before`
abbrev pub Beyond : ℕ → List ℕ → List ℕ → Type 0
Beyond count before rows = (i : ℕ) → count * 6 ≤ i → (i ≡ count * 6 + 3 → ⊥) → get_or rows i 0 ≡ get_or before i 0

-- row `n`, but for its position, and the position of the next
unfoldable pub noted : List ℕ → ℕ → ℕ → ℕ → ℕ → ℕ → ℕ → ℕ → List ℕ
noted rows at kind a b place rank next = set (set (set (set (set (set rows at kind) (at + 1) a) (at + 2) b) (at + 4) place) (at + 5) rank) (at + 9) next
