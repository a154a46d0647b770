-- The value lines of one entry: what is known before them, and after some of them.
use Rattle.std.specs.Prelude.{ℕ, ◌+◌, ◌*◌, ◌≤◌, ◌≡◌, Bool, true, false, Result, Ok, Err, List, [], ◌∷◌, ◌++◌, length}
use Rattle.std.proofs.Math.Option.{some}
use Rattle.rules.specs.Lists.{any, last_or}
use Rattle.rules.specs.Sheet.{Bytes, Usable}
use Rattle.rules.specs.declared.Format.{Format}
use Rattle.rules.specs.Name.{Part, part, allowed, same_part}
use Rattle.rules.specs.Judge.{refuse}
use Rattle.rules.specs.Directory.{Stored, Reading, is_unread, with_values}
use Rattle.rules.specs.Places.{lines_at, values_of, schema_of}
use Rattle.sheet_line.specs.declared.Line.{Line}
use Rattle.sheet_line.specs.declared.Taken.{Taken}
use Rattle.sheet_line.specs.Line.{taken_at, bytes_of}
use Rattle.name.specs.Schema.{Rising, rank_in}
use Rattle.directory_schema.specs.Lines.{judged_from, Passes, Other}
use Rattle.tables.specs.Held.{HELD}
use Rattle.directory_duplicates.specs.Mark.{Mark}
use Rattle.directory_duplicates.specs.Twins.{owner_of, Named, Valued}
use Rattle.directory_duplicates.specs.Rulings.{Ready, reading}
use Rattle.directory_values.specs.ValueLine.{value_ruling}
use Rattle.directory_values.specs.Rows.{RowsWritten}
use Rattle.directory_values.specs.declared.Current.{Current}
use Rattle.directory_values.specs.declared.ValueLines.{ValueLines}
use Rattle.rules.specs.Refusals.{refusal_number}
use Rattle.rules.specs.declared.refusals.Refusal.{Refusal}

-- the entry `d` stands at `e`, after the entries `complete`, with `n` marks
pub record Begun (f : Format) (s : Bytes) (ks table held : List ℕ) (n : ℕ) (e : Current) (complete : List Stored) (d : Stored) (ms : List Mark) : Type 0 where
  pub ready : Ready s ks table ms
  pub rising : Rising 0 ks
  pub usable : Usable f
  pub count : length ms ≡ n
  pub number : e.number ≡ length (complete ++ (d ∷ []))
  pub most : e.number ≤ 256
  pub type : e.line.b ≡ d.naming.type
  pub value : bytes_of s e.line ≡ d.naming.value
  pub fit : allowed (schema_of ks) d.naming.type d.naming.value ≡ true
  pub unread : is_unread d.target ≡ true
  pub bytes : e.line.place + e.line.length ≤ length s
  pub within : e.line.next ≤ length s
  pub space : 31 * n ≤ e.line.next
  pub named : Named s ks (complete ++ (d ∷ [])) ms
  pub valued : Valued s ks (owner_of e.number) [] ms
  pub rows : length held ≡ HELD
  pub fewer : e.first ≤ n

-- some entry stands there
pub record ValuesAsked (f : Format) (s : Bytes) (ks table held : List ℕ) (n : ℕ) (e : Current) : Type 0 where
  pub complete : List Stored
  pub entry : Stored
  pub all : List Mark
  pub begun : Begun f s ks table held n e complete entry all

-- what was read, the last entry with the values `vs`
abbrev pub reading_with : List ℕ → List Stored → Stored → List Part → Reading
reading_with ks complete d vs = reading ks complete (some (with_values d vs))

-- the values `vs` have been read, up to position `i`, and written to the rows up to `to`
pub record ValuesRead (f : Format) (s : Bytes) (ks table before held : List ℕ) (n : ℕ) (found : Bool) (last from i to : ℕ) (e : Current) (complete : List Stored) (d : Stored) (vs : List Part) (ms : List Mark) : Type 0 where
  pub ready : Ready s ks table ms
  pub count : length ms ≡ n
  pub space : 31 * n ≤ i
  pub start : e.line.next ≤ i
  pub within : i ≤ length s
  pub newest : last ≡ (last_or (part 0 []) vs).type
  pub low : (t : ℕ) → last ≤ t → from ≤ rank_in ks t
  pub holds : found ≡ any (same_part (schema_of ks) d.naming) vs
  pub named : Named s ks (complete ++ (d ∷ [])) ms
  pub valued : Valued s ks (owner_of e.number) vs ms
  pub sofar : values_of (lines_at f.width s e.line.next) ≡ vs ++ values_of (lines_at f.width s i)
  pub passed : Passes f s (reading_with ks complete d []) e.line.next (reading_with ks complete d vs) i
  pub rows : RowsWritten ks s vs before held e.first to
  pub fewer : to ≤ n

-- how an entry's value lines ended: the refusal number or 0, what stands after them with its position, the number of marks, whether the naming
-- value was found among the values, and the row after the last value
pub record ValuesNoted : Type 0 where
  pub refusal : ℕ
  pub at : ℕ
  pub taken : Taken
  pub marks : ℕ
  pub found : Bool
  pub to : ℕ

-- the value lines refused: the number, and nothing else
abbrev pub values_refused : ℕ → ValuesNoted
values_refused n = record { refusal = n; at = 0; taken = Taken.End; marks = 0; found = false; to = 0 }

-- the lines that were read, or a refusal
abbrev pub values_noted : Result ValueLines Refusal → ValuesNoted
values_noted (Ok r) = record { refusal = 0; at = r.at; taken = r.taken; marks = r.marks; found = r.found; to = r.to }
values_noted (Err e) = values_refused (refusal_number e)

-- the values that were read, up to another line
pub record ValuesEnded (f : Format) (s : Bytes) (ks table before held : List ℕ) (e : Current) (complete : List Stored) (d : Stored) (r : ValuesNoted) : Type 0 where
  pub values : List Part
  pub all : List Mark
  pub last : ℕ
  pub from : ℕ
  pub read : ValuesRead f s ks table before held r.marks r.found last from r.at r.to e complete d values all
  pub stands : r.taken ≡ taken_at f.width s r.at
  pub other : Other 3 r.taken

-- the values that were read, up to one that is refused, and the sheet with it
pub record ValuesStopped (f : Format) (s : Bytes) (ks table before held : List ℕ) (e : Current) (complete : List Stored) (d : Stored) (r : ValuesNoted) : Type 0 where
  pub values : List Part
  pub all : List Mark
  pub marks : ℕ
  pub found : Bool
  pub last : ℕ
  pub from : ℕ
  pub at : ℕ
  pub to : ℕ
  pub line : Line
  pub read : ValuesRead f s ks table before held marks found last from at to e complete d values all
  pub stands : taken_at f.width s at ≡ Taken.Line line
  pub kind : line.kind ≡ 3
  pub number : r.refusal ≡ (value_ruling f.top e.number last line s ks table all).refusal
  pub sheet : judged_from f s (reading_with ks complete d []) e.line.next ≡ refuse r.refusal
  pub only : r ≡ values_refused r.refusal

-- the values of an entry
pub record ValuesJudged (f : Format) (s : Bytes) (ks table before held : List ℕ) (e : Current) (complete : List Stored) (d : Stored) (r : ValuesNoted) : Type 0 where
  pub ended : r.refusal ≡ 0 → ValuesEnded f s ks table before held e complete d r
  pub refused : (r.refusal ≡ 0 → ⊥) → ValuesStopped f s ks table before held e complete d r

-- whatever stood before the run
abbrev pub ValuesAnswered : Format → Bytes → List ℕ → List ℕ → List ℕ → ℕ → Current → List ℕ → List ℕ → ValuesNoted → Type 0
ValuesAnswered f s ks table held n e table' held' r =
    (complete : List Stored) (d : Stored) (ms : List Mark) → Begun f s ks table held n e complete d ms → ValuesJudged f s ks table' held held' e complete d r
