-- What `judge` answers: the refusal that the rules give, and of an accepted directory what later steps go by. `held` is the table of the
-- values held, as `judge` leaves it.
use Rattle.std.specs.Prelude.{ℕ, ◌+◌, ◌*◌, ◌≤◌, ◌<◌, ◌≡◌, Result, Ok, Err, List, length, get_or, take, drop, replicate}
use Rattle.rules.specs.Sheet.{Bytes, bit, front_of, value_of}
use Rattle.rules.specs.declared.Format.{Format}
use Rattle.rules.specs.Judge.{accept, refuse, refusal_of}
use Rattle.rules.specs.Directory.{Stored, blank, is_alias, Directory, directory_of}
use Rattle.rules.specs.Places.{schema_of, lines_at, values_of}
use Rattle.rules.specs.declared.Front.TheVariants.{Taken}
use Rattle.name.specs.Schema.{Rising}
use Rattle.directory_schema.specs.Zeros.{ZerosFrom}
use Rattle.tables.specs.Book.{FIRST-ROWS}
use Rattle.tables.specs.Held.{ROWS, HELD, none_held, HeldAt}
use Rattle.tables.specs.World.{TargetAt}
use Rattle.directory_values.specs.Rows.{RowKept}
use Rattle.rules.specs.Refusals.{refusal_number, refusal_in}
use Rattle.rules.specs.declared.refusals.Refusal.{Refusal}
use Rattle.directory_sheet.specs.declared.Notes.{Notes}

-- nothing noted
abbrev pub nothing_noted : Notes
nothing_noted = record {
  types = 0;
  schema = replicate 64 0;
  count = 0;
  at = replicate 256 0;
  parents = replicate 256 0;
  naming = replicate 256 0;
  lengths = replicate 256 0;
  first = replicate FIRST-ROWS 0;
  targets = replicate 256 0;
}

-- the columns are 0 after what is noted
pub record NothingAfter (r : Notes) : Type 0 where
  pub schema : ZerosFrom r.types r.schema
  pub at : ZerosFrom r.count r.at
  pub parents : ZerosFrom r.count r.parents
  pub naming : ZerosFrom r.count r.naming
  pub lengths : ZerosFrom r.count r.lengths
  pub first : ZerosFrom (r.count + 1) r.first
  pub targets : ZerosFrom r.count r.targets

-- no value is held from row `end` on
abbrev pub NoneFrom : ℕ → List ℕ → Type 0
NoneFrom end held = (i : ℕ) → end ≤ i → i < ROWS → RowKept none_held held i

-- an entry by the numbers noted of it, the first of them the position of its K 2 line
pub record EntryNoted (w : ℕ) (s : Bytes) (e : Stored) (at parent naming size target : ℕ) : Type 0 where
  pub line : front_of w (drop at s) ≡ Taken 2 e.parent e.naming.type (bit (is_alias e.target)) size
  pub value : value_of w size (drop at s) ≡ e.naming.value
  pub within : at + (5 * w + 1 + size) ≤ length s
  pub values : values_of (lines_at w s (at + (5 * w + 1 + size))) ≡ e.values
  pub above : parent ≡ e.parent
  pub type : naming ≡ e.naming.type
  pub leads : TargetAt w s e.target target

-- the notes of the directory `d`, and the rows of its values
pub record DirectoryNoted (w : ℕ) (s : Bytes) (d : Directory) (r : Notes) (held : List ℕ) : Type 0 where
  pub types : r.types ≤ 64
  pub schema : schema_of (take r.types r.schema) ≡ d.schema
  pub rising : Rising 0 (take r.types r.schema)
  pub count : r.count ≡ length d.entries
  pub most : r.count ≤ 256
  pub schema-length : length r.schema ≡ 64
  pub at_length : length r.at ≡ 256
  pub parents-length : length r.parents ≡ 256
  pub naming-length : length r.naming ≡ 256
  pub lengths-length : length r.lengths ≡ 256
  pub first-length : length r.first ≡ FIRST-ROWS
  pub targets-length : length r.targets ≡ 256
  pub held-length : length held ≡ HELD
  pub entry : (k : ℕ) → k < r.count
      → EntryNoted w s (get_or d.entries k blank) (get_or r.at k 0) (get_or r.parents k 0) (get_or r.naming k 0) (get_or r.lengths k 0) (get_or r.targets k 0)
  pub start : get_or r.first 0 0 ≡ 0
  pub values : (k : ℕ) → k < r.count
      → HeldAt (take r.types r.schema) s (get_or d.entries k blank).values held (get_or r.first k 0) (get_or r.first (k + 1) 0)
  pub after : NothingAfter r
  pub held_after : NoneFrom (get_or r.first r.count 0) held

-- the answer for the sheet `s`; with a refusal nothing is noted, and no value is held
pub record DirectoryJudged (f : Format) (s : Bytes) (r : Result Notes Refusal) (held : List ℕ) : Type 0 where
  pub refusal : refusal_in r ≡ refusal_of (directory_of f s)
  pub noted : (d : Directory) → directory_of f s ≡ accept d → (x : Notes) × (r ≡ Ok x) × DirectoryNoted f.width s d x held
  pub refused : (n : ℕ) → directory_of f s ≡ refuse n → (e : Refusal) × (r ≡ Err e) × (refusal_number e ≡ n) × (held ≡ none_held)
