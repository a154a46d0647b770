-- The entries: what is known of the sheet after the K 1 lines, and what refuses it where no line stands.
use Rattle.std.specs.Prelude.{ℕ, ◌≤◌, ◌≡◌, Bool, cond, Result, Ok, Err, List, length, get_or, take, replicate}
use Rattle.rules.specs.Sheet.{Bytes, Usable, lines}
use Rattle.rules.specs.declared.Format.{Format}
use Rattle.rules.specs.Judge.{fold}
use Rattle.rules.specs.Directory.{step, finish, nothing}
use Rattle.sheet_line.specs.declared.Taken.{Taken}
use Rattle.sheet_line.specs.Line.{taken_at}
use Rattle.directory_schema.specs.Lines.{judged_from, Other}
use Rattle.name.specs.Schema.{Rising}
use Rattle.directory_schema.specs.Types.{typed}
use Rattle.tables.specs.Book.{FIRST-ROWS}
use Rattle.tables.specs.Held.{none_held}
use Rattle.directory_entry.specs.EntryLine.{depth_count}
use Rattle.directory_sheet.specs.Judged.{NothingAfter, DirectoryJudged}
use Rattle.rules.specs.declared.refusals.Refusal.{Refusal}
use Rattle.directory_sheet.specs.declared.Notes.{Notes}

-- the arrays have their lengths, and the schema's numbers are `ks`
pub record Sized (ks : List ℕ) (notes : Notes) (depths : List ℕ) : Type 0 where
  pub types : notes.types ≤ 64
  pub list : take notes.types notes.schema ≡ ks
  pub schema : length notes.schema ≡ 64
  pub at : length notes.at ≡ 256
  pub parents : length notes.parents ≡ 256
  pub naming : length notes.naming ≡ 256
  pub lengths : length notes.lengths ≡ 256
  pub first : length notes.first ≡ FIRST-ROWS
  pub targets : length notes.targets ≡ 256
  pub levels : length depths ≡ depth_count

-- the refusal where no line stands; 0 at the sheet's end, if the last entry does not lack its naming value
abbrev pub end_number : Taken → Bool → ℕ
end_number (Taken.Line x) lacks = 2
end_number Taken.NotInForm lacks = 2
end_number Taken.End lacks = cond lacks 6 0

-- the notes, or the refusal
abbrev pub with_notes : Result (Unit {0}) Refusal → Notes → Result Notes Refusal
with_notes (Ok u) notes = Ok notes
with_notes (Err e) notes = Err e

-- the answer of the entries; with a refusal the table is still to be emptied
abbrev pub EntriesJudged : Format → Bytes → Result Notes Refusal → List ℕ → Type 0
EntriesJudged f s (Ok x) held = DirectoryJudged f s (Ok x) held
EntriesJudged f s (Err e) held = DirectoryJudged f s (Err e) none_held

-- the K 1 lines have been read, up to position `i`
pub record Opened (f : Format) (s : Bytes) (ks : List ℕ) (notes : Notes) (held : List ℕ) (i : ℕ) (taken : Taken) : Type 0 where
  pub sheet : length s ≤ 65536
  pub usable : Usable f
  pub rising : Rising 0 ks
  pub few : length ks ≤ 64
  pub sized : Sized ks notes (replicate depth_count 0)
  pub after : NothingAfter notes
  pub none_yet : notes.count ≡ 0
  pub none-held : get_or notes.first 0 0 ≡ 0
  pub empty : held ≡ none_held
  pub within : i ≤ length s
  pub stands : taken ≡ taken_at f.width s i
  pub other : Other 1 taken
  pub judged : fold (step f.top) finish 2 nothing (lines f.width s) ≡ judged_from f s (typed ks) i
