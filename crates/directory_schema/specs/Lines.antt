-- The judge of a directory at a position of the sheet.
use Rattle.std.specs.Prelude.{ℕ, ◌≡◌, Bool}
use Rattle.rules.specs.Sheet.{Bytes}
use Rattle.rules.specs.declared.Format.{Format}
use Rattle.rules.specs.Columns.{directory_forms}
use Rattle.rules.specs.Judge.{Verdict, accept, fold}
use Rattle.rules.specs.Directory.{Reading, Directory, step, finish}
use Rattle.rules.specs.Places.{lines_at}
use Rattle.sheet_form.specs.Columns.{columns_in}
use Rattle.sheet_line.specs.declared.Line.{Line}
use Rattle.sheet_line.specs.declared.Taken.{Taken}
use Rattle.sheet_line.specs.Line.{taken_at, line_of}

-- the rest of the sheet from position `i` on, judged with what was read before
abbrev pub judged_from : Format → Bytes → Reading → ℕ → Verdict Directory
judged_from f s st i = fold (step f.top) finish 2 st (lines_at f.width s i)

-- from position `i`, with `st` read before, the judge takes line after line and comes to position `j` with `next`
pub data Passes (f : Format) (s : Bytes) (st : Reading) (i : ℕ) : Reading → ℕ → Type 0 where
  none : Passes f s st i st i
  one : {next more : Reading} {j : ℕ} {x : Line} → Passes f s st i next j → taken_at f.width s j ≡ Taken.Line x → step f.top next (line_of s x) ≡ accept more
      → Passes f s st i more x.next

-- the columns of a line are in form, where `top` is the highest type
abbrev pub columns_fit : ℕ → Line → Bool
columns_fit top x = columns_in (directory_forms top) x

-- no line of kind `k` was taken
abbrev pub Other : ℕ → Taken → Type 0
Other k t = (x : Line) → t ≡ Taken.Line x → x.kind ≡ k → ⊥
