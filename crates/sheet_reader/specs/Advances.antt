-- What a reader takes: the line that is due at its position, or the refusal, and the reader after it.
use Rattle.std.specs.Prelude.{ℕ, List, Result}
use Rattle.std.specs.Borrow.{Bor}
use Rattle.rules.specs.Judge.{Grammar}
use Rattle.sheet_line.specs.declared.Line.{Line}
use Rattle.sheet_due.specs.Lines.{due_at, group_at}
use Rattle.sheet_due.specs.Outcomes.{Reached, Gives}
use Rattle.rules.specs.declared.refusals.Refusal.{Refusal}
use Rattle.sheet_reader.specs.declared.Reader.{Reader}
use Rattle.sheet_reader.specs.declared.Advance as Code

-- a line that was due, or the refusal number (0: none), and the reader moved past the line and the lines that it counts
pub record Advance : Type 0 where
  pub refusal : ℕ
  pub line : Line
  pub rest : Reader

-- what a result is, where a reader comes to `x`
abbrev pub Reads : Result Code.Advance Refusal → Advance → Type 0
Reads result x = Gives result x.refusal (record { line = x.line; rest = x.rest })

-- a reader of the sheet `s`, at the position `at`
abbrev pub reader_at : Bor (List ℕ) → ℕ → Reader
reader_at s at = record { sheet = s; at = at }

-- where a reader stands, with the refusal `n`
abbrev pub from_reader : Reader → ℕ → Reached
from_reader r n = record { refusal = n; next = r.at }

module _ (G : Grammar) (w : ℕ) (r : Reader) (n : ℕ) where
  -- the line of kind `k` that is due, and the reader after it
  abbrev pub due_advance : ℕ → Advance
  due_advance k =
      let d = due_at G w r.sheet.now (from_reader r n) k in
      record { refusal = d.refusal; line = d.line; rest = reader_at r.sheet d.line.next }

  -- a line of kind `k` and the lines of kind `j` that it counts, and the reader after them
  abbrev pub group_advance : ℕ → ℕ → Advance
  group_advance k j =
      let g = group_at G w r.sheet.now (from_reader r n) k j in
      record { refusal = g.refusal; line = g.line; rest = reader_at r.sheet g.next }
