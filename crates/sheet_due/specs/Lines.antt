-- The lines of a sheet that are due one after the other, by positions, as the code finds them: numbers, positions and refusals.
-- All of it is over a grammar of the rules.
use Rattle.std.specs.Prelude.{ℕ, zero, suc, ◌+◌, cond, List, eqb, Result, Ok, Err}
use Rattle.rules.specs.Sheet.{Bytes}
use Rattle.rules.specs.Columns.{Form}
use Rattle.rules.specs.Judge.{Grammar}
use Rattle.rules.specs.Refusals.{refusal_number}
use Rattle.rules.specs.declared.refusals.Refusal.{Refusal}
use Rattle.sheet_form.specs.Columns.{columns_in}
use Rattle.sheet_line.specs.Line.{taken_at, line_of}
use Rattle.sheet_line.specs.declared.Line.{Line}
use Rattle.sheet_line.specs.declared.Taken.{Taken}
use Rattle.sheet_due.specs.declared.Seen.{Seen}
use Rattle.sheet_due.specs.Outcomes.{Due, Reached, Group}

-- ---- what stands at a position

-- by what was taken there
abbrev pub seen_by : List Form → Taken → Seen
seen_by forms (Taken.Line x) = cond (columns_in forms x) (Seen.Line x) Seen.NotAllowed
seen_by forms Taken.NotInForm = Seen.NotAllowed
seen_by forms Taken.End = Seen.Missing

-- what stands at the position `at`
unfoldable pub seen_at : List Form → ℕ → Bytes → ℕ → Seen
seen_at forms w s at = seen_by forms (taken_at w s at)

-- the refusal of what stands where nothing is due; the sheet's refusals are `n` and 2, 3 or 4
abbrev pub misplaced_by : ℕ → Seen → ℕ
misplaced_by n (Seen.Line x) = n + 3
misplaced_by n Seen.NotAllowed = n + 2
misplaced_by n Seen.Missing = n + 3

-- ---- positions and refusals

-- a position, without a refusal
abbrev pub reached_at : ℕ → Reached
reached_at at = record { refusal = 0; next = at }

-- a position, or the refusal that came before
abbrev pub reached_in : Result ℕ Refusal → Reached
reached_in (Ok at) = reached_at at
reached_in (Err r) = record { refusal = refusal_number r; next = 0 }

-- no line: all its numbers are 0
abbrev pub no_line : Line
no_line = record { kind = 0; a = 0; b = 0; c = 0; place = 0; length = 0; next = 0 }

-- no line: the refusal `n`
abbrev pub not_due : ℕ → Due
not_due n = record { refusal = n; line = no_line }

-- the line that was due
abbrev pub found_due : Line → Due
found_due x = record { refusal = 0; line = x }

-- the position after a line that was due, or its refusal
abbrev pub after_due : Due → Reached
after_due d = record { refusal = d.refusal; next = d.line.next }

-- the position after a group, or its refusal
abbrev pub after_group : Group → Reached
after_group g = record { refusal = g.refusal; next = g.next }

-- ---- the lines that are due

module _ (G : Grammar) (w : ℕ) (s : Bytes) where
  -- by what was seen where a line of kind `k` is due
  abbrev pub due_by : ℕ → Seen → Due
  due_by k (Seen.Line x) = cond (eqb x.kind k) (cond (G.sound (line_of s x)) (found_due x) (not_due (G.refusals + 4))) (not_due (G.refusals + 3))
  due_by k Seen.NotAllowed = not_due (G.refusals + 2)
  due_by k Seen.Missing = not_due (G.refusals + 3)

  -- the line of kind `k` that is due where `r` has come to
  unfoldable pub due_at : Reached → ℕ → Due
  due_at r k = cond (eqb r.refusal 0) (due_by k (seen_at G.forms w s r.next)) (not_due r.refusal)

  -- `n` lines of kind `k`
  unfoldable pub lines_due : ℕ → ℕ → Reached → Reached
  lines_due k zero r = r
  lines_due k (suc n) r = lines_due k n (after_due (due_at r k))

  -- a line of kind `k`, and as many of kind `j` as its column B says
  unfoldable pub group_at : Reached → ℕ → ℕ → Group
  group_at r k j =
      let d = due_at r k in
      let e = lines_due j d.line.b (after_due d) in
      record { refusal = e.refusal; line = d.line; next = e.next }
