-- The values of the rows so far are written, and counted.
use mathlib.Core.List.{List}
use Prim.Native.Nat.{◌+◌, ◌-◌, ◌*◌, ◌≤◌}
use Rattle.rules.specs.Directory.{Stored, name_at}
use Rattle.rules.specs.Decision.{Setting}
use Rattle.tables.specs.Book.{width, schema}
use Rattle.tables.specs.Held.{type_at}
use Rattle.tables.specs.World.{World}
use Rattle.answer_information.specs.Information.{row_values, readable, Counted}
use Rattle.answer_line.specs.Room.{line_room}
use Rattle.answer_information.proofs.values.emit_values.Given as goal

abbrev pub invariant-loop-i : goal.invariant-loop-i
invariant-loop-i l =
    (l.st.next ≤ l.at + (l.i - l.run.first) * line_room) × (l.st.count ≤ l.i - l.run.first)
    × ((σ : Setting) (es : List Stored) → World σ es l.d l.p l.book l.held l.sets → Counted (width l.book) l.initial.out (record { next = l.at; count = 0 }) (readable σ (name_at es l.e) (type_at (schema l.book) l.run.rank) (row_values l.d l.held l.run.first (l.i - l.run.first))) l.out l.st)
