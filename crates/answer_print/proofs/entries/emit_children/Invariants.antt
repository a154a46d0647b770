-- The lines of the hits so far are written.
use mathlib.Core.List.{List}
use Prim.Native.Nat.{ℕ, ◌+◌, ◌*◌, ◌≤◌}
use lib.ListN.{take}
use Rattle.rules.specs.Lists.{gather}
use Rattle.rules.specs.Directory.{Stored}
use Rattle.rules.specs.Decision.{Setting}
use Rattle.tables.specs.Book.{width}
use Rattle.tables.specs.World.{Entries}
use Rattle.answer_line.specs.Emit.{Emits}
use Rattle.tables.specs.Plan.{child_lines}
use Rattle.answer_line.specs.Room.{line_room}
use Rattle.answer_print.proofs.entries.emit_children.Given as goal

abbrev pub invariant-loop-k : goal.invariant-loop-k
invariant-loop-k l =
    (l.next ≤ l.at + l.k-index * line_room)
    × ((σ : Setting) (es : List Stored) (held : List ℕ) → Entries σ es l.d l.book held → Emits (width l.book) l.initial.out l.at (gather (child_lines es) (take l.k-index l.hits)) l.out l.next)
