-- The lines of the hits so far are written.
use mathlib.Core.List.{List}
use Prim.Native.Nat.{◌+◌, ◌*◌, ◌≤◌}
use lib.ListN.{take}
use Rattle.rules.specs.Lists.{gather}
use Rattle.rules.specs.Directory.{Stored}
use Rattle.rules.specs.Decision.{Setting}
use Rattle.rules.specs.Request.{Selection}
use Rattle.tables.specs.Book.{width, schema}
use Rattle.tables.specs.World.{World}
use Rattle.answer_line.specs.Emit.{Emits}
use Rattle.tables.specs.Plan.{found_lines}
use Rattle.tables.specs.Choice.{Chooses}
use Rattle.answer_line.specs.Room.{found_room}
use Rattle.answer_print.proofs.entries.emit_matches.Given as goal

abbrev pub invariant-loop-k : goal.invariant-loop-k
invariant-loop-k l =
    (l.next ≤ l.at + l.k-index * found_room)
    × ((σ : Setting) (es : List Stored) (s : Selection) → World σ es l.d l.p l.book l.held l.sets → Chooses (schema l.book) s l.choice → Emits (width l.book) l.initial.out l.at (gather (found_lines σ es s) (take l.k-index l.hits)) l.out l.next)
