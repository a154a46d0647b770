use mathlib.Core.Path.{◌≡◌}
use mathlib.Core.List.{List}
use Prim.Native.Nat.{◌+◌, ◌-◌, ◌*◌, ◌≤◌}
use lib.ListN.{length, get_or}
use Rattle.rules.specs.Directory.{Stored, blank, name_at}
use Rattle.rules.specs.Decision.{Setting}
use Rattle.rules.specs.Request.{Selection}
use Rattle.tables.specs.Book.{width, schema, first_at}
use Rattle.tables.specs.World.{World}
use Rattle.answer_information.specs.Laws.Runs.{Sofar}
use Rattle.tables.specs.Choice.{Chooses}
use Rattle.answer_line.specs.Room.{line_room}
use Rattle.answer_information.proofs.emit_runs.Given as goal

abbrev pub invariant-loop-i : goal.invariant-loop-i
invariant-loop-i l =
    (first_at l.book (l.e - 1) ≤ l.i) × (l.i ≤ first_at l.book l.e) × (l.next ≤ l.at + (l.i - first_at l.book (l.e - 1)) * (2 * line_room))
    × ((σ : Setting) (es : List Stored) (s : Selection) → World σ es l.d l.p l.book l.held l.sets → Chooses (schema l.book) s l.choice → Sofar (width l.book) l.initial.out l.at σ s (name_at es l.e) (get_or es (l.e - 1) blank).values (l.i - first_at l.book (l.e - 1)) l.out l.next)
    × (length l.out ≡ length l.initial.out)

abbrev pub decreases-loop-i : goal.decreases-loop-i
decreases-loop-i l = first_at l.book l.e - l.i
