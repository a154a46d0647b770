-- The entries before the position are noted, with their values and the rows of these; `taken` stands there.
use Rattle.directory_sheet.specs.Laws.Entries.{EntriesRead}
use Rattle.directory_duplicates.specs.Mark.{Mark}
use Rattle.rules.specs.Directory.{Stored}
use lib.ListN.{length}
use mathlib.Core.Option.{Option}
use mathlib.Core.List.{List}
use Prim.Native.Nat.{◌-◌}
use Rattle.directory_sheet.proofs.entries.Given as goal

abbrev pub invariant-loop-taken : goal.invariant-loop-taken
invariant-loop-taken l = (complete : List Stored) × (current : Option Stored) × (ms : List Mark) × EntriesRead l.f l.s l.schema l.notes l.depths l.marks l.held l.n l.lacks l.at l.taken complete current ms

abbrev pub decreases-loop-taken : goal.decreases-loop-taken
decreases-loop-taken l = length l.s - l.at
