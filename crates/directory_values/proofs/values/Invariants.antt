-- The value lines before the position are taken and their rows written; the marks are theirs, whatever entries stood before them.
use Rattle.directory_values.specs.Values.{Begun, ValuesRead}
use Rattle.directory_duplicates.specs.Mark.{Mark}
use Rattle.rules.specs.Directory.{Stored}
use Rattle.rules.specs.Name.{Part}
use lib.ListN.{length}
use mathlib.Core.List.{List}
use Prim.Native.Nat.{◌-◌}
use Rattle.directory_values.proofs.values.Given as goal

abbrev pub invariant-loop-line : goal.invariant-loop-line
invariant-loop-line l = (complete : List Stored) (d : Stored) (ms : List Mark) → Begun l.f l.s l.schema l.initial.marks l.initial.held l.marked l.e complete d ms
    → (vs : List Part) × (ms' : List Mark) × ValuesRead l.f l.s l.schema l.marks l.initial.held l.held l.n l.found l.last l.from l.at l.to l.e complete d vs ms'

abbrev pub decreases-loop-line : goal.decreases-loop-line
decreases-loop-line l = length l.s - l.at
