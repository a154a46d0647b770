-- Some parts have been read, whichever entry the target is of, and the others are due.
use Prim.Native.Nat.{◌-◌}
use mathlib.Core.List.{List}
use Rattle.rules.specs.Name.{Name}
use Rattle.rules.specs.Directory.{Stored}
use Rattle.directory_alias.specs.Target.{Owed, PartsRead}
use Rattle.directory_alias.proofs.parts.Given as goal

abbrev pub invariant-loop-k : goal.invariant-loop-k
invariant-loop-k l = (complete : List Stored) (d : Stored) → Owed l.f l.s l.schema l.e complete d → (m : Name) × PartsRead l.f l.s l.schema l.e l.line (l.line.b - l._k) l.at complete d m
