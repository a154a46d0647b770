-- Of the marks newer than number `k` in the bucket none is a twin.
use Rattle.directory_duplicates.specs.Mark.{Mark, Walk}
use Rattle.directory_duplicates.specs.Laws.Mark.{WalkLeft}
use mathlib.Core.List.{List}
use Prim.Native.Nat.{ℕ}
use Rattle.directory_duplicates.proofs.mark.twin.Given as goal

abbrev pub invariant-loop-k : goal.invariant-loop-k
invariant-loop-k l = (key : ℕ) (all : List Mark) → Walk l.s l.marks l.may l.head l.label key l.v all → (rest : List Mark) × WalkLeft l.s l.marks l.syntax key l.v l.k all rest

abbrev pub decreases-loop-k : goal.decreases-loop-k
decreases-loop-k l = l.k
