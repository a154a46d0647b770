-- The digits so far are in `v`, which has at most as many.
use Rattle.std.proofs.Common.{◌^◌, ◌<◌, ◌≡◌, drop}
use Rattle.rules.specs.Sheet.{digits}
use Rattle.sheet_column.proofs.number.Given as goal

abbrev pub invariant-loop-b : goal.invariant-loop-b
invariant-loop-b l = (l.v < 10 ^ l.b-index) × (digits l.v (drop l.b-index l.s) ≡ digits 0 l.s)
