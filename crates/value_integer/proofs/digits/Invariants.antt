-- The digits passed give `v`, which has at most as many. So 19 digits do not wrap.
use Rattle.std.proofs.Common.{◌^◌, ◌<◌, ◌≡◌, drop}
use Rattle.rules.specs.Sheet.{digits}
use Rattle.value_integer.proofs.digits.Given as goal

abbrev pub invariant-loop-b : goal.invariant-loop-b
invariant-loop-b l = (l.v < 10 ^ l.b-index) × (digits l.v (drop l.b-index l.s) ≡ digits 0 l.s)
