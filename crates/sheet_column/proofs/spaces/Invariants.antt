-- The spaces before `i` are stripped.
use Rattle.std.proofs.Common.{◌≡◌, drop}
use Rattle.rules.specs.Sheet.{strip}
use Rattle.sheet_column.proofs.spaces.Given as goal

abbrev pub invariant-loop-i : goal.invariant-loop-i
invariant-loop-i l = strip (drop l.i l.s) ≡ strip l.s
