use native.Mathlib.Omega.{arith}
use Prim.Native.Nat.{◌-◌}
use Rattle.filter_lines.specs.Laws.Pieces.{lesser-first, lesser-second}
use Rattle.filter_lines.proofs.pieces.end_of.Goals as goal

pub returns-then-n-lines-clause-is : goal.returns-then-n-lines-clause-is
returns-then-n-lines-clause-is c = omega (arith, lesser-first c.args.n (c.args.lines - c.args.k) (omega arith))

pub returns-clause-is : goal.returns-clause-is
returns-clause-is c = omega (arith, lesser-second c.args.n (c.args.lines - c.args.k) (omega arith))
