use Prim.Native.Nat.{◌%◌}
use native.Mathlib.Omega.{arith}
use Rattle.access_set.specs.Laws.Bit.{one_shl}
use Rattle.access_set.specs.Laws.Sets.{without-a, without-b, without-c, without-d}
use Rattle.access_set.proofs.Bits.without.Goals as goal

pub returns-in-0 : goal.returns-in-0
returns-in-0 c = let A = c.args in without-a A.self A.i _ (one_shl (A.i % 64) (omega arith)) c.requires.1 c.in-0.is

pub returns-in-1 : goal.returns-in-1
returns-in-1 c = let A = c.args in without-b A.self A.i _ (one_shl (A.i % 64) (omega arith)) c.requires.1 c.in-1.is

pub returns-in-2 : goal.returns-in-2
returns-in-2 c = let A = c.args in without-c A.self A.i _ (one_shl (A.i % 64) (omega arith)) c.requires.1 c.in-2.is

pub returns-in_default : goal.returns-in_default
returns-in_default c = let A = c.args in without-d A.self A.i _ (one_shl (A.i % 64) (omega arith)) c.requires.1 (omega arith)
