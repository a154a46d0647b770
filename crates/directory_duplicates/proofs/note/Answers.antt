-- The three stores are `with_mark`.
use Prim.Native.Nat.{◌%◌}
use native.Mathlib.Omega.{arith}
use Rattle.access_set.specs.Laws.Bit.{one_shl}
use Rattle.directory_duplicates.specs.Mark.{with_mark}
use Rattle.directory_duplicates.proofs.note.Goals as goal

pub returns : goal.returns
unfolding with_mark
returns c = let r = c.args.r in rw (one_shl (r.slot % 64) (omega arith))
