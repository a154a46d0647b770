use mathlib.Core.Path.{ap}
use Prim.Native.Nat.{ℕ, ◌/◌, ◌%◌, ◌^◌}
use lib.Dec.{eqb}
use Rattle.access_set.specs.Member.{bit_of, member}
use Rattle.access_set.proofs.Bits.has.Goals as goal

pub returns : goal.returns
unfolding member bit_of
returns c = let i = c.args.i in ap (λ (x : ℕ). eqb (x / 2 ^ (i % 64) % 2) 1) c.word-w.ensures
