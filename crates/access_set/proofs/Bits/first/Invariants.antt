-- The words so far have no bit set.
use mathlib.Core.Path.{◌≡◌}
use Prim.Native.Nat.{ℕ, ◌<◌}
use Rattle.access_set.specs.Member.{word_of}
use Rattle.access_set.proofs.Bits.first.Given as goal

abbrev pub invariant-loop-k : goal.invariant-loop-k
invariant-loop-k l = (m : ℕ) → m < l.k → word_of l.fn.self m ≡ 0
