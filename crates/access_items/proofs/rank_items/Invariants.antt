use mathlib.Core.Path.{◌≡◌}
use lib.ListN.{length, take}
use Rattle.access_items.specs.Rank.{scores_of}
use Rattle.access_items.proofs.rank_items.Given as goal

abbrev pub invariant-loop-k : goal.invariant-loop-k
invariant-loop-k l = (length l.keys ≡ 256) × (take l.k l.keys ≡ scores_of l.rights l.k)
