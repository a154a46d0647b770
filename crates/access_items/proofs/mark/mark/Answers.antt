use Prim.Native.Nat.{ℕ, ◌+◌, ◌*◌, ◌/◌}
use mathlib.Core.Path.{ap}
use lib.ListN.{get_or, set}
use lib.Bits.{bit_or}
use Rattle.access_items.specs.Mark.{marked}
use Rattle.access_items.specs.Laws.Mark.{shifted}
use Rattle.access_items.proofs.mark.mark.Goals as goal

pub returns : goal.returns
unfolding marked
returns c = let A = c.args in ap (λ (x : ℕ). set A.sets.now (A.row * 4 + A.place / 64) (bit_or (get_or A.sets.now (A.row * 4 + A.place / 64) 0) x)) (shifted A.bit A.place c.requires.2)
