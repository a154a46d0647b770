use Rattle.access_set.specs.Laws.Sets.{member-empty}
use Rattle.access_set.proofs.Bits.empty.Goals as goal

pub returns : goal.returns
returns c = member-empty
