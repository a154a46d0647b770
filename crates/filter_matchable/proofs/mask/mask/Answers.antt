use Rattle.filter_matchable.specs.Laws.Mask.{mask-none, mask-on}
use Rattle.filter_matchable.proofs.mask.mask.Goals as goal

pub loop-k-init : goal.loop-k-init
loop-k-init c = mask-none c.args.rows.now

pub loop-k-preserved : goal.loop-k-preserved
loop-k-preserved c = mask-on c.args.rows.now c.loop-k.k c.loop-k.x c.bit_if-x.result c.sought.result c.sought.ensures c.bit_if-x.ensures c.loop-k.invariant
