use Rattle.caller.specs.Laws.Within.{noted-unlimited, noted-limited}
use Rattle.caller.proofs.within.Goals as goal

pub returns-then-asked-lt-LIST : goal.returns-then-asked-lt-LIST
returns-then-asked-lt-LIST c = let A = c.args in λ G w q x n. noted-unlimited G w q A.limits x A.asked n c.if-asked-lt-LIST.true

pub returns : goal.returns
returns c = let A = c.args in λ G w q x n. noted-limited G w q A.limits x A.asked n c.if-asked-lt-LIST.false _ c.tighter.ensures
