use Rattle.filter_truth.proofs.joined.Goals as goal

pub returns-then-conjunction : goal.returns-then-conjunction
returns-then-conjunction c = rw c.if-conjunction.true c.both_in.ensures

pub returns : goal.returns
returns c = rw c.if-conjunction.false c.either_in.ensures
