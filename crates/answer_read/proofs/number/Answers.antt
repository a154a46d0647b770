use Rattle.answer_read.proofs.number.Goals as goal

pub returns-then-named : goal.returns-then-named
returns-then-named c = rw c.if-named.true

pub returns : goal.returns
returns c = rw c.if-named.false
