use Rattle.answer_read.proofs.found.Goals as goal

pub returns : goal.returns
returns c = rw c.number.ensures
