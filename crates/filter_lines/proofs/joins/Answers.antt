use Rattle.filter_lines.proofs.joins.Goals as goal

pub returns : goal.returns
returns c = rw (c.is.ensures, c.is-2.ensures)
