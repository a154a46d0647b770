use Rattle.rules.proofs.Laws.Sheet.{part_of}
use Rattle.sheet_line.proofs.part.Goals as goal

pub returns : goal.returns
returns c = part_of c.args.s.now c.args.place c.args.length
