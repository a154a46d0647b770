use mathlib.Core.Path.{refl}
use Rattle.filter_lines.specs.Lines.{noted}
use Rattle.filter_lines.proofs.lines.note_line.Goals as goal

pub returns : goal.returns
returns c = unfold noted in refl
