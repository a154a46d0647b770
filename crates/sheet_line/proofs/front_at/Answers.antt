-- A line at a position is the front of the part that begins there.
use mathlib.Core.Path.{sym, ap, ◌∙◌}
use Rattle.rules.specs.Sheet.{front_of}
use Rattle.rules.proofs.Laws.Sheet.{front-past, part-rest}
use Rattle.sheet_line.proofs.front_at.Goals as goal

pub returns-then-at-s : goal.returns-then-at-s
returns-then-at-s c = let A = c.args in c.front.ensures ∙ ap (front_of A.w) (part-rest A.s.now A.at)

pub returns : goal.returns
returns c = let A = c.args in sym (front-past A.w A.s.now A.at c.if-at-s.false)
