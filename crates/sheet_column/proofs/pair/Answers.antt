use Rattle.sheet_column.specs.Laws.{one-digit, two_digits}
use Rattle.sheet_column.proofs.pair.Goals as goal

pub returns-then-t-eq32 : goal.returns-then-t-eq32
returns-then-t-eq32 c = λ e. one-digit _ _ c.if-t-eq32.true c.if-x-lt48.false c.if-x-gt57.false

pub returns : goal.returns
returns c = λ e. two_digits _ _ c.if-y-lt49.false c.if-y-gt57.false c.if-x-lt48.false c.if-x-gt57.false
