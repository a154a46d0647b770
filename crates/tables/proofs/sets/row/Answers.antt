use mathlib.Core.Path.{refl}
use Rattle.tables.specs.Sets.{row_of}
use borrow.Author.Rules.{rules}
use Rattle.tables.proofs.sets.row.Goals as goal

pub returns : goal.returns
unfolding row_of
returns c = refl
