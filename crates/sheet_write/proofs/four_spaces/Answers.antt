use Rattle.sheet_write.specs.Laws.Put.{spaces-four}
use borrow.Author.Rules.{rules}
use Rattle.sheet_write.proofs.four_spaces.Goals as goal

pub returns : goal.returns
returns c = spaces-four _ _ (search rules)
