use Rattle.tables.specs.Book.{parent_column, parents, entry_count}
use Rattle.tables.specs.Laws.Book.{cut-part}
use borrow.Author.Rules.{rules}
use Rattle.tables.proofs.book.parents.Goals as goal

pub returns : goal.returns
unfolding parents
returns c = let b = c.args.book.now in cut-part b parent_column (entry_count b)
