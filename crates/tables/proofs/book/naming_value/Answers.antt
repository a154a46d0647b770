use Rattle.rules.proofs.Laws.Sheet.{part_of}
use Rattle.tables.specs.Book.{naming_place, length_at}
use borrow.Author.Rules.{rules}
use Rattle.tables.proofs.book.naming_value.Goals as goal

pub returns : goal.returns
returns c = let A = c.args in part_of A.d.now (naming_place A.book.now A.k) (length_at A.book.now A.k)
