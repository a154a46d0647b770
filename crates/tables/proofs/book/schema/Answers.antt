use Rattle.tables.specs.Book.{schema_column, schema, type_count}
use Rattle.tables.specs.Laws.Book.{cut-part}
use borrow.Author.Rules.{rules}
use Rattle.tables.proofs.book.schema.Goals as goal

pub returns : goal.returns
unfolding schema
returns c = let b = c.args.book.now in cut-part b schema_column (type_count b)
