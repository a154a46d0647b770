use Rattle.rules.proofs.Laws.Sheet.{part_of}
use Rattle.tables.specs.Held.{place_at, size_at}
use borrow.Author.Rules.{rules}
use Rattle.tables.proofs.held.bytes.Goals as goal

pub returns : goal.returns
returns c = let A = c.args in part_of A.d.now (place_at A.held.now A.i) (size_at A.held.now A.i)
