-- By the edition, then by the number of parts.
use Rattle.filter_truth.specs.Laws.{start-some}
use Rattle.filter_truth.proofs.start.Goals as goal

pub returns-else-parts-eq0 : goal.returns-else-parts-eq0
returns-else-parts-eq0 c = rw c.in-FirstEdition.is (start-some _ _ c.if-parts-eq0.false)
