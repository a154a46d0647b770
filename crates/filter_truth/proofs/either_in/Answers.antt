-- By the edition.
use Rattle.filter_truth.proofs.either_in.Goals as goal

pub returns-in-LaterLogic : goal.returns-in-LaterLogic
returns-in-LaterLogic c = rw c.in-LaterLogic.is c.either.ensures

pub returns-in-FirstEdition : goal.returns-in-FirstEdition
returns-in-FirstEdition c = rw c.in-FirstEdition.is c.either_first.ensures
