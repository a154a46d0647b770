-- Field by field; the edition is what `edition_in` gives.
use Rattle.request_sheet.proofs.accept.Goals as goal

pub returns : goal.returns
returns c = rw c.edition_in.ensures
