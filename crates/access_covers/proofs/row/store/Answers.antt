use mathlib.Core.Path.{refl}
use Rattle.access_covers.specs.Row.{row_stored}
use Rattle.access_covers.proofs.row.store.Goals as goal

pub returns : goal.returns
unfolding row_stored
returns c = refl
