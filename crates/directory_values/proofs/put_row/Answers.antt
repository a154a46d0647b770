-- The three stores are `written`.
use mathlib.Core.Path.{refl}
use Rattle.directory_values.specs.Rows.{written}
use Rattle.directory_values.proofs.put_row.Goals as goal

pub returns : goal.returns
unfolding written
returns c = refl
