use mathlib.Core.Path.{refl}
use Rattle.value_syntax.specs.Digest.{stirred}
use Rattle.value_syntax.proofs.digest.stirred.Goals as goal

pub returns : goal.returns
unfolding stirred
returns c = refl
