use mathlib.Core.Path.{refl}
use native.Mathlib.Omega.{arith}
use Rattle.value_syntax.specs.Digest.{caseless}
use Rattle.value_syntax.specs.Laws.Digest.{caseless-bound}
use Rattle.value_syntax.proofs.digest.caseless.Goals as goal

pub returns : goal.returns
unfolding caseless
returns c = (refl, omega (arith, caseless-bound c.args.b (omega arith)))
