use mathlib.Core.Path.{refl}
use native.Mathlib.Omega.{arith}
use Rattle.caller.proofs.format_of.Goals as goal

pub returns-then-wide : goal.returns-then-wide
returns-then-wide c = rw c.if-wide.true (refl, record { least = omega arith; most = omega arith; types = omega arith })

pub returns : goal.returns
returns c = rw c.if-wide.false (refl, record { least = omega arith; most = omega arith; types = omega arith })
