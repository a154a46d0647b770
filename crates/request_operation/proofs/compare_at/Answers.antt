-- The line, or its refusal.
use mathlib.Core.Path.{refl}
use Rattle.std.proofs.lemmas.Result.{err_from_is_err_and}
use Rattle.request_operation.specs.Operations.{compare_at}
use Rattle.request_operation.proofs.compare_at.Goals as goal

pub returns-in_err-assertion : goal.returns-in_err-assertion
unfolding compare_at
returns-in_err-assertion c = let p = err_from_is_err_and c.from_residual.result c.from_residual.ensures.1 in rw (p.1, p.2) c.in_err-assertion.ensures

pub returns : goal.returns
unfolding compare_at
returns c = let d = c.in_ok-assertion.ensures in rw (d.1, c.no_line.ensures, c.no_line-2.ensures, c.no_line-3.ensures) (d.0, refl)
