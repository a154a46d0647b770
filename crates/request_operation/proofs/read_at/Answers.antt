-- The group, or its refusal.
use mathlib.Core.Path.{refl}
use Rattle.std.proofs.lemmas.Result.{err_from_is_err_and}
use Rattle.request_operation.specs.Operations.{read_at}
use Rattle.request_operation.proofs.read_at.Goals as goal

pub returns-in_err-group : goal.returns-in_err-group
unfolding read_at
returns-in_err-group c = let p = err_from_is_err_and c.from_residual.result c.from_residual.ensures.1 in rw (p.1, p.2) c.in_err-group.ensures

pub returns : goal.returns
unfolding read_at
returns c = let d = c.in_ok-group.ensures in rw (d.1, c.no_line.ensures, c.no_line-2.ensures, c.no_line-3.ensures) (d.0, refl)
