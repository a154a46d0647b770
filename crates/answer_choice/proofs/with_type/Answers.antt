use mathlib.Core.Path.{◌≡◌, ap, ◌∙◌}
use native.Mathlib.Omega.{arith}
use Rattle.name.specs.Laws.Schema.{rank-type}
use Rattle.tables.specs.Held.{type_at}
use Rattle.answer_choice.specs.Laws.Selected.{rank-in, rank-out}
use Rattle.answer_choice.proofs.with_type.Goals as goal

pub returns-then-i-types : goal.returns-then-i-types
returns-then-i-types c =
    let A = c.args in
    let P = c.requires in
    let e = c.rank-i.ensures in
    let l = c.if-i-types.true in
    let same : type_at A.types.now c.rank-i.result ≡ A.t = ap (type_at A.types.now) e ∙ rank-type A.types.now A.t (omega (arith, e, l)) in
    λ r m. rank-in A.types.now A.t P.1 _ l (omega (arith, l, P.0)) same A.ranks r m

pub returns : goal.returns
returns c =
    let A = c.args in
    λ r m. rank-out A.types.now A.t (omega (arith, c.rank-i.ensures, c.if-i-types.false)) A.ranks r m
