use Rattle.std.specs.Prelude.{Some}
use mathlib.Core.Path.{sym, ap, ◌∙◌}
use Prim.Native.Nat.{ℕ, ◌%◌}
use native.Mathlib.Omega.{arith}
use lib.ListN.{get_or}
use Rattle.name.specs.Laws.Schema.{syntax-known, syntax-unknown}
use Rattle.name.proofs.syntax_of.Goals as goal

pub returns-then-r-schema : goal.returns-then-r-schema
returns-then-r-schema c =
    let A = c.args in
    let e = c.rank-r.ensures in
    ap (λ (r : ℕ). Some (get_or A.schema.now r 0 % 4)) e ∙ sym (syntax-known A.schema.now A.t (omega (arith, e, c.if-r-schema.true)))

pub returns : goal.returns
returns c =
    let A = c.args in
    sym (syntax-unknown A.schema.now A.t (omega (arith, c.rank-r.ensures, c.if-r-schema.false)))
