use mathlib.Core.Path.{ap, ◌∙◌}
use Prim.Native.Nat.{ℕ}
use Rattle.name.specs.Schema.{allowed_at}
use Rattle.name.specs.Laws.Schema.{allowed-ranked}
use Rattle.name.proofs.allowed.Goals as goal

pub returns : goal.returns
returns c =
    let A = c.args in
    c.allowed_at.ensures ∙ ap (λ (r : ℕ). allowed_at A.schema.now r A.v.now) c.rank.ensures ∙ allowed-ranked A.schema.now A.t A.v.now
