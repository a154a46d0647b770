-- The parts are the whole texts.
use mathlib.Core.Path.{ap₂, ◌∙◌}
use mathlib.Core.List.{List}
use Prim.Native.Nat.{ℕ}
use Rattle.rules.proofs.Laws.Sheet.{part-rest}
use Rattle.rules.specs.Value.{text, normal, order_bytes}
use Rattle.value_text.proofs.by_blanks.Goals as goal

pub returns : goal.returns
returns c =
    let A = c.args in
    c.order_blanks.ensures ∙ ap₂ (λ (v w : List ℕ). order_bytes (normal text v) (normal text w)) (part-rest A.v.now 0) (part-rest A.w.now 0)
