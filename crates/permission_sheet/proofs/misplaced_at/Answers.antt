-- By the line that begins an item, where one is due.
use mathlib.Core.Path.{refl, ◌∙◌}
use Rattle.rules.specs.Places.{schema_of}
use Rattle.rules.proofs.Laws.Refusals.{refusal-some}
use Rattle.permission_sheet.specs.Laws.Misplaced.{misplaced-refused, misplaced-item}
use Rattle.permission_sheet.proofs.misplaced_at.Goals as goal

pub returns-in-Ok : goal.returns-in-Ok
returns-in-Ok c = let A = c.args in misplaced-item A.f.top (schema_of A.schema.now) A.f.width A.p.now A.at refl c.in-Ok.ensures.0

pub returns-in-Err : goal.returns-in-Err
returns-in-Err c =
    let A = c.args in
    let e = c.in-Err.ensures in
    e ∙ misplaced-refused A.f.top (schema_of A.schema.now) A.f.width A.p.now A.at refl (λ z. refusal-some c.in-Err.refusal (e ∙ z))
