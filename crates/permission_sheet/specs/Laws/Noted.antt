-- Laws of `noted_of`: what a caller of `judge` has.
use Rattle.std.specs.Prelude.{◌≡◌, Err}
use Rattle.rules.specs.declared.refusals.Refusal.{Refusal}
use Rattle.rules.proofs.Laws.Refusals.{refusal-some}
use Rattle.permission_sheet.specs.Noted.{noted_of}

-- a refusal's number is not 0
pub noted-some : (r : Refusal) → (noted_of (Err r)).refusal ≡ 0 → ⊥
noted-some r = refusal-some r
