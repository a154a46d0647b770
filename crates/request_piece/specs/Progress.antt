-- How far a part of a filter was read: up to the position `next`, with `left` more lines allowed; or the refusal number.
use Rattle.std.specs.Prelude.{ℕ, Result, Ok, Err}
use Rattle.rules.specs.Refusals.{refusal_number}
use Rattle.rules.specs.declared.refusals.Refusal.{Refusal}
use Rattle.request_piece.specs.declared.Step.{Step}

pub data Progress : Type 0 where
  Read : ℕ → ℕ → Progress
  Refused : ℕ → Progress

-- what a result says
abbrev pub progress_of : Result Step Refusal → Progress
progress_of (Ok s) = Read s.next s.left
progress_of (Err r) = Refused (refusal_number r)
