-- Whether a sheet can be moved, and how long it then is.
use Rattle.std.specs.Prelude.{ℕ, ◌≤◌, ◌≡◌, Result, Ok, Err, length}
use Rattle.rules.specs.Sheet.{Bytes}
use Rattle.rules.specs.declared.Format.{Format}
use Rattle.rules.specs.Judge.{accept, refuse}
use Rattle.rules.specs.Move.{moved}
use Rattle.rules.specs.Refusals.{refusal_number}
use Rattle.rules.specs.declared.refusals.Refusal.{Refusal}
use Rattle.directory_move.specs.Rewritten.{rewritten_from}

-- the sheet `s`, moved from one form to another into a buffer of length `room`: the length of the moved sheet, or the refusal of the move
abbrev pub Movable : Format → Format → Bytes → ℕ → Result ℕ Refusal → Type 0
Movable from to s room (Ok n) = (n ≡ length (rewritten_from from.width to.width s 0)) × (n ≤ room) × (moved from to s room ≡ accept (rewritten_from from.width to.width s 0))
Movable from to s room (Err e) = moved from to s room ≡ refuse (refusal_number e)
