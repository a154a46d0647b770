-- The pieces from here are the pieces from the start.
use mathlib.Core.Bool.{true}
use mathlib.Core.Path.{◌≡◌}
use Rattle.rules.specs.Request.{request_grammar}
use Rattle.request_piece.specs.Pieces.{pieces_at}
use Rattle.request_piece.proofs.pieces_at.Given as goal

abbrev pub invariant-loop-after : goal.invariant-loop-after
invariant-loop-after l = pieces_at (request_grammar l.f.top) l.f.width l.q l.first l.after l.step.next l.step.left ≡ pieces_at (request_grammar l.f.top) l.f.width l.q true l.count l.at l.left
