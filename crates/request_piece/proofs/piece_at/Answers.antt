-- The two calls are the definition.
use mathlib.Core.Path.{ap, ◌∙◌}
use Rattle.request_piece.specs.Pieces.{piece_at, piece_by}
use Rattle.request_piece.proofs.piece_at.Goals as goal

pub returns : goal.returns
unfolding piece_at
returns c = c.piece_by.ensures ∙ ap (piece_by 20 _ _ _) c.seen_at.ensures
