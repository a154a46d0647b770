-- The piece itself, or its runs shortened in a local text.
use mathlib.Core.Path.{sym, ◌∙◌}
use Rattle.value_blank.specs.Laws.Text.{text-within}
use Rattle.value_syntax.specs.Laws.Piece.{piece-plain, piece-short}
use Rattle.value_syntax.proofs.piece_end.Goals as goal

pub slice_bounds-end_of-end : goal.slice_bounds-end_of-end
slice_bounds-end_of-end c = text-within _ _ c.shortened-t.ensures

pub returns-then-run : goal.returns-then-run
returns-then-run c = rw (← piece-short c.args.p.now _ c.shortened-t.ensures c.requires.1) c.end_of.ensures

pub returns : goal.returns
returns c = rw (← piece-plain c.args.p.now (sym c.run.ensures ∙ c.if-run.false)) c.end_of-2.ensures
