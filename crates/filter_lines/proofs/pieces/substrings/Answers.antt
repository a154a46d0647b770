-- The value itself, or its local text.
use mathlib.Core.Path.{sym, ◌∙◌}
use Rattle.value_blank.specs.Laws.Text.{text-within}
use Rattle.filter_lines.specs.Laws.Pieces.{stand-tidy, stand-tidied}
use Rattle.filter_lines.proofs.pieces.substrings.Goals as goal

pub returns-then-tidy : goal.returns-then-tidy
returns-then-tidy c =
    let a = c.args in
    c.pieces_stand.ensures ∙ stand-tidy a.v.now _ (sym c.tidy.ensures ∙ c.if-tidy.true)

pub slice_bounds-pieces_stand-end : goal.slice_bounds-pieces_stand-end
slice_bounds-pieces_stand-end c = text-within _ _ c.tidied-t.ensures

pub returns : goal.returns
returns c =
    let a = c.args in
    c.pieces_stand-2.ensures ∙ stand-tidied a.v.now _ _ c.tidied-t.ensures c.requires.2
