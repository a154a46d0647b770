-- The bytes themselves, or those of the local text.
use mathlib.Core.Path.{sym, ◌∙◌}
use Rattle.value_blank.specs.Laws.Text.{text-within}
use Rattle.value_syntax.specs.Laws.Digest.{digest-tidy, digest-tidied}
use Rattle.value_syntax.proofs.digest.digest.Goals as goal

pub returns-then-tidy : goal.returns-then-tidy
returns-then-tidy c =
    let A = c.args in
    c.mixed.ensures ∙ sym (digest-tidy A.seed A.v.now c.if-v-le64.true (sym c.tidy.ensures ∙ c.if-tidy.true))

pub slice_bounds-mixed-end : goal.slice_bounds-mixed-end
slice_bounds-mixed-end c = text-within _ _ c.tidied-t.ensures

pub returns : goal.returns
returns c =
    let A = c.args in
    c.mixed-2.ensures ∙ sym (digest-tidied A.seed A.v.now _ c.tidied-t.ensures)
