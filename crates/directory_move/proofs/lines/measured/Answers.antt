use mathlib.Core.Path.{sym, ◌∙◌}
use native.Mathlib.Omega.{arith}
use Rattle.sheet_line.specs.Laws.{taken-fits-line}
use Rattle.directory_move.specs.Laws.Rewritten.{rewritten-broken, rewritten-end, measured-start, measured-on, measured-done}
use Rattle.directory_move.proofs.lines.measured.Goals as goal

pub loop-line-init : goal.loop-line-init
loop-line-init c = measured-start _ _ _

pub size-n-requires : goal.size-n-requires
size-n-requires c =
    let L = c.loop-line in
    let f = taken-fits-line c.args.w c.args.s.now L.at (sym c.take.ensures ∙ c.in-Line.is) in
    omega (arith, c.requires, f.short)

pub overflow_add-n : goal.overflow_add-n
overflow_add-n c = let m = measured-on c.loop-line.invariant c.requires.1 (sym c.take.ensures ∙ c.in-Line.is) c.size-n.ensures in omega (arith, c.requires, m.few, m.within)

pub loop-line-smaller : goal.loop-line-smaller
loop-line-smaller c =
    let A = c.args in
    let L = c.loop-line in
    let f = taken-fits-line A.w A.s.now L.at (sym c.take.ensures ∙ c.in-Line.is) in
    omega (arith, f.place, f.next, f.within)

pub loop-line-preserved : goal.loop-line-preserved
loop-line-preserved c = measured-on c.loop-line.invariant c.requires.1 (sym c.take.ensures ∙ c.in-Line.is) c.size-n.ensures

pub returns-in-NotInForm : goal.returns-in-NotInForm
returns-in-NotInForm c =
    let L = c.loop-line in
    measured-done L.invariant (rewritten-broken _ _ _ L.at (sym c.take.ensures ∙ c.in-NotInForm.is))

pub returns-in-End : goal.returns-in-End
returns-in-End c =
    let L = c.loop-line in
    measured-done L.invariant (rewritten-end _ _ _ L.at (sym c.take.ensures ∙ c.in-End.is))
