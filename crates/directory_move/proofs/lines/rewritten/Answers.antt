use mathlib.Core.Path.{sym, ◌∙◌}
use native.Mathlib.Omega.{arith}
use Rattle.sheet_line.specs.Laws.{taken-fits-line}
use Rattle.sheet_write.specs.Laws.Writing.{writing_start, writing-room, writing-on, writing-done}
use Rattle.directory_move.specs.Laws.Rewritten.{rewritten-on, rewritten-broken, rewritten-end}
use Rattle.directory_move.proofs.lines.rewritten.Goals as goal

pub loop-line-init : goal.loop-line-init
loop-line-init c = writing_start _ 0 _ (omega (arith, c.requires.3))

pub bytes-requires : goal.bytes-requires
bytes-requires c =
    let A = c.args in
    let L = c.loop-line in
    let f = taken-fits-line A.w A.s.now L.at (sym c.take.ensures ∙ c.in-Line.is) in
    omega (arith, f.next, f.within)

pub put_numbered-to-requires : goal.put_numbered-to-requires
put_numbered-to-requires c =
    let L = c.loop-line in
    let on = rewritten-on _ _ _ L.at (sym c.take.ensures ∙ c.in-Line.is) in
    (c.requires.1, rw c.bytes.ensures (writing-room L.invariant _ _ _ on))

pub loop-line-smaller : goal.loop-line-smaller
loop-line-smaller c =
    let A = c.args in
    let f = taken-fits-line A.w A.s.now c.loop-line.at (sym c.take.ensures ∙ c.in-Line.is) in
    omega (arith, f.place, f.next, f.within)

pub loop-line-preserved : goal.loop-line-preserved
loop-line-preserved c =
    let p = c.put_numbered-to in
    let b = c.bytes.ensures in
    let on = rewritten-on _ _ _ c.loop-line.at (sym c.take.ensures ∙ c.in-Line.is) in
    writing-on c.loop-line.invariant _ _ _ on (rw (← b) p.ensures.next) (rw (← b) p.ensures.written)

pub shape_of-out-in-NotInForm : goal.shape_of-out-in-NotInForm
shape_of-out-in-NotInForm c = c.loop-line.invariant.same

pub returns-in-NotInForm : goal.returns-in-NotInForm
returns-in-NotInForm c =
    let L = c.loop-line in
    (writing-done L.invariant (rewritten-broken _ _ _ L.at (sym c.take.ensures ∙ c.in-NotInForm.is))).1

pub shape_of-out-in-End : goal.shape_of-out-in-End
shape_of-out-in-End c = c.loop-line.invariant.same

pub returns-in-End : goal.returns-in-End
returns-in-End c =
    let L = c.loop-line in
    (writing-done L.invariant (rewritten-end _ _ _ L.at (sym c.take.ensures ∙ c.in-End.is))).1
