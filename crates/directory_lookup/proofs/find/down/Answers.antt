-- By what was taken, and by the child found.
use mathlib.Core.Path.{sym, ap, ◌∙◌}
use native.Mathlib.Omega.{arith}
use Rattle.sheet_line.specs.Laws.{taken-fits-line}
use Rattle.tables.specs.Book.{width}
use Rattle.directory_lookup.specs.Find.{step_of}
use Rattle.directory_lookup.specs.Laws.Find.{up_to, step-found}
use Rattle.directory_lookup.proofs.find.down.Goals as goal

pub bytes-requires : goal.bytes-requires
bytes-requires c =
    let a = c.args in
    let f = taken-fits-line (width a.book.now) a.s.now a.j (sym c.take.ensures ∙ c.in-Line.is) in
    omega (arith, f.next, f.within)

pub returns-in-Some : goal.returns-in-Some
returns-in-Some c =
    let a = c.args in
    let n = c.in-Some.is in
    let k = c.child.ensures in (
      up_to _ _ _ k.0 n,
      λ σ es held h. step-found σ.schema es a.from (width a.book.now) a.s.now a.j _ (sym c.take.ensures ∙ c.in-Line.is) _ _ c.bytes.ensures (sym n ∙ k.1 σ es held h),
    )

pub returns-in-None : goal.returns-in-None
returns-in-None c =
    let a = c.args in
    let k = c.child.ensures in
    (tt, λ σ es held h. step-found σ.schema es a.from (width a.book.now) a.s.now a.j _ (sym c.take.ensures ∙ c.in-Line.is) _ _ c.bytes.ensures (sym c.in-None.is ∙ k.1 σ es held h))

pub returns-in-NotInForm : goal.returns-in-NotInForm
unfolding step_of
returns-in-NotInForm c = let a = c.args in (tt, λ σ es held h. ap (step_of σ.schema es a.from a.s.now) (sym c.in-NotInForm.is ∙ c.take.ensures))

pub returns-in-End : goal.returns-in-End
unfolding step_of
returns-in-End c = let a = c.args in (tt, λ σ es held h. ap (step_of σ.schema es a.from a.s.now) (sym c.in-End.is ∙ c.take.ensures))
