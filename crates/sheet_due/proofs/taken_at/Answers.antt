-- The part is the whole sheet, and a line made anew is the line.
use mathlib.Core.Path.{sym, ap, ◌∙◌}
use mathlib.Core.List.{List}
use Prim.Native.Nat.{ℕ}
use Rattle.rules.proofs.Laws.Sheet.{part-rest}
use Rattle.sheet_line.specs.Line.{taken_at}
use Rattle.sheet_line.specs.Laws.{taken-fits-line}
use Rattle.sheet_line.specs.declared.Line.{Line}
use Rattle.sheet_line.specs.declared.Taken.TheVariants as Taken
use Rattle.sheet_due.proofs.taken_at.Goals as goal

pub anew-requires : goal.anew-requires
anew-requires c = let A = c.args in (taken-fits-line A.w A.s.now A.at (sym ((let A = c.args in c.take.ensures ∙ ap (λ (l : List ℕ). taken_at A.w l A.at) (part-rest A.s.now 0))) ∙ c.in-Line.is)).next

pub returns-in-Line : goal.returns-in-Line
returns-in-Line c = ap (λ (x : Line). Taken.Line x) c.anew.ensures ∙ sym c.in-Line.is ∙ (let A = c.args in c.take.ensures ∙ ap (λ (l : List ℕ). taken_at A.w l A.at) (part-rest A.s.now 0))

pub returns-in-NotInForm : goal.returns-in-NotInForm
returns-in-NotInForm c = sym c.in-NotInForm.is ∙ (let A = c.args in c.take.ensures ∙ ap (λ (l : List ℕ). taken_at A.w l A.at) (part-rest A.s.now 0))

pub returns-in-End : goal.returns-in-End
returns-in-End c = sym c.in-End.is ∙ (let A = c.args in c.take.ensures ∙ ap (λ (l : List ℕ). taken_at A.w l A.at) (part-rest A.s.now 0))
