-- The first malformed column decides, else what stands after the five.
use mathlib.Core.Path.{sym, ◌∙◌}
use native.Mathlib.Omega.{arith}
use Rattle.rules.proofs.Laws.Sheet.{front-end, front-short}
use Rattle.sheet_frame.specs.Laws.{stop-1, stop-2, stop-3, stop-4, stop-5, all-five}
use Rattle.sheet_frame.proofs.by_columns.Goals as goal

pub returns-then-s-eq0 : goal.returns-then-s-eq0
returns-then-s-eq0 c = sym (front-end _ c.args.s.now c.if-s-eq0.true)

pub returns-then-s-w : goal.returns-then-s-w
returns-then-s-w c = sym (front-short _ c.args.s.now c.if-s-eq0.false c.if-s-w.true)

pub returns-in_default : goal.returns-in_default
returns-in_default c = stop-1 _ _ (omega (arith, c.if-s-eq0.false)) c.if-s-w.false (sym c.column_at.ensures ∙ c.in_default.is)

pub returns-in_default-column_at : goal.returns-in_default-column_at
returns-in_default-column_at c = stop-2 _ _ (omega (arith, c.if-s-eq0.false)) c.if-s-w.false (sym c.column_at.ensures ∙ c.in-Some.is) (sym c.column_at-2.ensures ∙ c.in_default-column_at.is)

pub returns-in_default-column_at-2 : goal.returns-in_default-column_at-2
returns-in_default-column_at-2 c = stop-3 _ _ (omega (arith, c.if-s-eq0.false)) c.if-s-w.false (sym c.column_at.ensures ∙ c.in-Some.is) (sym c.column_at-2.ensures ∙ c.in-Some-column_at.is) (sym c.column_at-3.ensures ∙ c.in_default-column_at-2.is)

pub returns-in_default-column_at-3 : goal.returns-in_default-column_at-3
returns-in_default-column_at-3 c = stop-4 _ _ (omega (arith, c.if-s-eq0.false)) c.if-s-w.false (sym c.column_at.ensures ∙ c.in-Some.is) (sym c.column_at-2.ensures ∙ c.in-Some-column_at.is) (sym c.column_at-3.ensures ∙ c.in-Some-column_at-2.is) (sym c.column_at-4.ensures ∙ c.in_default-column_at-3.is)

pub returns-in_default-column_at-4 : goal.returns-in_default-column_at-4
returns-in_default-column_at-4 c = stop-5 _ _ (omega (arith, c.if-s-eq0.false)) c.if-s-w.false (sym c.column_at.ensures ∙ c.in-Some.is) (sym c.column_at-2.ensures ∙ c.in-Some-column_at.is) (sym c.column_at-3.ensures ∙ c.in-Some-column_at-2.is) (sym c.column_at-4.ensures ∙ c.in-Some-column_at-3.is) (sym c.column_at-5.ensures ∙ c.in_default-column_at-4.is)

pub returns : goal.returns
returns c = all-five _ _ (omega (arith, c.if-s-eq0.false)) c.if-s-w.false (sym c.column_at.ensures ∙ c.in-Some.is) (sym c.column_at-2.ensures ∙ c.in-Some-column_at.is) (sym c.column_at-3.ensures ∙ c.in-Some-column_at-2.is) (sym c.column_at-4.ensures ∙ c.in-Some-column_at-3.is) (sym c.column_at-5.ensures ∙ c.in-Some-column_at-4.is) c.framed.ensures
