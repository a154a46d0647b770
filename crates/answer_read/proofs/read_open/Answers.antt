use Prim.Native.Nat.{◌+◌, ◌≤◌}
use mathlib.Core.Path.{sym, ap, ◌∙◌}
use native.Mathlib.Omega.{arith}
use lib.ListN.{length}
use mathlib.Core.Path.{subst}
use Rattle.rules.specs.Permission.{ReturnDN}
use Rattle.rules.specs.Decision.{entry}
use Rattle.tables.specs.declared.plan.Plan.{Plan}
use Rattle.tables.specs.Outcome.{is_result}
use Rattle.tables.specs.Plan.{planned}
use Rattle.tables.specs.Sound.{SoundPlan}
use Rattle.tables.specs.Laws.Outcome.{refused-sound}
use Rattle.tables.specs.Book.{entry_count}
use Rattle.tables.specs.Laws.World.{known-entry, inside}
use Rattle.answer_read.specs.Laws.Read.{granted-next, read_found, read-refused, read-sound}
use borrow.Author.Tests.{not-true, not-false}
use Rattle.answer_read.proofs.read_open.Goals as goal

pub returns-then-not-is_result : goal.returns-then-not-is_result
returns-then-not-is_result c = let A = c.args in let E = entry_count A.book.now in (λ hits. subst (λ (r : Plan). SoundPlan E r hits) (sym c.refused.ensures) (refused-sound E hits 1 _), λ σ es s hits w ch. ap (λ (r : Plan). planned σ es s r hits) c.refused.ensures ∙ read-refused σ es s hits A.k _ (c.outcome_of-outcome.ensures σ es s w ch) (sym c.is_result.ensures ∙ not-true _ c.if-not-is_result.true-raw))

pub overflow_add-k : goal.overflow_add-k
overflow_add-k c = omega (arith, c.requires.1, c.requires.0.2.entries.fits.few-entries)

pub may_entry-requires : goal.may_entry-requires
may_entry-requires c = (omega arith, known-entry c.requires.0 _ (omega (arith, c.requires.1)))

pub found-requires : goal.found-requires
found-requires c = omega (arith, c.requires.1, c.requires.0.2.entries.fits.few-entries)

pub returns : goal.returns
returns c = let A = c.args in let E = entry_count A.book.now in (λ hits. subst (λ (r : Plan). SoundPlan E r hits) (sym c.found.ensures) (read-sound E A.k c.may_entry.result hits c.requires.1), λ σ es s hits w ch. let l : A.k + 1 ≤ length es = omega (arith, inside w.entries A.k c.requires.1) in ap (λ (r : Plan). planned σ es s r hits) c.found.ensures ∙ read_found σ es s hits A.k c.may_entry.result (ap is_result (sym (c.outcome_of-outcome.ensures σ es s w ch)) ∙ sym c.is_result.ensures ∙ not-false _ c.if-not-is_result.false-raw) (c.may_entry.ensures σ es A.d.now A.p.now A.book.now A.held.now w l ∙ granted-next σ es A.k entry ReturnDN))
