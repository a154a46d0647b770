use Rattle.std.specs.Prelude.{Some}
use mathlib.Core.Path.{refl, sym, ap, ◌∙◌}
use native.Mathlib.Omega.{arith}
use mathlib.Core.Path.{subst}
use Rattle.rules.specs.Permission.{Read}
use Rattle.rules.specs.Answer.{answer, read_entry}
use Rattle.tables.specs.declared.plan.Plan.{Plan}
use Rattle.tables.specs.Outcome.{is_result}
use Rattle.tables.specs.Plan.{planned}
use Rattle.tables.specs.Sound.{SoundPlan}
use Rattle.tables.specs.Laws.World.{known-entry}
use Rattle.tables.specs.Laws.Sound.{base-known, base-numbered}
use Rattle.tables.specs.Laws.Outcome.{absent-sound}
use Rattle.answer_entry.specs.Laws.Opening.{opens-entry, withheld-sound, opened-open, opened-withheld}
use Rattle.tables.specs.Book.{entry_count}
use borrow.Author.Tests.{not-true, not-false}
use Rattle.answer_read.proofs.read_entry.Goals as goal

pub opening-opened-requires : goal.opening-opened-requires
opening-opened-requires c = (omega arith, known-entry (base-known c.requires.0) _ ((base-numbered c.requires.0).found _ refl))

pub returns-then-not-is_result : goal.returns-then-not-is_result
unfolding answer
returns-then-not-is_result c = let A = c.args in let E = entry_count A.book.now in (λ hits. subst (λ (r : Plan). SoundPlan E r hits) (sym c.withheld.ensures) (withheld-sound 1 c.opening-opened.result A.missing E hits (base-numbered c.requires.0).matched), λ σ es n s hits w ch q. ap (λ (r : Plan). planned σ es s r hits) c.withheld.ensures ∙ opened-withheld σ es w.entries.accepted n (Some A.b) A.missing q 1 Read (read_entry σ s) A.b refl s hits _ (c.opening-opened.ensures σ es A.d.now A.p.now A.book.now A.held.now w (omega (arith, (base-numbered c.requires.0).found _ refl, w.entries.count))) (sym c.is_result.ensures ∙ not-true _ c.if-not-is_result.true-raw))

pub returns-then-b-eq0 : goal.returns-then-b-eq0
returns-then-b-eq0 c = let A = c.args in let E = entry_count A.book.now in (λ hits. subst (λ (r : Plan). SoundPlan E r hits) (sym c.absent.ensures) (absent-sound E hits 1 A.missing (base-numbered c.requires.0).matched), λ σ es n s hits w ch q. absurd (opens-entry σ es A.b Read (ap is_result (sym (c.opening-opened.ensures σ es A.d.now A.p.now A.book.now A.held.now w (omega (arith, (base-numbered c.requires.0).found _ refl, w.entries.count)))) ∙ sym c.is_result.ensures ∙ not-false _ c.if-not-is_result.false-raw) c.if-b-eq0.true))

pub overflow_sub-b : goal.overflow_sub-b
overflow_sub-b c = omega (arith, c.if-b-eq0.false)

pub read_open-requires : goal.read_open-requires
read_open-requires c = (base-known c.requires.0, omega (arith, (base-numbered c.requires.0).found _ refl, c.if-b-eq0.false), c.requires.1)

pub returns : goal.returns
unfolding answer
returns c = let A = c.args in (c.read_open.ensures.0, λ σ es n s hits w ch q. c.read_open.ensures.1 σ es s hits w ch ∙ sym (opened-open σ es w.entries.accepted n (Some A.b) A.missing q 1 Read (read_entry σ s) A.b refl (ap is_result (sym (c.opening-opened.ensures σ es A.d.now A.p.now A.book.now A.held.now w (omega (arith, (base-numbered c.requires.0).found _ refl, w.entries.count)))) ∙ sym c.is_result.ensures ∙ not-false _ c.if-not-is_result.false-raw)))
