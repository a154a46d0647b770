use mathlib.Core.Path.{sym, ap, ◌∙◌}
use mathlib.Core.Path.{subst}
use Rattle.rules.specs.Permission.{Read}
use Rattle.rules.specs.Answer.{answer, compare_entry}
use Rattle.tables.specs.Book.{entry_count}
use Rattle.tables.specs.declared.plan.Plan.{Plan}
use Rattle.tables.specs.Plan.{planned}
use Rattle.tables.specs.Sound.{SoundPlan}
use Rattle.tables.specs.Laws.Sound.{base-numbered, known_at, base-at}
use Rattle.tables.specs.Laws.Outcome.{absent-sound}
use Rattle.answer_entry.specs.Laws.Opening.{opened-none}
use Rattle.answer_compare.proofs.compare.Goals as goal

pub compare_entry-requires : goal.compare_entry-requires
compare_entry-requires c = known_at c.requires _ c.in-Some.is

pub returns-in-Some : goal.returns-in-Some
returns-in-Some c = (c.compare_entry.ensures.0, λ σ es n s hits w q. c.compare_entry.ensures.1 σ es n s hits w (base-at q _ c.in-Some.is))

pub returns-in-None : goal.returns-in-None
unfolding answer
returns-in-None c = let A = c.args in let E = entry_count A.book.now in (λ hits. subst (λ (r : Plan). SoundPlan E r hits) (sym c.absent.ensures) (absent-sound E hits 2 A.sought.missing (base-numbered c.requires).matched), λ σ es n s hits w q. ap (λ (r : Plan). planned σ es s r hits) c.absent.ensures ∙ opened-none σ es w.entries.accepted n A.sought.base A.sought.missing q 2 Read (compare_entry σ A.t A.v.now) s hits c.in-None.is)
