use mathlib.Core.Path.{sym, ap, ◌∙◌}
use mathlib.Core.Path.{subst}
use Rattle.rules.specs.Permission.{Read}
use Rattle.rules.specs.Answer.{answer, read_entry}
use Rattle.tables.specs.declared.plan.Plan.{Plan}
use Rattle.tables.specs.Plan.{planned}
use Rattle.tables.specs.Sound.{SoundPlan}
use Rattle.tables.specs.Laws.Sound.{base-numbered, known_at, base-at}
use Rattle.tables.specs.Laws.Outcome.{absent-sound}
use Rattle.answer_entry.specs.Laws.Opening.{opened-none}
use Rattle.tables.specs.Book.{entry_count}
use Rattle.answer_read.proofs.read.Goals as goal

pub read_entry-requires : goal.read_entry-requires
read_entry-requires c = (known_at c.requires.0 _ c.in-Some.is, c.requires.1)

pub returns-in-Some : goal.returns-in-Some
returns-in-Some c = (c.read_entry.ensures.0, λ σ es n s hits w ch q. c.read_entry.ensures.1 σ es n s hits w ch (base-at q _ c.in-Some.is))

pub returns-in-None : goal.returns-in-None
unfolding answer
returns-in-None c = let A = c.args in let E = entry_count A.book.now in (λ hits. subst (λ (r : Plan). SoundPlan E r hits) (sym c.absent.ensures) (absent-sound E hits 1 A.sought.missing (base-numbered c.requires.0).matched), λ σ es n s hits w ch q. ap (λ (r : Plan). planned σ es s r hits) c.absent.ensures ∙ opened-none σ es w.entries.accepted n A.sought.base A.sought.missing q 1 Read (read_entry σ s) s hits c.in-None.is)
