use Prim.Native.Nat.{◌≤◌}
use native.Mathlib.Omega.{arith}
use Rattle.tables.specs.Book.{entry_count}
use Rattle.tables.specs.Laws.World.{known-entry}
use Rattle.tables.specs.Laws.Sound.{base-known, base-numbered}
use Rattle.answer_entry.specs.Laws.Whole.{none-sound, some-sound}
use Rattle.answer_list.specs.Laws.Whole.{list-none, list-some, list-unfound, list-found}
use Rattle.answer_list.proofs.list.Goals as goal

pub returns-in_default : goal.returns-in_default
returns-in_default c = let A = c.args in (
  none-sound (entry_count A.book.now) A.sought.base A.sought.missing (base-numbered c.requires.1.3) _ _ 3 c.absent.ensures,
  λ σ es d p held n s w q. list-none σ es w.entries.accepted n A.sought.base A.sought.missing q _ _ c.in_default.is s A.limit c.absent.ensures,
  λ σ es d p held w. list-unfound σ es A.sought.base _ c.in_default.is,
)

pub children-count-requires : goal.children-count-requires
children-count-requires c = let P = c.requires in (P.1.3.3.entries.fits.few-entries, P.0, (P.1.0, P.1.1, P.1.2, base-known P.1.3))

pub may_entry-open-requires : goal.may_entry-open-requires
may_entry-open-requires c = let K = c.requires.1.3 in (omega arith, known-entry (base-known K) _ ((base-numbered K).found _ c.in-Some.is))

pub returns : goal.returns
returns c = let A = c.args in
    let found = c.children-count.ensures in
    let within : c.in-Some.b ≤ entry_count A.book.now = (base-numbered c.requires.1.3).found c.in-Some.b c.in-Some.is in (
      some-sound (entry_count A.book.now) A.sought.base A.sought.missing (base-numbered c.requires.1.3) _ _ 3 _ _ found.0 _ A.limit c.returned.ensures,
      λ σ es d p held n s w q.
          list-some σ es w.entries.accepted n A.sought.base A.sought.missing q _ _ c.in-Some.b c.in-Some.is _
          (c.may_entry-open.ensures σ es d p A.book.now held w (omega (arith, within, w.entries.count)))
          _ found.0.room s A.limit (found.1 σ es d p held w) c.returned.ensures,
      λ σ es d p held w. list-found σ es A.sought.base c.in-Some.b _ _ _ _ c.in-Some.is found.0 (found.1 σ es d p held w),
    )
