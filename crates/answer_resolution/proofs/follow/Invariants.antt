-- The name in the buffer leads, by the replacements that are left, to where the first name leads.
use Rattle.std.proofs.Common.{◌≡◌, ◌-◌, ◌<◌, length}
use Rattle.answer_resolution.specs.Laws.Resolved.{Following}
use Rattle.answer_resolution.proofs.follow.Given as goal

abbrev pub invariant-loop-more : goal.invariant-loop-more
invariant-loop-more l = (length l.name ≡ 2325) × (0 < l.more) × Following l.book l.sets l.d l.s l.number l.left l.next l.name l.parts (l.more - 1)
