-- What is written, with the parts that are left, is the whole name.
use Rattle.std.proofs.Common.{◌-◌}
use Rattle.sheet_write.specs.Laws.Writing.{Writing}
use Rattle.answer_resolution.specs.Resolution.{part_bytes}
use Rattle.answer_resolution.proofs.replace.put_parts.Given as goal

abbrev pub invariant-loop : goal.invariant-loop
invariant-loop l = Writing l.initial.name l.at (part_bytes l.w l.s l.i l.n) l.name l.to (part_bytes l.w l.s l.j (l.n - l.counter))
