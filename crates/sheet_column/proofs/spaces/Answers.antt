use Rattle.std.proofs.Common.{sym, ◌∙◌, ◌≤◌, arith, rules, length, drop_of_length-le}
use Rattle.sheet_column.specs.Laws.{strip-space, strip-stop, strip-end}
use Rattle.sheet_column.proofs.spaces.Goals as goal

pub returns-then-b-ne32 : goal.returns-then-b-ne32
returns-then-b-ne32 c = (search rules, sym (strip-stop _ _ c.loop-i-test.true c.if-b-ne32.true) ∙ c.loop-i.invariant)

pub loop-i-preserved : goal.loop-i-preserved
loop-i-preserved c = sym (strip-space _ _ c.loop-i-test.true c.if-b-ne32.false) ∙ c.loop-i.invariant

pub returns : goal.returns
returns c =
    let s = c.args.s.now in
    let end : length s ≤ length s = omega arith in
    (end, drop_of_length-le _ end ∙ sym (strip-end s c.loop-i.i c.loop-i-test.false) ∙ c.loop-i.invariant)
