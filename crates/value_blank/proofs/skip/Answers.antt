use Rattle.std.proofs.Common.{◌∙◌, ◌≡◌, length, arith}
use Rattle.value_blank.specs.Laws.Blank.{skip-on, skip_stop, skip-end}
use Rattle.value_blank.proofs.skip.Goals as goal

pub returns-then-v-k-ne-BLANK : goal.returns-then-v-k-ne-BLANK
returns-then-v-k-ne-BLANK c = let L = c.loop-k in
    skip_stop c.args.v.now L.k c.loop-k-test.true c.if-v-k-ne-BLANK.true ∙ L.invariant

pub loop-k-preserved : goal.loop-k-preserved
loop-k-preserved c = let L = c.loop-k in
    skip-on c.args.v.now L.k c.loop-k-test.true c.if-v-k-ne-BLANK.false ∙ L.invariant

pub returns : goal.returns
returns c =
    let L = c.loop-k in
    let end : length c.args.v.now ≡ L.k = omega arith in
    end ∙ skip-end c.args.v.now L.k c.loop-k-test.false ∙ L.invariant
