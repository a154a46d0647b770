use Rattle.std.proofs.Common.{sym, ap, ◌∙◌, ◌+◌, drop}
use Rattle.rules.specs.Value.{shorten}
use Rattle.value_blank.specs.declared.Text.{Text}
use Rattle.value_blank.specs.Laws.Text.{filled, filled_none, kept_on, kept-end}
use Rattle.value_blank.proofs.shortened.Goals as goal

pub loop-i-preserved : goal.loop-i-preserved
loop-i-preserved c =
    let s = c.args.v.now in
    let L = c.loop-i in
    ap (λ (x : Text). filled x (shorten (drop (L.i + 1) s))) c.kept-t.ensures ∙ kept_on L.t s L.i c.loop-i-test.true ∙ L.invariant

pub returns : goal.returns
returns c =
    let s = c.args.v.now in
    let L = c.loop-i in
    sym (kept-end L.t s L.i c.loop-i-test.false) ∙ L.invariant ∙ filled_none (shorten s)
