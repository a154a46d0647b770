use Rattle.std.proofs.Common.{sym, ◌∙◌, ◌≡◌, ◌+◌, ◌*◌, ◌/◌, length, arith}
use Rattle.value_syntax.specs.Laws.Digest.{mixed-on, mixed-few, singly-on, singly-end}
use Rattle.value_syntax.proofs.digest.mixed.Goals as goal

pub loop-q-preserved : goal.loop-q-preserved
loop-q-preserved c =
    let L = c.loop-q in
    let next : 4 * (L.q + 1) ≡ 4 * L.q + 4 = omega arith in
    rw (next, c.stirred-h.ensures, c.word.ensures.0) (sym (mixed-on c.args.v.now (4 * L.q) _ (omega arith)) ∙ L.invariant)

pub loop-i-init : goal.loop-i-init
loop-i-init c =
    let L = c.loop-q in
    let n : 4 * (length c.args.v.now / 4) ≡ 4 * L.q = omega arith in
    rw n (sym (mixed-few c.args.v.now (4 * L.q) _ (omega arith)) ∙ L.invariant)

pub loop-i-preserved : goal.loop-i-preserved
loop-i-preserved c = rw (c.stirred-h-in-loop-i.ensures, c.caseless.ensures.0) (sym (singly-on _ _ _ c.loop-i-test.true) ∙ c.loop-i.invariant)

pub returns : goal.returns
returns c = sym (singly-end _ _ _ c.loop-i-test.false) ∙ c.loop-i.invariant
