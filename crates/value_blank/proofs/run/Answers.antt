use Rattle.std.proofs.Common.{sym, ap, ◌∙◌, ◌≡◌, ◌+◌, ◌*◌, ◌/◌, ◌||◌, Bool, drop, arith}
use Rattle.value_blank.specs.Blank.{has_run}
use Rattle.value_blank.specs.Laws.Blank.{run-two, run-last, run_end}
use Rattle.value_blank.proofs.run.Goals as goal

pub returns-then-beside : goal.returns-then-beside
returns-then-beside c =
    let s = c.args.v.now in
    let L = c.loop-q in
    let i = 2 * L.q in
    ap (λ (b : Bool). b || has_run (drop (i + 2) s)) (sym (sym c.beside.ensures ∙ c.if-beside.true)) ∙ sym (run-two s i (omega arith)) ∙ L.invariant

pub loop-q-preserved : goal.loop-q-preserved
loop-q-preserved c =
    let s = c.args.v.now in
    let L = c.loop-q in
    let i = 2 * L.q in
    let next : 2 * (L.q + 1) ≡ i + 2 = omega arith in
    rw next (ap (λ (b : Bool). b || has_run (drop (i + 2) s)) (sym (sym c.beside.ensures ∙ c.if-beside.false)) ∙ sym (run-two s i (omega arith)) ∙ L.invariant)

pub returns-then-v-n-gt1 : goal.returns-then-v-n-gt1
returns-then-v-n-gt1 c =
    let s = c.args.v.now in
    let L = c.loop-q in
    let e : 2 * (c.saturating_sub-n.result / 2) ≡ 2 * L.q = omega arith in
    rw e at c.pair.ensures ∙ sym (run-last s (2 * L.q) (omega arith) (omega arith)) ∙ L.invariant

pub returns : goal.returns
returns c =
    let L = c.loop-q in
    sym (run_end c.args.v.now (2 * L.q) (omega arith)) ∙ L.invariant
