use Rattle.std.proofs.Common.{◌<◌, length, arith, refl, sym, ap, ◌∙◌, length-set}
use Rattle.answer_entry.specs.Passing.{passing}
use Rattle.answer_entry.specs.Laws.Passing.{no-indices, index_in, index-out, pass-in, pass-out}
use Rattle.answer_entry.proofs.note_passing.Goals as goal
use Rattle.answer_entry.proofs.note_passing.Goals.{then-test, else-test}

pub loop-k-init : goal.loop-k-init
loop-k-init g c = (c.told-hits, no-indices 0 _, λ t same. unfold passing in refl)

pub loop-k-preserved : goal.loop-k-preserved
loop-k-preserved g c =
    let L = c.loop-k in
    let I = L.invariant in
    let free : L.n < length L.hits = omega (arith, I.1.few, I.0, c.loop-k-test.true, c.requires.room) in
    elim c.if-test.branch [
      | then-test w ↦ (
        ap length w.hits-is ∙ length-set L.hits L.n L.k ∙ I.0,
        index_in L.k L.n _ L.hits c.if-test.n c.if-test.hits I.1 free w.hits-is w.n-is,
        λ t same. pass-in t L.k L.n L.hits c.if-test.n c.if-test.hits (I.2 t same) (sym (same L.k _ c.loop-k-test.true c.test.ensures) ∙ w.if-test.true) free w.hits-is w.n-is,
      )
      | else-test w ↦ (
        ap length w.hits-is ∙ I.0,
        index-out L.k L.n _ L.hits c.if-test.n c.if-test.hits I.1 w.hits-is w.n-is,
        λ t same. pass-out t L.k L.n L.hits c.if-test.n c.if-test.hits (I.2 t same) (sym (same L.k _ c.loop-k-test.true c.test.ensures) ∙ w.if-test.false) w.hits-is w.n-is,
      )
    ]
