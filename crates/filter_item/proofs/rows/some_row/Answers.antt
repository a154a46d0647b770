use mathlib.Core.Path.{◌≡◌, refl, sym, ap, ap₂, ◌∙◌}
use mathlib.Core.Bool.{Bool, true, false, ◌&&◌}
use Prim.Native.Nat.{◌≤◌}
use lib.ListN.{length}
use Rattle.tables.specs.Held.{bytes_at}
use Rattle.filter_item.specs.Rows.{matchable_at, some_row}
use Rattle.filter_item.specs.Laws.Rows.{some-here, some-on, some_end, row-short}
use Rattle.filter_item.proofs.rows.some_row.Goals as goal
use Rattle.filter_item.proofs.rows.some_row.Goals.{else-matchable_row-via-then-matchable_row+else-test, else-matchable_row-via-else-matchable_row}

pub loop-i-init : goal.loop-i-init
unfolding some_row
loop-i-init g c = λ p h. refl

pub returns-then-test : goal.returns-then-test
returns-then-test g c = λ p h.
    let A = c.args in
    let i = c.loop-i.i in
    let short : length c.bytes.result.now ≤ 64 = row-short c.requires.rows i c.loop-i.auto.i c.loop-i-test.true _ c.bytes.ensures in
    let passes : p (bytes_at A.d.now A.held.now i) ≡ true = ap p (sym c.bytes.ensures) ∙ sym (h _ _ short c.test.ensures) ∙ c.if-test.true in
    sym (some-here (λ j. matchable_at A.held.now A.values.now A.sought.first A.sought.rank j && p (bytes_at A.d.now A.held.now j)) i A.sought.end c.loop-i-test.true
    (ap₂ ◌&&◌ (sym c.matchable_row.ensures ∙ c.if-matchable_row.true) passes))
    ∙ c.loop-i.invariant p h

pub loop-i-preserved : goal.loop-i-preserved
loop-i-preserved g c = λ p h.
    let A = c.args in
    let i = c.loop-i.i in
    let m = matchable_at A.held.now A.values.now A.sought.first A.sought.rank i in
    let out : (m && p (bytes_at A.d.now A.held.now i)) ≡ false =
    elim c.else-matchable_row.branch [
      | else-matchable_row-via-then-matchable_row+else-test w ↦
          let short : length w.bytes.result.now ≤ 64 = row-short c.requires.rows i c.loop-i.auto.i c.loop-i-test.true _ w.bytes.ensures in
          ap₂ ◌&&◌ (sym c.matchable_row.ensures ∙ w.if-matchable_row.true) (ap p (sym w.bytes.ensures) ∙ sym (h _ _ short w.test.ensures) ∙ w.if-test.false)
      | else-matchable_row-via-else-matchable_row w ↦
          ap (λ (b : Bool). b && p (bytes_at A.d.now A.held.now i)) (sym c.matchable_row.ensures ∙ w.if-matchable_row.false)
    ] in
    sym (some-on (λ j. matchable_at A.held.now A.values.now A.sought.first A.sought.rank j && p (bytes_at A.d.now A.held.now j)) i A.sought.end c.loop-i-test.true out)
    ∙ c.loop-i.invariant p h

pub returns : goal.returns
returns g c = λ p h.
    let A = c.args in
    sym (some_end (λ j. matchable_at A.held.now A.values.now A.sought.first A.sought.rank j && p (bytes_at A.d.now A.held.now j)) c.loop-i.i A.sought.end c.loop-i-test.false)
    ∙ c.loop-i.invariant p h
