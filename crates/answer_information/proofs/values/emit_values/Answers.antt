use native.Mathlib.Omega.{arith}
use mathlib.Core.Path.{◌≡◌, ap, subst}
use Prim.Native.Nat.{ℕ, ◌+◌, ◌-◌}
use lib.ListN.{length}
use Rattle.rules.specs.Directory.{name_at}
use Rattle.tables.specs.Book.{width, schema}
use Rattle.tables.specs.Held.{place_at, size_at, type_at}
use Rattle.answer_information.specs.Laws.Values.{values-none, values-on}
use Rattle.answer_information.specs.Laws.Rows.{rows_of, row_within, part-few}
use Rattle.answer_information.specs.Information.{row_values, readable, Counted}
use Rattle.answer_information.proofs.values.emit_values.Goals as goal

pub loop-i-init : goal.loop-i-init
loop-i-init c = let a = c.args in
    (omega arith, omega arith, λ σ es W. values-none (width a.book.now) a.out.now a.d.now a.held.now σ (name_at es a.e) (type_at (schema a.book.now) a.run.rank) a.run.first _ (a.run.first - a.run.first) (omega arith))

pub bytes-requires : goal.bytes-requires
bytes-requires c =
    let P = c.requires in
    let a = c.args in
    let L = c.loop-i in
    let l = c.loop-i-test.true in
    let X = P.1 in
    let E = P.0.2.entries in
    let room = (rows_of E a.e X.some X.entry).room in
    (omega (arith, l, X.until, room), row_within E a.e X.some X.entry L.i (omega (arith, X.from)) (omega (arith, l, X.until)))

pub emit_value-st-requires : goal.emit_value-st-requires
emit_value-st-requires c =
    let P = c.requires in
    let a = c.args in
    let L = c.loop-i in
    let l = c.loop-i-test.true in
    let X = P.1 in
    let E = P.0.2.entries in
    let room = (rows_of E a.e X.some X.entry).room in
    let d = a.d.now in
    let h = a.held.now in
    let few = part-few d (place_at h L.i) (size_at h L.i) in
    ((d, h, P.0), X.some, X.entry, X.rank, omega (arith, ap length c.bytes.ensures, few, E.small), omega (arith, P.2, l, L.invariant.0, X.until, room), omega (arith, l, L.invariant.1, X.until, room))

pub loop-i-preserved : goal.loop-i-preserved
loop-i-preserved c =
    let a = c.args in
    let L = c.loop-i in
    let l = c.loop-i-test.true in
    let r = c.emit_value-st.ensures in
    let d = a.d.now in
    let h = a.held.now in (
      omega (arith, L.invariant.0, r.0),
      omega (arith, L.invariant.1, r.1),
      λ σ es W. values-on (width a.book.now) a.out.now d h σ (name_at es a.e) (type_at (schema a.book.now) a.run.rank) a.run.first _ (L.i - a.run.first) (L.i + 1 - a.run.first) L.i (omega arith) (omega arith)
          _ c.bytes.ensures L.st _ (L.invariant.2 σ es W) (r.2 σ es d h W),
    )

pub returns : goal.returns
returns c = let a = c.args in
    let L = c.loop-i in
    let e : L.i ≡ a.run.end = omega (arith, c.loop-i-test.false, c.requires.1.rising) in
    (omega (arith, L.invariant.0, e), λ σ es W. subst (λ (j : ℕ). Counted (width a.book.now) a.out.now (record { next = a.at; count = 0 }) (readable σ (name_at es a.e) (type_at (schema a.book.now) a.run.rank) (row_values a.d.now a.held.now a.run.first (j - a.run.first))) L.out L.st) e (L.invariant.2 σ es W))
