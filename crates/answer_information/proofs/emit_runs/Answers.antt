use native.Mathlib.Omega.{arith}
use Prim.Native.Nat.{◌-◌}
use lib.ListN.{get_or}
use Rattle.rules.specs.Directory.{blank, name_at}
use Rattle.tables.specs.Book.{width, first_at}
use Rattle.answer_information.specs.Laws.Runs.{sofar-start, sofar-on, sofar-end}
use Rattle.answer_information.specs.Laws.Rows.{rows_of, row-rank}
use borrow.Author.Rules.{rules}
use Rattle.answer_information.proofs.emit_runs.Goals as goal

pub overflow_add-end : goal.overflow_add-end
overflow_add-end c = omega (arith, c.requires.2, c.requires.0.2.entries.fits.few-entries)

pub offset_bounds-book-e : goal.offset_bounds-book-e
offset_bounds-book-e c = omega (arith, c.requires.2, c.requires.0.2.entries.fits.few-entries)

pub bounds-book-e : goal.bounds-book-e
bounds-book-e c = omega (arith, c.requires.2, c.requires.0.2.entries.fits.few-entries)

pub overflow_sub-i : goal.overflow_sub-i
overflow_sub-i c = omega (arith, c.requires.1)

pub overflow_add-i : goal.overflow_add-i
overflow_add-i c = omega (arith, c.requires.2, c.requires.0.2.entries.fits.few-entries)

pub offset_bounds-book-e-2 : goal.offset_bounds-book-e-2
offset_bounds-book-e-2 c = omega (arith, c.requires.2, c.requires.0.2.entries.fits.few-entries)

pub bounds-book-e-2 : goal.bounds-book-e-2
bounds-book-e-2 c = omega (arith, c.requires.2, c.requires.0.2.entries.fits.few-entries)

pub loop-i-init : goal.loop-i-init
loop-i-init c = let P = c.requires in
    let a = c.args in
    let f = first_at a.book.now (a.e - 1) in
    (omega arith, omega (arith, (rows_of P.0.2.entries a.e P.1 P.2).count), omega arith, λ σ es s W C. sofar-start (width a.book.now) a.out.now a.at σ s (name_at es a.e) (get_or es (a.e - 1) blank).values (f - f) (omega arith), search rules)

pub offset_bounds-held-i : goal.offset_bounds-held-i
offset_bounds-held-i c = let P = c.requires in
    let a = c.args in
    let L = c.loop-i in
    let l = c.loop-i-test.true in
    let E = P.0.2.entries in
    let R = rows_of E a.e P.1 P.2 in
    omega (arith, l, R.room)

pub bounds-held-i : goal.bounds-held-i
bounds-held-i c = let P = c.requires in
    let a = c.args in
    let L = c.loop-i in
    let l = c.loop-i-test.true in
    let E = P.0.2.entries in
    let R = rows_of E a.e P.1 P.2 in
    omega (arith, l, R.room)

pub run_end-requires : goal.run_end-requires
run_end-requires c = let P = c.requires in
    let a = c.args in
    let L = c.loop-i in
    let l = c.loop-i-test.true in
    let E = P.0.2.entries in
    let R = rows_of E a.e P.1 P.2 in
    (l, R.room)

pub emit_run-next-requires : goal.emit_run-next-requires
emit_run-next-requires c = let P = c.requires in
    let a = c.args in
    let L = c.loop-i in
    let l = c.loop-i-test.true in
    let E = P.0.2.entries in
    let R = rows_of E a.e P.1 P.2 in
    let r = c.run_end.ensures.alike in (
      P.0,
      record {
        some = P.1;
        entry = P.2;
        rank = row-rank E a.e P.1 P.2 L.i L.invariant.0 l;
        from = L.invariant.0;
        rising = omega (arith, r.after);
        until = r.within;
      },
      omega (arith, P.3, R.room, L.invariant.1, L.invariant.2),
      P.4,
    )

pub loop-i-smaller : goal.loop-i-smaller
loop-i-smaller c = let r = c.run_end.ensures.alike in omega (arith, r.after, r.within)

pub loop-i-preserved : goal.loop-i-preserved
loop-i-preserved c = let P = c.requires in
    let a = c.args in
    let L = c.loop-i in
    let run = c.run_end.ensures in
    let p = c.emit_run-next.ensures in (
      omega (arith, L.invariant.0, run.alike.after),
      run.alike.within,
      omega (arith, L.invariant.0, L.invariant.2, run.alike.after, p.0),
      λ σ es s W C. sofar-on a.out.now a.at W.entries s a.e P.1 P.2 L.i _ L.invariant.0 run (L.invariant.3 σ es s W C) (p.1 σ es s W C),
      search rules,
    )

pub returns : goal.returns
returns c = let P = c.requires in
    let a = c.args in
    let L = c.loop-i in
    let R = rows_of P.0.2.entries a.e P.1 P.2 in
    (omega (arith, L.invariant.1, L.invariant.2, R.room), λ σ es s W C. sofar-end a.out.now a.at W.entries s a.e P.1 P.2 L.i c.loop-i-test.false (L.invariant.3 σ es s W C))
