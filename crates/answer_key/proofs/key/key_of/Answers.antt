use Prim.Native.Nat.{◌+◌, ◌-◌}
use mathlib.Core.Path.{◌≡◌, sym, ap, ◌∙◌}
use native.Mathlib.Omega.{arith}
use Rattle.tables.specs.Book.{first_at}
use Rattle.tables.specs.Laws.Book.{end_is}
use Rattle.tables.specs.Laws.World.{rows-within, bytes-within}
use Rattle.answer_key.specs.Keys.{key_in}
use Rattle.answer_key.specs.Laws.Keys.{key-none, none-fits, key_from, from_end, from_first, from_in, from_out}
use Rattle.answer_key.proofs.key.key_of.Goals as goal

pub loop-i-init : goal.loop-i-init
loop-i-init c = let A = c.args in let P = c.requires in let E = P.0.2.entries in let rows = rows-within E A.k P.1 in let b = A.book.now in (
  omega (arith, rows.0, end_is b A.k),
  omega (arith, end_is b A.k),
  none-fits A.d.now A.held.now,
  λ σ es w l e. key-none A.d.now A.held.now 2115 (omega arith) ∙ sym (ap (key_from w.entries A.rank l A.k e) (end_is b A.k) ∙ from_end w.entries A.rank l A.k e),
)

pub smaller-best-requires : goal.smaller-best-requires
smaller-best-requires c = let A = c.args in let P = c.requires in let E = P.0.2.entries in let rows = rows-within E A.k P.1 in let L = c.loop-i in let l = c.loop-i-test.true in (omega (arith, l, L.invariant.1, rows.1), bytes-within E A.k P.1 (L.i - 1) (omega (arith, l)) (omega (arith, l, L.invariant.1)), L.invariant.2)

pub loop-i-preserved-then-readable : goal.loop-i-preserved-then-readable
loop-i-preserved-then-readable c = let A = c.args in let L = c.loop-i in let t = c.loop-i-test.true in let n : L.i ≡ L.i - 1 + 1 = omega (arith, t) in (
  omega (arith, t),
  omega (arith, t, L.invariant.1),
  c.smaller-best.ensures.0,
  λ σ es w l e. c.smaller-best.ensures.1
      ∙ from_in w.entries A.rank l A.k e (L.i - 1) (omega (arith, t)) (omega (arith, t, L.invariant.1)) (sym (c.readable.ensures σ es w) ∙ c.if-readable.true) (key_in A.d.now A.held.now L.best)
      (L.invariant.3 σ es w l e ∙ ap (key_from w.entries A.rank l A.k e) n),
)

pub loop-i-preserved : goal.loop-i-preserved
loop-i-preserved c = let A = c.args in let L = c.loop-i in let t = c.loop-i-test.true in let n : L.i ≡ L.i - 1 + 1 = omega (arith, t) in (
  omega (arith, t),
  omega (arith, t, L.invariant.1),
  L.invariant.2,
  λ σ es w l e. from_out w.entries A.rank l A.k e (L.i - 1) (omega (arith, t)) (omega (arith, t, L.invariant.1)) (sym (c.readable.ensures σ es w) ∙ c.if-readable.false) (key_in A.d.now A.held.now L.best)
      (L.invariant.3 σ es w l e ∙ ap (key_from w.entries A.rank l A.k e) n),
)

pub returns : goal.returns
returns c = let A = c.args in let P = c.requires in let b = A.book.now in let L = c.loop-i in let n : L.i ≡ first_at b A.k = omega (arith, L.invariant.0, c.loop-i-test.false) in
    record { fits = L.invariant.2; is = λ σ es w. L.invariant.3 σ es w P.2 P.1 ∙ ap (key_from w.entries A.rank P.2 A.k P.1) n ∙ from_first w.entries A.rank P.2 A.k P.1 }
