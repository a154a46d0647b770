use Prim.Native.Nat.{ℕ, ◌-◌, ◌<◌}
use mathlib.Core.Path.{◌≡◌, sym, ap, ◌∙◌}
use native.Mathlib.Omega.{arith}
use Rattle.filter_lines.specs.Lines.{pieces_in, lesser}
use Rattle.filter_lines.specs.Laws.Pieces.{not-true, not-false, span-on, span_end, all_fit, fit-lost, fit_on}
use Rattle.filter_lines.proofs.pieces.pieces_fit.Goals as goal

pub loop-j-init : goal.loop-j-init
loop-j-init c =
    let a = c.args in
    let z : c.end_of-j-end.result - a.k ≡ lesser a.n (a.lines - a.k) = omega (arith, c.end_of-j-end.ensures.is) in
    ap (λ (m : ℕ). all_fit a.syntax (pieces_in a.q.now a.rows.now a.k m)) z

pub value_of-requires : goal.value_of-requires
value_of-requires c =
    let h = c.requires.0 in
    let j = c.loop-j.j in
    let l : j < c.args.lines = omega (arith, c.loop-j-test.true, c.end_of-j-end.ensures.within) in
    (omega (arith, l, h.few), h.begins j l, h.within j l)

pub returns-then-not-fits : goal.returns-then-not-fits
returns-then-not-fits c =
    let a = c.args in
    let L = c.loop-j in
    let e = span-on a.q.now a.rows.now a.lines L.j c.end_of-j-end.result c.loop-j-test.true _ c.value_of.ensures in
    sym (fit-lost a.syntax _ _ e (sym c.fits.ensures ∙ not-true _ c.if-not-fits.true-raw)) ∙ L.invariant

pub loop-j-preserved : goal.loop-j-preserved
loop-j-preserved c =
    let a = c.args in
    let L = c.loop-j in
    let e = span-on a.q.now a.rows.now a.lines L.j c.end_of-j-end.result c.loop-j-test.true _ c.value_of.ensures in
    sym (fit_on a.syntax _ _ e (sym c.fits.ensures ∙ not-false _ c.if-not-fits.false-raw)) ∙ L.invariant

pub returns : goal.returns
returns c =
    let a = c.args in
    let L = c.loop-j in
    sym (ap (all_fit a.syntax) (span_end a.q.now a.rows.now a.lines L.j c.end_of-j-end.result c.loop-j-test.false)) ∙ L.invariant
