use Prim.Native.Nat.{ℕ, ◌-◌, ◌<◌}
use mathlib.Core.Path.{◌≡◌, sym, ap, ◌∙◌}
use native.Mathlib.Omega.{arith}
use Rattle.rules.specs.Value.{text}
use Rattle.rules.proofs.Laws.Substrings.{used-fits}
use Rattle.filter_lines.specs.Lines.{pieces_in, pieces_stand, lesser}
use Rattle.filter_lines.specs.Laws.Pieces.{span-on, span_end, value-short, stand_from, stand-none, stand-lost, stand-on}
use Rattle.filter_lines.proofs.pieces.pieces_stand.Goals as goal

pub loop-j-init : goal.loop-j-init
unfolding pieces_stand
loop-j-init c =
    let a = c.args in
    let z : c.end_of-j-end.result - a.k ≡ lesser a.n (a.lines - a.k) = omega (arith, c.end_of-j-end.ensures.is) in
    (omega arith, ap (λ (m : ℕ). stand_from a.v.now 0 (pieces_in a.q.now a.rows.now a.k m)) z)

pub value_of-requires : goal.value_of-requires
value_of-requires c =
    let h = c.requires.0 in
    let j = c.loop-j.j in
    let l : j < c.args.lines = omega (arith, c.loop-j-test.true, c.end_of-j-end.ensures.within) in
    (omega (arith, l, h.few), h.begins j l, h.within j l)

pub piece_end-requires : goal.piece_end-requires
piece_end-requires c =
    let a = c.args in
    let L = c.loop-j in
    (L.invariant.0, rw c.value_of.ensures (value-short a.q.now a.rows.now L.j (c.requires.0.short L.j (omega (arith, c.loop-j-test.true, c.end_of-j-end.ensures.within)))))

pub returns-in_default : goal.returns-in_default
returns-in_default c =
    let a = c.args in
    let L = c.loop-j in
    let e = span-on a.q.now a.rows.now a.lines L.j c.end_of-j-end.result c.loop-j-test.true _ c.value_of.ensures in
    sym (stand-lost a.v.now L.from _ _ e (sym c.piece_end.ensures ∙ c.in_default.is)) ∙ L.invariant.1

pub overflow_add-from : goal.overflow_add-from
overflow_add-from c =
    let a = c.args in
    let L = c.loop-j in
    omega (arith, used-fits _ _ text a.v.now L.from _ L.invariant.0 (sym c.piece_end.ensures ∙ c.in-Some.is))

pub loop-j-preserved : goal.loop-j-preserved
loop-j-preserved c =
    let a = c.args in
    let L = c.loop-j in
    let u = sym c.piece_end.ensures ∙ c.in-Some.is in
    let e = span-on a.q.now a.rows.now a.lines L.j c.end_of-j-end.result c.loop-j-test.true _ c.value_of.ensures in
    (used-fits _ _ text a.v.now L.from _ L.invariant.0 u, sym (stand-on a.v.now L.from _ _ e _ u) ∙ L.invariant.1)

pub returns : goal.returns
returns c =
    let a = c.args in
    let L = c.loop-j in
    sym (stand-none a.v.now L.from (span_end a.q.now a.rows.now a.lines L.j c.end_of-j-end.result c.loop-j-test.false)) ∙ L.invariant.1
