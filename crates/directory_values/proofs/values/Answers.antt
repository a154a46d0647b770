use Rattle.std.proofs.lemmas.Result.{err_from_is_err_and}
use Rattle.rules.proofs.Laws.Refusals.{refusal-some}
use Rattle.directory_values.specs.Laws.Values.{going_start, going-refused, going-room, going_on}
use Rattle.directory_schema.specs.Laws.Lines.{other-line}
use Rattle.sheet_kind.specs.Laws.Kinds.{is-kind, not-kind}
use Rattle.sheet_line.specs.Laws.{taken-fits-line}
use borrow.Author.Tests.{not-true, not-false}
use Rattle.directory_duplicates.specs.Laws.Rulings.{line-within}
use mathlib.Core.List.{[]}
use mathlib.Core.Path.{refl, sym, ◌∙◌}
use native.Mathlib.Omega.{arith}
use Rattle.directory_values.proofs.values.Goals as goal

pub loop-line-init : goal.loop-line-init
loop-line-init c = λ complete d ms b. ([], ms, going_start b)

pub take-taken-requires : goal.take-taken-requires
take-taken-requires c = c.requires.begun.usable.most

pub returns-in_default : goal.returns-in_default
returns-in_default c = λ complete d ms b. let g = c.loop-line.invariant complete d ms b in
    record { ended = λ z. record { values = g.0; all = g.1; last = _; from = _; read = g.2; stands = c.take-taken.ensures; other = λ x e q. c.in_default.not-Line x e }; refused = λ z. absurd (z refl) }

pub returns-then-not-is : goal.returns-then-not-is
returns-then-not-is c = λ complete d ms b. let g = c.loop-line.invariant complete d ms b in
    record { ended = λ z. record { values = g.0; all = g.1; last = _; from = _; read = g.2; stands = sym c.in-Line.is ∙ c.take-taken.ensures; other = other-line 3 _ (not-kind c.is.ensures (not-true _ c.if-not-is.true-raw)) }; refused = λ z. absurd (z refl) }

pub value_line-requires : goal.value_line-requires
value_line-requires c = let P = c.requires in let g = c.loop-line.invariant P.complete P.entry P.all P.begun in
    let f = taken-fits-line _ c.args.s.now c.loop-line.at (sym c.take-taken.ensures ∙ c.in-Line.is) in
    (record { all = g.1; ready = g.2.ready; within = line-within f }, P.begun.most, g.2.low _, is-kind c.is.ensures (not-false _ c.if-not-is.false-raw))

pub returns-in_err-x : goal.returns-in_err-x
returns-in_err-x c = λ complete d ms b. let g = c.loop-line.invariant complete d ms b in
    let p = err_from_is_err_and c.from_residual.result c.from_residual.ensures.1 in
    rw (p.1, p.2) (going-refused b g.2 (sym c.take-taken.ensures ∙ c.in-Line.is) (is-kind c.is.ensures (not-false _ c.if-not-is.false-raw)) (c.in_err-x.ensures g.1 g.2.ready) (refusal-some _) _ refl)

pub holding-found-requires : goal.holding-found-requires
holding-found-requires c = let h = (let P = c.requires in let g = c.loop-line.invariant P.complete P.entry P.all P.begun in going-room P.begun g.2 (sym c.take-taken.ensures ∙ c.in-Line.is) (is-kind c.is.ensures (not-false _ c.if-not-is.false-raw)) (c.in_ok-x.ensures g.1 g.2.ready) refl) in (h.1, c.requires.begun.bytes, h.2)

pub put_row-requires : goal.put_row-requires
put_row-requires c = let h = (let P = c.requires in let g = c.loop-line.invariant P.complete P.entry P.all P.begun in going-room P.begun g.2 (sym c.take-taken.ensures ∙ c.in-Line.is) (is-kind c.is.ensures (not-false _ c.if-not-is.false-raw)) (c.in_ok-x.ensures g.1 g.2.ready) refl) in (h.4, h.5)

pub note-requires : goal.note-requires
note-requires c = ((let P = c.requires in let g = c.loop-line.invariant P.complete P.entry P.all P.begun in going-room P.begun g.2 (sym c.take-taken.ensures ∙ c.in-Line.is) (is-kind c.is.ensures (not-false _ c.if-not-is.false-raw)) (c.in_ok-x.ensures g.1 g.2.ready) refl)).0

pub overflow_add-n : goal.overflow_add-n
overflow_add-n c = omega (arith, ((let P = c.requires in let g = c.loop-line.invariant P.complete P.entry P.all P.begun in going-room P.begun g.2 (sym c.take-taken.ensures ∙ c.in-Line.is) (is-kind c.is.ensures (not-false _ c.if-not-is.false-raw)) (c.in_ok-x.ensures g.1 g.2.ready) refl)).3)

pub overflow_add-to : goal.overflow_add-to
overflow_add-to c = omega (arith, ((let P = c.requires in let g = c.loop-line.invariant P.complete P.entry P.all P.begun in going-room P.begun g.2 (sym c.take-taken.ensures ∙ c.in-Line.is) (is-kind c.is.ensures (not-false _ c.if-not-is.false-raw)) (c.in_ok-x.ensures g.1 g.2.ready) refl)).4)

pub loop-line-smaller : goal.loop-line-smaller
loop-line-smaller c = let f = taken-fits-line _ c.args.s.now c.loop-line.at (sym c.take-taken.ensures ∙ c.in-Line.is) in omega (arith, f.place, f.next, f.within)

pub loop-line-preserved : goal.loop-line-preserved
loop-line-preserved c = λ complete d ms b. let g = c.loop-line.invariant complete d ms b in
    (_, _, going_on b g.2 (sym c.take-taken.ensures ∙ c.in-Line.is) (is-kind c.is.ensures (not-false _ c.if-not-is.false-raw)) (c.in_ok-x.ensures g.1 g.2.ready) refl _ c.holding-found.ensures c.put_row.ensures c.note.ensures)
