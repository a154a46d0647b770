use Rattle.std.proofs.lemmas.Result.{err_from_is_err_and}
use Rattle.directory_schema.specs.Laws.Types.{types-start, types-stopped, types-room, types-on}
use Rattle.rules.proofs.Laws.Refusals.{refusal-some}
use Rattle.sheet_kind.specs.Laws.Kinds.{is-kind}
use Rattle.sheet_line.specs.Laws.{taken-fits-line}
use borrow.Author.Tests.{not-false}
use mathlib.Core.Path.{refl, sym, ◌∙◌}
use native.Mathlib.Omega.{arith}
use Rattle.directory_schema.proofs.types.Goals as goal

pub loop-line-init : goal.loop-line-init
loop-line-init c = types-start _ _

pub returns-in_err-type_line : goal.returns-in_err-type_line
returns-in_err-type_line c = let p = err_from_is_err_and c.from_residual.result c.from_residual.ensures.1 in rw (p.1, p.2) (types-stopped c.loop-line.invariant (sym c.take-taken.ensures ∙ c.in-Line.is) (is-kind c.is.ensures (not-false _ c.if-not-is.false-raw)) _ c.in_err-type_line.ensures (refusal-some _) _ refl)

pub overflow_mul-schema : goal.overflow_mul-schema
overflow_mul-schema c = omega (arith, (types-room c.loop-line.invariant (sym c.take-taken.ensures ∙ c.in-Line.is) (is-kind c.is.ensures (not-false _ c.if-not-is.false-raw)) c.requires (sym c.in_ok-type_line.ensures)))

pub overflow_add-schema : goal.overflow_add-schema
overflow_add-schema c = omega (arith, (types-room c.loop-line.invariant (sym c.take-taken.ensures ∙ c.in-Line.is) (is-kind c.is.ensures (not-false _ c.if-not-is.false-raw)) c.requires (sym c.in_ok-type_line.ensures)))

pub bounds-schema-n : goal.bounds-schema-n
bounds-schema-n c = omega (arith, (types-room c.loop-line.invariant (sym c.take-taken.ensures ∙ c.in-Line.is) (is-kind c.is.ensures (not-false _ c.if-not-is.false-raw)) c.requires (sym c.in_ok-type_line.ensures)), c.loop-line.invariant.room)

pub loop-line-smaller : goal.loop-line-smaller
loop-line-smaller c = let f = taken-fits-line _ c.args.s.now c.loop-line.at (sym c.take-taken.ensures ∙ c.in-Line.is) in omega (arith, f.place, f.next, f.within)

pub loop-line-preserved : goal.loop-line-preserved
loop-line-preserved c = types-on c.loop-line.invariant (sym c.take-taken.ensures ∙ c.in-Line.is) (is-kind c.is.ensures (not-false _ c.if-not-is.false-raw)) (sym c.in_ok-type_line.ensures)
