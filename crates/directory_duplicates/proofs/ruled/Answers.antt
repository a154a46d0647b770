use Rattle.directory_duplicates.specs.Laws.Rulings.{key-small, rank-within, ruled-unfit, walking, mark-small, ruled-twice, ruled-marked}
use borrow.Author.Tests.{not-true, not-false}
use mathlib.Core.Path.{sym, ◌∙◌}
use native.Mathlib.Omega.{arith}
use Rattle.directory_duplicates.proofs.ruled.Goals as goal

pub part-v-requires : goal.part-v-requires
part-v-requires c = omega (arith, c.requires.within.bytes)

pub returns-then-not-allowed_at : goal.returns-then-not-allowed_at
returns-then-not-allowed_at c =
    let A = c.args in
    λ ms ready. ruled-unfit A.s.now A.schema.now A.marks.now A.c c.part-v.ensures (sym c.allowed_at.ensures ∙ not-true _ c.if-not-allowed_at.true-raw) ms

pub overflow_mul-key : goal.overflow_mul-key
overflow_mul-key c = omega (arith, c.requires.low)

pub overflow_add-key : goal.overflow_add-key
overflow_add-key c = omega (arith, key-small c.requires c.part-v.ensures ((sym c.allowed_at.ensures ∙ not-false _ c.if-not-allowed_at.false-raw)))

pub overflow_add-label : goal.overflow_add-label
overflow_add-label c = omega (arith, key-small c.requires c.part-v.ensures ((sym c.allowed_at.ensures ∙ not-false _ c.if-not-allowed_at.false-raw)))

pub overflow_add-head : goal.overflow_add-head
overflow_add-head c = omega arith

pub offset_bounds-marks-bucket : goal.offset_bounds-marks-bucket
offset_bounds-marks-bucket c = omega arith

pub bounds-marks-bucket : goal.bounds-marks-bucket
bounds-marks-bucket c = omega (arith, c.requires.ready.chain.table)

pub slotted-may-requires : goal.slotted-may-requires
slotted-may-requires c = (omega arith, c.requires.ready.chain.table)

pub offset_bounds-schema-rank : goal.offset_bounds-schema-rank
offset_bounds-schema-rank c = omega (arith, rank-within c.requires c.part-v.ensures ((sym c.allowed_at.ensures ∙ not-false _ c.if-not-allowed_at.false-raw)), c.requires.ready.few)

pub bounds-schema-rank : goal.bounds-schema-rank
bounds-schema-rank c = rank-within c.requires c.part-v.ensures ((sym c.allowed_at.ensures ∙ not-false _ c.if-not-allowed_at.false-raw))

pub twin-requires : goal.twin-requires
twin-requires c = let P = c.requires in (_, P.all, walking P c.part-v.ensures ((sym c.allowed_at.ensures ∙ not-false _ c.if-not-allowed_at.false-raw)) c.digest-digest.ensures c.slotted-may.ensures P.ready)

pub returns-then-twin : goal.returns-then-twin
returns-then-twin c = λ ms ready. ruled-twice c.requires c.part-v.ensures ((sym c.allowed_at.ensures ∙ not-false _ c.if-not-allowed_at.false-raw)) c.digest-digest.ensures c.slotted-may.ensures c.twin.ensures ms ready c.if-twin.true

pub overflow_mul-result : goal.overflow_mul-result
overflow_mul-result c = omega (arith, (mark-small c.requires c.part-v.ensures ((sym c.allowed_at.ensures ∙ not-false _ c.if-not-allowed_at.false-raw)) c.digest-digest.ensures c.slotted-may.ensures))

pub overflow_add-result : goal.overflow_add-result
overflow_add-result c = omega (arith, (mark-small c.requires c.part-v.ensures ((sym c.allowed_at.ensures ∙ not-false _ c.if-not-allowed_at.false-raw)) c.digest-digest.ensures c.slotted-may.ensures))

pub overflow_mul-result-2 : goal.overflow_mul-result-2
overflow_mul-result-2 c = omega (arith, (mark-small c.requires c.part-v.ensures ((sym c.allowed_at.ensures ∙ not-false _ c.if-not-allowed_at.false-raw)) c.digest-digest.ensures c.slotted-may.ensures))

pub overflow_add-result-2 : goal.overflow_add-result-2
overflow_add-result-2 c = omega (arith, (mark-small c.requires c.part-v.ensures ((sym c.allowed_at.ensures ∙ not-false _ c.if-not-allowed_at.false-raw)) c.digest-digest.ensures c.slotted-may.ensures))

pub overflow_mul-result-3 : goal.overflow_mul-result-3
overflow_mul-result-3 c = omega (arith, (mark-small c.requires c.part-v.ensures ((sym c.allowed_at.ensures ∙ not-false _ c.if-not-allowed_at.false-raw)) c.digest-digest.ensures c.slotted-may.ensures))

pub overflow_add-result-3 : goal.overflow_add-result-3
overflow_add-result-3 c = omega (arith, (mark-small c.requires c.part-v.ensures ((sym c.allowed_at.ensures ∙ not-false _ c.if-not-allowed_at.false-raw)) c.digest-digest.ensures c.slotted-may.ensures))

pub returns : goal.returns
returns c = λ ms ready. ruled-marked c.requires c.part-v.ensures ((sym c.allowed_at.ensures ∙ not-false _ c.if-not-allowed_at.false-raw)) c.digest-digest.ensures c.slotted-may.ensures c.twin.ensures ms ready c.if-twin.false
