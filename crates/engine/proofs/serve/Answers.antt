-- A panel's buffer first, then the sheets.
use Rattle.std.proofs.Common.{ℕ, ap, sym, ◌∙◌}
use lib.ListN.{length}
use Rattle.answer_reply.specs.Laws.Reply.{replies-refused, replies-same}
use Rattle.engine.specs.Laws.Serve.{room-refuses, room-allows}
use Rattle.engine.proofs.serve.Goals as goal

pub returns-then-above : goal.returns-then-above
returns-then-above c =
    let A = c.args in
    replies-refused 33 _ A.out.now c.refused.result (c.refused.ensures ∙ ap (λ (n : ℕ). record { refusal = n; length = 0 }) c.refusal_number.ensures)
    (room-refuses A.terms.format A.terms.limits A.d.now A.p.now A.q.now (length A.out.now) (sym c.above.ensures ∙ c.if-above.true))

pub returns : goal.returns
returns c =
    let A = c.args in
    replies-same
    (room-allows A.terms.format A.terms.limits A.d.now A.p.now A.q.now (length A.out.now) (sym c.above.ensures ∙ c.if-above.false))
    c.judged.ensures
