-- The lines where the sheet can be moved, else the refusal.
use Rattle.answer_reply.specs.Laws.Reply.{replies-refused}
use Rattle.directory_move.specs.Laws.Move.{replies-moved}
use Rattle.directory_move.proofs.moved.Goals as goal

pub returns-in-Ok : goal.returns-in-Ok
returns-in-Ok c = replies-moved c.in-Ok.ensures.2 c.in-Ok.ensures.0 c.rewritten.ensures

pub returns-in-Err : goal.returns-in-Err
returns-in-Err c = replies-refused c.refusal_number.result _ c.args.out.now c.refused.result c.refused.ensures (rw c.refusal_number.ensures c.in-Err.ensures)
