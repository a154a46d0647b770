-- A parent's number is below its child's.
use Rattle.answer_name.proofs.+emit_name.Given as goal

abbrev pub decreases-emit_name : goal.decreases-emit_name
decreases-emit_name l = l.e
