use Rattle.std.proofs.Common.{ℕ, ap, ◌∙◌}
use Rattle.tables.specs.Book.{width}
use Rattle.tables.specs.Plan.{planned}
use Rattle.answer_print.specs.Laws.Written.{run-refused, run-answered}
use Rattle.answer_print.proofs.write.Goals as goal

pub print-n-requires : goal.print-n-requires
print-n-requires c = c.requires

pub returns-then-out-n : goal.returns-then-out-n
returns-then-out-n c = let a = c.args in
    let r = c.print-n in
    λ σ es s W C. run-refused (width a.book.now) (planned σ es s a.plan a.hits.now) a.out.now r.new.out r.auto.out _ _ r.result (r.ensures σ es s W C) c.refused.result c.if-out-n.true (c.refused.ensures ∙ ap (λ (n : ℕ). record { refusal = n; length = 0 }) c.refusal_number.ensures)

pub print-m-requires : goal.print-m-requires
print-m-requires c = c.requires

pub returns : goal.returns
returns c = let a = c.args in
    let r = c.print-n in
    let t = c.print-m in
    λ σ es s W C. run-answered (width a.book.now) (planned σ es s a.plan a.hits.now) a.out.now r.new.out r.auto.out _ _ r.result (r.ensures σ es s W C) t.new.out t.result c.if-out-n.false (t.ensures σ es s W C)
