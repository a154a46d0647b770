use Prim.Native.Nat.{ℕ}
use mathlib.Core.Path.{refl, sym, ap, ◌∙◌, subst}
use mathlib.Core.List.{[]}
use Rattle.rules.specs.Refusals.{refusal_number}
use lib.ListN.{length}
use Rattle.rules.specs.Serve.{setting_of, within}
use Rattle.rules.specs.Request.{request_grammar}
use Rattle.request_sheet.specs.Noted.{RequestNoted}
use Rattle.tables.specs.Book.{width}
use Rattle.request_sheet.specs.Laws.Noted.{judged-refused, judged-accepted}
use Rattle.answer_reply.specs.Laws.Reply.{replies-refused, replies-same}
use Rattle.engine.specs.Laws.Serve.{request-refuses, request-accepts}
use Rattle.engine.specs.Laws.Respond.{judged-under, asker-of, respond-is}
use Rattle.engine.proofs.respond.requested.Goals as goal

pub schema-requires : goal.schema-requires
schema-requires c = (c.requires.1.directory.entries (setting_of c.requires.0.directory [] (record { level = 0; name = [] })) refl).fits

pub judge-requires : goal.judge-requires
judge-requires c = c.requires.1.directory.usable

pub returns-in-Err : goal.returns-in-Err
returns-in-Err c = let A = c.args in let f = A.terms.format in let q = A.q.now in λ g G.
    replies-refused (refusal_number c.in-Err.refusal) _ A.out.now c.refused.result (c.refused.ensures ∙ ap (λ (n : ℕ). record { refusal = n; length = 0 }) c.refusal_number.ensures)
    (request-refuses f A.terms.limits g q (length A.out.now) (refusal_number c.in-Err.refusal) (judged-refused f g.directory.schema q c.judge.result (judged-under f q c.judge.result G.directory c.schema.ensures c.judge.ensures) c.in-Err.refusal c.in-Err.is))

pub within-asked-requires : goal.within-asked-requires
within-asked-requires c = let A = c.args in let f = A.terms.format in let q = A.q.now in let k = c.judge in let g = c.requires.0 in let G = c.requires.1 in let J = judged-accepted f g.directory.schema q k.result (judged-under f q k.result G.directory c.schema.ensures k.ensures) c.in-Ok.asked c.in-Ok.is in (request_grammar f.top, f.width, q, J.0, J.2)

pub note_sets-requires : goal.note_sets-requires
note_sets-requires c = let A = c.args in let f = A.terms.format in let W = width A.book.now in let q = A.q.now in let k = c.judge in let g = c.requires.0 in let G = c.requires.1 in
    let J = judged-accepted f g.directory.schema q k.result (judged-under f q k.result G.directory c.schema.ensures k.ensures) c.in-Ok.asked c.in-Ok.is in
    let y = within A.terms.limits J.0 in let N = c.within-asked.ensures (request_grammar f.top) W q J.0 (subst (λ (m : ℕ). RequestNoted (request_grammar f.top) m q J.0 c.in-Ok.asked) (sym G.directory.columns) J.2) in
    let σ = setting_of g.directory g.items y.requester in let es = g.directory.entries in let E = G.directory.entries σ refl in
    let asker = asker-of σ (request_grammar f.top) W q y c.within-asked.result refl N in
    (refl, G.directory.rising, (σ, es, A.held.now, E, asker, G.items))

pub respond-requires : goal.respond-requires
respond-requires c = let A = c.args in let f = A.terms.format in let W = width A.book.now in let q = A.q.now in let k = c.judge in let g = c.requires.0 in let G = c.requires.1 in
    let J = judged-accepted f g.directory.schema q k.result (judged-under f q k.result G.directory c.schema.ensures k.ensures) c.in-Ok.asked c.in-Ok.is in
    let y = within A.terms.limits J.0 in let N = c.within-asked.ensures (request_grammar f.top) W q J.0 (subst (λ (m : ℕ). RequestNoted (request_grammar f.top) m q J.0 c.in-Ok.asked) (sym G.directory.columns) J.2) in
    let σ = setting_of g.directory g.items y.requester in let es = g.directory.entries in let E = G.directory.entries σ refl in
    let asker = asker-of σ (request_grammar f.top) W q y c.within-asked.result refl N in
    ((σ, es, c.note_sets.ensures σ es A.held.now E asker G.items), (request_grammar f.top, y, N))

pub returns : goal.returns
returns c = let A = c.args in let f = A.terms.format in let W = width A.book.now in let q = A.q.now in let k = c.judge in λ g G.
    let J = judged-accepted f g.directory.schema q k.result (judged-under f q k.result G.directory c.schema.ensures k.ensures) c.in-Ok.asked c.in-Ok.is in
    let y = within A.terms.limits J.0 in let N = c.within-asked.ensures (request_grammar f.top) W q J.0 (subst (λ (m : ℕ). RequestNoted (request_grammar f.top) m q J.0 c.in-Ok.asked) (sym G.directory.columns) J.2) in
    let σ = setting_of g.directory g.items y.requester in let es = g.directory.entries in let E = G.directory.entries σ refl in
    let asker = asker-of σ (request_grammar f.top) W q y c.within-asked.result refl N in
    let room = length A.out.now in
    replies-same (respond-is f W g y room G.directory.columns ∙ request-accepts f A.terms.limits g q room J.0 J.1)
    (c.respond.ensures σ es (request_grammar f.top) y (c.note_sets.ensures σ es A.held.now E asker G.items) N)
