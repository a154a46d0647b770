use Prim.Native.Nat.{◌+◌, ◌≤◌}
use mathlib.Core.Path.{sym, ◌∙◌}
use native.Mathlib.Omega.{arith}
use lib.ListN.{length}
use borrow.Author.Tests.{not-true, not-false}
use Rattle.tables.specs.Laws.World.{known-entry, inside}
use Rattle.answer_search.specs.Laws.Hits.{found-outside, found-withheld, found-asked, candidate-asked}
use Rattle.filter_matchable.specs.Laws.Candidate.{searched-known}
use Rattle.answer_search.proofs.found_at.Goals as goal

pub within-requires : goal.within-requires
within-requires c = let A = c.args in let K = c.requires.0.world.entries in (c.requires.1, (c.requires.0.setting, c.requires.0.stored, A.d.now, A.held.now, K))

pub returns-then-not-within : goal.returns-then-not-within
returns-then-not-within c = let A = c.args in let k = A.k in λ σ es g f w h. let l : k + 1 ≤ length es = omega (arith, inside w.entries k c.requires.1) in found-outside σ es A.extent.base A.extent.subset A.extent.edition f k (sym (c.within.ensures σ es A.d.now A.held.now w.entries) ∙ not-true _ c.if-not-within.true-raw)

pub overflow_add-k : goal.overflow_add-k
overflow_add-k c = let K = c.requires.0.world.entries in omega (arith, c.requires.1, K.fits.few-entries)

pub overflow_add-k-2 : goal.overflow_add-k-2
overflow_add-k-2 c = let K = c.requires.0.world.entries in omega (arith, c.requires.1, K.fits.few-entries)

pub returnable-requires : goal.returnable-requires
returnable-requires c = known-entry (searched-known c.requires.0) _ (omega (arith, c.requires.1))

pub returns-then-not-returnable : goal.returns-then-not-returnable
returns-then-not-returnable c = let A = c.args in let k = A.k in λ σ es g f w h. let l : k + 1 ≤ length es = omega (arith, inside w.entries k c.requires.1) in found-withheld σ es A.extent.base A.extent.subset A.extent.edition f k (sym (c.within.ensures σ es A.d.now A.held.now w.entries) ∙ not-false _ c.if-not-within.false-raw) (sym (c.returnable.ensures σ es A.d.now A.p.now A.book.now A.held.now w l) ∙ not-true _ c.if-not-returnable.true-raw)

pub matches-requires : goal.matches-requires
matches-requires c =
    let A = c.args in
    let P = c.requires in
    let S = P.0 in
    let l : A.k + 1 ≤ length S.stored = omega (arith, inside S.world.entries A.k P.1) in
    let within = sym (c.within.ensures S.setting S.stored A.d.now A.held.now S.world.entries) ∙ not-false _ c.if-not-within.false-raw in
    let returnable = sym (c.returnable.ensures S.setting S.stored A.d.now A.p.now A.book.now A.held.now S.world l) ∙ not-false _ c.if-not-returnable.false-raw in (
      record {
        search = S;
        within = P.1;
        granted = candidate-asked S.setting S.stored S.world.entries.accepted S.base A.extent.base S.walked A.k (omega arith) A.extent.subset within returnable;
      },
      P.2,
      P.3,
      P.4,
      P.5,
    )

pub returns : goal.returns
returns c = let A = c.args in let k = A.k in λ σ es g f w h. let l : k + 1 ≤ length es = omega (arith, inside w.entries k c.requires.1) in c.matches.ensures σ es g f w h ∙ found-asked σ es A.extent.base A.extent.subset A.extent.edition f k (sym (c.within.ensures σ es A.d.now A.held.now w.entries) ∙ not-false _ c.if-not-within.false-raw) (sym (c.returnable.ensures σ es A.d.now A.p.now A.book.now A.held.now w l) ∙ not-false _ c.if-not-returnable.false-raw)
