use mathlib.Core.Path.{◌∙◌}
use mathlib.Core.Bool.{◌&&◌}
use Rattle.access_set.specs.Member.{member}
use Rattle.access_set.specs.Laws.Sets.{member-meet}
use Rattle.access_may.specs.Single.{agrees_at, same_at}
use Rattle.access_may.specs.Laws.Decided.{row-member, decided-all, decided-one}
use Rattle.access_may.specs.Laws.Single.{near_same}
use borrow.Author.Rules.{rules}
use Rattle.access_may.proofs.single.decided_value.Goals as goal

pub returns-then-end-place : goal.returns-then-end-place
returns-then-end-place c = decided-all c.args.sets.now c.args.all c.args.single (same_at c.args.sets.now c.args.p.now c.args.syntax c.args.v.now) c.place-end.result c.place-end.ensures c.place.result c.place.ensures c.if-end-place.true c.has.result (c.has.ensures ∙ row-member _ _ _ c.row.ensures c.place-end.result)

pub returns : goal.returns
returns c =
    let A = c.args in
    let S = A.sets.now in
    let P = A.p.now in
    let value = A.v.now in
    let h = c.digest-h in
    let near = c.and-near in
    let found = c.first_same-i in
    decided-one S A.all A.single (same_at S P A.syntax value) c.place-end.result c.place-end.ensures
    (λ j. member near.result j && agrees_at S P A.syntax h.result value j)
    (near_same S P A.syntax value h.result c.first_slot.result c.second_slot.result A.single c.row-2.result
    c.row-3.result c.and.result near.result h.ensures c.first_slot.ensures c.second_slot.ensures
    c.row-2.ensures c.row-3.ensures (member-meet _ _ _ c.and.ensures) (member-meet _ _ _ near.ensures))
    found.result found.ensures c.has-2.result (c.has-2.ensures ∙ row-member _ _ _ c.row-4.ensures found.result)
