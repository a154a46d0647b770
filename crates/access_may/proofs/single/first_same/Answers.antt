use mathlib.Core.Path.{sym, ◌∙◌}
use mathlib.Core.Bool.{◌&&◌}
use Prim.Native.Nat.{◌-◌}
use Rattle.access_set.specs.Member.{member}
use native.Mathlib.Omega.{arith}
use Rattle.access_may.specs.Single.{agrees_at}
use Rattle.access_may.specs.Laws.Decided.{Left, left-start, left_end, left-member, left-found, left-later, left-more}
use borrow.Author.Rules.{rules}
use Rattle.access_may.proofs.single.first_same.Goals as goal

pub loop-i-init : goal.loop-i-init
loop-i-init c = left-start (agrees_at c.args.sets.now c.args.p.now c.args.syntax c.args.digest c.args.v.now) c.args.single c.place-i.result c.place-i.ensures

pub agrees-requires : goal.agrees-requires
agrees-requires c = (omega (arith, c.loop-i-test.true, c.requires.0), c.requires.1)

pub returns-then-agrees : goal.returns-then-agrees
returns-then-agrees c = left-found c.loop-i.invariant (omega (arith, c.loop-i-test.true, c.requires.0)) c.args.end c.loop-i-test.true (sym c.agrees.ensures ∙ c.if-agrees.true)

pub without-rest-requires : goal.without-rest-requires
without-rest-requires c = (omega (arith, c.loop-i-test.true, c.requires.0), left-member c.loop-i.invariant (omega (arith, c.loop-i-test.true, c.requires.0)))

pub loop-i-smaller : goal.loop-i-smaller
loop-i-smaller c = omega (arith, c.loop-i-test.true, c.requires.0, left-later c.loop-i.invariant (omega (arith, c.loop-i-test.true, c.requires.0)) c.without-rest.result c.without-rest.ensures c.place-i-in-loop-i.result c.place-i-in-loop-i.ensures)

pub loop-i-preserved : goal.loop-i-preserved
loop-i-preserved c = left-more c.loop-i.invariant (omega (arith, c.loop-i-test.true, c.requires.0)) c.without-rest.result c.without-rest.ensures c.place-i-in-loop-i.result c.place-i-in-loop-i.ensures (sym c.agrees.ensures ∙ c.if-agrees.false)

pub returns : goal.returns
returns c = left_end c.loop-i.invariant c.args.end c.loop-i-test.false
