use mathlib.Core.Path.{◌≡◌, subst}
use native.Mathlib.Omega.{arith}
use Prim.Native.Nat.{ℕ, ◌<◌}
use Rattle.tables.specs.Laws.World.{types-most}
use Rattle.filter_matchable.specs.Matchable.{MatchableTypes}
use Rattle.filter_matchable.specs.Laws.Matchable.{clear_none, clear-on, types-none, types-on}
use Rattle.filter_matchable.proofs.matchable.matchable_types.Goals as goal

pub loop-r-init : goal.loop-r-init
loop-r-init c = (clear_none, λ σ es d p book held w l m. types-none σ es book c.args.e c.args.asked)

pub loop-r-preserved : goal.loop-r-preserved
loop-r-preserved c = let r = c.loop-r.r in let s : r < 64 = omega (arith, (types-most c.requires).1, c.loop-r-test.true) in (clear-on c.loop-r.x c.bit_if-x.result c.type_matchable.result r s c.bit_if-x.ensures c.loop-r.invariant.0, λ σ es d p book held w l m. types-on c.loop-r.x c.bit_if-x.result c.type_matchable.result r s c.bit_if-x.ensures σ es book c.args.e c.args.asked c.loop-r.invariant.0 (c.type_matchable.ensures σ es d p book held w l (omega (arith, m, c.loop-r-test.true))) (c.loop-r.invariant.1 σ es d p book held w l m))

pub returns : goal.returns
returns c = λ σ es d p book held w l m. let z : c.loop-r.r ≡ c.args.n = omega (arith, c.loop-r-test.false) in subst (λ (r : ℕ). MatchableTypes σ es book c.args.e c.args.asked r c.loop-r.x) z (c.loop-r.invariant.1 σ es d p book held w l m)
