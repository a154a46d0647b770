use mathlib.Core.Path.{sym, ap, ◌∙◌}
use native.Mathlib.Omega.{arith}
use Prim.Native.Nat.{◌%◌, ◌^◌}
use mathlib.Core.Bool.{Bool, cond}
use Rattle.access_set.specs.Laws.Bit.{one_shl}
use Rattle.filter_matchable.proofs.matchable.bit_if.Goals as goal

pub returns-then-b : goal.returns-then-b
returns-then-b c = one_shl (c.args.j % 64) (omega arith) ∙ ap (λ (b : Bool). cond b (2 ^ (c.args.j % 64)) 0) (sym c.if-b.true)

pub returns : goal.returns
returns c = ap (λ (b : Bool). cond b (2 ^ (c.args.j % 64)) 0) (sym c.if-b.false)
