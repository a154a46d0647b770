-- Laws of `Weight`: its numbers are small.
use Rattle.std.specs.Prelude.{ℕ, ◌≤◌, ◌≡◌, refl, Bool, true, false, cond, eqb, leb}
use Rattle.std.proofs.Common.{arith, leb-false}
use Rattle.permission_weight.specs.Weight.{rank_of, explicit_of, weight_of}

pub rank-small : (who : ℕ) → rank_of who ≤ 2
unfolding rank_of
rank-small who = go (leb 2 who) refl
  where
    go : (t : Bool) → leb 2 who ≡ t → cond t 2 who ≤ 2
    go true e = omega arith
    go false e = omega (arith, leb-false 2 who e)

pub explicit-small : (what : ℕ) → explicit_of what ≤ 1
unfolding explicit_of
explicit-small what = go (eqb what 3) (eqb what 5)
  where
    go : (a b : Bool) → cond a 1 (cond b 1 0) ≤ 1
    go true b = omega arith
    go false true = omega arith
    go false false = omega arith

pub weight-small : (precedence who what : ℕ) → precedence ≤ 255 → weight_of precedence who what ≤ 1535
unfolding weight_of
weight-small precedence who what h = omega (arith, rank-small who, explicit-small what)
