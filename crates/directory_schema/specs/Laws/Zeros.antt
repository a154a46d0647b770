-- Laws of `Zeros`: a column of zeros, and one number more.
use Rattle.std.specs.Prelude.{ℕ, zero, suc, ◌+◌, ◌≡◌, refl, List, get_or, set, replicate}
use Rattle.std.proofs.Common.{◌∙◌, arith, get_or-set_other}
use Rattle.directory_schema.specs.Zeros.{ZerosFrom}

pub zeros : (m n : ℕ) → ZerosFrom n (replicate m 0)
zeros m n k l = zero-at m k
  where
    zero-at : (m k : ℕ) → get_or {A = ℕ} (replicate m 0) k 0 ≡ 0
    zero-at zero k = refl
    zero-at (suc m) zero = refl
    zero-at (suc m) (suc k) = zero-at m k

pub zeros-more : (n : ℕ) (xs : List ℕ) (x : ℕ) → ZerosFrom n xs → ZerosFrom (n + 1) (set xs n x)
zeros-more n xs x z k l = get_or-set_other xs n k x 0 (λ q. omega arith) ∙ z k (omega arith)
