-- The types that occur in a filter, by their ranks.
use Rattle.std.specs.Prelude.{ℕ, zero, suc, ◌<◌, ◌≡◌, Bool, false, not, ◌&&◌, ◌||◌, List, eqb}
use Rattle.access_set.specs.Member.{bit_of}
use Rattle.filter_lines.specs.Lines.{kind_at, type_rank}

-- line `k` is an operator, K 20 to 22
unfoldable pub operator_at : List ℕ → ℕ → Bool
operator_at rows k = (eqb (kind_at rows k) 20 || eqb (kind_at rows k) 21) || eqb (kind_at rows k) 22

-- the type of rank `r` occurs in one of the first `n` lines
unfoldable pub occurs : List ℕ → ℕ → ℕ → Bool
occurs rows zero r = false
occurs rows (suc n) r = not (operator_at rows n) && eqb (type_rank rows n) r || occurs rows n r

-- the bits of `x` are the ranks that occur
pub record Masks (rows : List ℕ) (lines x : ℕ) : Type 0 where
  pub rank : (r : ℕ) → r < 64 → bit_of x r ≡ occurs rows lines r
