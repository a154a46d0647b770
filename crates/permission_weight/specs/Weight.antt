-- The weight of an item as one number, and its score: the definitions that the contracts of this crate cite.
use Rattle.std.specs.Prelude.{ℕ, ◌+◌, ◌*◌, cond, leb, eqb}

-- "the most specific who" has the highest rank
unfoldable pub rank_of : ℕ → ℕ
rank_of who = cond (leb 2 who) 2 who

-- 1 where the item names the type or the value
unfoldable pub explicit_of : ℕ → ℕ
explicit_of what = cond (eqb what 3) 1 (cond (eqb what 5) 1 0)

unfoldable pub weight_of : ℕ → ℕ → ℕ → ℕ
weight_of precedence who what = (precedence * 3 + rank_of who) * 2 + explicit_of what

-- the weight, and within a weight a denial before a grant
unfoldable pub score_of : ℕ → ℕ → ℕ
score_of weight grants = cond (eqb grants 1) (weight * 2 + 2) (weight * 2 + 3)
