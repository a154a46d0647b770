-- The beginning that two values share.
use Rattle.std.specs.Prelude.{ℕ, suc, ◌+◌, ◌≤◌, ◌≡◌, cond, [], ◌∷◌, eqb, drop}
use Rattle.rules.specs.Sheet.{Bytes}

-- how many bytes two values share at their beginning
unfoldable pub common : Bytes → Bytes → ℕ
common [] w = 0
common (a ∷ as') [] = 0
common (a ∷ as') (b ∷ bs) = cond (eqb a b) (suc (common as' bs)) 0

-- the first `i` bytes are shared
pub record Shared (a b : Bytes) (n i : ℕ) : Type 0 where
  pub within : i ≤ n
  pub left : i + common (drop i a) (drop i b) ≡ common a b
