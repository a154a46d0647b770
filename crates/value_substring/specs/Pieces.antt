-- Where a piece's first byte stands.
use Rattle.std.specs.Prelude.{ℕ, suc, ◌+◌, ◌≤◌, ◌≡◌, cond, [], ◌∷◌, eqb, length, drop}
use Rattle.rules.specs.Sheet.{Bytes}

-- how many bytes stand before the first `b`
unfoldable pub seek : ℕ → Bytes → ℕ
seek b [] = 0
seek b (x ∷ xs) = cond (eqb x b) 0 (suc (seek b xs))

-- none stands from `from` up to `i`
pub record Sought (b : ℕ) (a : Bytes) (from i : ℕ) : Type 0 where
  pub within : i ≤ length a
  pub left : i + seek b (drop i a) ≡ from + seek b (drop from a)
