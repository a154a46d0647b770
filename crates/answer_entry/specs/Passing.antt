-- The entries found, by their indices in order.
use Rattle.std.specs.Prelude.{◌≡◌, ℕ, zero, suc, ◌≤◌, ◌<◌, Bool, List, [], ◌∷◌, ◌++◌, length, get_or, drop}
use Rattle.rules.specs.Lists.{given}

-- the indices below `m` that pass
unfoldable pub passing : (ℕ → Bool) → ℕ → List ℕ
passing p zero = []
passing p (suc m) = passing p m ++ given (p m) (m ∷ [])

-- the indices found, and behind them what was there before
abbrev pub over : List ℕ → List ℕ → List ℕ
over found before = found ++ drop (length found) before

-- the first `n` of `hits` are indices below `k`; what follows is as it was `before`
pub record Indices (k n : ℕ) (before hits : List ℕ) : Type 0 where
  pub size : length hits ≡ length before
  pub few : n ≤ k
  pub room : n ≤ length hits
  pub below : (i : ℕ) → i < n → get_or hits i 0 < k
  pub kept : (i : ℕ) → n ≤ i → get_or hits i 0 ≡ get_or before i 0
