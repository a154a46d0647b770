-- A column of numbers filled from its front.
use Rattle.std.specs.Prelude.{ℕ, ◌≤◌, ◌≡◌, List, get_or}

-- from index `n` on, all are 0
abbrev pub ZerosFrom : ℕ → List ℕ → Type 0
ZerosFrom n xs = (k : ℕ) → n ≤ k → get_or xs k 0 ≡ 0
