-- A column as one number: its own, or the highest of 64 bits where it is malformed; and spaces in a row.
use Rattle.std.specs.Prelude.{ℕ, ◌+◌, ◌<◌, ◌≡◌, get_or, Some, None}
use Rattle.rules.specs.Sheet.{Bytes}
use Rattle.rules.specs.Sheet.{Column}

pub record Coded (x : Column) (r : ℕ) : Type 0 where
  pub malformed : r ≡ 18446744073709551615 → x ≡ None
  pub number : (r ≡ 18446744073709551615 → ⊥) → x ≡ Some r

-- the `n` bytes from `at` on are spaces
abbrev pub Spaces : Bytes → ℕ → ℕ → Type 0
Spaces s at n = (j : ℕ) → j < n → get_or s (at + j) 0 ≡ 32
