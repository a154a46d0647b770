-- The items stand in order of weight: the first of those asked decides.
use Rattle.std.specs.Prelude.{ℕ, ◌≤◌, ◌<◌, ◌≡◌, Bool, true, false, List}
use Rattle.rules.specs.Value.{by_found}
use Rattle.rules.specs.Value.{Found}
use Rattle.access_set.specs.Member.{Least}
use Rattle.tables.specs.Sets.{grants_row, in_row}

-- `r` is whether the first item asked grants; false where none is asked
pub record Decided (sets : List ℕ) (asked : ℕ → Bool) (r : Bool) : Type 0 where
  pub first : Found
  pub least : Least asked first
  pub verdict : r ≡ by_found first (in_row sets grants_row)

-- `i` is the first number below `end` that passes; `end` where none does
pub record First (p : ℕ → Bool) (end i : ℕ) : Type 0 where
  pub within : i ≤ end
  pub passes : i < end → p i ≡ true
  pub below : (j : ℕ) → j < i → p j ≡ false
