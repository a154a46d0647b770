-- The children that list returns, by number and index.
use Rattle.std.specs.Prelude.{ℕ, suc, Bool, false, ◌&&◌, List, [], eqb, length, get_or, Some, None}
use Rattle.rules.specs.Directory.{Stored, blank}
use Rattle.rules.specs.Decision.{Setting}
use Rattle.rules.specs.Value.{Found}
use Rattle.answer_entry.specs.Passing.{passing}
use Rattle.answer_entry.specs.Returned.{returnable_at}

-- list returns the entry of index `k`, of base number `b`
unfoldable pub listed_at : Setting → List Stored → ℕ → ℕ → Bool
listed_at σ es b k = eqb (get_or es k blank).parent b && returnable_at σ es (suc k) false

-- the indices of those that list returns, of the base; none of an absent one
unfoldable pub list_found : Setting → List Stored → Found → List ℕ
list_found σ es (Some b) = passing (listed_at σ es b) (length es)
list_found σ es None = []
