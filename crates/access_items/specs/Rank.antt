-- The order of a sheet's items by weight, from their rows of rights.
use Rattle.std.specs.Prelude.{ℕ, ◌+◌, ◌*◌, List, map, get_or}
use Rattle.permission_sheet.specs.Noted.{SCORE, RIGHTS}
use Rattle.access_order.specs.Pass.{up_to, in_order}

-- the scores of the first `n` items
unfoldable pub scores_of : List ℕ → ℕ → List ℕ
scores_of rights n = map (λ k. get_or rights (k * RIGHTS + SCORE) 0) (up_to n)

-- their numbers, those with higher scores first
unfoldable pub weight_order : List ℕ → ℕ → List ℕ
weight_order rights n = in_order (scores_of rights n)
