-- The items, each entered in the row that its reach names: 0 none, 2 b + 1 that of entry b,
-- 2 b + 2 that of the items that also cover what is below it.
use Rattle.std.specs.Prelude.{ℕ, zero, suc, ◌+◌, ◌-◌, ◌*◌, ◌/◌, ◌%◌, cond, List, eqb, ltb, get_or}
use Rattle.tables.specs.Sets.{below_row}
use Rattle.access_items.specs.Mark.{marked}

-- the reach of entry 256, the last, and all below
abbrev pub last_reach : ℕ
last_reach = 2 * 256 + 2

-- the row that a reach names
abbrev pub reach_row : ℕ → ℕ
reach_row r = cond (eqb (r % 2) 1) (r / 2) (below_row + r / 2 - 1)

-- the item at place `p`, whose reach is `r`; never in the row of the root, 0
unfoldable pub reach_entered : ℕ → ℕ → List ℕ → List ℕ
reach_entered r p t = cond (ltb r 2) t (cond (ltb last_reach r) t (marked t (reach_row r) p 1))

-- the reach of the item at a place
abbrev pub reach_at : List ℕ → List ℕ → ℕ → ℕ
reach_at reach order p = get_or reach (get_or order p 0) 0

-- the items at the places below `n`
unfoldable pub all_entered : List ℕ → List ℕ → ℕ → List ℕ → List ℕ
all_entered reach order zero t = t
all_entered reach order (suc n) t = reach_entered (reach_at reach order n) n (all_entered reach order n t)
