-- The rows of an entry's values that count for an item: of the item's rank, with FilterMatch granted, and with a value that passes the test.
use Rattle.std.specs.Prelude.{ℕ, zero, suc, ◌-◌, Bool, false, not, ◌&&◌, ◌||◌, cond, List, eqb}
use Rattle.rules.specs.Sheet.{Bytes}
use Rattle.rules.specs.Value.{order}
use Rattle.rules.specs.FilterItem.{is_less}
use Rattle.tables.specs.Held.{rank_at, bytes_at}
use Rattle.filter_matchable.specs.Matchable.{bit_at}

-- one of the `n` numbers from `i` on passes
unfoldable pub some_from : (ℕ → Bool) → ℕ → ℕ → Bool
some_from p i zero = false
some_from p i (suc n) = p i || some_from p (suc i) n

-- row `i` is of this rank, and its bit is set
unfoldable pub matchable_at : List ℕ → List ℕ → ℕ → ℕ → ℕ → Bool
matchable_at held values first rank i = eqb (rank_at held i) rank && bit_at values (i - first)

-- some row from `first` to `end` is of this rank
unfoldable pub held_row : List ℕ → ℕ → ℕ → ℕ → Bool
held_row held first end rank = some_from (λ i. eqb (rank_at held i) rank) first (end - first)

-- some row from `first` to `end` is of this rank, with its bit set, and has a value that passes the test
unfoldable pub some_row : Bytes → List ℕ → List ℕ → ℕ → ℕ → ℕ → (Bytes → Bool) → Bool
some_row d held values first end rank test = some_from (λ i. matchable_at held values first rank i && test (bytes_at d held i)) first (end - first)

-- `u` is not below `v`, or not above it
abbrev pub beside_by : ℕ → Bool → Bytes → Bytes → Bool
beside_by s least v u = cond least (not (is_less (order s u v))) (not (is_less (order s v u)))
