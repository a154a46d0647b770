-- The rows of the values held, written one after another: what a row holds after it is written, and which rows are left as they were.
use Rattle.std.specs.Prelude.{ℕ, ◌+◌, ◌≤◌, ◌<◌, ◌≡◌, List, length, set}
use Rattle.rules.specs.Sheet.{Bytes}
use Rattle.rules.specs.Name.{Part}
use Rattle.tables.specs.Held.{ROWS, sizes, HELD, rank_at, place_at, size_at, HeldAt}

-- the table with row `i` written
unfoldable pub written : List ℕ → ℕ → ℕ → ℕ → ℕ → List ℕ
written h i rank place size = set (set (set h i rank) (ROWS + i) place) (sizes + i) size

-- row `i` is as it was
pub record RowKept (before now : List ℕ) (i : ℕ) : Type 0 where
  pub rank : rank_at now i ≡ rank_at before i
  pub place : place_at now i ≡ place_at before i
  pub size : size_at now i ≡ size_at before i

-- the values `vs` are in the rows from `first` to `to`, and those before and after them are as they were
pub record RowsWritten (ks : List ℕ) (s : Bytes) (vs : List Part) (before held : List ℕ) (first to : ℕ) : Type 0 where
  pub table : length held ≡ HELD
  pub earlier : (i : ℕ) → i < first → RowKept before held i
  pub later : (i : ℕ) → to ≤ i → i < ROWS → RowKept before held i
  pub values : HeldAt ks s vs held first to
