-- The values of the entries that are noted, each entry's in its rows.
use Rattle.std.specs.Prelude.{ℕ, ◌+◌, ◌≤◌, ◌<◌, ◌≡◌, List, length, get_or}
use Rattle.rules.specs.Sheet.{Bytes}
use Rattle.rules.specs.Directory.{Stored, blank}
use Rattle.tables.specs.Held.{HELD, HeldAt}
use Rattle.directory_sheet.specs.Judged.{NoneFrom}

-- the values of `count` entries are in the rows that `first` tells, and there are no others
pub record AllHeld (ks : List ℕ) (s : Bytes) (es : List Stored) (first held : List ℕ) (count : ℕ) : Type 0 where
  pub table : length held ≡ HELD
  pub start : get_or first 0 0 ≡ 0
  pub below : (k : ℕ) → k ≤ count → get_or first k 0 ≤ get_or first count 0
  pub values : (k : ℕ) → k < count → HeldAt ks s (get_or es k blank).values held (get_or first k 0) (get_or first (k + 1) 0)
  pub after : NoneFrom (get_or first count 0) held
