-- The truths of a filter's items, noted for each line.
use Rattle.std.specs.Prelude.{ℕ, ◌<◌, ◌≡◌, false, ◌||◌, List, eqb, get_or}
use Rattle.rules.specs.Sheet.{Bytes}
use Rattle.rules.specs.Filter.{Assertion}
use Rattle.rules.specs.declared.Truth.{Truth}
use Rattle.rules.specs.declared.Truth.TheVariants.{Undefined}
use Rattle.filter_lines.specs.Lines.{LinesNoted, kind_at, column_a, line_value, pieces_at}
use Rattle.filter_item.specs.Items.{assertion_by}

-- the truth `t` is that of the item in line `k`, unless an operator stands there
pub record TruthAt (m : Assertion → Truth) (q : Bytes) (rows : List ℕ) (lines k : ℕ) (t : Truth) : Type 0 where
  pub told : (kind_at rows k ≡ 22 → ⊥) → (eqb (kind_at rows k) 20 || eqb (kind_at rows k) 21) ≡ false
      → t ≡ m (assertion_by (kind_at rows k) (column_a rows k) (line_value q rows k) (pieces_at q rows lines k))

-- a truth for each of the first `count` of the lines
pub record Truths (m : Assertion → Truth) (q : Bytes) (rows : List ℕ) (lines count : ℕ) (truths : List Truth) : Type 0 where
  pub line : (k : ℕ) → k < count → TruthAt m q rows lines k (get_or truths k Undefined)

-- the rows are lines of some sheet, and the truths are those of their items
abbrev pub KnownTruths : List ℕ → ℕ → List Truth → Type 0
KnownTruths rows lines truths = (w : ℕ) × (q : Bytes) × (m : Assertion → Truth) × LinesNoted w q rows lines × Truths m q rows lines lines truths
