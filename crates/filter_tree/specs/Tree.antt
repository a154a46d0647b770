-- The operators of a filter, what follows an item, and the filter's truth for an entry.
use Rattle.std.specs.Prelude.{ℕ, ◌≡◌, Bool, ◌||◌, cond, List, eqb, get_or}
use Rattle.rules.specs.Sheet.{Bytes, Sheet}
use Rattle.rules.specs.Judge.{Grammar, accept}
use Rattle.rules.specs.Directory.{Stored, blank, entry_of}
use Rattle.rules.specs.Decision.{Setting}
use Rattle.rules.specs.Filter.{Filter, is_true, evaluate}
use Rattle.rules.specs.FilterItem.{item_truth}
use Rattle.rules.specs.Request.{filter}
use Rattle.rules.specs.Places.{lines_at}
use Rattle.tables.specs.FilterLines.{after_lines}
use Rattle.rules.specs.declared.Edition.{Edition}

-- what follows an item
unfoldable pub after_by : ℕ → ℕ → Sheet → Sheet
after_by k b rest = cond (eqb k 23 || (eqb k 24 || (eqb k 25 || eqb k 26))) rest (after_lines b rest)

-- the filter is true of the entry of index `k`, in the edition
unfoldable pub matches_at : Setting → List Stored → Edition → Filter → ℕ → Bool
matches_at σ es ed f k = is_true (evaluate ed (item_truth σ (entry_of (get_or es k blank))) f)

-- the filter `f` is read at position `i` of the request sheet `q`
abbrev pub FilterAt : Grammar → ℕ → Bytes → ℕ → Filter → Type 0
FilterAt g w q i f = filter g 16 128 (lines_at w q i) (λ f left rest. accept f) ≡ accept f

-- some filter is
abbrev pub KnownFilter : ℕ → Bytes → ℕ → Type 0
KnownFilter w q i = (g : Grammar) × (f : Filter) × FilterAt g w q i f
