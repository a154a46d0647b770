-- What a request selects, and how it is noted.
use Rattle.std.specs.Prelude.{ℕ, ◌≤◌, ◌≡◌, false, [], length}
use Rattle.rules.specs.Sheet.{Bytes}
use Rattle.rules.specs.Request.{Selection, Operation, read, compare, list, search}
use Rattle.rules.specs.Places.{lines_at, types_of}
use Rattle.request_sheet.specs.declared.Asked.{Asked}

-- nothing
abbrev pub nothing_selected : Selection
nothing_selected = record { listed = false; types = []; values = false }

-- the selection of read and search; compare and list have none
abbrev pub selection_of : Operation → Selection
selection_of (read s) = s
selection_of (compare t v) = nothing_selected
selection_of (list limit) = nothing_selected
selection_of (search r) = r.selection

-- the selection as it is noted
pub record Selects (w : ℕ) (q : Bytes) (s : Selection) (r : Asked) : Type 0 where
  pub listed : s.listed ≡ r.listed
  pub types : types_of r.types_listed (lines_at w q r.types) ≡ s.types
  pub count : length s.types ≡ r.types_listed
  pub few : r.types_listed ≤ 16
  pub values : s.values ≡ r.values

-- some selection is noted
abbrev pub KnownSelection : ℕ → Bytes → Asked → Type 0
KnownSelection w q r = (s : Selection) × Selects w q s r
