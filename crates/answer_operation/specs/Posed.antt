-- A request put to the tables: what is noted of it, and what it selects.
use Rattle.std.specs.Prelude.{ℕ, List}
use Rattle.rules.specs.Sheet.{Bytes}
use Rattle.rules.specs.Name.{Name}
use Rattle.rules.specs.Directory.{Stored}
use Rattle.rules.specs.Decision.{Setting}
use Rattle.rules.specs.Judge.{Grammar}
use Rattle.rules.specs.Request.{Request}
use Rattle.request_sheet.specs.Noted.{RequestNoted}
use Rattle.request_sheet.specs.declared.Asked.{Asked}
use Rattle.tables.specs.Book.{width, schema}
use Rattle.tables.specs.World.{World}
use Rattle.tables.specs.declared.plan.Choice.{Choice}
use Rattle.tables.specs.Choice.{Chooses}
use Rattle.tables.specs.Sound.{Base}
use Rattle.answer_choice.specs.Selected.{selection_of}
use Rattle.answer_entry.specs.declared.Sought.{Sought}

-- the request `x` in a world, `G` being the grammar of requests
pub record Posed (σ : Setting) (es : List Stored) (G : Grammar) (x : Request) (d p q : Bytes) (book held sets : List ℕ) (asked : Asked) (choice : Choice) : Type 0 where
  pub world : World σ es d p book held sets
  pub noted : RequestNoted G (width book) q x asked
  pub chosen : Chooses (schema book) (selection_of x.operation) choice

-- some request is
abbrev pub KnownRequest : Bytes → Bytes → Bytes → List ℕ → List ℕ → List ℕ → Asked → Choice → Type 0
KnownRequest d p q book held sets asked choice = (σ : Setting) × (es : List Stored) × (G : Grammar) × (x : Request) × Posed σ es G x d p q book held sets asked choice

-- about some name
abbrev pub KnownSought : Bytes → Bytes → Bytes → List ℕ → List ℕ → List ℕ → Asked → Sought → Choice → Type 0
KnownSought d p q book held sets asked sought choice =
    (σ : Setting) × (es : List Stored) × (G : Grammar) × (x : Request) × (n : Name) × Posed σ es G x d p q book held sets asked choice × Base σ es n sought.base sought.missing
