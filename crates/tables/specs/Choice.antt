-- What K 12 selects, by the ranks of the types in the schema.
use Rattle.std.specs.Prelude.{ℕ, ◌≤◌, ◌<◌, ◌≡◌, ◌&&◌, List, length}
use Rattle.rules.specs.Lists.{is_empty}
use Rattle.rules.specs.Sheet.{Bytes}
use Rattle.rules.specs.Directory.{Stored}
use Rattle.rules.specs.Decision.{Setting}
use Rattle.rules.specs.Request.{Selection}
use Rattle.rules.specs.Answer.{selected}
use Rattle.access_set.specs.Member.{bit_of}
use Rattle.tables.specs.Book as Book
use Rattle.tables.specs.Held.{type_at}
use Rattle.tables.specs.World.{World}
use Rattle.tables.specs.declared.plan.Choice.{Choice}

-- `c` is the selection `s`, under this schema
pub record Chooses (schema : List ℕ) (s : Selection) (c : Choice) : Type 0 where
  pub ranks : (r : ℕ) → r < length schema → bit_of c.ranks r ≡ selected s (type_at schema r)
  pub values : c.values ≡ s.values
  pub nothing : c.nothing ≡ (s.listed && is_empty s.types)

-- it is some selection
abbrev pub KnownChoice : List ℕ → Choice → Type 0
KnownChoice schema c = (s : Selection) × Chooses schema s c

-- the sets stand for some world with an entry number `e` and a type of this rank, and the choice for some selection under its schema
abbrev pub KnownChoiceAt : List ℕ → ℕ → ℕ → Choice → Type 0
KnownChoiceAt sets e rank c =
    (σ : Setting) × (es : List Stored) × (d p : Bytes) × (book held : List ℕ) × World σ es d p book held sets
    × (e ≤ length es) × (rank < length (Book.schema book)) × KnownChoice (Book.schema book) c
