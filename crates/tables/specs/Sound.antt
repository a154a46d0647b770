-- The numbers that a plan is made from, and what the writer of a plan may rely on.
use Rattle.std.specs.Prelude.{ℕ, ◌-◌, ◌≤◌, ◌<◌, ◌≡◌, List, map, length, get_or}
use Rattle.rules.specs.Sheet.{Bytes}
use Rattle.rules.specs.Name.{Name}
use Rattle.rules.specs.Directory.{Stored, name_at, entry_of}
use Rattle.rules.specs.Decision.{Setting}
use Rattle.rules.specs.Answer.{matched_name}
use Rattle.tables.specs.Numbers.{walk}
use Rattle.rules.specs.Value.{Found}
use Rattle.tables.specs.World.{World}
use Rattle.tables.specs.declared.plan.Plan.{Plan}

-- the name asked for: the number that it is found at, and the number of the entry with the matched name, or the root's, 0
pub record Base (σ : Setting) (es : List Stored) (n : Name) (base : Found) (missing : ℕ) : Type 0 where
  pub walked : walk σ.schema es 0 n ≡ base
  pub matched : name_at es missing ≡ matched_name σ (map entry_of es) n (length n - 1)
  pub within : missing ≤ length es

-- the tables stand for some world, and the numbers for some name asked for in it
abbrev pub KnownBase : Bytes → Bytes → List ℕ → List ℕ → List ℕ → Found → ℕ → Type 0
KnownBase d p book held sets base missing = (σ : Setting) × (es : List Stored) × (n : Name) × World σ es d p book held sets × Base σ es n base missing

-- the numbers of a plan are numbers of the `count` entries
pub record SoundPlan (count : ℕ) (r : Plan) (hs : List ℕ) : Type 0 where
  pub name : r.name ≤ count
  pub entry : r.entry ≤ count
  pub shown : r.shown ≤ length hs
  pub hits : (i : ℕ) → i < r.shown → get_or hs i 0 < count
