-- What the numbers of the tables stand for. A function that answers takes them as they are; its contract speaks of the world.
use Rattle.std.specs.Prelude.{ℕ, suc, ◌+◌, ◌/◌, ◌%◌, ◌≤◌, ◌<◌, ◌≡◌, not, List, eqb, length, get_or}
use Rattle.rules.specs.Sheet.{Bytes}
use Rattle.rules.specs.Directory.{Target, Stored, blank, is_alias, leads_to}
use Rattle.rules.specs.Decision.{Setting}
use Rattle.rules.specs.Places.{lines_at, parts_of, values_of, schema_of}
use Rattle.rules.specs.Derived.{Accepted}
use Rattle.tables.specs.Book.{BookFits, width, entry_count, schema, naming_place, parent_at, naming_at, length_at, naming_of, first_at, target_at}
use Rattle.tables.specs.Held.{HELD, Distinct, HeldAt}
use Rattle.tables.specs.Sets.{SETS, Rights}

-- the target `t` by its number, the parts of an alias's being K 9 lines of the directory
pub record TargetAt (w : ℕ) (d : Bytes) (t : Target) (x : ℕ) : Type 0 where
  pub alias : is_alias t ≡ not (eqb x 0)
  pub name : parts_of (x % 16) (lines_at w d (x / 16)) ≡ leads_to t
  pub count : length (leads_to t) ≡ x % 16
  pub within : x / 16 ≤ length d
  pub few : x % 16 ≤ 8

-- the entry `e` by the numbers of index `k`; its values stand after the line of its naming value
pub record EntryAt (d : Bytes) (e : Stored) (book : List ℕ) (k : ℕ) : Type 0 where
  pub parent : parent_at book k ≡ e.parent
  pub type : naming_at book k ≡ e.naming.type
  pub value : naming_of book d k ≡ e.naming.value
  pub within : naming_place book k + length_at book k < length d
  pub values : values_of (lines_at (width book) d (naming_place book k + length_at book k + 1)) ≡ e.values
  pub target : TargetAt (width book) d e.target (target_at book k)

-- the setting and the accepted entries `es` of the directory `d`, by the book and the rows of the values held
pub record Entries (σ : Setting) (es : List Stored) (d : Bytes) (book held : List ℕ) : Type 0 where
  pub fits : BookFits book
  pub rows : length held ≡ HELD
  pub small : length d ≤ 65536
  pub schema-is : σ.schema ≡ schema_of (schema book)
  pub distinct : Distinct (schema book)
  pub accepted : Accepted σ.schema es
  pub count : entry_count book ≡ length es
  pub listed : (k : ℕ) → k < length es → EntryAt d (get_or es k blank) book k
  pub values : (k : ℕ) → k < length es → HeldAt (schema book) d (get_or es k blank).values held (first_at book k) (first_at book (suc k))

-- the numbers stand for some entries of the directory `d`
abbrev pub Listed : Bytes → List ℕ → Type 0
Listed d book = (σ : Setting) × (es : List Stored) × (held : List ℕ) × Entries σ es d book held

-- the entries, and what the requester may under the permission sheet `p`
pub record World (σ : Setting) (es : List Stored) (d p : Bytes) (book held sets : List ℕ) : Type 0 where
  pub entries : Entries σ es d book held
  pub size : length sets ≡ SETS
  pub rights : Rights σ es (schema book) p sets

-- the numbers stand for some world
abbrev pub Known : Bytes → Bytes → List ℕ → List ℕ → List ℕ → Type 0
Known d p book held sets = (σ : Setting) × (es : List Stored) × World σ es d p book held sets

-- the sets stand for some world in which `e` is the number of an entry, or of the root
abbrev pub KnownEntry : List ℕ → ℕ → Type 0
KnownEntry sets e = (σ : Setting) × (es : List Stored) × (d p : Bytes) × (book held : List ℕ) × World σ es d p book held sets × (e ≤ length es)

-- and whose schema has `n` types at least
abbrev pub KnownTypes : List ℕ → ℕ → ℕ → Type 0
KnownTypes sets e n = (σ : Setting) × (es : List Stored) × (d p : Bytes) × (book held : List ℕ) × World σ es d p book held sets × (e ≤ length es) × (n ≤ length (schema book))
