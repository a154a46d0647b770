-- Entries found by their numbers in the book: a child of an entry, and one part of a name down from an entry.
use Rattle.std.specs.Prelude.{ℕ, ◌≤◌, Bool, ◌&&◌, List, eqb, Some, None}
use Rattle.rules.specs.Sheet.{Bytes}
use Rattle.rules.specs.Name.{Schema, part}
use Rattle.rules.specs.Directory.{Stored}
use Rattle.tables.specs.Numbers.{child_from}
use Rattle.name.specs.Schema.{equal_by}
use Rattle.sheet_line.specs.Line.{bytes_of}
use Rattle.sheet_line.specs.declared.Taken.{Taken}
use Rattle.tables.specs.Book.{parent_at, naming_at, naming_of}
use Rattle.directory_lookup.specs.declared.find.Descent.{Descent}
use Rattle.directory_lookup.specs.declared.find.Descent.TheVariants.{To, Lost, Ended}
use Rattle.rules.specs.Value.{Found}

-- a number that was found is at most `n`
abbrev pub UpTo : ℕ → Found → Type 0
UpTo n (Some b) = b ≤ n
UpTo n None = Unit {0}

-- ---- a child

-- the entry of index `k` is the child of `parent` with the naming part `t`, `v`, the syntax of `t` being `s`
unfoldable pub is_child : List ℕ → Bytes → ℕ → ℕ → ℕ → ℕ → Bytes → Bool
is_child book d k parent t s v = eqb (parent_at book k) parent && (eqb t (naming_at book k) && equal_by s v (naming_of book d k))

-- by the child found
abbrev pub by_child : {A : Type 0} → A → (ℕ → A) → Found → A
by_child lost to (Some k) = to k
by_child lost to None = lost

-- ---- one part down

-- a step leads to a number of at most `n`
abbrev pub LeadsWithin : ℕ → Descent → Type 0
LeadsWithin n (To k next) = k ≤ n
LeadsWithin n Lost = Unit {0}
LeadsWithin n Ended = Unit {0}

-- to the child found
abbrev pub step_found : Found → ℕ → Descent
step_found (Some k) next = To k next
step_found None next = Lost

-- from entry `from` by what was taken from the sheet `s`
unfoldable pub step_of : Schema → List Stored → ℕ → Bytes → Taken → Descent
step_of S es from s (Taken.Line x) = step_found (child_from S from (part x.a (bytes_of s x)) es 0) x.next
step_of S es from s Taken.NotInForm = Ended
step_of S es from s Taken.End = Ended
