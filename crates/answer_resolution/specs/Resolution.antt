-- The way down a name by entry numbers, and where the name asked for leads once its beginnings are replaced (#105).
use Rattle.std.specs.Prelude.{ℕ, ◌-◌, ◌≤◌, ◌<◌, ◌≡◌, Bool, ◌&&◌, cond, List, [], ◌∷◌, length, get_or, Some, None, Some, None}
use Rattle.std.proofs.Math.Option.{Option, none, some}
use Rattle.rules.specs.Sheet.{Bytes, print}
use Rattle.rules.specs.Name.{Name}
use Rattle.rules.specs.Directory.{Stored, blank, under_alias, leads_to}
use Rattle.rules.specs.Permission.{DiscloseOnError}
use Rattle.rules.specs.Decision.{Setting, entry}
use Rattle.rules.specs.Judge.{name_lines}
use Rattle.rules.specs.Places.{lines_at, parts_of}
use Rattle.tables.specs.Numbers.{child_from}
use Rattle.rules.specs.Value.{Found}
use Rattle.tables.specs.Sets.{granted_at}
use Rattle.directory_lookup.specs.Find.{by_child}
use Rattle.tables.specs.Sound.{Base}
use Rattle.answer_resolution.specs.declared.way.Way.{Way}
use Rattle.answer_resolution.specs.Resolved.{Resolved}

-- ---- the way down

-- entry number `e` if DiscloseOnError is granted on it, else `last`
abbrev pub last_of : Setting → List Stored → ℕ → ℕ → ℕ
last_of σ es e last = cond (granted_at σ es e entry DiscloseOnError) e last

-- how the way down a name ends: at the alias of this number, with the rest of the name; or with the name, at the number found, if any, the last entry disclosed
-- above it having the other number
pub data Ending : Type 0 where
  alias : ℕ → Name → Ending
  whole : Found → ℕ → Ending

-- the way from number `from` on by the parts, `last` being the number of the last entry disclosed above it, 0 for none; up to the first alias if `stop`
unfoldable pub way_down : Setting → List Stored → Bool → ℕ → ℕ → Name → Ending
way_down σ es stop from last [] = whole (Some from) last
way_down σ es stop from last (p ∷ ps) =
    let seen = last_of σ es from last in
    by_child (whole None seen) (λ k. cond (stop && under_alias es k) (alias k ps) (way_down σ es stop k seen ps)) (child_from σ.schema from p es 0)

-- the ending that is told by numbers, of a name on the sheet `s`
abbrev pub ending_of : ℕ → Bytes → Way → Ending
ending_of w s (Way.Alias number left next) = alias number (parts_of left (lines_at w s next))
ending_of w s (Way.End t) = whole t.base t.missing

-- all `n` lines at position `i` stand there
abbrev pub Full : ℕ → Bytes → ℕ → ℕ → Type 0
Full w s i n = length (parts_of n (lines_at w s i)) ≡ n

-- its numbers are those of entries, `n` being the last; of the `parts` of the name some are the alias's, and the others stand there
abbrev pub EndsWithin : ℕ → ℕ → Bytes → ℕ → Way → Type 0
EndsWithin n w s parts (Way.Alias number left next) = (1 ≤ number) × (number ≤ n) × (left < parts) × Full w s next left
EndsWithin n w s parts (Way.End t) = t.missing ≤ n

-- ---- names replaced

-- the target of entry number `e`
abbrev pub target_of : List Stored → ℕ → Name
target_of es e = leads_to (get_or es (e - 1) blank).target

-- the `n` parts that stand as lines at position `i` of the sheet `s`, as K 9 lines
unfoldable pub part_bytes : ℕ → Bytes → ℕ → ℕ → Bytes
part_bytes w s i n = print w (name_lines (parts_of n (lines_at w s i)))

-- the name of the first `n` lines of the sheet `s`
pub record HoldsName (w : ℕ) (s : Bytes) (n : ℕ) (name : Name) : Type 0 where
  pub parts : parts_of n (lines_at w s 0) ≡ name
  pub count : length name ≡ n

-- the target of the name that is asked for in the end, none where a ninth replacement is due
abbrev pub Resolves : Setting → List Stored → Option Name → Resolved → Type 0
Resolves σ es (some n) (Some t) = Base σ es n t.base t.missing
Resolves σ es (some n) None = ⊥
Resolves σ es none (Some t) = ⊥
Resolves σ es none None = Unit {0}
