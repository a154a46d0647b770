-- The target of an alias: what refuses its lines, what is known before them, and after them.
use Rattle.std.specs.Prelude.{ℕ, ◌+◌, ◌≤◌, ◌≡◌, Bool, true, not, cond, Result, Ok, Err, List, ◌++◌, eqb, ltb, length}
use Rattle.std.proofs.Math.Option.{some}
use Rattle.rules.specs.Lists.{any}
use Rattle.rules.specs.Sheet.{Bytes, Usable}
use Rattle.rules.specs.declared.Format.{Format}
use Rattle.rules.specs.Name.{Name, allowed, same_part}
use Rattle.rules.specs.Judge.{refuse}
use Rattle.rules.specs.Directory.{Target, parts, Stored, Reading, with_target, alias_mark, is_alias, is_unread, is_whole}
use Rattle.rules.specs.Places.{lines_at, parts_of, schema_of}
use Rattle.sheet_line.specs.declared.Line.{Line}
use Rattle.sheet_line.specs.declared.Taken.{Taken}
use Rattle.sheet_line.specs.Line.{taken_at, bytes_of}
use Rattle.directory_schema.specs.Lines.{judged_from, Passes, columns_fit, Other}
use Rattle.directory_duplicates.specs.Rulings.{reading}
use Rattle.tables.specs.World.{TargetAt}
use Rattle.directory_alias.specs.declared.Last.{Last}
use Rattle.directory_alias.specs.declared.TargetLines.{TargetLines}
use Rattle.rules.specs.Refusals.{refusal_number}
use Rattle.rules.specs.declared.refusals.Refusal.{Refusal}

-- ---- what refuses a line, or 0

-- by the tests whether it is an entry line, its parent's number is too high, and the entry before it lacks its naming value
abbrev pub rest_number : Bool → Bool → Bool → ℕ
rest_number entry high lacks = cond entry (cond high 2 (cond lacks 6 3)) 3

-- where a line of this kind is due after `number` entries, of which the last lacks its naming value or not
unfoldable pub stray_number : ℕ → ℕ → ℕ → Bool → Line → ℕ
stray_number top kind number lacks x =
    cond (columns_fit top x) (cond (eqb x.kind kind) 0 (rest_number (eqb x.kind 2) (ltb number x.a) lacks)) 2

-- where a line is due and none stands
abbrev pub absent_number : Bool → Taken → ℕ
absent_number lacks (Taken.Line x) = 2
absent_number lacks Taken.NotInForm = 2
absent_number lacks Taken.End = cond lacks 6 3

-- where a part of a target is due
unfoldable pub part_number : ℕ → Bytes → List ℕ → ℕ → Bool → Line → ℕ
part_number top s ks number lacks x =
    cond (eqb (stray_number top 9 number lacks x) 0) (cond (allowed (schema_of ks) x.a (bytes_of s x)) 0 4) (stray_number top 9 number lacks x)

-- ---- before the target

-- what was read, the last entry having this target
abbrev pub reading_to : List ℕ → List Stored → Stored → Target → Reading
reading_to ks complete d t = reading ks complete (some (with_target d t))

-- the entry `d` stands after the entries `complete`, its values have been read, and `e` tells of it
pub record Owed (f : Format) (s : Bytes) (ks : List ℕ) (e : Last) (complete : List Stored) (d : Stored) : Type 0 where
  pub usable : Usable f
  pub sheet : length s ≤ 65536
  pub number : e.number ≡ length complete + 1
  pub lacking : e.lacks ≡ not (any (same_part (schema_of ks) d.naming) d.values)
  pub within : e.at ≤ length s
  pub stands : e.taken ≡ taken_at f.width s e.at
  pub other : Other 3 e.taken

-- some entry stands there
pub record TargetAsked (f : Format) (s : Bytes) (ks : List ℕ) (e : Last) : Type 0 where
  pub complete : List Stored
  pub entry : Stored
  pub owed : Owed f s ks e complete entry

-- it is an alias, and its K 36 line stands there
pub record PartsAsked (f : Format) (s : Bytes) (ks : List ℕ) (e : Last) (x : Line) : Type 0 where
  pub asked : TargetAsked f s ks e
  pub alias : e.alias ≡ true
  pub taken : taken_at f.width s e.at ≡ Taken.Line x
  pub due : stray_number f.top 36 e.number e.lacks x ≡ 0

-- the parts `m` have been read, up to position `i`, and `left` are due, of those that the K 36 line `x` counts
pub record PartsRead (f : Format) (s : Bytes) (ks : List ℕ) (e : Last) (x : Line) (left i : ℕ) (complete : List Stored) (d : Stored) (m : Name) : Type 0 where
  pub passed : Passes f s (reading_to ks complete d (alias_mark e.alias)) e.at (reading_to ks complete d (parts left m)) i
  pub sofar : parts_of x.b (lines_at f.width s x.next) ≡ m ++ parts_of left (lines_at f.width s i)
  pub count : length m + left ≡ x.b
  pub start : e.at ≤ i
  pub within : i ≤ length s

-- ---- after the target

-- how a target ended: the refusal number or 0; 0 for no alias, or the position of the first K 9 line times 16 and how many there are; and what
-- stands after them, with its position
pub record TargetNoted : Type 0 where
  pub refusal : ℕ
  pub target : ℕ
  pub at : ℕ
  pub taken : Taken

-- the target refused: the number, and nothing else
abbrev pub target_refused : ℕ → TargetNoted
target_refused n = record { refusal = n; target = 0; at = 0; taken = Taken.End }

-- the target that was read, or a refusal
abbrev pub target_noted : Result TargetLines Refusal → TargetNoted
target_noted (Ok r) = record { refusal = 0; target = r.target; at = r.at; taken = r.taken }
target_noted (Err e) = target_refused (refusal_number e)

-- the target that was read, whole, up to the line after it
pub record TargetEnded (f : Format) (s : Bytes) (ks : List ℕ) (e : Last) (complete : List Stored) (d : Stored) (r : TargetNoted) : Type 0 where
  pub target : Target
  pub passed : Passes f s (reading_to ks complete d (alias_mark e.alias)) e.at (reading_to ks complete d target) r.at
  pub alias : is_alias target ≡ e.alias
  pub whole : is_whole target ≡ true
  pub noted : TargetAt f.width s target r.target
  pub start : e.at ≤ r.at
  pub within : r.at ≤ length s
  pub stands : r.taken ≡ taken_at f.width s r.at
  pub other : is_unread target ≡ true → Other 3 r.taken

-- a line of it refused, and the sheet with it
pub record TargetStopped (f : Format) (s : Bytes) (ks : List ℕ) (e : Last) (complete : List Stored) (d : Stored) (r : TargetNoted) : Type 0 where
  pub sheet : judged_from f s (reading_to ks complete d (alias_mark e.alias)) e.at ≡ refuse r.refusal
  pub only : r ≡ target_refused r.refusal

-- the target of an entry
pub record TargetJudged (f : Format) (s : Bytes) (ks : List ℕ) (e : Last) (complete : List Stored) (d : Stored) (r : TargetNoted) : Type 0 where
  pub ended : r.refusal ≡ 0 → TargetEnded f s ks e complete d r
  pub refused : (r.refusal ≡ 0 → ⊥) → TargetStopped f s ks e complete d r

-- whichever entry it is
abbrev pub TargetAnswered : Format → Bytes → List ℕ → Last → TargetNoted → Type 0
TargetAnswered f s ks e r = (complete : List Stored) (d : Stored) → Owed f s ks e complete d → TargetJudged f s ks e complete d r
