-- Document 01, "Sheets" and "Who is refused, and why", and #105: the directory sheet. Refusals 1 to 6.
use Rattle.std.specs.Prelude.{ℕ, zero, suc, ◌+◌, Bool, true, false, ◌&&◌, ◌||◌, not, cond, List, [], ◌∷◌, ◌++◌, map, leb, ltb, eqb, length, get_or}
use Rattle.std.proofs.Math.Option.{Option, none, some}
use Rattle.rules.specs.Lists.{given, any, is_empty, last_or, optional, gather}
use Rattle.rules.specs.Sheet.{Bytes, Line, line, bit, lines}
use Rattle.rules.specs.declared.Format.{Format}
use Rattle.rules.specs.Columns.{in_form, directory_forms}
use Rattle.rules.specs.Name.{Schema, Part, part, Name, allowed, same_part}
use Rattle.rules.specs.Judge.{Verdict, accept, refuse, refuse_if, fold, name_lines}

-- ---- what a directory sheet holds

-- #105: where an entry leads: nowhere, for it is no alias; its K 36 is missing; or to the parts read, so many more being due
pub data Target : Type 0 where
  nowhere : Target
  missing : Target
  parts : ℕ → Name → Target

-- an entry as it stands on the sheet: K 2, its stored full name, the K 3 lines after it, and an alias's target after these
pub record Stored : Type 0 where
  pub parent : ℕ
  pub naming : Part
  pub name : Name
  pub values : List Part
  pub target : Target

pub record Directory : Type 0 where
  pub schema : Schema
  pub entries : List Stored

-- an entry from its fields: here alone it is built
abbrev pub stored : ℕ → Part → Name → List Part → Target → Stored
stored parent naming name values target = record { parent = parent; naming = naming; name = name; values = values; target = target }

abbrev pub blank : Stored
blank = stored 0 (part 0 []) [] [] nowhere

-- the entry with these values
abbrev pub with_values : Stored → List Part → Stored
with_values e values = stored e.parent e.naming e.name values e.target

-- the entry with this target
abbrev pub with_target : Stored → Target → Stored
with_target e target = stored e.parent e.naming e.name e.values target

-- the stored full name of entry number `k`; "0 is the root"
unfoldable pub name_at : List Stored → ℕ → Name
name_at es zero = []
name_at es (suc k) = (get_or es k blank).name

-- ---- the judge: a fold whose state is the directory so far

pub record Reading : Type 0 where
  pub schema : Schema
  pub complete : List Stored
  -- the last entry, to which K 3, K 36 and K 9 lines belong
  pub current : Option Stored

unfoldable pub entries_of : Reading → List Stored
entries_of st = st.complete ++ optional st.current

abbrev pub last_type : Schema → ℕ
last_type S = (last_or (record { number = 0; syntax = 0 }) S).number

-- K 1: "all before the entries, A strictly rising, at most 64"
unfoldable pub type_line : Reading → Line → Verdict Reading
type_line st x =
    refuse_if (not (is_empty (entries_of st)) || (leb x.a (last_type st.schema) || leb 64 (length st.schema))) 3
    (accept (record { schema = st.schema ++ (record { number = x.a; syntax = x.b } ∷ []); complete = st.complete; current = st.current }))

-- "the naming value is among the entry's values, equal under its syntax"
unfoldable pub lacks_naming : Schema → Option Stored → Bool
lacks_naming S none = false
lacks_naming S (some e) = not (any (same_part S e.naming) e.values)

-- "siblings of one name"
unfoldable pub clashes : Schema → List Stored → ℕ → Part → Bool
clashes S es parent naming = any (λ e. eqb e.parent parent && same_part S e.naming naming) es

-- #105: C 1 marks an alias
abbrev pub alias_mark : Bool → Target
alias_mark true = missing
alias_mark false = nowhere

abbrev pub is_alias : Target → Bool
is_alias nowhere = false
is_alias missing = true
is_alias (parts n m) = true

-- no line of the target was read
abbrev pub is_unread : Target → Bool
is_unread nowhere = true
is_unread missing = true
is_unread (parts n m) = false

-- no line of the target is due
abbrev pub is_whole : Target → Bool
is_whole nowhere = true
is_whole missing = false
is_whole (parts n m) = eqb n 0

-- the last entry is an alias cut short
unfoldable pub lacks_target : Option Stored → Bool
lacks_target none = false
lacks_target (some e) = not (is_whole e.target)

-- #105: an alias "has no children"; 0 is the root
unfoldable pub under_alias : List Stored → ℕ → Bool
under_alias es zero = false
under_alias es (suc k) = is_alias (get_or es k blank).target

-- the entry of a K 2 line after the entries `es`, with no values yet
abbrev pub new_entry : List Stored → Line → Stored
new_entry es x = let naming = part x.b x.bytes in stored x.a naming (name_at es x.a ++ (naming ∷ [])) [] (alias_mark (eqb x.c 1))

-- K 2: a parent number not below its own gives 2; then 6 counts for the entry before it; "at most .. 256 entries, depth 8"; #105: an alias cut short
-- before it, and an alias above it, give 3
unfoldable pub entry_line : Reading → Line → Verdict Reading
entry_line st x =
    let es = entries_of st in
    let e = new_entry es x in
    refuse_if (ltb (length es) x.a) 2
    (refuse_if (lacks_naming st.schema st.current) 6
    (refuse_if (lacks_target st.current || (under_alias es x.a || (leb 256 (length es) || ltb 8 (length e.name)))) 3
    (refuse_if (not (allowed st.schema x.b x.bytes)) 4
    (refuse_if (clashes st.schema es e.parent e.naming) 5
    (accept (record { schema = st.schema; complete = es; current = some e }))))))

-- the entry with one value more
abbrev pub with_value : Stored → Part → Stored
with_value e v = with_values e (e.values ++ (v ∷ []))

-- the reading, its last entry being `e`
abbrev pub with_last : Reading → Stored → Reading
with_last st e = record { schema = st.schema; complete = st.complete; current = some e }

-- K 3: "value of the last entry: A type, never falling within an entry", before its target; "one value twice in a type" gives 5
unfoldable pub value_line : Reading → Option Stored → Line → Verdict Reading
value_line st none x = refuse 3
value_line st (some e) x =
    let v = part x.a x.bytes in
    refuse_if (ltb x.a (last_or (part 0 []) e.values).type || not (is_unread e.target)) 3
    (refuse_if (not (allowed st.schema x.a x.bytes)) 4
    (refuse_if (any (same_part st.schema v) e.values) 5
    (accept (with_last st (with_value e v)))))

-- #105: "after its values stands K 36", where it is due
unfoldable pub target_line : Reading → Stored → Target → Line → Verdict Reading
target_line st e nowhere x = refuse 3
target_line st e missing x = accept (with_last st (with_target e (parts x.b [])))
target_line st e (parts n m) x = refuse 3

-- #105: "name parts .. as K 9", where one is due
unfoldable pub part_line : Reading → Stored → Target → Line → Verdict Reading
part_line st e nowhere x = refuse 3
part_line st e missing x = refuse 3
part_line st e (parts zero m) x = refuse 3
part_line st e (parts (suc n) m) x =
    refuse_if (not (allowed st.schema x.a x.bytes)) 4 (accept (with_last st (with_target e (parts n (m ++ (part x.a x.bytes ∷ []))))))

-- a line that belongs to the last entry
abbrev pub of_last : (Stored → Target → Line → Verdict Reading) → Option Stored → Line → Verdict Reading
of_last judge none x = refuse 3
of_last judge (some e) x = judge e e.target x

-- one line; `top` is the highest type
unfoldable pub step : ℕ → Reading → Line → Verdict Reading
step top st x =
    refuse_if (not (in_form (directory_forms top) x)) 2
    (cond (eqb x.kind 1) (type_line st x)
    (cond (eqb x.kind 2) (entry_line st x)
    (cond (eqb x.kind 3) (value_line st st.current x)
    (cond (eqb x.kind 36) (of_last (target_line st) st.current x)
    (of_last (part_line st) st.current x)))))

-- "6 counts on the entry's last line .. where the sheet's end .. follows"; "a missing line counts as a line after the last"
unfoldable pub finish : Reading → Verdict Directory
finish st =
    refuse_if (lacks_naming st.schema st.current) 6
    (refuse_if (lacks_target st.current) 3
    (accept (record { schema = st.schema; entries = entries_of st })))

abbrev pub nothing : Reading
nothing = record { schema = []; complete = []; current = none }

-- the directory, "at most 65,536 bytes", or the refusal
unfoldable pub directory_of : Format → Bytes → Verdict Directory
directory_of f s = refuse_if (ltb 65536 (length s)) 1 (fold (step f.top) finish 2 nothing (lines f.width s))

-- ---- a directory as lines: those of its sheet (#109)

-- K 1
abbrev pub schema_lines : Schema → List Line
schema_lines S = map (λ k. line 1 k.number k.syntax 0 []) S

-- K 36, whose B counts the parts that are due too, then its K 9
abbrev pub target_lines : Target → List Line
target_lines nowhere = []
target_lines missing = []
target_lines (parts n m) = line 36 0 (n + length m) 0 [] ∷ name_lines m

-- K 2, then its K 3, then an alias's target
unfoldable pub stored_lines : Stored → List Line
stored_lines e =
    line 2 e.parent e.naming.type (bit (is_alias e.target)) e.naming.value
    ∷ (map (λ v. line 3 v.type 0 0 v.value) e.values ++ target_lines e.target)

unfoldable pub directory_lines : Directory → List Line
directory_lines d = schema_lines d.schema ++ gather stored_lines d.entries

-- ---- entries as the operations see them

-- a type that an entry holds, with its values
pub record Held : Type 0 where
  pub type : ℕ
  pub values : List Bytes

-- a value before those after it
unfoldable pub hold : Part → List Held → List Held
hold p [] = record { type = p.type; values = p.value ∷ [] } ∷ []
hold p (h ∷ hs) = cond (eqb p.type h.type)
    (record { type = h.type; values = p.value ∷ h.values } ∷ hs)
    (record { type = p.type; values = p.value ∷ [] } ∷ h ∷ hs)

-- "an entry holds the types of its K 3 lines, with their bytes as values"
unfoldable pub held_of : List Part → List Held
held_of [] = []
held_of (p ∷ ps) = hold p (held_of ps)

pub record Entry : Type 0 where
  pub name : Name
  pub held : List Held

unfoldable pub entry_of : Stored → Entry
entry_of e = record { name = e.name; held = held_of e.values }

unfoldable pub entries_in : Directory → List Entry
entries_in d = map entry_of d.entries

-- ---- aliases (#105)

-- an alias, by its stored full name, and its target
pub record Alias : Type 0 where
  pub name : Name
  pub target : Name

abbrev pub leads_to : Target → Name
leads_to nowhere = []
leads_to missing = []
leads_to (parts n m) = m

abbrev pub alias_of : Stored → Alias
alias_of e = record { name = e.name; target = leads_to e.target }

unfoldable pub aliases : Directory → List Alias
aliases d = gather (λ e. given (is_alias e.target) (alias_of e ∷ [])) d.entries
