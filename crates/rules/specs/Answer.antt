-- Document 01, "Outcomes", #105 and #106: read, compare, list and search over the entries of a directory, as answer lines 30 to 35.
-- List and search go by names alone: that an absent base gives 1 is proved in `Laws.Absent`.
use Rattle.std.specs.Prelude.{ℕ, zero, suc, ◌-◌, Bool, ◌&&◌, ◌||◌, not, cond, List, [], ◌∷◌, ◌++◌, map, length, take, drop, ltb, eqb}
use Rattle.std.proofs.Math.Option.{Option, none, some}
use Rattle.rules.specs.Lists.{given, gather, any, first, keep, is_empty}
use Rattle.rules.specs.Sheet.{Bytes, Line, line, bit}
use Rattle.rules.specs.Name.{Name, allowed, equal, same_name, covers, child_of}
use Rattle.rules.specs.Judge.{name_lines}
use Rattle.rules.specs.Directory.{Held, Entry, Alias}
use Rattle.rules.specs.Permission.{Read, Browse, ReturnDN, DiscloseOnError, Compare}
use Rattle.rules.specs.Decision.{Setting, entry, of_type, of_value, granted}
use Rattle.rules.specs.Filter.{is_true, evaluate}
use Rattle.rules.specs.FilterItem.{holds, some_value, item_truth}
use Rattle.rules.specs.declared.Outcome.{Outcome}
use Rattle.rules.specs.declared.Outcome.TheVariants.{Result, NoSuchObject, InsufficientAccessRights, NoSuchAttributeOrValue, InvalidAttributeSyntax, AliasProblem}
use Rattle.rules.specs.Request.{Selection, Search, Operation, read, compare, list, search}
use Rattle.rules.specs.Aliases.{resolved, aliased}
use Rattle.rules.specs.Arrange.{arranged}

-- ---- answer lines

-- A of lines 11 and 30
abbrev pub operation_number : Operation → ℕ
operation_number (read s) = 1
operation_number (compare t v) = 2
operation_number (list limit) = 3
operation_number (search r) = 4

-- "B 0 result; 1 noSuchObject ..; 2 insufficientAccessRights; 3 noSuchAttributeOrValue; 4 invalidAttributeSyntax"; #105: "5, aliasProblem"
abbrev pub outcome_number : Outcome → ℕ
outcome_number Result = 0
outcome_number NoSuchObject = 1
outcome_number InsufficientAccessRights = 2
outcome_number NoSuchAttributeOrValue = 3
outcome_number InvalidAttributeSyntax = 4
outcome_number AliasProblem = 5

-- line 30: "A operation, B outcome"
unfoldable pub outcome : ℕ → Outcome → List Line
outcome op o = line 30 op (outcome_number o) 0 [] ∷ []

-- "K 33: B name parts, as K 9"
unfoldable pub entry_lines : Name → List Line
entry_lines n = line 33 0 (length n) 0 [] ∷ name_lines n

-- "K 34 (A type, B values) and K 35 per value"; "a type left without values is omitted"
unfoldable pub value_lines : ℕ → List Bytes → List Line
value_lines t [] = []
value_lines t (v ∷ vs) = line 34 t (length (v ∷ vs)) 0 [] ∷ map (line 35 0 0 0) (v ∷ vs)

-- "the size limit": the first of what is returned, one list of lines for each entry, and C 1 if there is more; 0 is no limit
unfoldable pub limited : ℕ → ℕ → List (List Line) → List Line
limited op limit hits =
    cond (eqb limit 0)
    (line 30 op (outcome_number Result) 0 [] ∷ gather (λ hit. hit) hits)
    (line 30 op (outcome_number Result) (bit (ltb limit (length hits))) [] ∷ gather (λ hit. hit) (take limit hits))

-- the type is selected by K 12: all, or listed
unfoldable pub selected : Selection → ℕ → Bool
selected s t = not s.listed || any (eqb t) s.types

abbrev pub or_name : Name → Option Entry → Name
or_name n none = n
or_name n (some e) = e.name

module _ (σ : Setting) where
  -- ---- what is returned of an entry

  -- a held type, its values with Read if values are wanted
  unfoldable pub type_lines : Selection → Name → Held → List Line
  type_lines s n h =
      cond s.values
      (value_lines h.type (keep (λ v. granted σ n (of_value h.type v) Read) h.values))
      (line 34 h.type 0 0 [] ∷ [])

  -- "each selected held type with Read on the type and, if values are wanted, its values with Read"
  unfoldable pub information : Selection → Entry → List Line
  information s e = gather (λ h. given (selected s h.type && granted σ e.name (of_type h.type) Read) (type_lines s e.name h)) e.held

  -- ---- read and compare, of an entry with Read

  -- "if nothing is left: an empty type list succeeds; otherwise 2 if a selected held type has DiscloseOnError, else 3"
  unfoldable pub read_entry : Selection → Entry → List Line
  read_entry s e =
      cond (is_empty (information s e) && not (s.listed && is_empty s.types))
      (outcome 1 (cond (any (λ h. selected s h.type && granted σ e.name (of_type h.type) DiscloseOnError) e.held) InsufficientAccessRights NoSuchAttributeOrValue))
      (outcome 1 Result ++ (entry_lines (given (granted σ e.name entry ReturnDN) e.name) ++ information s e))

  -- "if Compare on the type is refused, 2 if the type is held and has DiscloseOnError, else 3; not held, 3; value outside the
  -- syntax, 4; else K 31, A 1 if a value with Compare granted is equal, else 0"
  unfoldable pub compare_entry : ℕ → Bytes → Entry → List Line
  compare_entry t v e =
      cond (granted σ e.name (of_type t) Compare)
      (cond (holds e t)
      (cond (allowed σ.schema t v)
      (outcome 2 Result ++ (line 31 (bit (some_value σ e t Compare (λ w. equal σ.schema t v w))) 0 0 [] ∷ []))
      (outcome 2 InvalidAttributeSyntax))
      (outcome 2 NoSuchAttributeOrValue))
      (outcome 2 (cond (holds e t && granted σ e.name (of_type t) DiscloseOnError) InsufficientAccessRights NoSuchAttributeOrValue))

  -- ---- which entries list and search return

  -- "each child with Browse and ReturnDN"
  unfoldable pub listed : Name → Entry → Bool
  listed n e = child_of σ.schema n e.name && (granted σ e.name entry Browse && granted σ e.name entry ReturnDN)

  -- "K 32 (A naming type, bytes)": the one part that a child's name has more than the base's; #105: "list shows C 1 on an alias"
  unfoldable pub list_hit : List Alias → Name → Entry → List Line
  list_hit as' n e = map (λ p. line 32 p.type 0 (bit (aliased σ.schema as' e.name)) p.value) (drop (length n) e.name)

  -- K 15: "0 base, 1 one level (base excluded), 2 subtree (base included)"
  unfoldable pub in_subset : ℕ → Name → Name → Bool
  in_subset b n m = cond (eqb b 0) (same_name σ.schema n m) (cond (eqb b 1) (child_of σ.schema n m) (covers σ.schema n m))

  -- "within the subset, Browse (for the base Browse or Read), ReturnDN"
  unfoldable pub candidate : Name → ℕ → Entry → Bool
  candidate n b e =
      in_subset b n e.name
      && ((granted σ e.name entry Browse || same_name σ.schema n e.name && granted σ e.name entry Read)
      && granted σ e.name entry ReturnDN)

  -- ".. filter true"
  unfoldable pub found : Name → Search → Entry → Bool
  found n r e = candidate n r.subset e && is_true (evaluate r.edition (item_truth σ e) r.filter)

  -- "information as in read; none left is no error here"
  unfoldable pub search_hit : Search → Entry → List Line
  search_hit r e = entry_lines e.name ++ information r.selection e

  -- the entry has this name, and DiscloseOnError is granted on it
  unfoldable pub disclosed : Name → Entry → Bool
  disclosed n e = same_name σ.schema n e.name && granted σ e.name entry DiscloseOnError

  -- ---- the answer, from all entries

  module _ (es : List Entry) where
    -- the longest beginning of `n`, of at most `k` parts, "that names an entry with DiscloseOnError granted, else empty"
    unfoldable pub matched_name : Name → ℕ → Name
    matched_name n zero = []
    matched_name n (suc k) = or_name (matched_name n k) (first (disclosed (take (suc k) n)) es)

    -- "noSuchObject, with the matched name as K 9 lines": a proper beginning of the name asked for
    unfoldable pub no_such_object : ℕ → Name → List Line
    no_such_object op n = outcome op NoSuchObject ++ name_lines (matched_name n (length n - 1))

    unfoldable pub named : Name → Option Entry
    named n = first (λ e. same_name σ.schema n e.name) es

    -- "an absent entry gives 1. Read and compare need Read on the entry; without it, 2 if DiscloseOnError is granted, else 1":
    -- operation `op` needs the permission `q`
    unfoldable pub opened : ℕ → ℕ → Name → (Entry → List Line) → Option Entry → List Line
    opened op q n answer none = no_such_object op n
    opened op q n answer (some e) =
        cond (granted σ e.name entry q) (answer e) (cond (granted σ e.name entry DiscloseOnError) (outcome op InsufficientAccessRights) (no_such_object op n))

    -- "list and search with nothing to return give 1 unless DiscloseOnError is granted on the base"
    unfoldable pub returned : ℕ → Name → ℕ → List (List Line) → List Line
    returned op n limit hits =
        cond (is_empty hits && not (any (disclosed n) es))
        (no_such_object op n)
        (limited op limit hits)

    unfoldable pub list_hits : List Alias → Name → List (List Line)
    list_hits as' n = map (list_hit as' n) (keep (listed n) es)

    -- #106: "the size limit keeps the first ones after ordering"
    unfoldable pub search_hits : Name → Search → List (List Line)
    search_hits n r = map (search_hit r) (arranged σ r.ordering (keep (found n r) es))

    -- the answer to an operation on the entry with the name `n`
    unfoldable pub answer : List Alias → Name → Operation → List Line
    answer as' n (read s) = opened 1 Read n (read_entry s) (named n)
    answer as' n (compare t v) = opened 2 Read n (compare_entry t v) (named n)
    answer as' n (list limit) = returned 3 n limit (list_hits as' n)
    answer as' n (search r) = returned 4 n r.limit (search_hits n r)

    abbrev pub answer_resolved : List Alias → Operation → Option Name → List Line
    answer_resolved as' o none = outcome (operation_number o) AliasProblem
    answer_resolved as' o (some n) = answer as' n o

    -- #105: the answer to the name asked for, its beginning replaced while it is an alias's
    unfoldable pub answer_to : List Alias → Name → Operation → List Line
    answer_to as' n o = answer_resolved as' o (resolved σ.schema as' n)
