-- #109: the numbers of an answer are low, so that it fits the columns of either form.
use Prim.Native.Nat.{ℕ, zero, suc, ◌-◌, ◌≤◌}
use native.Mathlib.Omega.{arith}
use Rattle.std.proofs.Math.Bool.{Bool, true, false, not}
use Rattle.std.specs.Prelude.{◌&&◌, ltb, eqb, length, take, drop}
use Rattle.std.proofs.Math.Option.{Option, none, some}
use mathlib.Core.List.{List, [], ◌∷◌, ◌++◌, map}
use Rattle.rules.specs.Lists.{given, gather, any, first, keep, is_empty}
use Rattle.rules.specs.Sheet.{Bytes, Line, line, bit}
use Rattle.rules.specs.Name.{Name, allowed, equal, same_name}
use Rattle.rules.specs.Judge.{name_lines}
use Rattle.rules.specs.Directory.{Held, Entry, Alias}
use Rattle.rules.specs.Permission.{Read, ReturnDN, DiscloseOnError, Compare}
use Rattle.rules.specs.Decision.{Setting, granted, entry, of_type, of_value}
use Rattle.rules.specs.FilterItem.{holds, some_value}
use Rattle.rules.specs.declared.Outcome.{Outcome}
use Rattle.rules.specs.declared.Outcome.TheVariants.{Result, NoSuchObject, InsufficientAccessRights, NoSuchAttributeOrValue, InvalidAttributeSyntax, AliasProblem}
use Rattle.rules.specs.Request.{Selection, Search, Operation, read, compare, list, search}
use Rattle.rules.specs.Aliases.{resolved, aliased}
use Rattle.rules.specs.Arrange.{arranged}
use Rattle.rules.specs.Answer.{operation_number, outcome_number, outcome, entry_lines, value_lines, limited, selected, or_name, type_lines, information, read_entry, compare_entry, listed, list_hit, found, search_hit, disclosed, matched_name, no_such_object, named, opened, returned, list_hits, search_hits, answer, answer_resolved, answer_to}
use Rattle.rules.specs.Derived.{Each, IfFound}
use Rattle.rules.proofs.Laws.Each.{each_map, each_append, each-given, each-cond, each_take, each-drop, each_keep, each_first, each-mapped, each-gathered}
use Rattle.rules.proofs.Laws.Low.{Low}
use Rattle.rules.proofs.Laws.EntriesLow.{Short, PartLow, NameLow, HeldLow, EntryLow}
use Rattle.rules.proofs.Laws.Keys.{each-arranged}

abbrev F : List Line → Type 0
F ls = Each (Low 65536) ls

-- a line of a kind of the answer
low : (k a b c : ℕ) (u : Bytes) → k ≤ 35 → a ≤ 65536 → b ≤ 65536 → c ≤ 65536 → Short u → Low 65536 (line k a b c u)
low k a b c u p q r s l = record { kind = omega arith; a = q; b = r; c = s; short = l }

keep-length : {A : Type 0} (p : A → Bool) (xs : List A) → length (keep p xs) ≤ length xs
keep-length p [] = omega arith
keep-length p (x ∷ xs) = go (p x) (keep-length p xs)
  where
    go : (b : Bool) → length (keep p xs) ≤ length xs → length (given b (x ∷ []) ++ keep p xs) ≤ suc (length xs)
    go true h = omega arith
    go false h = omega arith

bit-low : (b : Bool) → bit b ≤ 65536
bit-low true = omega arith
bit-low false = omega arith

-- ---- parts of an answer

outcome-low : (op : ℕ) (o : Outcome) → op ≤ 4 → F (outcome op o)
unfolding outcome
outcome-low op o p = (low 30 op (outcome_number o) 0 [] (omega arith) (omega arith) (number o) (omega arith) (omega arith), tt)
  where
    number : (o : Outcome) → outcome_number o ≤ 65536
    number Result = omega arith
    number NoSuchObject = omega arith
    number InsufficientAccessRights = omega arith
    number NoSuchAttributeOrValue = omega arith
    number InvalidAttributeSyntax = omega arith
    number AliasProblem = omega arith

name-low : (n : Name) → Each PartLow n → F (name_lines n)
unfolding name_lines
name-low n k =
    each-mapped (Low 65536) (λ p. line 9 p.type 0 0 p.value) n
    (each_map PartLow (λ p. Low 65536 (line 9 p.type 0 0 p.value)) (λ p q. low 9 p.type 0 0 p.value (omega arith) q.0 (omega arith) (omega arith) q.1) n k)

entry-lines-low : (n : Name) → NameLow 65536 n → F (entry_lines n)
unfolding entry_lines
entry-lines-low n k = (low 33 0 (length n) 0 [] (omega arith) (omega arith) k.0 (omega arith) (omega arith), name-low n k.1)

value-lines-low : (t : ℕ) → t ≤ 65536 → (vs : List Bytes) → length vs ≤ 65536 → Each Short vs → F (value_lines t vs)
unfolding value_lines
value-lines-low t l [] n k = tt
value-lines-low t l (v ∷ vs) n k = (
  low 34 t (length (v ∷ vs)) 0 [] (omega arith) l n (omega arith) (omega arith),
  each-mapped (Low 65536) (line 35 0 0 0) (v ∷ vs) (each_map Short (λ u. Low 65536 (line 35 0 0 0 u)) (λ u q. low 35 0 0 0 u (omega arith) (omega arith) (omega arith) (omega arith) q) (v ∷ vs) k),
)

limited-low : (op limit : ℕ) (hits : List (List Line)) → op ≤ 4 → Each F hits → F (limited op limit hits)
unfolding limited
limited-low op limit hits p k =
    each-cond (Low 65536) (eqb limit 0) (line 30 op 0 0 [] ∷ gather (λ hit. hit) hits) (line 30 op 0 (bit (ltb limit (length hits))) [] ∷ gather (λ hit. hit) (take limit hits))
    (low 30 op 0 0 [] (omega arith) (omega arith) (omega arith) (omega arith) (omega arith), each-gathered (Low 65536) (λ hit. hit) hits k) (
      low 30 op 0 (bit (ltb limit (length hits))) [] (omega arith) (omega arith) (omega arith) (bit-low (ltb limit (length hits))) (omega arith),
      each-gathered (Low 65536) (λ hit. hit) (take limit hits) (each_take F limit hits k),
    )

module _ (σ : Setting) where
  -- ---- of one entry

  type-lines-low : (r : Selection) (n : Name) (h : Held) → HeldLow 65536 h → F (type_lines σ r n h)
  unfolding type_lines
  type-lines-low r n h k =
      let readable : Bytes → Bool = λ v. granted σ n (of_value h.type v) Read in
      each-cond (Low 65536) r.values (value_lines h.type (keep readable h.values)) (line 34 h.type 0 0 [] ∷ [])
      (value-lines-low h.type k.0 (keep readable h.values) (omega (arith, k.1, keep-length readable h.values)) (each_keep Short readable h.values k.2))
      (low 34 h.type 0 0 [] (omega arith) k.0 (omega arith) (omega arith) (omega arith), tt)

  information-low : (r : Selection) (e : Entry) → EntryLow e → F (information σ r e)
  unfolding information
  information-low r e k =
      each-gathered (Low 65536) (λ h. given (selected r h.type && granted σ e.name (of_type h.type) Read) (type_lines σ r e.name h)) e.held
      (each_map (HeldLow 65536) _ (λ h q. each-given (Low 65536) (selected r h.type && granted σ e.name (of_type h.type) Read) (type_lines σ r e.name h) (type-lines-low r e.name h q)) e.held k.1)

  read_low : (r : Selection) (e : Entry) → EntryLow e → F (read_entry σ r e)
  unfolding read_entry
  read_low r e k =
      each-cond (Low 65536) (is_empty (information σ r e) && not (r.listed && is_empty r.types)) _ _ (outcome-low 1 _ (omega arith))
      (each_append (Low 65536) (outcome 1 Result) _ (outcome-low 1 Result (omega arith))
      (each_append (Low 65536) (entry_lines (given (granted σ e.name entry ReturnDN) e.name)) (information σ r e) (by_name (granted σ e.name entry ReturnDN)) (information-low r e k)))
    where
      by_name : (b : Bool) → F (entry_lines (given b e.name))
      by_name true = entry-lines-low e.name k.0
      by_name false = entry-lines-low [] (omega arith, tt)

  compare-low : (t : ℕ) (v : Bytes) (e : Entry) → F (compare_entry σ t v e)
  unfolding compare_entry
  compare-low t v e =
      each-cond (Low 65536) (granted σ e.name (of_type t) Compare) _ _
      (each-cond (Low 65536) (holds e t) _ _ (each-cond (Low 65536) (allowed σ.schema t v) _ _ held (outcome-low 2 InvalidAttributeSyntax (omega arith))) (outcome-low 2 NoSuchAttributeOrValue (omega arith)))
      (outcome-low 2 _ (omega arith))
    where
      same : Bool
      same = some_value σ e t Compare (λ w. equal σ.schema t v w)

      held : F (outcome 2 Result ++ (line 31 (bit same) 0 0 [] ∷ []))
      held =
          each_append (Low 65536) (outcome 2 Result) (line 31 (bit same) 0 0 [] ∷ []) (outcome-low 2 Result (omega arith))
          (low 31 (bit same) 0 0 [] (omega arith) (bit-low same) (omega arith) (omega arith) (omega arith), tt)

  list-hit-low : (as' : List Alias) (n : Name) (e : Entry) → EntryLow e → F (list_hit σ as' n e)
  unfolding list_hit
  list-hit-low as' n e k =
      let mark : Bool = aliased σ.schema as' e.name in
      each-mapped (Low 65536) (λ p. line 32 p.type 0 (bit mark) p.value) (drop (length n) e.name)
      (each_map PartLow (λ p. Low 65536 (line 32 p.type 0 (bit mark) p.value)) (λ p q. low 32 p.type 0 (bit mark) p.value (omega arith) q.0 (omega arith) (bit-low mark) q.1)
      (drop (length n) e.name) (each-drop PartLow (length n) e.name k.0.1))

  search-hit-low : (r : Search) (e : Entry) → EntryLow e → F (search_hit σ r e)
  unfolding search_hit
  search-hit-low r e k = each_append (Low 65536) (entry_lines e.name) (information σ r.selection e) (entry-lines-low e.name k.0) (information-low r.selection e k)

  -- ---- over all entries

  module _ (es : List Entry) (all : Each EntryLow es) where
    matched-low : (n : Name) (k : ℕ) → Each PartLow (matched_name σ es n k)
    unfolding matched_name
    matched-low n zero = tt
    matched-low n (suc k) = go (first (disclosed σ (take (suc k) n)) es) (each_first EntryLow (disclosed σ (take (suc k) n)) es all) (matched-low n k)
      where
        go : (o : Option Entry) → IfFound EntryLow o → Each PartLow (matched_name σ es n k) → Each PartLow (or_name (matched_name σ es n k) o)
        go none h ih = ih
        go (some e) h ih = h.0.1

    absent-low : (op : ℕ) (n : Name) → op ≤ 4 → F (no_such_object σ es op n)
    unfolding no_such_object
    absent-low op n p =
        each_append (Low 65536) (outcome op NoSuchObject) (name_lines (matched_name σ es n (length n - 1))) (outcome-low op NoSuchObject p) (name-low (matched_name σ es n (length n - 1)) (matched-low n (length n - 1)))

    opened-low : (op q : ℕ) (n : Name) (reply : Entry → List Line) → op ≤ 4 → ((e : Entry) → EntryLow e → F (reply e)) → (o : Option Entry) → IfFound EntryLow o → F (opened σ es op q n reply o)
    unfolding opened
    opened-low op q n reply p h none k = absent-low op n p
    opened-low op q n reply p h (some e) k =
        each-cond (Low 65536) (granted σ e.name entry q) _ _ (h e k)
        (each-cond (Low 65536) (granted σ e.name entry DiscloseOnError) _ _ (outcome-low op InsufficientAccessRights p) (absent-low op n p))

    returned-low : (op : ℕ) (n : Name) (limit : ℕ) (hits : List (List Line)) → op ≤ 4 → Each F hits → F (returned σ es op n limit hits)
    unfolding returned
    returned-low op n limit hits p k = each-cond (Low 65536) (is_empty hits && not (any (disclosed σ n) es)) _ _ (absent-low op n p) (limited-low op limit hits p k)

    -- what is made of entries
    hits-low : (hit : Entry → List Line) → ((e : Entry) → EntryLow e → F (hit e)) → (xs : List Entry) → Each EntryLow xs → Each F (map hit xs)
    hits-low hit h xs k = each-mapped F hit xs (each_map EntryLow (λ e. F (hit e)) h xs k)

    answer-low : (as' : List Alias) (n : Name) (o : Operation) → F (answer σ es as' n o)
    unfolding answer named list_hits search_hits
    answer-low as' n (read r) = opened-low 1 Read n (read_entry σ r) (omega arith) (read_low r) (named σ es n) (each_first EntryLow (λ e. same_name σ.schema n e.name) es all)
    answer-low as' n (compare t v) = opened-low 2 Read n (compare_entry σ t v) (omega arith) (λ e k. compare-low t v e) (named σ es n) (each_first EntryLow (λ e. same_name σ.schema n e.name) es all)
    answer-low as' n (list limit) = returned-low 3 n limit (list_hits σ es as' n) (omega arith) (hits-low (list_hit σ as' n) (list-hit-low as' n) (keep (listed σ n) es) (each_keep EntryLow (listed σ n) es all))
    answer-low as' n (search r) =
        returned-low 4 n r.limit (search_hits σ es n r) (omega arith)
        (hits-low (search_hit σ r) (search-hit-low r) (arranged σ r.ordering (keep (found σ n r) es)) (each-arranged σ EntryLow r.ordering (keep (found σ n r) es) (each_keep EntryLow (found σ n r) es all)))

    number-low : (o : Operation) → operation_number o ≤ 4
    number-low (read r) = omega arith
    number-low (compare t v) = omega arith
    number-low (list limit) = omega arith
    number-low (search r) = omega arith

    pub answer-to-low : (as' : List Alias) (n : Name) (o : Operation) → F (answer_to σ es as' n o)
    unfolding answer_to
    answer-to-low as' n o = go (resolved σ.schema as' n)
      where
        go : (m : Option Name) → F (answer_resolved σ es as' o m)
        go none = outcome-low (operation_number o) AliasProblem (number-low o)
        go (some m) = answer-low as' m o
