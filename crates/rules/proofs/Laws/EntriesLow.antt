-- #109: the names and values of an accepted directory are low, and so are their counts.
use Prim.Native.Nat.{ℕ, zero, suc, ◌+◌, ◌≤◌, ◌<◌}
use native.Mathlib.Omega.{arith}
use Rattle.std.specs.Prelude.{◌≡◌, List, [], ◌∷◌, ◌++◌, map, ltb, eqb, get_or}
use Rattle.std.proofs.Common.{sym}
use Rattle.std.proofs.Math.Path.{ap, subst}
use Rattle.std.proofs.Math.ListN.{length, length-append}
use Rattle.std.proofs.lemmas.List.{length-map}
use borrow.Author.Tests.{ltb-false}
use Rattle.rules.specs.Lists.{gather}
use Rattle.rules.specs.Sheet.{Bytes, Line, line, line_bytes, print}
use Rattle.rules.specs.declared.Format.{Format}
use Rattle.rules.specs.Name.{Part, Name}
use Rattle.rules.specs.Judge.{accept}
use Rattle.rules.specs.Directory.{Stored, blank, name_at, Directory, directory_of, schema_lines, target_lines, stored_lines, directory_lines, Held, hold, held_of, Entry, entry_of, entries_in}
use Rattle.rules.proofs.Laws.Judge.{not-refused}
use Rattle.rules.proofs.Laws.Sheet.{line-length}
use Rattle.rules.specs.Derived.{Each}
use Rattle.rules.proofs.Laws.Each.{each_map, each_append, each-before, each_after, each-cond, each_at, each-by-index, mapped-each, gathered-each}
use Rattle.rules.proofs.Laws.Directory.{accepted-means}
use Rattle.rules.proofs.Laws.DirectoryLines.{accepted-back}
use Rattle.rules.proofs.Laws.Low.{Low, low-more, accepted-types, accepted-low}

abbrev pub Short : Bytes → Type 0
Short u = length u ≤ 64

abbrev pub PartLow : Part → Type 0
PartLow p = (p.type ≤ 65536) × Short p.value

-- a name of at most `n` parts
abbrev pub NameLow : ℕ → Name → Type 0
NameLow n m = (length m ≤ n) × Each PartLow m

-- a type with at most `n` values
abbrev pub HeldLow : ℕ → Held → Type 0
HeldLow n h = (h.type ≤ 65536) × (length h.values ≤ n) × Each Short h.values

abbrev pub EntryLow : Entry → Type 0
EntryLow e = NameLow 65536 e.name × Each (HeldLow 65536) e.held

-- ---- values

held_more : (m n : ℕ) → m ≤ n → (hs : List Held) → Each (HeldLow m) hs → Each (HeldLow n) hs
held_more m n l = each_map (HeldLow m) (HeldLow n) (λ h q. (q.0, omega (arith, q.1), q.2))

hold-low : (p : Part) → PartLow p → (n : ℕ) (hs : List Held) → Each (HeldLow n) hs → Each (HeldLow (suc n)) (hold p hs)
unfolding hold
hold-low p q n [] k = ((q.0, omega arith, (q.1, tt)), tt)
hold-low p q n (h ∷ hs) k =
    each-cond (HeldLow (suc n)) (eqb p.type h.type) (record { type = h.type; values = p.value ∷ h.values } ∷ hs) (record { type = p.type; values = p.value ∷ [] } ∷ h ∷ hs)
    ((k.0.0, omega (arith, k.0.1), (q.1, k.0.2)), held_more n (suc n) (omega arith) hs k.1)
    ((q.0, omega arith, (q.1, tt)), held_more n (suc n) (omega arith) (h ∷ hs) k)

held_low : (ps : List Part) → Each PartLow ps → Each (HeldLow (length ps)) (held_of ps)
unfolding held_of
held_low [] k = tt
held_low (p ∷ ps) k = hold-low p k.0 (length ps) (held_of ps) (held_low ps k.1)

-- ---- an entry and its lines

-- its naming value, and its values
abbrev PartsLow : Stored → Type 0
PartsLow e = PartLow e.naming × Each PartLow e.values

stored_low : (e : Stored) → Each (Low 65536) (stored_lines e) → PartsLow e
unfolding stored_lines
stored_low e k = (
  (k.0.b, k.0.short),
  each_map (λ v. Low 65536 (line 3 v.type 0 0 v.value)) PartLow (λ v l. (l.a, l.short)) e.values
      (mapped-each (Low 65536) (λ v. line 3 v.type 0 0 v.value) e.values (each-before (Low 65536) (map (λ v. line 3 v.type 0 0 v.value) e.values) (target_lines e.target) k.1)),
)

stored-count : (e : Stored) → length e.values < length (stored_lines e)
unfolding stored_lines
stored-count e =
    let values : List Line = map (λ v. line 3 v.type 0 0 v.value) e.values in
    let q : length values ≡ length e.values = length-map e.values (λ v. line 3 v.type 0 0 v.value) in
    omega (arith, q, length-append values (target_lines e.target))

gathered-count : (e : Stored) (es : List Stored) → length (gather stored_lines (e ∷ es)) ≡ length (stored_lines e) + length (gather stored_lines es)
gathered-count e es = length-append (stored_lines e) (gather stored_lines es)

entries-count : (es : List Stored) → length es ≤ length (gather stored_lines es)
entries-count [] = omega arith
entries-count (e ∷ es) = omega (arith, stored-count e, gathered-count e es, entries-count es)

values-count : (n : ℕ) (es : List Stored) → length (gather stored_lines es) ≤ n → Each (λ e. length e.values ≤ n) es
values-count n [] h = tt
values-count n (e ∷ es) h = (omega (arith, stored-count e, gathered-count e es, h), values-count n es (omega (arith, gathered-count e es, h)))

-- ---- names

module _ (es : List Stored) (means : (k : ℕ) → k < length es → (get_or es k blank).name ≡ name_at es (get_or es k blank).parent ++ ((get_or es k blank).naming ∷ []))
    (parents : (k : ℕ) → k < length es → (get_or es k blank).parent ≤ k) (namings : Each (λ e. PartLow e.naming) es) where
  -- entry number `k` stands at most `k` levels deep
  name-low : (f k : ℕ) → k ≤ f → k ≤ length es → NameLow k (name_at es k)
  unfolding name_at
  name-low zero zero l b = (omega arith, tt)
  name-low zero (suc k) l b = absurd (omega arith)
  name-low (suc f) zero l b = (omega arith, tt)
  name-low (suc f) (suc k) l b =
      let p = (get_or es k blank).parent in
      let h : p ≤ k = parents k b in
      let r : NameLow p (name_at es p) = name-low f p (omega arith) (omega arith) in
      let n : length (name_at es p ++ ((get_or es k blank).naming ∷ [])) ≡ length (name_at es p) + 1 = length-append (name_at es p) ((get_or es k blank).naming ∷ []) in
      subst (NameLow (suc k)) (sym (means k b))
      (omega (arith, n, r.0, h), each_append PartLow (name_at es p) ((get_or es k blank).naming ∷ []) r.1 (each_at (λ e. PartLow e.naming) blank es namings k b, tt))

  names-low : length es ≤ 65536 → Each (λ e. NameLow 65536 e.name) es
  unfolding name_at
  names-low h = each-by-index (λ e. NameLow 65536 e.name) blank es (λ i l. let r = name-low (suc i) (suc i) (omega arith) l in (omega (arith, r.0), r.1))

-- ---- an accepted directory

-- as many bytes as lines
print-count : (w : ℕ) (ls : List Line) → length ls ≤ length (print w ls)
unfolding print
print-count w [] = omega arith
print-count w (x ∷ ls) = omega (arith, print-count w ls, length-append (line_bytes w x) (gather (line_bytes w) ls), line-length w x)

entry-low : (e : Stored) → NameLow 65536 e.name → Each PartLow e.values → length e.values ≤ 65536 → EntryLow (entry_of e)
unfolding entry_of
entry-low e n k l = (n, held_more (length e.values) 65536 l (held_of e.values) (held_low e.values k))

entries_from : (es : List Stored) → Each (λ e. NameLow 65536 e.name) es → Each PartsLow es → Each (λ e. length e.values ≤ 65536) es → Each EntryLow (map entry_of es)
entries_from [] n k l = tt
entries_from (e ∷ es) n k l = (entry-low e n.0 k.0.1 l.0, entries_from es n.1 k.1 l.1)

module _ (f : Format) (s : Bytes) (d : Directory) (e : directory_of f s ≡ accept d) where
  stored-lines-count : length (gather stored_lines d.entries) ≤ 65536
  unfolding directory_of directory_lines
  stored-lines-count =
      let l : length s ≤ 65536 = ltb-false 65536 (length s) (not-refused (ltb 65536 (length s)) 1 _ d e).0 in
      let q : length (print f.width (directory_lines d)) ≡ length s = ap length (accepted-back f s d e) in
      let p : length (schema_lines d.schema ++ gather stored_lines d.entries) ≡ length (schema_lines d.schema) + length (gather stored_lines d.entries) = length-append (schema_lines d.schema) (gather stored_lines d.entries) in
      omega (arith, l, q, p, print-count f.width (directory_lines d))

  -- in a form whose highest type is at most 65,536
  pub entries-low : 256 ≤ f.top → f.top ≤ 65536 → Each EntryLow (entries_in d)
  unfolding entries_in directory_lines
  entries-low some few =
      let ok = accepted-means f s d e in
      let lines : Each (Low 65536) (directory_lines d) = low-more f.top 65536 few (directory_lines d) (accepted-low f s d e f.top some (accepted-types f s d e)) in
      let stored : Each (λ x. Each (Low 65536) (stored_lines x)) d.entries =
      gathered-each (Low 65536) stored_lines d.entries (each_after (Low 65536) (schema_lines d.schema) (gather stored_lines d.entries) lines) in
      let parts : Each PartsLow d.entries = each_map (λ x. Each (Low 65536) (stored_lines x)) PartsLow stored_low d.entries stored in
      entries_from d.entries
      (names-low d.entries ok.names ok.parents (each_map PartsLow (λ x. PartLow x.naming) (λ x k. k.0) d.entries parts) (omega (arith, entries-count d.entries, stored-lines-count)))
      parts (values-count 65536 d.entries stored-lines-count)
