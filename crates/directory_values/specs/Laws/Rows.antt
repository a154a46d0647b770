-- Laws of `Rows`: one row more, and the rows that are left.
use Rattle.std.specs.Prelude.{ℕ, ◌+◌, ◌≤◌, ◌<◌, ◌≡◌, refl, List, [], ◌∷◌, ◌++◌, length, get_or, take, drop, set}
use Rattle.std.proofs.Common.{◌∙◌, arith, length-append}
use Rattle.std.proofs.Math.Decide.{dec_lt}
use Rattle.std.proofs.Math.ListN.{length-set, get_or-append}
use Rattle.std.proofs.Math.Seq.{get_or-set_same, get_or-set_other}
use Rattle.std.proofs.lemmas.List.{get_or_at}
use Rattle.rules.specs.Sheet.{Bytes}
use Rattle.rules.specs.Name.{Part, part}
use Rattle.tables.specs.Held.{ROWS, sizes, HELD, rank_at, place_at, size_at, type_at, ValueAt, HeldAt}
use Rattle.directory_values.specs.Rows.{written, RowKept, RowsWritten}

-- ---- one row written

module _ (h : List ℕ) (i rank place size : ℕ) where
  abbrev one : List ℕ
  one = set h i rank

  abbrev two : List ℕ
  two = set one (ROWS + i) place

  pub written-length : length (written h i rank place size) ≡ length h
  unfolding written
  written-length = simp length-set

  module _ (room : i < ROWS) where
    -- another row
    written-other : (j : ℕ) → j < ROWS → (j ≡ i → ⊥) → RowKept h (written h i rank place size) j
    unfolding written
    written-other j l e = record {
      rank =
          get_or-set_other two (sizes + i) j size 0 (λ q. omega arith)
          ∙ get_or-set_other one (ROWS + i) j place 0 (λ q. omega arith)
          ∙ get_or-set_other h i j rank 0 e;
      place =
          get_or-set_other two (sizes + i) (ROWS + j) size 0 (λ q. omega arith)
          ∙ get_or-set_other one (ROWS + i) (ROWS + j) place 0 (λ q. e (omega arith))
          ∙ get_or-set_other h i (ROWS + j) rank 0 (λ q. omega arith);
      size =
          get_or-set_other two (sizes + i) (sizes + j) size 0 (λ q. e (omega arith))
          ∙ get_or-set_other one (ROWS + i) (sizes + j) place 0 (λ q. omega arith)
          ∙ get_or-set_other h i (sizes + j) rank 0 (λ q. omega arith);
    }

    -- the row
    module _ (table : length h ≡ HELD) where
      rank-written : rank_at (written h i rank place size) i ≡ rank
      unfolding written
      rank-written =
          get_or-set_other two (sizes + i) i size 0 (λ q. omega arith)
          ∙ get_or-set_other one (ROWS + i) i place 0 (λ q. omega arith)
          ∙ get_or-set_same h i rank 0 (omega arith)

      place-written : place_at (written h i rank place size) i ≡ place
      unfolding written
      place-written = get_or-set_other two (sizes + i) (ROWS + i) size 0 (λ q. omega arith) ∙ get_or-set_same one (ROWS + i) place 0 (simp length-set (omega arith))

      size-written : size_at (written h i rank place size) i ≡ size
      unfolding written
      size-written = get_or-set_same two (sizes + i) size 0 (simp length-set (omega arith))

      value_written : (ks : List ℕ) (s : Bytes) (v : Part) → rank < length ks → type_at ks rank ≡ v.type → place + size ≤ length s → size ≤ 64 → take size (drop place s) ≡ v.value
          → ValueAt ks s v (written h i rank place size) i
      value_written ks s v a b c l d = record {
        rank = rw rank-written a;
        type = rw rank-written b;
        within = rw (place-written, size-written) c;
        short = rw size-written l;
        value = rw (place-written, size-written) d;
      }

-- ---- rows that are left

pub kept_same : (h : List ℕ) (i : ℕ) → RowKept h h i
kept_same h i = record { rank = refl; place = refl; size = refl }

pub kept_on : {before now next : List ℕ} {i : ℕ} → RowKept before now i → RowKept now next i → RowKept before next i
kept_on k l = record { rank = l.rank ∙ k.rank; place = l.place ∙ k.place; size = l.size ∙ k.size }

value-kept : {ks : List ℕ} {s : Bytes} {v : Part} {before now : List ℕ} {i : ℕ} → RowKept before now i → ValueAt ks s v before i → ValueAt ks s v now i
value-kept k h = record {
  rank = rw k.rank h.rank;
  type = rw k.rank h.type;
  within = rw (k.place, k.size) h.within;
  short = rw k.size h.short;
  value = rw (k.place, k.size) h.value;
}

pub held_kept : {ks : List ℕ} {s : Bytes} {vs : List Part} {before now : List ℕ} {first to : ℕ} → ((i : ℕ) → i < to → RowKept before now i)
    → HeldAt ks s vs before first to → HeldAt ks s vs now first to
held_kept {first = first} k h = record { count = h.count; room = h.room; row = λ j m. value-kept (k (first + j) (omega (arith, m, h.count))) (h.row j m) }

-- ---- the rows of one entry

pub rows_start : (ks : List ℕ) (s : Bytes) (held : List ℕ) (first : ℕ) → length held ≡ HELD → first ≤ ROWS → RowsWritten ks s [] held held first first
rows_start ks s held first table l = record {
  table = table;
  earlier = λ i m. kept_same held i;
  later = λ i m n. kept_same held i;
  values = record { count = omega arith; room = l; row = λ j m. absurd (omega (arith, m)) };
}

pub rows_more : {ks : List ℕ} {s : Bytes} {vs : List Part} {before held : List ℕ} {first to : ℕ} → RowsWritten ks s vs before held first to
    → (v : Part) (rank place size : ℕ) → to < ROWS → rank < length ks → type_at ks rank ≡ v.type → place + size ≤ length s → size ≤ 64 → take size (drop place s) ≡ v.value
    → RowsWritten ks s (vs ++ (v ∷ [])) before (written held to rank place size) first (to + 1)
rows_more {ks} {s} {vs} {before} {held} {first} {to} h v rank place size room a b c few d = record {
  table = written-length held to rank place size ∙ h.table;
  earlier = λ i l. kept_on (h.earlier i l) (other i (omega (arith, l, h.values.count)) (λ q. omega (arith, l, h.values.count)));
  later = λ i l m. kept_on (h.later i (omega arith) m) (other i m (λ q. omega arith));
  values = record { count = omega (arith, h.values.count, more); room = omega arith; row = λ j l. row j l (dec_lt j (length vs)) };
}
  where
    other : (i : ℕ) → i < ROWS → (i ≡ to → ⊥) → RowKept held (written held to rank place size) i
    other = written-other held to rank place size room

    more : length (vs ++ (v ∷ [])) ≡ length vs + 1
    more = length-append vs (v ∷ [])

    row : (j : ℕ) → j < length (vs ++ (v ∷ [])) → Dec (j < length vs) → ValueAt ks s (get_or (vs ++ (v ∷ [])) j (part 0 [])) (written held to rank place size) (first + j)
    row j l (yes m) =
        rw (get_or-append vs (v ∷ []) (part 0 []) j m)
        (value-kept (other (first + j) (omega (arith, m, h.values.count)) (λ q. omega (arith, m, h.values.count))) (h.values.row j m))
    row j l (no m) =
        let e : j ≡ length vs = omega (arith, m, l, more) in
        let here : first + j ≡ to = omega (arith, e, h.values.count) in
        rw (here, get_or_at vs v [] (part 0 []) j (omega (arith, e))) (value_written held to rank place size room h.table ks s v a b c few d)
