-- Laws of `Rows`: the rows of one entry more.
use Rattle.std.specs.Prelude.{ℕ, ◌+◌, ◌≤◌, ◌<◌, ◌≡◌, List, [], ◌∷◌, ◌++◌, length, get_or, set}
use Rattle.std.proofs.Common.{sym, ap, ◌∙◌, subst, arith, get_or-set_same, get_or-set_other}
use Rattle.std.proofs.Math.Decide.{ℕ_discrete}
use Rattle.std.proofs.lemmas.List.{length-replicate, get_or_at}
use Rattle.std.proofs.Math.ListN.{get_or-append}
use Rattle.rules.specs.Sheet.{Bytes}
use Rattle.rules.specs.Directory.{Stored, blank}
use Rattle.tables.specs.Held.{HELD, none_held, HeldAt}
use Rattle.directory_values.specs.Rows.{RowKept, RowsWritten}
use Rattle.directory_values.specs.Laws.Rows.{kept_same, kept_on, held_kept}
use Rattle.directory_sheet.specs.Rows.{AllHeld}

pub held_none : (ks : List ℕ) (s : Bytes) (first held : List ℕ) (n : ℕ) → n ≡ 0 → get_or first 0 0 ≡ 0 → held ≡ none_held → AllHeld ks s [] first held n
held_none ks s first held n none_yet start empty = record {
  table = ap length empty ∙ length-replicate {A = ℕ} HELD 0;
  start = start;
  below = λ k l. let e : k ≡ n = omega (arith, none_yet) in rw e (omega arith);
  values = λ k l. absurd (omega (arith, none_yet));
  after = λ i l m. subst (λ (h : List ℕ). RowKept none_held h i) (sym empty) (kept_same none_held i);
}

module _ {ks : List ℕ} {s : Bytes} {es : List Stored} {first held : List ℕ} {n : ℕ} (all : AllHeld ks s es first held n) (d : Stored) {held' : List ℕ} {to : ℕ}
    (rows : RowsWritten ks s d.values held held' (get_or first n 0) to) (number : n ≡ length es) (room : n + 1 < length first) where
  abbrev next : List ℕ
  next = set first (n + 1) to

  next_last : get_or next (n + 1) 0 ≡ to
  next_last = get_or-set_same first (n + 1) to 0 room

  next-same : (k : ℕ) → k ≤ n → get_or next k 0 ≡ get_or first k 0
  next-same k h = get_or-set_other first (n + 1) k to 0 (λ q. omega arith)

  pub held_more : AllHeld ks s (es ++ (d ∷ [])) next held' (n + 1)
  held_more = record {
    table = rows.table;
    start = next-same 0 (omega arith) ∙ all.start;
    below = λ k h. below k h (ℕ_discrete k (n + 1));
    values = λ k h. values k h (ℕ_discrete k n);
    after = λ i l m. kept_on (all.after i (omega (arith, l, next_last, rows.values.count)) m) (rows.later i (omega (arith, l, next_last)) m);
  }
    where
      below : (k : ℕ) → k ≤ n + 1 → Dec (k ≡ n + 1) → get_or next k 0 ≤ get_or next (n + 1) 0
      below k h (yes e) = rw e (omega arith)
      below k h (no e) =
          let l : k ≤ n = omega arith in
          rw (next-same k l, next_last) (omega (arith, all.below k l, rows.values.count))

      values : (k : ℕ) → k < n + 1 → Dec (k ≡ n) → HeldAt ks s (get_or (es ++ (d ∷ [])) k blank).values held' (get_or next k 0) (get_or next (k + 1) 0)
      values k h (yes e) = rw (e, next-same n (omega arith), next_last, get_or_at es d [] blank n (sym number)) rows.values
      values k h (no e) =
          let l : k < n = omega arith in
          rw (next-same k (omega arith), next-same (k + 1) (omega arith), get_or-append es (d ∷ []) blank k (omega (arith, number)))
          (held_kept (λ i m. rows.earlier i (omega (arith, m, all.below (k + 1) (omega arith)))) (all.values k l))
