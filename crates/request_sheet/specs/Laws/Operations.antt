-- Laws of the `Operations` of `request_operation`: what the rules take from the lines after the base, the code finds and notes.
use Prim.Native.Nat.{ℕ, ◌+◌, ◌≤◌}
use Rattle.std.specs.Prelude.{◌≡◌, Bool}
use Rattle.std.proofs.Math.Path.{refl}
use Rattle.std.proofs.Common.{sym, ap, ◌∙◌, true≢false, arith}
use Rattle.std.proofs.Math.Bool.{true, false, cond}
use Rattle.std.proofs.lemmas.Bool.{false≢true}
use Rattle.std.proofs.Math.Option.{Option, none, some}
use mathlib.Core.List.{map}
use Rattle.std.proofs.Math.Dec.{eqb}
use Rattle.std.proofs.lemmas.List.{length-map}
use borrow.Author.Tests.{eq-eqb, ne_eqb, eqb-true, eqb-false}
use Rattle.rules.specs.Sheet.{Bytes, Sheet}
use Rattle.rules.specs.Sheet as Rules
use Rattle.rules.specs.Filter.{Filter, and}
use Rattle.rules.specs.Filter as Parts
use Rattle.rules.specs.Judge.{Verdict, accept, Grammar, due, follows}
use Rattle.rules.specs.Request.{Selection, Ordering, Operation, read, compare, list, search, edition_of, selection, ordering, operation, filter}
use Rattle.rules.specs.Places.{lines_at, ordering_by}
use Rattle.sheet_line.specs.Line.{bytes_of, line_of}
use Rattle.sheet_line.specs.declared.Line.{Line}
use Rattle.sheet_due.specs.Lines.{seen_at, no_line, not_due, reached_at, after_due, after_group, due_by, due_at}
use Rattle.sheet_due.specs.Laws.Lines.{after, after_same, due-is, group-is, took, took-columns, took-group, followers, first-types}
use Rattle.sheet_due.specs.declared.Seen.{Seen}
use Rattle.sheet_due.specs.Outcomes.{Due, Reached}
use Rattle.request_piece.specs.Laws.Pieces.{Follows}
use Rattle.request_piece.specs.Progress.{Progress}
use Rattle.request_piece.specs.Progress.{Read, Refused}
use Rattle.request_filter.specs.Filters.{filter_at}
use Rattle.request_filter.specs.Laws.Filters.{filter-follow}
use Rattle.request_operation.specs.declared.Body.{Body}
use Rattle.request_operation.specs.Operations.{BodyDue, SearchLines, reached_by, filter_from, search_lines_at, selection_at, assertion_at, search_scope, read_at, compare_at, list_at, search_at, body_at}
use Rattle.request_sheet.specs.Whole.{edition_in, asked}
use Rattle.request_sheet.specs.Noted.{NotedSelection, NotedOperation}
use Rattle.request_sheet.specs.Laws.Bounds.{Bounds}

-- ---- the filter

-- what the rules read where `r` has come to, by the end `e` that the code finds
record Filtered (G : Grammar) (w : ℕ) (q : Bytes) (r e : Reached) : Type 1 where
  one : Filter
  is : (A : Type 0) (k : Filter → Sheet → Verdict A)
      → after r.refusal (filter G 16 128 (lines_at w q r.next) (λ f left s. k f s)) ≡ after e.refusal (k one (lines_at w q e.next))
  reads : e.refusal ≡ 0 → filter G 16 128 (lines_at w q r.next) (λ f left rest. accept f) ≡ accept one
  clear : e.refusal ≡ 0 → r.refusal ≡ 0

module _ (G : Grammar) (w : ℕ) (q : Bytes) where
  filter-step : (r : Reached) → eqb r.refusal 0 ≡ true → (st : Progress) → Follows w q (λ A k. filter G 16 128 (lines_at w q r.next) k) st → Filtered G w q r (reached_by st)
  filter-step r e (Read next left) f =
      record { one = f.0; is = λ A k. rw e (f.1 A (λ f left s. k f s)); reads = λ z. f.1 Filter (λ f left rest. accept f); clear = λ z. eqb-true r.refusal 0 e }
  filter-step r e (Refused n) f =
      record { one = and Parts.none; is = λ A k. rw (e, ne_eqb n 0 f.0) (f.1 A (λ f left s. k f s)); reads = λ z. absurd (f.0 z); clear = λ z. absurd (f.0 z) }

  filtered : (r : Reached) → Filtered G w q r (filter_from G w q r)
  unfolding filter_from
  filtered r = go (eqb r.refusal 0) refl
    where
      go : (t : Bool) → eqb r.refusal 0 ≡ t → Filtered G w q r (cond t (reached_by (filter_at G w q 16 r.next 128)) r)
      go true e = filter-step r e (filter_at G w q 16 r.next 128) (filter-follow G w q 16 r.next 128)
      go false e =
          let n = eqb-false r.refusal 0 e in
          record { one = and Parts.none; is = λ A k. rw e; reads = λ z. absurd (n z); clear = λ z. z }

-- ---- K 16 and K 15

-- what the code notes of K 16
abbrev ordering_at : SearchLines → Option Ordering
ordering_at x = ordering_by x.ordering.a (eqb x.ordering.b 1)

module _ (G : Grammar) (bounds : Bounds G) (w : ℕ) (q : Bytes) (r : Reached) where
  -- K 15 or K 16 is due: where neither is there, the refusal is one
  same_seen : (x : Seen) → ((due_by G w q 15 x).refusal ≡ 0 → ⊥) → ((due_by G w q 16 x).refusal ≡ 0 → ⊥) → (due_by G w q 15 x).refusal ≡ (due_by G w q 16 x).refusal
  same_seen (Seen.Line x) p p' = go (eqb x.kind 15) (eqb x.kind 16) (G.sound (line_of q x)) (bounds.sound (line_of q x)) p p'
    where
      go : (a b c : Bool) → c ≡ true
          → let first = cond a (cond c (record { refusal = 0; line = x }) (not_due (G.refusals + 4))) (not_due (G.refusals + 3)) in
          let second = cond b (cond c (record { refusal = 0; line = x }) (not_due (G.refusals + 4))) (not_due (G.refusals + 3)) in
          (first.refusal ≡ 0 → ⊥) → (second.refusal ≡ 0 → ⊥) → first.refusal ≡ second.refusal
      go true b true e p p' = absurd (p refl)
      go false true true e p p' = absurd (p' refl)
      go false false true e p p' = refl
      go a b false e p p' = absurd (false≢true e)
  same_seen Seen.NotAllowed p p' = refl
  same_seen Seen.Missing p p' = refl

  same-refusal : ((due_at G w q r 15).refusal ≡ 0 → ⊥) → ((due_at G w q r 16).refusal ≡ 0 → ⊥) → (due_at G w q r 15).refusal ≡ (due_at G w q r 16).refusal
  unfolding due_at
  same-refusal = go (eqb r.refusal 0)
    where
      go : (t : Bool) → let due : ℕ → Due = λ k. cond t (due_by G w q k (seen_at G.forms w q r.next)) (not_due r.refusal) in
          ((due 15).refusal ≡ 0 → ⊥) → ((due 16).refusal ≡ 0 → ⊥) → (due 15).refusal ≡ (due 16).refusal
      go true p p' = same_seen (seen_at G.forms w q r.next) p p'
      go false p p' = refl

  -- the kind of the line that was taken
  kind-follows : (k j : ℕ) → (due_at G w q r k).refusal ≡ 0 → follows j (lines_at w q r.next) ≡ eqb k j
  kind-follows k j z = let t = took G w q r k z in rw (t.stands.lines, t.kind)

  -- after a refusal no line is due
  stays : (k : ℕ) (m : Reached) → (m.refusal ≡ 0 → ⊥) → (due_at G w q m k).refusal ≡ m.refusal
  unfolding due_at
  stays k m n = rw (ne_eqb m.refusal 0 n)

  some-ordering : (y : Line) → 1 ≤ y.a → some (record { type = y.a; falling = eqb y.b 1 }) ≡ ordering_by y.a (eqb y.b 1)
  some-ordering y l = rw (ne_eqb y.a 0 (λ z. omega arith))

  -- what the rules take of both lines, the code finds
  scope-is : {A : Type 0} (next : Option Ordering → Rules.Line → Sheet → Verdict A) → let x = search_lines_at G w q r in
      after r.refusal (ordering G (lines_at w q r.next) (λ o s. due G 15 s (next o)))
      ≡ after x.subset.refusal (next (ordering_at x) (line_of q x.subset.line) (lines_at w q x.subset.line.next))
  unfolding ordering search_lines_at
  scope-is {A} next = go (eqb first.refusal 0) refl (follows 16 s) refl
    where
      s : Sheet
      s = lines_at w q r.next

      first : Due
      first = due_at G w q r 15

      second : Due
      second = due_at G w q r 16

      K15 : Option Ordering → Sheet → Verdict A
      K15 o s = due G 15 s (next o)

      K16 : Rules.Line → Sheet → Verdict A
      K16 x s = K15 (some (record { type = x.a; falling = eqb x.b 1 })) s

      last : Due
      last = due_at G w q (after_due second) 15

      go : (t : Bool) → eqb first.refusal 0 ≡ t → (u : Bool) → follows 16 s ≡ u
          → let x : SearchLines = cond t (record { ordering = no_line; subset = first }) (record { ordering = second.line; subset = last }) in
          after r.refusal (cond u (due G 16 s K16) (K15 none s))
          ≡ after x.subset.refusal (next (ordering_at x) (line_of q x.subset.line) (lines_at w q x.subset.line.next))
      go true e true f = absurd (false≢true (sym (kind-follows 15 16 (eqb-true first.refusal 0 e)) ∙ f))
      go true e false f = due-is G w q r 15 (next none)
      go false e true f =
          due-is G w q r 16 K16
          ∙ after_same second.refusal (K16 (line_of q second.line) (lines_at w q second.line.next)) (K15 (ordering_by second.line.a (eqb second.line.b 1)) (lines_at w q second.line.next))
          (λ z. ap (λ (o : Option Ordering). K15 o (lines_at w q second.line.next)) (some-ordering second.line (bounds.ordering _ _ _ _ (took-columns (took G w q r 16 z)))))
          ∙ due-is G w q (after_due second) 15 (next (ordering_by second.line.a (eqb second.line.b 1)))
      go false e false f =
          let n : first.refusal ≡ 0 → ⊥ = eqb-false first.refusal 0 e in
          let m : second.refusal ≡ 0 → ⊥ = λ z. true≢false (sym (kind-follows 16 16 z) ∙ f) in
          let same : last.refusal ≡ first.refusal = stays 15 (after_due second) m ∙ sym (same-refusal n m) in
          due-is G w q r 15 (next none) ∙ rw (same, e)

  -- no refusal of either is none before them
  scope-clear : (search_lines_at G w q r).subset.refusal ≡ 0 → r.refusal ≡ 0
  unfolding search_lines_at
  scope-clear = go (eqb (due_at G w q r 15).refusal 0) refl
    where
      go : (t : Bool) → eqb (due_at G w q r 15).refusal 0 ≡ t
          → let x : SearchLines = cond t (record { ordering = no_line; subset = due_at G w q r 15 }) (record { ordering = (due_at G w q r 16).line; subset = due_at G w q (after_due (due_at G w q r 16)) 15 }) in
          x.subset.refusal ≡ 0 → r.refusal ≡ 0
      go true e z = (took G w q r 15 z).clear
      go false e z = (took G w q r 16 (took G w q (after_due (due_at G w q r 16)) 15 z).clear).clear

-- ---- the operation

-- what the rules take from the lines at `at` after K 11, `x`, by what the code finds; `c` is column C of K 10
pub record Leads (G : Grammar) (w : ℕ) (q : Bytes) (at c : ℕ) (x : Line) (b : BodyDue) : Type 1 where
  pub asks : Operation
  pub is : (A : Type 0) (k : Operation → Sheet → Verdict A) → operation G (edition_of c) (line_of q x) (lines_at w q at) k ≡ after b.refusal (k asks (lines_at w q b.body.next))
  pub noted : b.refusal ≡ 0 → (requester : Line) → requester.c ≡ c → NotedOperation G w q asks (asked requester x b.body)

module _ (G : Grammar) (bounds : Bounds G) (w : ℕ) (q : Bytes) (at : ℕ) where
  -- the selection at a position
  abbrev selected : Selection
  selected = let g = selection_at G w q at in record { listed = eqb g.line.a 1; types = map (λ t. t.a) (followers w q g); values = eqb g.line.c 1 }

  -- it is what the rules take
  selection-is : (A : Type 0) (k : Selection → Sheet → Verdict A)
      → selection G (lines_at w q at) k ≡ after (selection_at G w q at).refusal (k selected (lines_at w q (selection_at G w q at).next))
  unfolding selection
  selection-is A k = group-is G w q (reached_at at) 12 13 (λ x ts s. k (record { listed = eqb x.a 1; types = map (λ t. t.a) ts; values = eqb x.c 1 }) s)

  -- and is noted
  selection-noted : (selection_at G w q at).refusal ≡ 0 → (requester base : Line) (b : Body) → b.selection ≡ (selection_at G w q at).line → NotedSelection w q selected (asked requester base b)
  selection-noted z requester base b e =
      let g = selection_at G w q at in
      let t = took-group G w q (reached_at at) 12 13 z in
      rw e
      (record {
        listed = refl;
        types = sym (first-types g.line.b (lines_at w q g.line.next));
        count = length-map (followers w q g) (λ x. x.a) ∙ t.count;
        most = bounds.selection _ _ _ _ (took-columns t.head);
        values = refl;
      })

  module _ (c : ℕ) (x : Line) (small : x.a ≤ 2 → x.c ≡ 0) where
    read-leads : x.a ≡ 1 → Leads G w q at c x (read_at G w q at)
    unfolding operation read_at edition_in
    read-leads op = record {
      asks = read selected;
      is = λ A k. rw (eq-eqb x.a 1 op) (selection-is A (λ r. k (read r)));
      noted = λ z requester e. record {
        operation = op;
        limit = small (omega arith);
        selection = selection-noted z requester x (read_at G w q at).body refl;
        no-assertion = record { attribute = refl; value = refl; count = refl };
        no-filter = record { type = refl; falling = refl; subset = refl; filter = refl; edition = rw (ne_eqb x.a 4 (λ y. omega arith)) };
      };
    }

    compare-leads : x.a ≡ 2 → Leads G w q at c x (compare_at G w q at)
    unfolding operation compare_at edition_in
    compare-leads op =
        let d = assertion_at G w q at in
        record {
          asks = compare d.line.a (bytes_of q d.line);
          is = λ A k. rw (ne_eqb x.a 1 (λ y. omega arith), eq-eqb x.a 2 op) (due-is G w q (reached_at at) 14 (λ y. k (compare y.a y.bytes)));
          noted = λ z requester e.
              let f = (took G w q (reached_at at) 14 z).stands.fits in
              record {
                operation = op;
                limit = small (omega arith);
                no-selection = record { listed = refl; types = refl; count = refl; values = refl };
                attribute = refl;
                bytes = refl;
                within = omega (arith, f.next, f.within);
                no-filter = record { type = refl; falling = refl; subset = refl; filter = refl; edition = rw (ne_eqb x.a 4 (λ y. omega arith)) };
              };
        }

    list-leads : x.a ≡ 3 → Leads G w q at c x (list_at at)
    unfolding operation edition_in
    list-leads op = record {
      asks = list x.c;
      is = λ A k. rw (ne_eqb x.a 1 (λ y. omega arith), ne_eqb x.a 2 (λ y. omega arith), eq-eqb x.a 3 op);
      noted = λ z requester e. record {
        operation = op;
        limit = refl;
        no-selection = record { listed = refl; types = refl; count = refl; values = refl };
        no-assertion = record { attribute = refl; value = refl; count = refl };
        no-filter = record { type = refl; falling = refl; subset = refl; filter = refl; edition = rw (ne_eqb x.a 4 (λ y. omega arith)) };
      };
    }

    search-leads : x.a ≡ 4 → Leads G w q at c x (search_at G w q at)
    unfolding operation search_at edition_in
    search-leads op =
        let r = after_group (selection_at G w q at) in
        let d = search_scope G w q at in
        let F = filtered G w q (after_due d.subset) in
        let found : Selection → Option Ordering → ℕ → Filter → Operation = λ s o subset f. search (record { limit = x.c; selection = s; ordering = o; subset = subset; filter = f; edition = edition_of c }) in
        record {
          asks = found selected (ordering_at d) d.subset.line.a F.one;
          is = λ A k.
              rw (ne_eqb x.a 1 (λ y. omega arith), ne_eqb x.a 2 (λ y. omega arith), ne_eqb x.a 3 (λ y. omega arith))
              (selection-is A (λ s r. ordering G r λ o r. due G 15 r λ y r. filter G 16 128 r λ f left r. k (found s o y.a f) r)
              ∙ scope-is G bounds w q r (λ o y r. filter G 16 128 r λ f left r. k (found selected o y.a f) r)
              ∙ F.is A (λ f s. k (found selected (ordering_at d) d.subset.line.a f) s));
          noted = λ z requester e. record {
            operation = op;
            limit = refl;
            selection = selection-noted (scope-clear G bounds w q r (F.clear z)) requester x (search_at G w q at).body refl;
            no-assertion = record { attribute = refl; value = refl; count = refl };
            ordering = refl;
            subset = refl;
            reads = F.reads z;
            edition = rw (eq-eqb x.a 4 op, e);
          };
        }

    -- by the operation, 1 to 4
    pub body-leads : 1 ≤ x.a → x.a ≤ 4 → Leads G w q at c x (body_at G w q at x.a)
    unfolding body_at
    body-leads low high = go (eqb x.a 1) refl (eqb x.a 2) refl (eqb x.a 3) refl
      where
        go : (t₁ : Bool) → eqb x.a 1 ≡ t₁ → (t₂ : Bool) → eqb x.a 2 ≡ t₂ → (t₃ : Bool) → eqb x.a 3 ≡ t₃
            → Leads G w q at c x (cond t₁ (read_at G w q at) (cond t₂ (compare_at G w q at) (cond t₃ (list_at at) (search_at G w q at))))
        go true e₁ t₂ e₂ t₃ e₃ = read-leads (eqb-true x.a 1 e₁)
        go false e₁ true e₂ t₃ e₃ = compare-leads (eqb-true x.a 2 e₂)
        go false e₁ false e₂ true e₃ = list-leads (eqb-true x.a 3 e₃)
        go false e₁ false e₂ false e₃ =
            let n₁ = eqb-false x.a 1 e₁ in
            let n₂ = eqb-false x.a 2 e₂ in
            let n₃ = eqb-false x.a 3 e₃ in
            search-leads (omega arith)
