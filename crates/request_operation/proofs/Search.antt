-- A search by its lines, each where the one before it was taken, or its first refusal.
use Rattle.std.specs.Prelude.{ℕ, ◌≡◌, Ok, Err}
use Rattle.std.proofs.Math.Path.{refl, ap}
use Rattle.std.proofs.Common.{sym, ◌∙◌, eq-eqb, ne_eqb}
use Rattle.rules.specs.Sheet.{Bytes}
use Rattle.rules.specs.Judge.{Grammar}
use Rattle.rules.specs.Refusals.{refusal_number}
use Rattle.rules.specs.declared.refusals.Refusal.{Refusal}
use Rattle.sheet_line.specs.declared.Line.{Line}
use Rattle.sheet_due.specs.Outcomes.{Due, Reached, Group, Gives}
use Rattle.sheet_due.specs.Lines.{no_line, reached_at, after_due, after_group, due_at}
use Rattle.rules.proofs.Laws.Refusals.{refusal-some}
use Rattle.sheet_due.specs.Laws.Outcomes.{due-stays, after-taken, after-grouped}
use Rattle.sheet_due.specs.declared.Group as Taken
use Rattle.request_piece.specs.Progress.{progress_of}
use Rattle.request_piece.specs.declared.Step.{Step}
use Rattle.request_filter.specs.Filters.{filter_at}
use Rattle.request_operation.specs.declared.SearchLines as Scope
use Rattle.request_operation.specs.declared.Body.{Body}
use Rattle.request_operation.specs.Operations.{SearchLines, search_lines_at, filter_from, reached_by, selection_at, search_scope, search_at}

module _ (G : Grammar) (w : ℕ) (q : Bytes) where
  -- ---- K 16 and K 15

  module _ (at : ℕ) where
    abbrev first : Due
    first = due_at G w q (reached_at at) 15

    abbrev second : Due
    second = due_at G w q (reached_at at) 16

    -- K 15 stands there
    pub unordered : (x none : Line) → first.refusal ≡ 0 → x ≡ first.line → none ≡ no_line → let y = search_lines_at G w q (reached_at at) in
        Gives {A = Scope.SearchLines} (Ok (record { ordering = none; subset = x })) y.subset.refusal (record { ordering = y.ordering; subset = y.subset.line })
    unfolding search_lines_at
    unordered x none z e n = rw (eq-eqb first.refusal 0 z, e, n) (z, refl)

    -- it does not
    module _ (n : first.refusal ≡ 0 → ⊥) where
      pub ordering-refused : (r : Refusal) → refusal_number r ≡ second.refusal → refusal_number r ≡ (search_lines_at G w q (reached_at at)).subset.refusal
      unfolding search_lines_at
      ordering-refused r e = rw (ne_eqb first.refusal 0 n) (e ∙ sym (due-stays G w q (after_due second) 15 (λ z. refusal-some r (e ∙ z))))

      module _ (x : Line) (z : second.refusal ≡ 0) (e : x ≡ second.line) where
        pub subset-refused : (r : Refusal) → refusal_number r ≡ (due_at G w q (reached_at x.next) 15).refusal → refusal_number r ≡ (search_lines_at G w q (reached_at at)).subset.refusal
        unfolding search_lines_at
        subset-refused r h = rw (ne_eqb first.refusal 0 n, after-taken second z e) h

        pub ordered : (y : Line) → (due_at G w q (reached_at x.next) 15).refusal ≡ 0 → y ≡ (due_at G w q (reached_at x.next) 15).line → let l = search_lines_at G w q (reached_at at) in
            Gives {A = Scope.SearchLines} (Ok (record { ordering = x; subset = y })) l.subset.refusal (record { ordering = l.ordering; subset = l.subset.line })
        unfolding search_lines_at
        ordered y u h = rw (ne_eqb first.refusal 0 n, after-taken second z e) (u, rw (h, e))

  -- after a refusal none of them is due
  scope-stays : (r : Reached) → (r.refusal ≡ 0 → ⊥) → (search_lines_at G w q r).subset.refusal ≡ r.refusal
  unfolding search_lines_at
  scope-stays r n =
      let d = due_at G w q r 16 in
      let e = due-stays G w q r 16 n in
      rw (ne_eqb (due_at G w q r 15).refusal 0 (λ z. n (sym (due-stays G w q r 15 n) ∙ z))) (due-stays G w q (after_due d) 15 (λ z. n (sym e ∙ z)) ∙ e)

  -- ---- the filter

  filter-stays : (r : Reached) → (r.refusal ≡ 0 → ⊥) → filter_from G w q r ≡ r
  unfolding filter_from
  filter-stays r n = rw (ne_eqb r.refusal 0 n)

  filter-goes : (d : Due) (x : Line) → d.refusal ≡ 0 → x ≡ d.line → filter_from G w q (after_due d) ≡ reached_by (filter_at G w q 16 x.next 128)
  unfolding filter_from
  filter-goes d x z e = rw (eq-eqb d.refusal 0 z, e)

  -- ---- the search

  module _ (at : ℕ) where
    abbrev S : Group
    S = selection_at G w q at

    pub selection-refused : (r : Refusal) → refusal_number r ≡ S.refusal → refusal_number r ≡ (search_at G w q at).refusal
    unfolding search_at
    selection-refused r e =
        let n : S.refusal ≡ 0 → ⊥ = λ z. refusal-some r (e ∙ z) in
        let h = scope-stays (after_group S) n in
        rw (filter-stays (after_due (search_scope G w q at).subset) (λ z. n (sym h ∙ z))) (e ∙ sym h)

    module _ (g : Taken.Group) (z : S.refusal ≡ 0) (e : g ≡ record { line = S.line; next = S.next }) where
      -- the lines of the search, where they are due
      scope-is : search_lines_at G w q (reached_at g.next) ≡ search_scope G w q at
      scope-is = rw (after-grouped S g z e)

      pub scope-refused : (r : Refusal) → refusal_number r ≡ (search_lines_at G w q (reached_at g.next)).subset.refusal → refusal_number r ≡ (search_at G w q at).refusal
      unfolding search_at
      scope-refused r h =
          let i : refusal_number r ≡ (search_scope G w q at).subset.refusal = h ∙ ap (λ (x : SearchLines). x.subset.refusal) scope-is in
          rw (filter-stays (after_due (search_scope G w q at).subset) (λ y. refusal-some r (i ∙ y))) i

      module _ (x : Scope.SearchLines) (u : (search_lines_at G w q (reached_at g.next)).subset.refusal ≡ 0)
          (h : x ≡ (let y = search_lines_at G w q (reached_at g.next) in record { ordering = y.ordering; subset = y.subset.line })) where
        goes : filter_from G w q (after_due (search_scope G w q at).subset) ≡ reached_by (filter_at G w q 16 x.subset.next 128)
        goes = filter-goes (search_scope G w q at).subset x.subset (rw (← scope-is) u) (rw (h, scope-is))

        pub filter-refused : (r : Refusal) → progress_of (Err r) ≡ filter_at G w q 16 x.subset.next 128 → refusal_number r ≡ (search_at G w q at).refusal
        unfolding search_at
        filter-refused r i = rw (goes, ← i)

        pub searched : (end : Step) (none : Line) → progress_of (Ok end) ≡ filter_at G w q 16 x.subset.next 128 → none ≡ no_line → let b = search_at G w q at in
            Gives {A = Body} (Ok (record { selection = g.line; assertion = none; ordering = x.ordering; subset = x.subset; next = end.next })) b.refusal b.body
        unfolding search_at
        searched end none i n = rw (goes, ← i, n, ← scope-is, h, e) (refl, refl)
