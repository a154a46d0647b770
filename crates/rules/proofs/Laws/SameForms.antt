-- #109: a sheet is judged alike under two tables of forms that agree on its lines: the judges ask a line's form through `in_form` alone.
use Prim.Native.Nat.{ℕ, zero, suc, ◌+◌}
use Rattle.std.specs.Prelude.{◌≡◌, Bool, ◌&&◌, ◌||◌, cond}
use Rattle.std.proofs.Math.Path.{refl, ap, ap₂}
use Rattle.std.proofs.Common.{◌∙◌}
use Rattle.std.proofs.Math.Bool.{true, false, not}
use Rattle.std.proofs.Math.Option.{Option}
use mathlib.Core.List.{List, [], ◌∷◌, ◌++◌}
use Rattle.std.proofs.Math.Dec.{eqb}
use Rattle.rules.specs.Sheet.{Line, Sheet, end, broken, row}
use Rattle.rules.specs.Columns.{Form, in_form, directory_forms, permission_forms}
use Rattle.rules.specs.Value.{Piece}
use Rattle.rules.specs.Name.{Schema}
use Rattle.rules.specs.Judge.{Verdict, refuse, refuse_if, then, fold, Grammar, misplaced, at_end, due, due_lines, follows}
use Rattle.rules.specs.Directory.{Reading, type_line, entry_line, value_line, target_line, part_line, of_last, step, finish}
use Rattle.rules.specs.Permission.{Item, sound_item, item, items}
use Rattle.rules.specs.declared.Edition.{Edition}
use Rattle.rules.specs.Filter.{Filter, and, or, not', Filters, none, more}
use Rattle.rules.specs.Request.{Selection, Operation, read, filter_line, pieces, filters, filter_of, filter, selection, Ordering, ordering, operation, edition_of, request}
use Rattle.rules.proofs.Laws.Judge.{then-cong}
use Rattle.rules.proofs.Laws.Sheet.{AllRows}

-- the line is in form under both tables, or under neither
abbrev pub Same : List Form → List Form → Line → Type 0
Same F G x = in_form F x ≡ in_form G x

cond_same : {A : Type 0} (b : Bool) {x x' y y' : A} → x ≡ x' → y ≡ y' → cond b x y ≡ cond b x' y'
cond_same true p q = p
cond_same false p q = q

at-end-same : {A : Type 0} (a : A) (s : Sheet) {v w : Verdict A} → v ≡ w → at_end a s v ≡ at_end a s w
at-end-same a end e = refl
at-end-same a broken e = e
at-end-same a (row x rest) e = e

-- ---- the directory

module _ (top high : ℕ) where
  step_same : (st : Reading) (x : Line) → Same (directory_forms top) (directory_forms high) x → step top st x ≡ step high st x
  unfolding step
  step_same st x same =
      ap (λ (b : Bool).
      refuse_if (not b) 2
      (cond (eqb x.kind 1) (type_line st x)
      (cond (eqb x.kind 2) (entry_line st x)
      (cond (eqb x.kind 3) (value_line st st.current x)
      (cond (eqb x.kind 36) (of_last (target_line st) st.current x)
      (of_last (part_line st) st.current x)))))) same

  pub fold_same : (s : Sheet) (st : Reading) → AllRows (Same (directory_forms top) (directory_forms high)) s → fold (step top) finish 2 st s ≡ fold (step high) finish 2 st s
  unfolding fold
  fold_same end st k = refl
  fold_same broken st k = refl
  fold_same (row x rest) st k =
      ap (λ (v : Verdict Reading). then v (λ next. fold (step top) finish 2 next rest)) (step_same st x k.0)
      ∙ then-cong (step high st x) _ _ (λ next e. fold_same rest next k.1)

-- ---- lines that are due

-- what reads a filter, and what follows it
abbrev Reader : Type 0 → Type 0
Reader A = ℕ → Sheet → (Filter → ℕ → Sheet → Verdict A) → Verdict A

module _ (F G : List Form) (sound : Line → Bool) (n : ℕ) where
  abbrev g : Grammar
  g = record { forms = F; sound = sound; refusals = n }

  abbrev h : Grammar
  h = record { forms = G; sound = sound; refusals = n }

  abbrev AllSame : Sheet → Type 0
  AllSame s = AllRows (Same F G) s

  module _ {A : Type 0} where
    -- what follows comes to the same
    abbrev Next : {X : Type 0} → (X → Sheet → Verdict A) → (X → Sheet → Verdict A) → Type 0
    Next {X} p q = (x : X) (s : Sheet) → AllSame s → p x s ≡ q x s

    misplaced-same : (s : Sheet) → AllSame s → misplaced {A = A} g s ≡ misplaced {A = A} h s
    unfolding misplaced
    misplaced-same end k = refl
    misplaced-same broken k = refl
    misplaced-same (row x rest) k = ap (λ (b : Bool). refuse (cond b (n + 3) (n + 2))) k.0

    due-same : (kind : ℕ) (s : Sheet) → AllSame s → (p q : Line → Sheet → Verdict A) → Next p q → due g kind s p ≡ due h kind s q
    unfolding due
    due-same kind end k p q e = misplaced-same end tt
    due-same kind broken k p q e = misplaced-same broken tt
    due-same kind (row x rest) k p q e =
        ap₂ (λ (b : Bool) (v : Verdict A). refuse_if (not b) (n + 2) (refuse_if (not (eqb x.kind kind)) (n + 3) (refuse_if (not (sound x)) (n + 4) v))) k.0 (e x rest k.1)

    due-lines-same : (kind m : ℕ) (s : Sheet) → AllSame s → (p q : List Line → Sheet → Verdict A) → Next p q → due_lines g kind m s p ≡ due_lines h kind m s q
    unfolding due_lines
    due-lines-same kind zero s k p q e = e [] s k
    due-lines-same kind (suc m) s k p q e = due-same kind s k _ _ (λ x s k. due-lines-same kind m s k _ _ (λ xs s k. e (x ∷ xs) s k))

    -- ---- filters

    abbrev NextLeft : {X : Type 0} → (X → ℕ → Sheet → Verdict A) → (X → ℕ → Sheet → Verdict A) → Type 0
    NextLeft {X} p q = (x : X) (left : ℕ) (s : Sheet) → AllSame s → p x left s ≡ q x left s

    filter-line-same : (left : ℕ) (s : Sheet) → AllSame s → (p q : ℕ → Line → Sheet → Verdict A) → ((left : ℕ) → Next (p left) (q left)) → filter_line g left s p ≡ filter_line h left s q
    unfolding filter_line
    filter-line-same zero s k p q e = misplaced-same s k
    filter-line-same (suc left) end k p q e = misplaced-same end tt
    filter-line-same (suc left) broken k p q e = misplaced-same broken tt
    filter-line-same (suc left) (row x rest) k p q e = ap₂ (λ (b : Bool) (v : Verdict A). refuse_if (not b) (n + 2) v) k.0 (e left x rest k.1)

    pieces-same : (first : Bool) (m left : ℕ) (s : Sheet) → AllSame s → (p q : List Piece → ℕ → Sheet → Verdict A) → NextLeft p q → pieces g first m left s p ≡ pieces h first m left s q
    unfolding pieces
    pieces-same first zero left s k p q e = e [] left s k
    pieces-same first (suc m) left s k p q e =
        filter-line-same left s k _ _ (λ left x s k.
        ap (refuse_if (not (eqb x.kind 28) || (eqb x.a 0 && not first || eqb x.a 2 && not (eqb m 0))) (n + 3))
        (pieces-same false m left s k _ _ (λ ps left s k. e _ left s k)))

    abbrev Readers : Reader A → Reader A → Type 0
    Readers r t = (left : ℕ) (s : Sheet) → AllSame s → (p q : Filter → ℕ → Sheet → Verdict A) → NextLeft p q → r left s p ≡ t left s q

    module _ (r t : Reader A) (same : Readers r t) where
      filters-same : (m left : ℕ) (s : Sheet) → AllSame s → (p q : Filters → ℕ → Sheet → Verdict A) → NextLeft p q → filters r m left s p ≡ filters t m left s q
      unfolding filters
      filters-same zero left s k p q e = e none left s k
      filters-same (suc m) left s k p q e = same left s k _ _ (λ f left s k. filters-same m left s k _ _ (λ fs left s k. e (more f fs) left s k))

      filter-of-same : (left : ℕ) (x : Line) (s : Sheet) → AllSame s → (p q : Filter → ℕ → Sheet → Verdict A) → NextLeft p q → filter_of g r p left x s ≡ filter_of h t q left x s
      unfolding filter_of
      filter-of-same left x s k p q e =
          cond_same (eqb x.kind 20) (filters-same x.a left s k _ _ (λ fs left s k. e (and fs) left s k))
          (cond_same (eqb x.kind 21) (filters-same x.a left s k _ _ (λ fs left s k. e (or fs) left s k))
          (cond_same (eqb x.kind 22) (same left s k _ _ (λ f left s k. e (not' f) left s k))
          (cond_same (eqb x.kind 23) (e _ left s k)
          (cond_same (eqb x.kind 24) (e _ left s k)
          (cond_same (eqb x.kind 25) (e _ left s k)
          (cond_same (eqb x.kind 26) (e _ left s k)
          (cond_same (eqb x.kind 27) (pieces-same true x.b left s k _ _ (λ ps left s k. e _ left s k)) refl)))))))

    filter_same : (depth : ℕ) → Readers (filter g depth) (filter h depth)
    unfolding filter
    filter_same zero left s k p q e = misplaced-same s k
    filter_same (suc depth) left s k p q e =
        filter-line-same left s k _ _ (λ left x s k. filter-of-same (filter g depth) (filter h depth) (filter_same depth) left x s k p q e)

    -- ---- the operation of a request

    selection-same : (s : Sheet) → AllSame s → (p q : Selection → Sheet → Verdict A) → Next p q → selection g s p ≡ selection h s q
    unfolding selection
    selection-same s k p q e = due-same 12 s k _ _ (λ x s k. due-lines-same 13 x.b s k _ _ (λ ts s k. e _ s k))

    ordering-same : (s : Sheet) → AllSame s → (p q : Option Ordering → Sheet → Verdict A) → Next p q → ordering g s p ≡ ordering h s q
    unfolding ordering
    ordering-same s k p q e = cond_same (follows 16 s) (due-same 16 s k _ _ (λ x s k. e _ s k)) (e _ s k)

    operation-same : (ed : Edition) (x : Line) (s : Sheet) → AllSame s → (p q : Operation → Sheet → Verdict A) → Next p q → operation g ed x s p ≡ operation h ed x s q
    unfolding operation
    operation-same ed x s k p q e =
        cond_same (eqb x.a 1) (selection-same s k _ _ (λ r s k. e (read r) s k))
        (cond_same (eqb x.a 2) (due-same 14 s k _ _ (λ y s k. e _ s k))
        (cond_same (eqb x.a 3) (e _ s k)
        (selection-same s k _ _ (λ r s k. ordering-same s k _ _ (λ o s k. due-same 15 s k _ _ (λ y s k. filter_same 16 128 s k _ _ (λ f left s k. e _ s k)))))))

  pub request-same : (s : Sheet) → AllSame s → request g s ≡ request h s
  unfolding request
  request-same s k =
      due-same 10 s k _ _ (λ x s k. due-lines-same 9 x.b s k _ _ (λ name s k. due-same 11 s k _ _ (λ y s k. due-lines-same 9 y.b s k _ _ (λ base s k.
      operation-same (edition_of x.c) y s k _ _ (λ o s k. at-end-same _ s (misplaced-same s k))))))

-- ---- the permissions

module _ (top high : ℕ) (S : Schema) where
  abbrev F : List Form
  F = permission_forms top

  abbrev G : List Form
  G = permission_forms high

  item-same : {A : Type 0} (s : Sheet) → AllRows (Same F G) s → (p q : Item → Sheet → Verdict A) → Next F G (sound_item S) 10 p q → item top S s p ≡ item high S s q
  unfolding item
  item-same {A = A} s k p q e =
      let one = due-same F G (sound_item S) 10 {A = A} in
      let some = due-lines-same F G (sound_item S) 10 {A = A} in
      one 4 s k _ _ (λ x s k. one 5 s k _ _ (λ y s k. some 9 y.b s k _ _ (λ base s k. one 6 s k _ _ (λ z s k. some 9 z.b s k _ _ (λ user s k.
      one 7 s k _ _ (λ t s k. one 8 s k _ _ (λ m s k. e _ s k)))))))

  pub items-same : (n : ℕ) (before : List Item) (s : Sheet) → AllRows (Same F G) s → items top S n before s ≡ items high S n before s
  unfolding items
  items-same zero before s k = at-end-same before s (misplaced-same F G (sound_item S) 10 s k)
  items-same (suc n) before s k = at-end-same before s (item-same s k _ _ (λ i s k. items-same n (before ++ (i ∷ [])) s k))
