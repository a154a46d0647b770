-- An accepted directory sheet is the lines of its directory, each in form: with each line that is taken the lines of what was read grow by it.
use Rattle.std.specs.Prelude.{ℕ, zero, suc, ◌+◌, ◌≤◌, ◌≡◌, Bool, not, eqb, length}
use Rattle.std.proofs.Common.{arith, sym, ◌∙◌, true≢false, length-append}
use Rattle.std.proofs.Math.Path.{refl, ap, ap₂, subst}
use Rattle.std.proofs.Math.Bool.{true, false}
use Rattle.std.proofs.lemmas.Bool.{false≢true}
use Rattle.std.proofs.Math.Option.{Option, some}
use mathlib.Core.List.{List, [], ◌∷◌, ◌++◌, map, append_assoc, append-nil}
use Rattle.rules.specs.Lists.{gather, is_empty, optional}
use Rattle.rules.specs.Sheet.{Bytes, Line, line, bit, Sheet, end, broken, row, rows, lines, print}
use Rattle.rules.specs.declared.Format.{Format}
use Rattle.rules.specs.Columns.{in_form, directory_forms}
use Rattle.rules.specs.Name.{AttributeType, Schema, Part, part, Name}
use Rattle.rules.specs.Judge.{accept, name_lines}
use Rattle.rules.specs.Directory
use Rattle.rules.specs.Directory.{Target, nowhere, missing, parts, Stored, with_target, Reading, entries_of, alias_mark, is_alias, is_unread, new_entry, with_value, with_last, step, finish, nothing, directory_of, schema_lines, target_lines, stored_lines, directory_lines}
use Rattle.rules.specs.Derived.{Each}
use Rattle.rules.proofs.Laws.Loops.{gather_append}
use Rattle.rules.proofs.Laws.Judge.{Run}
use Rattle.rules.proofs.Laws.Sheet.{AllRows, rows-each}
use Rattle.rules.proofs.Laws.Back.{lines-back}
use Rattle.rules.proofs.Laws.Step.{Taken, of_type, of_entry, of_value, of_target, of_part, step-form, step-taken, finished, accepted-run}

-- the directory so far
abbrev directory : Schema → List Stored → Directory.Directory
directory S es = record { schema = S; entries = es }

abbrev lines_of : Reading → List Line
lines_of st = directory_lines (directory st.schema (entries_of st))

map_snoc : {A B : Type 0} (f : A → B) (xs : List A) (y : A) → map f (xs ++ (y ∷ [])) ≡ map f xs ++ (f y ∷ [])
map_snoc f [] y = refl
map_snoc {B = B} f (x ∷ xs) y = ap (λ (l : List B). f x ∷ l) (map_snoc f xs y)

-- one type more, before any entry
type-more : (S : Schema) (k : AttributeType) (es : List Stored) → not (is_empty es) ≡ false
    → directory_lines (directory (S ++ (k ∷ [])) es) ≡ directory_lines (directory S es) ++ (line 1 k.number k.syntax 0 [] ∷ [])
unfolding directory_lines
type-more S k [] e =
    append-nil (schema_lines (S ++ (k ∷ []))) ∙ map_snoc (λ j. line 1 j.number j.syntax 0 []) S k
    ∙ ap (λ (l : List Line). l ++ (line 1 k.number k.syntax 0 [] ∷ [])) (sym (append-nil (schema_lines S)))
type-more S k (c ∷ cs) e = absurd (true≢false e)

-- one entry more
entry_more : (S : Schema) (es : List Stored) (e : Stored) → directory_lines (directory S (es ++ (e ∷ []))) ≡ directory_lines (directory S es) ++ stored_lines e
unfolding directory_lines
entry_more S es e =
    ap (λ (l : List Line). schema_lines S ++ l) (gather_append stored_lines es (e ∷ []) ∙ ap (λ (l : List Line). gather stored_lines es ++ l) (append-nil (stored_lines e)))
    ∙ sym (append_assoc (schema_lines S) (gather stored_lines es) (stored_lines e))

-- C of K 2
mark-back : (c : ℕ) → c ≤ 1 → bit (is_alias (alias_mark (eqb c 1))) ≡ c
mark-back zero l = refl
mark-back (suc zero) l = refl
mark-back (suc (suc c)) l = absurd (omega arith)

unread-lines : (t : Target) → is_unread t ≡ true → target_lines t ≡ []
unread-lines nowhere e = refl
unread-lines missing e = refl
unread-lines (parts n m) e = absurd (false≢true e)

-- one value more, before the target
value-more : (e : Stored) (v : Part) → is_unread e.target ≡ true → stored_lines (with_value e v) ≡ stored_lines e ++ (line 3 v.type 0 0 v.value ∷ [])
unfolding stored_lines
value-more e v u =
    ap (λ (l : List Line). line 2 e.parent e.naming.type (bit (is_alias e.target)) e.naming.value ∷ l)
    (rw (unread-lines e.target u, append-nil (map value_line (e.values ++ (v ∷ []))), append-nil (map value_line e.values)) (map_snoc value_line e.values v))
  where
    value_line : Part → Line
    value_line p = line 3 p.type 0 0 p.value

-- one line of the target more
target_more : (e : Stored) (old new : Target) (x : Line) → e.target ≡ old → is_alias new ≡ is_alias old → target_lines new ≡ target_lines old ++ (x ∷ [])
    → stored_lines (with_target e new) ≡ stored_lines e ++ (x ∷ [])
unfolding stored_lines
target_more e old new x is mark more =
    ap₂ (λ (b : Bool) (l : List Line). line 2 e.parent e.naming.type (bit b) e.naming.value ∷ (values ++ l)) mark more
    ∙ ap (λ (l : List Line). line 2 e.parent e.naming.type (bit (is_alias old)) e.naming.value ∷ l) (sym (append_assoc values (target_lines old) (x ∷ [])))
    ∙ ap (λ (t : Target). line 2 e.parent e.naming.type (bit (is_alias t)) e.naming.value ∷ ((values ++ target_lines t) ++ (x ∷ []))) (sym is)
  where
    values : List Line
    values = map (λ v. line 3 v.type 0 0 v.value) e.values

no-parts : (n : ℕ) → target_lines (parts n []) ≡ line 36 0 n 0 [] ∷ []
unfolding name_lines
no-parts n = let c : n + 0 ≡ n = omega arith in ap (λ (k : ℕ). line 36 0 k 0 [] ∷ []) c

part-more : (n : ℕ) (m : Name) (p : Part) → target_lines (parts n (m ++ (p ∷ []))) ≡ target_lines (parts (suc n) m) ++ (line 9 p.type 0 0 p.value ∷ [])
unfolding name_lines
part-more n m p =
    let l : length (m ++ (p ∷ [])) ≡ length m + 1 = length-append m (p ∷ []) in
    let c : n + length (m ++ (p ∷ [])) ≡ suc n + length m = omega arith in
    ap₂ (λ (k : ℕ) (ls : List Line). line 36 0 k 0 [] ∷ ls) c (map_snoc (λ q. line 9 q.type 0 0 q.value) m p)

abbrev Grown : Line → Reading → Reading → Type 0
Grown x st next = lines_of next ≡ lines_of st ++ (x ∷ [])

-- one line of the last entry more
last_more : (st : Reading) (e c : Stored) (x : Line) → st.current ≡ some e → stored_lines c ≡ stored_lines e ++ (x ∷ []) → Grown x st (with_last st c)
unfolding entries_of
last_more st e c x is more =
    entry_more st.schema st.complete c
    ∙ ap (λ (l : List Line). before ++ l) more
    ∙ sym (append_assoc before (stored_lines e) (x ∷ []))
    ∙ ap (λ (l : List Line). l ++ (x ∷ [])) (sym (entry_more st.schema st.complete e))
    ∙ ap (λ (o : Option Stored). directory_lines (directory st.schema (st.complete ++ optional o)) ++ (x ∷ [])) (sym is)
  where
    before : List Line
    before = directory_lines (directory st.schema st.complete)

step-grown : (st : Reading) (x : Line) (next : Reading) (top : ℕ) → Taken st x next top → Grown x st next
unfolding entries_of
step-grown st x next top (of_type f t) =
    subst (Grown x st) t.is
    (type-more st.schema (record { number = x.a; syntax = x.b }) (entries_of st) t.first ∙ ap (λ (y : Line). lines_of st ++ (y ∷ [])) f.is)
step-grown st x next top (of_entry f t) =
    let new = new_entry (entries_of st) x in
    let alone : stored_lines new ≡ x ∷ [] = unfold stored_lines in
    ap₂ (λ (c : ℕ) (l : List Line). line 2 x.a x.b c x.bytes ∷ l) (mark-back x.c f.mark) (unread-lines (alias_mark (eqb x.c 1)) (unread (eqb x.c 1)))
    ∙ ap (λ (y : Line). y ∷ []) f.is in
    subst (Grown x st) t.is (entry_more st.schema (entries_of st) new ∙ ap (λ (l : List Line). lines_of st ++ l) alone)
  where
    unread : (b : Bool) → is_unread (alias_mark b) ≡ true
    unread true = refl
    unread false = refl
step-grown st x next top (of_value f t) =
    subst (Grown x st) t.is
    (last_more st t.last _ x t.current
    (value-more t.last (part x.a x.bytes) t.unread ∙ ap (λ (y : Line). stored_lines t.last ++ (y ∷ [])) f.is))
step-grown st x next top (of_target f t) =
    subst (Grown x st) t.is
    (last_more st t.last _ x t.current
    (target_more t.last missing (parts x.b []) x t.missing refl (no-parts x.b ∙ ap (λ (y : Line). y ∷ []) f.is)))
step-grown st x next top (of_part f t) =
    subst (Grown x st) t.is
    (last_more st t.last _ x t.current
    (target_more t.last (parts (suc t.due) t.read) (parts t.due (t.read ++ (part x.a x.bytes ∷ []))) x t.target refl
    (part-more t.due t.read (part x.a x.bytes) ∙ ap (λ (y : Line). target_lines (parts (suc t.due) t.read) ++ (y ∷ [])) f.is)))

-- ---- the sheet

module _ (top : ℕ) (d : Directory.Directory) where
  run-forms : (s : Sheet) (st : Reading) → Run (step top) finish st s d → AllRows (λ x. in_form (directory_forms top) x ≡ true) s
  run-forms end st r = tt
  run-forms broken st r = tt
  run-forms (row x rest) st (next, e, r) = (step-form st x next top e, run-forms rest next r)

  run-lines : (s : Sheet) (st : Reading) → Run (step top) finish st s d → (ls : List Line) × (s ≡ rows ls end) × (directory_lines d ≡ lines_of st ++ ls)
  run-lines end st r = ([], refl, ap directory_lines (sym (finished st d r).1) ∙ sym (append-nil (lines_of st)))
  run-lines broken st r = absurd r
  run-lines (row x rest) st (next, e, r) =
      let (ls, s, l) = run-lines rest next r in
      (x ∷ ls, ap (row x) s, l ∙ ap (λ (k : List Line). k ++ ls) (step-grown st x next top (step-taken st x next top e)) ∙ append_assoc (lines_of st) (x ∷ []) ls)

module _ (f : Format) (s : Bytes) (d : Directory.Directory) (e : directory_of f s ≡ accept d) where
  pub accepted-lines : lines f.width s ≡ rows (directory_lines d) end
  unfolding entries_of directory_lines
  accepted-lines = let (ls, r, l) = run-lines f.top d (lines f.width s) nothing (accepted-run f s d e) in r ∙ ap (λ (k : List Line). rows k end) (sym l)

  -- each line of an accepted directory is in form
  pub accepted-forms : Each (λ x. in_form (directory_forms f.top) x ≡ true) (directory_lines d)
  accepted-forms = rows-each _ (directory_lines d) (subst (AllRows (λ x. in_form (directory_forms f.top) x ≡ true)) accepted-lines (run-forms f.top d (lines f.width s) nothing (accepted-run f s d e)))

  -- and the sheet is its lines, printed
  pub accepted-back : print f.width (directory_lines d) ≡ s
  accepted-back = lines-back f.width (directory_lines d) s accepted-lines
