-- The refusals of a directory are not 0, so that 0 tells an accepted one.
use Rattle.std.specs.Prelude.{ℕ, zero, suc, ◌<◌, ◌≡◌, refl, Bool, true, false, not, ◌||◌, cond, Result, Ok, Err, List, [], ltb, leb, eqb, length}
use Rattle.std.proofs.Common.{sym, ap, subst, ◌∙◌, arith}
use Rattle.std.proofs.Math.Option.{Option, none, some}
use Rattle.rules.specs.Lists.{is_empty, any, last_or}
use Rattle.rules.specs.Name.{part, allowed, same_part}
use Rattle.rules.specs.Sheet.{Bytes, Line, Sheet, end, broken, row, lines}
use Rattle.rules.specs.declared.Format.{Format}
use Rattle.rules.specs.Columns.{in_form, directory_forms}
use Rattle.rules.specs.Judge.{Verdict, accept, refuse, refusal_of, refuse_if, then, fold}
use Rattle.rules.specs.Directory.{Target, nowhere, missing, parts, Stored, Directory, Reading, directory_of, step, finish, nothing, type_line, entry_line, value_line, target_line, part_line, of_last, is_unread, lacks_naming, lacks_target, under_alias, entries_of, last_type, new_entry, clashes}
use Rattle.rules.specs.Refusals.{refusal_number, refusal_in}
use Rattle.rules.specs.declared.refusals.Refusal.{Refusal}
use Rattle.rules.proofs.Laws.Refusals.{refusal-some}
use Rattle.directory_sheet.specs.Judged as Directories
use Rattle.directory_sheet.specs.declared.Notes.{Notes}

-- the verdict refuses with no 0
abbrev Told : {A : Type 0} → Verdict A → Type 0
Told v = refusal_of v ≡ 0 → (a : _) × (v ≡ accept a)

told-if : {A : Type 0} (b : Bool) (n : ℕ) (v : Verdict A) → 0 < n → Told v → Told (refuse_if b n v)
told-if true n v h t e = absurd (omega arith)
told-if false n v h t e = t e

told-accept : {A : Type 0} (a : A) → Told (accept a)
told-accept a e = (a, refl)

told-then : {A B : Type 0} (v : Verdict A) (next : A → Verdict B) → Told v → ((a : A) → Told (next a)) → Told (then v next)
told-then (accept a) next t u e = u a e
told-then (refuse n) next t u e = let r = t e in absurd (let z : ◌≡◌ {A = ℕ} 0 1 = cc in omega arith)

told-value : (st : Reading) (o : Option Stored) (x : Line) → Told (value_line st o x)
unfolding value_line
told-value st none x = λ e. absurd (let z : 3 ≡ 0 = e in omega arith)
told-value st (some e) x =
    go (ltb x.a (last_or (part 0 []) e.values).type || not (is_unread e.target)) (not (allowed st.schema x.a x.bytes)) (any (same_part st.schema (part x.a x.bytes)) e.values) _
  where
    go : {A : Type 0} (b c d : Bool) (r : A) → Told (refuse_if b 3 (refuse_if c 4 (refuse_if d 5 (accept r))))
    go b c d r = told-if b 3 _ (omega arith) (told-if c 4 _ (omega arith) (told-if d 5 _ (omega arith) (told-accept r)))

told-type : (st : Reading) (x : Line) → Told (type_line st x)
unfolding type_line
told-type st x = told-if (not (is_empty (entries_of st)) || (leb x.a (last_type st.schema) || leb 64 (length st.schema))) 3 _ (omega arith) (told-accept _)

told-entry : (st : Reading) (x : Line) → Told (entry_line st x)
unfolding entry_line
told-entry st x =
    go (ltb (length (entries_of st)) x.a) (lacks_naming st.schema st.current)
    (lacks_target st.current || (under_alias (entries_of st) x.a || (leb 256 (length (entries_of st)) || ltb 8 (length (new_entry (entries_of st) x).name))))
    (not (allowed st.schema x.b x.bytes)) (clashes st.schema (entries_of st) (new_entry (entries_of st) x).parent (new_entry (entries_of st) x).naming) _
  where
    go : {A : Type 0} (a b c d e : Bool) (r : A) → Told (refuse_if a 2 (refuse_if b 6 (refuse_if c 3 (refuse_if d 4 (refuse_if e 5 (accept r))))))
    go a b c d e r =
        told-if a 2 _ (omega arith) (told-if b 6 _ (omega arith) (told-if c 3 _ (omega arith) (told-if d 4 _ (omega arith) (told-if e 5 _ (omega arith) (told-accept r)))))

told-target : (st : Reading) (o : Option Stored) (x : Line) → Told (of_last (target_line st) o x)
unfolding target_line
told-target st none x = λ e. absurd (let z : 3 ≡ 0 = e in omega arith)
told-target st (some d) x = go d.target
  where
    go : (t : Target) → Told (target_line st d t x)
    go nowhere = λ e. absurd (let z : 3 ≡ 0 = e in omega arith)
    go missing = told-accept _
    go (parts n m) = λ e. absurd (let z : 3 ≡ 0 = e in omega arith)

told_part : (st : Reading) (o : Option Stored) (x : Line) → Told (of_last (part_line st) o x)
unfolding part_line
told_part st none x = λ e. absurd (let z : 3 ≡ 0 = e in omega arith)
told_part st (some d) x = go d.target
  where
    go : (t : Target) → Told (part_line st d t x)
    go nowhere = λ e. absurd (let z : 3 ≡ 0 = e in omega arith)
    go missing = λ e. absurd (let z : 3 ≡ 0 = e in omega arith)
    go (parts zero m) = λ e. absurd (let z : 3 ≡ 0 = e in omega arith)
    go (parts (suc n) m) = told-if (not (allowed st.schema x.a x.bytes)) 4 _ (omega arith) (told-accept _)

told-step : (top : ℕ) (st : Reading) (x : Line) → Told (step top st x)
unfolding step
told-step top st x = told-if (not (in_form (directory_forms top) x)) 2 _ (omega arith) (go (eqb x.kind 1) (eqb x.kind 2) (eqb x.kind 3) (eqb x.kind 36))
  where
    go : (b c v t : Bool)
        → Told (cond b (type_line st x) (cond c (entry_line st x) (cond v (value_line st st.current x) (cond t (of_last (target_line st) st.current x) (of_last (part_line st) st.current x)))))
    go true c v t = told-type st x
    go false true v t = told-entry st x
    go false false true t = told-value st st.current x
    go false false false true = told-target st st.current x
    go false false false false = told_part st st.current x

told-fold : (top : ℕ) (s : Sheet) (st : Reading) → Told (fold (step top) finish 2 st s)
unfolding fold finish
told-fold top end st = told-if (lacks_naming st.schema st.current) 6 _ (omega arith) (told-if (lacks_target st.current) 3 _ (omega arith) (told-accept _))
told-fold top broken st = λ e. absurd (let z : 2 ≡ 0 = e in omega arith)
told-fold top (row x rest) st = told-then (step top st x) (λ next. fold (step top) finish 2 next rest) (told-step top st x) (λ next. told-fold top rest next)

told-directory : (f : Format) (s : Bytes) → Told (directory_of f s)
unfolding directory_of
told-directory f s = told-if (ltb 65536 (length s)) 1 _ (omega arith) (told-fold f.top (lines f.width s) nothing)

module _ (f : Format) (s : Bytes) {r : Result Notes Refusal} {held : List ℕ} (j : Directories.DirectoryJudged f s r held) where
  -- a refusal is the one that the rules give
  pub directory-refused : (e : Refusal) → r ≡ Err e → directory_of f s ≡ refuse (refusal_number e)
  directory-refused e is = by (directory_of f s) (sym (ap refusal_in is) ∙ j.refusal)
    where
      by : (v : Verdict Directory) → refusal_number e ≡ refusal_of v → v ≡ refuse (refusal_number e)
      by (accept x) q = absurd (refusal-some e q)
      by (refuse m) q = rw q

  -- without one, the directory that the rules accept is noted
  pub directory-accepted : (x : Notes) → r ≡ Ok x → (d : Directory) × (directory_of f s ≡ accept d) × Directories.DirectoryNoted f.width s d x held
  directory-accepted x is =
      let a = told-directory f s (sym j.refusal ∙ ap refusal_in is) in
      let n = j.noted a.0 a.1 in
      let e : n.0 ≡ x = cc (is, n.1) in
      (a.0, a.1, subst (λ (y : Notes). Directories.DirectoryNoted f.width s a.0 y held) e n.2)
