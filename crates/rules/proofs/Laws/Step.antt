-- What a line that the judge of a directory takes tells: its form, the tests that it passed, and the state that it leaves.
use Prim.Native.Nat.{ℕ, zero, suc, ◌≤◌, ◌<◌}
use Rattle.std.specs.Prelude.{◌≡◌, true, false, ◌||◌, [], ◌∷◌, ◌++◌, eqb, length}
use Rattle.std.proofs.Math.Path.{refl}
use Rattle.std.proofs.Common.{subst}
use Rattle.std.proofs.Math.Bool.{not, cond}
use Rattle.std.proofs.Math.Option.{Option, none, some}
use Rattle.std.proofs.Math.Dec.{leb, ltb}
use borrow.Author.Tests.{ltb-false, leb-false}
use Rattle.rules.specs.Lists.{any, is_empty, last_or}
use Rattle.rules.specs.Sheet.{Bytes, Line, lines}
use Rattle.rules.specs.declared.Format.{Format}
use Rattle.rules.specs.Columns.{in_form, directory_forms}
use Rattle.rules.specs.Name.{part, Name, allowed, same_part}
use Rattle.rules.specs.Judge.{accept}
use Rattle.rules.specs.Directory
use Rattle.rules.specs.Directory.{Target, nowhere, missing, parts, Stored, with_target, Reading, entries_of, last_type, type_line, lacks_naming, clashes, is_unread, lacks_target, under_alias, new_entry, with_value, with_last, entry_line, value_line, target_line, part_line, of_last, step, finish, nothing, directory_of}
use Rattle.rules.proofs.Laws.Tests.{is_true_lem, or-none}
use Rattle.rules.proofs.Laws.Judge.{refused-not, accepted-is, not-refused, Run, fold-run}
use Rattle.rules.proofs.Laws.Columns.{TypeLine, EntryLine, PairLine, TargetLine, DirectoryLine, is_type, is_entry, is_value, is_target, is_part, directory-line}

module _ (st : Reading) (x : Line) (next : Reading) where
  pub record TypeTaken : Type 0 where
    pub first : not (is_empty (entries_of st)) ≡ false
    pub is : record { schema = st.schema ++ (record { number = x.a; syntax = x.b } ∷ []); complete = st.complete; current = st.current } ≡ next

  pub record EntryTaken : Type 0 where
    pub parent : x.a ≤ length (entries_of st)
    pub whole : lacks_target st.current ≡ false
    pub childless : under_alias (entries_of st) x.a ≡ false
    pub room : length (entries_of st) < 256
    pub depth : length (new_entry (entries_of st) x).name ≤ 8
    pub allowed : allowed st.schema x.b x.bytes ≡ true
    pub alone : clashes st.schema (entries_of st) x.a (part x.b x.bytes) ≡ false
    pub is : record { schema = st.schema; complete = entries_of st; current = some (new_entry (entries_of st) x) } ≡ next

  pub record ValueTaken : Type 0 where
    pub last : Stored
    pub current : st.current ≡ some last
    pub unread : is_unread last.target ≡ true
    pub allowed : allowed st.schema x.a x.bytes ≡ true
    pub is : with_last st (with_value last (part x.a x.bytes)) ≡ next

  pub record TargetTaken : Type 0 where
    pub last : Stored
    pub current : st.current ≡ some last
    pub missing : last.target ≡ missing
    pub is : with_last st (with_target last (parts x.b [])) ≡ next

  pub record PartTaken : Type 0 where
    pub last : Stored
    pub current : st.current ≡ some last
    pub due : ℕ
    pub read : Name
    pub target : last.target ≡ parts (suc due) read
    pub allowed : allowed st.schema x.a x.bytes ≡ true
    pub is : with_last st (with_target last (parts due (read ++ (part x.a x.bytes ∷ [])))) ≡ next

  type-taken : type_line st x ≡ accept next → TypeTaken
  unfolding type_line
  type-taken e =
      let h = not-refused _ 3 _ next e in
      record { first = (or-none (not (is_empty (entries_of st))) (leb x.a (last_type st.schema) || leb 64 (length st.schema)) h.0).0; is = accepted-is h.1 }

  entry-taken : entry_line st x ≡ accept next → EntryTaken
  unfolding entry_line
  entry-taken e =
      let es = entries_of st in
      let h₂ = not-refused (ltb (length es) x.a) 2 _ next e in
      let h₆ = not-refused (lacks_naming st.schema st.current) 6 _ next h₂.1 in
      let full = leb 256 (length es) || ltb 8 (length (new_entry es x).name) in
      let h₃ = not-refused (lacks_target st.current || (under_alias es x.a || full)) 3 _ next h₆.1 in
      let a = or-none (lacks_target st.current) (under_alias es x.a || full) h₃.0 in
      let b = or-none (under_alias es x.a) full a.1 in
      let c = or-none (leb 256 (length es)) (ltb 8 (length (new_entry es x).name)) b.1 in
      let h₄ = not-refused (not (allowed st.schema x.b x.bytes)) 4 _ next h₃.1 in
      let h₅ = not-refused (clashes st.schema es x.a (part x.b x.bytes)) 5 _ next h₄.1 in
      record {
        parent = ltb-false (length es) x.a h₂.0;
        whole = a.0;
        childless = b.0;
        room = leb-false 256 (length es) c.0;
        depth = ltb-false 8 (length (new_entry es x).name) c.1;
        allowed = is_true_lem (allowed st.schema x.b x.bytes) h₄.0;
        alone = h₅.0;
        is = accepted-is h₅.1;
      }

  value_taken : (o : Option Stored) → st.current ≡ o → value_line st o x ≡ accept next → ValueTaken
  unfolding value_line
  value_taken none c e = absurd (refused-not 3 next e)
  value_taken (some l) c e =
      let falls = ltb x.a (last_or (part 0 []) l.values).type in
      let h₃ = not-refused (falls || not (is_unread l.target)) 3 _ next e in
      let h₄ = not-refused (not (allowed st.schema x.a x.bytes)) 4 _ next h₃.1 in
      let h₅ = not-refused (any (same_part st.schema (part x.a x.bytes)) l.values) 5 _ next h₄.1 in
      record {
        last = l;
        current = c;
        unread = is_true_lem (is_unread l.target) (or-none falls (not (is_unread l.target)) h₃.0).1;
        allowed = is_true_lem (allowed st.schema x.a x.bytes) h₄.0;
        is = accepted-is h₅.1;
      }

  target-taken : (o : Option Stored) → st.current ≡ o → of_last (target_line st) o x ≡ accept next → TargetTaken
  unfolding target_line
  target-taken none c e = absurd (refused-not 3 next e)
  target-taken (some l) c e = go l.target refl e
    where
      go : (t : Target) → l.target ≡ t → target_line st l t x ≡ accept next → TargetTaken
      go nowhere h e = absurd (refused-not 3 next e)
      go missing h e = record { last = l; current = c; missing = h; is = accepted-is e }
      go (parts n m) h e = absurd (refused-not 3 next e)

  part-taken : (o : Option Stored) → st.current ≡ o → of_last (part_line st) o x ≡ accept next → PartTaken
  unfolding part_line
  part-taken none c e = absurd (refused-not 3 next e)
  part-taken (some l) c e = go l.target refl e
    where
      go : (t : Target) → l.target ≡ t → part_line st l t x ≡ accept next → PartTaken
      go nowhere h e = absurd (refused-not 3 next e)
      go missing h e = absurd (refused-not 3 next e)
      go (parts zero m) h e = absurd (refused-not 3 next e)
      go (parts (suc n) m) h e =
          let h₄ = not-refused (not (allowed st.schema x.a x.bytes)) 4 _ next e in
          record { last = l; current = c; due = n; read = m; target = h; allowed = is_true_lem (allowed st.schema x.a x.bytes) h₄.0; is = accepted-is h₄.1 }

  module _ (top : ℕ) where
    pub data Taken : Type 0 where
      of_type : TypeLine top x → TypeTaken → Taken
      of_entry : EntryLine x → EntryTaken → Taken
      of_value : PairLine 3 x → ValueTaken → Taken
      of_target : TargetLine x → TargetTaken → Taken
      of_part : PairLine 9 x → PartTaken → Taken

    pub step-form : step top st x ≡ accept next → in_form (directory_forms top) x ≡ true
    unfolding step
    step-form e = is_true_lem (in_form (directory_forms top) x) (not-refused (not (in_form (directory_forms top) x)) 2 _ next e).0

    pub step-taken : step top st x ≡ accept next → Taken
    unfolding step
    step-taken e = go (directory-line top x (step-form e)) (not-refused (not (in_form (directory_forms top) x)) 2 _ next e).1
      where
        by_kind : ℕ → Type 0
        by_kind k =
            cond (eqb k 1) (type_line st x)
            (cond (eqb k 2) (entry_line st x)
            (cond (eqb k 3) (value_line st st.current x)
            (cond (eqb k 36) (of_last (target_line st) st.current x)
            (of_last (part_line st) st.current x))))
            ≡ accept next

        go : DirectoryLine top x → by_kind x.kind → Taken
        go (is_type f) h = of_type f (type-taken (subst by_kind f.kind h))
        go (is_entry f) h = of_entry f (entry-taken (subst by_kind f.kind h))
        go (is_value f) h = of_value f (value_taken st.current refl (subst by_kind f.kind h))
        go (is_target f) h = of_target f (target-taken st.current refl (subst by_kind f.kind h))
        go (is_part f) h = of_part f (part-taken st.current refl (subst by_kind f.kind h))

-- what an accepted end tells
pub finished : (st : Reading) (d : Directory.Directory) → finish st ≡ accept d → (lacks_target st.current ≡ false) × (record { schema = st.schema; entries = entries_of st } ≡ d)
unfolding finish
finished st d e =
    let h₆ = not-refused (lacks_naming st.schema st.current) 6 _ d e in
    let h₃ = not-refused (lacks_target st.current) 3 _ d h₆.1 in
    (h₃.0, accepted-is h₃.1)

-- an accepted sheet, line by line
pub accepted-run : (f : Format) (s : Bytes) (d : Directory.Directory) → directory_of f s ≡ accept d → Run (step f.top) finish nothing (lines f.width s) d
unfolding directory_of
accepted-run f s d e = fold-run (step f.top) finish 2 (lines f.width s) nothing d (not-refused (ltb 65536 (length s)) 1 _ d e).1
