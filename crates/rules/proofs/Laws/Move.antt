-- Laws of `Move` (#109): the moved sheet holds the same directory, and so there and back gives the same bytes.
use Rattle.std.specs.Prelude.{ℕ, suc, ◌≤◌, ◌<◌, ◌^◌, ◌≡◌, Bool, false, ◌||◌, ltb, length}
use Rattle.std.proofs.Common.{arith, ◌∙◌, ltb-false, le-ltb}
use Rattle.std.proofs.Math.Path.{sym, ap, ap₂}
use Rattle.rules.specs.Sheet.{Bytes, Sheet, end, rows, lines, print}
use Rattle.rules.specs.declared.Format.{Format}
use Rattle.rules.specs.Columns.{directory_forms}
use Rattle.rules.specs.Judge.{Verdict, accept, refuse_if, then, fold}
use Rattle.rules.specs.Directory.{Directory, step, finish, nothing, directory_of, directory_lines}
use Rattle.rules.specs.Move.{beyond, spills, moved}
use Rattle.rules.proofs.Laws.Tests.{or-none}
use Rattle.rules.proofs.Laws.Judge.{accepted-is, not-refused, then-accepts}
use Rattle.rules.proofs.Laws.Sheet.{each_rows, printed}
use Rattle.rules.specs.Derived.{Each}
use Rattle.rules.proofs.Laws.Each.{each_map, each_both}
use Rattle.rules.proofs.Laws.DirectoryLines.{accepted-lines, accepted-back}
use Rattle.rules.proofs.Laws.Forms.{directory-forms}
use Rattle.rules.proofs.Laws.Low.{Low, low-fit, low-type, accepted-types, accepted-low}
use Rattle.rules.proofs.Laws.SameForms.{Same, fold_same}

-- what a move that is not refused tells
record Moved (from to : Format) (s t : Bytes) (room : ℕ) : Type 0 where
  directory : Directory
  accepted : directory_of from s ≡ accept directory
  low : beyond to.top directory.schema ≡ false
  held : ltb room (length t) ≡ false
  short : ltb 65536 (length t) ≡ false
  sheet : print to.width (directory_lines directory) ≡ t

taken : (from to : Format) (s t : Bytes) (room : ℕ) → moved from to s room ≡ accept t → Moved from to s t room
unfolding moved spills
taken from to s t room e =
    let (d, a, r) = then-accepts (directory_of from s) _ t e in
    let b = not-refused (beyond to.top d.schema) 35 _ t r in
    let c = not-refused (spills room (print to.width (directory_lines d))) 36 _ t b.1 in
    let is : print to.width (directory_lines d) ≡ t = accepted-is c.1 in
    let l = or-none (ltb room (length t)) (ltb 65536 (length t)) (sym (ap (spills room) is) ∙ c.0) in
    record { directory = d; accepted = a; low = b.0; held = l.0; short = l.1; sheet = is }

-- the moved sheet fits the lent buffer
pub moved-fits : (from to : Format) (s t : Bytes) (room : ℕ) → moved from to s room ≡ accept t → length t ≤ room
moved-fits from to s t room e = ltb-false room (length t) (taken from to s t room e).held

-- between two forms, of which the second holds its types in its columns
module _ (from : Format) (some : 256 ≤ from.top) (w top : ℕ) (enough : 256 ≤ top) (fits : top < 10 ^ suc w) where
  abbrev to : Format
  to = record { width = suc w; top = top }

  -- a sheet's lines are in form in either, and fit the columns: the moved sheet holds what the first did
  same-directory : (s t : Bytes) (room : ℕ) (m : Moved from to s t room) → directory_of to t ≡ accept m.directory
  unfolding directory_of
  same-directory s t room m =
      let d = m.directory in
      let old : Each (Low from.top) (directory_lines d) = accepted-low from s d m.accepted from.top some (accepted-types from s d m.accepted) in
      let new : Each (Low top) (directory_lines d) = accepted-low from s d m.accepted top enough m.low in
      let same : Each (Same (directory_forms from.top) (directory_forms top)) (directory_lines d) =
      each_map (λ x. Low from.top x × Low top x) (Same (directory_forms from.top) (directory_forms top))
      (λ x l. directory-forms x from.top top (low-type from.top x l.0) (low-type top x l.1)) (directory_lines d) (each_both (Low from.top) (Low top) (directory_lines d) old new) in
      let read : lines (suc w) t ≡ rows (directory_lines d) end = ap (lines (suc w)) (sym m.sheet) ∙ printed w (directory_lines d) (low-fit top (suc w) (omega arith) fits (directory_lines d) new) in
      ap₂ (λ (b : Bool) (x : Sheet). refuse_if b 1 (fold (step top) finish 2 nothing x)) m.short read
      ∙ sym (fold_same from.top top (rows (directory_lines d) end) nothing (each_rows _ (directory_lines d) same))
      ∙ ap (fold (step from.top) finish 2 nothing) (sym (accepted-lines from s d m.accepted))
      ∙ (not-refused (ltb 65536 (length s)) 1 (fold (step from.top) finish 2 nothing (lines from.width s)) d m.accepted).1

  pub move-accepted : (s t : Bytes) (room : ℕ) (d : Directory) → moved from to s room ≡ accept t → directory_of from s ≡ accept d → directory_of to t ≡ accept d
  move-accepted s t room d p q = let m = taken from to s t room p in same-directory s t room m ∙ ap accept (accepted-is (sym m.accepted ∙ q))

  pub there_and_back : (s t u : Bytes) (there back : ℕ) → moved from to s there ≡ accept t → moved to from t back ≡ accept u → u ≡ s
  there_and_back s t u there back p q =
      let m = taken from to s t there p in
      let n = taken to from t u back q in
      let same : n.directory ≡ m.directory = accepted-is (sym n.accepted ∙ same-directory s t there m) in
      sym n.sheet ∙ ap (λ (d : Directory). print from.width (directory_lines d)) same ∙ accepted-back from s m.directory m.accepted

  -- back into every buffer that holds the first sheet
  pub moved_back : (s t : Bytes) (there back : ℕ) → moved from to s there ≡ accept t → length s ≤ back → moved to from t back ≡ accept s
  unfolding moved spills directory_of
  moved_back s t there back p l =
      let m = taken from to s t there p in
      ap (λ (v : Verdict Directory). then v returned) (same-directory s t there m)
      ∙ ap₂ (λ (b : Bool) (bs : Bytes). refuse_if b 35 (fitted bs)) (accepted-types from s m.directory m.accepted) (accepted-back from s m.directory m.accepted)
      ∙ ap₂ (λ (x y : Bool). refuse_if (x || y) 36 (accept s)) (le-ltb back (length s) l) (not-refused (ltb 65536 (length s)) 1 _ m.directory m.accepted).0
    where
      fitted : Bytes → Verdict Bytes
      fitted bs = refuse_if (spills back bs) 36 (accept bs)

      returned : Directory → Verdict Bytes
      returned d = refuse_if (beyond from.top d.schema) 35 (fitted (print from.width (directory_lines d)))
