-- A move by what was noted of the sheet: the types of the schema as numbers, and its lines.
use Rattle.std.specs.Prelude.{ℕ, ◌+◌, ◌/◌, ◌<◌, ◌≤◌, ◌≡◌, refl, Bool, true, false, ◌||◌, List, [], ◌∷◌, ltb, length, get_or, drop}
use Rattle.std.specs.List.{list_any}
use Rattle.std.proofs.Common.{sym, ap, ◌∙◌, arith, add-one}
use Rattle.std.proofs.Math.ListN.{drop_of_length-le}
use Rattle.std.proofs.Math.Seq.{drop-cons}
use borrow.Author.Tests.{lt-ltb, le-ltb, ltb-false}
use Rattle.rules.specs.Sheet.{Bytes, Line, end, rows, print}
use Rattle.rules.specs.declared.Format.{Format}
use Rattle.rules.specs.Name.{Schema}
use Rattle.rules.specs.Judge.{Verdict, accept, refuse}
use Rattle.rules.specs.Directory.{Directory, directory_of, directory_lines}
use Rattle.rules.specs.Places.{attribute_of, schema_of}
use Rattle.rules.specs.Move.{beyond, spills, moved}
use Rattle.rules.proofs.Laws.DirectoryLines.{accepted-lines}
use Rattle.rules.proofs.Laws.Judge.{not-refused}
use Rattle.rules.proofs.Laws.Theorems.{refused-type, refused-length}
use Rattle.rules.specs.Derived.{put_at}
use Rattle.answer_reply.specs.Reply.{reply_of, left_of, Replies}
use Rattle.directory_move.specs.Rewritten.{lines_of, rewritten_from}

module _ (ks : List ℕ) (top i : ℕ) where
  -- a type above, or one that is not
  pub beyond-here : i < length ks → top < get_or ks i 0 / 4 → beyond top (schema_of (drop i ks)) ≡ true
  unfolding beyond schema_of attribute_of
  beyond-here h g = rw (drop-cons ks i 0, lt-ltb top (get_or ks i 0 / 4) g)

  pub beyond-on : i < length ks → get_or ks i 0 / 4 ≤ top → beyond top (schema_of (drop i ks)) ≡ beyond top (schema_of (drop (i + 1) ks))
  unfolding beyond schema_of attribute_of
  beyond-on h g = rw (add-one, drop-cons ks i 0, le-ltb top (get_or ks i 0 / 4) g)

  pub beyond-end : length ks ≤ i → beyond top (schema_of (drop i ks)) ≡ false
  unfolding beyond schema_of
  beyond-end h = rw drop_of_length-le

-- a type above, of types as numbers
pub beyond-any : (top : ℕ) (ks : List ℕ) → beyond top (schema_of ks) ≡ list_any (λ k. ltb top (k / 4)) ks
unfolding beyond schema_of attribute_of
beyond-any top [] = refl
beyond-any top (k ∷ ks) = ap (λ (b : Bool). ltb top (k / 4) || b) (unfold beyond in unfold schema_of in beyond-any top ks)

lines_rows : (ls : List Line) → lines_of (rows ls end) ≡ ls
lines_rows [] = refl
lines_rows (x ∷ ls) = ap (λ (l : List Line). x ∷ l) (lines_rows ls)

-- an accepted sheet's lines are its directory's
pub rewritten-whole : (f : Format) (v : ℕ) (s : Bytes) (d : Directory) → directory_of f s ≡ accept d → rewritten_from f.width v s 0 ≡ print v (directory_lines d)
unfolding rewritten_from
rewritten-whole f v s d e = ap (print v) (ap lines_of (accepted-lines f s d e) ∙ lines_rows (directory_lines d))

pub accepted-length : (f : Format) (s : Bytes) (d : Directory) → directory_of f s ≡ accept d → length s ≤ 65536
unfolding directory_of
accepted-length f s d e = ltb-false 65536 (length s) (not-refused _ 1 _ d e).0

-- by the schema that was noted, and the length that was measured
module _ (from to : Format) (s : Bytes) (room : ℕ) (d : Directory) (e : directory_of from s ≡ accept d) {S : Schema} (k : S ≡ d.schema) where
  pub type-refused : beyond to.top S ≡ true → moved from to s room ≡ refuse 35
  type-refused h = refused-type from to s room d e (ap (beyond to.top) (sym k) ∙ h)

  module _ (low : beyond to.top S ≡ false) {n : ℕ} (m : n ≡ length (rewritten_from from.width to.width s 0)) where
    all-low : beyond to.top d.schema ≡ false
    all-low = ap (beyond to.top) (sym k) ∙ low

    measured : n ≡ length (print to.width (directory_lines d))
    measured = m ∙ ap length (rewritten-whole from to.width s d e)

    pub room-refused : room < n → moved from to s room ≡ refuse 36
    room-refused h = refused-length from to s room d e all-low (unfold spills in rw (lt-ltb room (length (print to.width (directory_lines d))) (omega (arith, h, measured))))

    pub length-refused : n ≤ room → 65536 < n → moved from to s room ≡ refuse 36
    length-refused h g = refused-length from to s room d e all-low (unfold spills in rw (le-ltb room (length (print to.width (directory_lines d))) (omega (arith, h, measured)), lt-ltb 65536 (length (print to.width (directory_lines d))) (omega (arith, g, measured))))

    pub moved-whole : n ≤ room → n ≤ 65536 → moved from to s room ≡ accept (rewritten_from from.width to.width s 0)
    unfolding moved spills
    moved-whole h g = rw (e, all-low, le-ltb room (length (print to.width (directory_lines d))) (omega (arith, h, measured)), le-ltb 65536 (length (print to.width (directory_lines d))) (omega (arith, g, measured)), rewritten-whole from to.width s d e)

-- the whole in its buffer
pub replies-moved : {v : Verdict Bytes} {bs out after : Bytes} {n : ℕ} → v ≡ accept bs → n ≡ length bs → after ≡ put_at out 0 bs → Replies v out (record { refusal = 0; length = n }) after
unfolding reply_of left_of put_at
replies-moved {bs = bs} {out = out} e m p =
    let z : 0 + length bs ≡ length bs = omega arith in
    record { reply = rw (e, m); left = rw e (p ∙ rw z) }
