-- Laws of the pieces of a substrings item, a line at a time: one for each way through a loop over their rows.
use Prim.Native.Nat.{ℕ, zero, suc, ◌+◌, ◌-◌, ◌≤◌, ◌<◌}
use Rattle.std.specs.Prelude.{◌≡◌, Bool, not, length, take, drop, Some, None}
use Rattle.std.proofs.Math.Path.{refl, sym, ap}
use Rattle.std.proofs.Common.{◌∙◌, length-take}
use Rattle.std.proofs.Math.Bool.{true, false, cond}
use mathlib.Core.List.{List, [], ◌∷◌, map}
use Rattle.std.proofs.Math.Decide.{dec_lt}
use native.Mathlib.Omega.{arith}
use Rattle.std.proofs.Math.Seq.{take_all}
use Rattle.rules.specs.Lists.{all}
use Rattle.rules.specs.Sheet.{Bytes, Line, Sheet, end, broken, row}
use Rattle.rules.specs.Value.{Piece, text, tidied, folded, normal, fits, used, matches, normal_piece, contains}
use Rattle.rules.specs.Places.{lines_at}
use Rattle.rules.specs.Derived.{compared}
use Rattle.rules.proofs.Laws.Substrings.{matches-on, matches-off}
use Rattle.rules.proofs.Laws.Blanks.{tidied-length}
use Rattle.value_blank.specs.declared.Text.{Text}
use Rattle.value_blank.specs.Blank.{is_tidy, text_of}
use Rattle.value_blank.specs.Laws.Blank.{tidy-tidied}
use Rattle.value_blank.specs.Laws.Text.{text-bytes}
use Rattle.tables.specs.FilterLines.{pieces_of, after_lines}
use Rattle.filter_lines.specs.Lines.{LinesNoted, position_at, column_a, value_place, next_position, line_value, pieces_in, pieces_stand, lesser}
use Rattle.filter_lines.specs.Laws.Lines.{row-lines}

pub not-true : (b : Bool) → not b ≡ true → b ≡ false
not-true true e = sym e
not-true false e = refl

pub not-false : (b : Bool) → not b ≡ false → b ≡ true
not-false true e = refl
not-false false e = sym e

-- ---- the first line

-- the sheet has no line
module _ {s : Sheet} (b : Bool) (e : s ≡ cond b broken end) where
  skip_stop : (n : ℕ) → after_lines n s ≡ s
  unfolding after_lines
  skip_stop n = ap (after_lines n) e ∙ go n b ∙ sym e
    where
      go : (n : ℕ) (b : Bool) → after_lines n (cond b broken end) ≡ cond b broken end
      go zero b = refl
      go (suc n) true = refl
      go (suc n) false = refl

  pieces-stop : (n : ℕ) → pieces_of n s ≡ []
  unfolding pieces_of
  pieces-stop n = ap (pieces_of n) e ∙ go n b
    where
      go : (n : ℕ) (b : Bool) → pieces_of n (cond b broken end) ≡ []
      go zero b = refl
      go (suc n) true = refl
      go (suc n) false = refl

skip-done : (s : Sheet) → after_lines 0 s ≡ s
unfolding after_lines
skip-done s = refl

pieces_none : (s : Sheet) (n : ℕ) → n ≤ 0 → pieces_of n s ≡ []
unfolding pieces_of
pieces_none s zero h = refl
pieces_none s (suc n) h = absurd (omega arith)

-- the sheet begins with the line `x`
module _ {s : Sheet} {x : Line} {rest : Sheet} (e : s ≡ row x rest) where
  skip-on : (n : ℕ) → after_lines (suc n) s ≡ after_lines n rest
  unfolding after_lines
  skip-on n = ap (after_lines (suc n)) e

  pieces-on : (n : ℕ) → 0 < n → pieces_of n s ≡ record { place = x.a; bytes = x.bytes } ∷ pieces_of (n - 1) rest
  unfolding pieces_of
  pieces-on zero h = absurd (omega arith)
  pieces-on (suc n) h = let z : suc n - 1 ≡ n = omega arith in rw z (ap (pieces_of (suc n)) e)

-- ---- how many pieces there are

lesser-none : (n m : ℕ) → n ≤ 0 → lesser n m ≡ 0
unfolding lesser
lesser-none zero m h = refl
lesser-none (suc n) m h = absurd (omega arith)

lesser-over : (n lines j : ℕ) → lines ≤ j → lesser n (lines - j) ≡ 0
unfolding lesser
lesser-over zero lines j h = refl
lesser-over (suc n) lines j h = let z : lines - j ≡ 0 = omega arith in rw z

lesser-on : (n lines j : ℕ) → j < lines → 0 < n → lesser n (lines - j) ≡ suc (lesser (n - 1) (lines - (j + 1)))
unfolding lesser
lesser-on zero lines j h l = absurd (omega arith)
lesser-on (suc n) lines j h l =
    let z : lines - j ≡ suc (lines - (j + 1)) = omega arith in
    let y : suc n - 1 ≡ n = omega arith in
    rw (z, y)

pub lesser-first : (n m : ℕ) → n ≤ m → lesser n m ≡ n
unfolding lesser
lesser-first zero m h = refl
lesser-first (suc n) zero h = absurd (omega (arith, h))
lesser-first (suc n) (suc m) h = ap suc (lesser-first n m (omega (arith, h)))

pub lesser-second : (n m : ℕ) → m ≤ n → lesser n m ≡ m
unfolding lesser
lesser-second zero m h = omega (arith, h)
lesser-second (suc n) zero h = refl
lesser-second (suc n) (suc m) h = ap suc (lesser-second n m (omega (arith, h)))

-- ---- row by row

pub value-short : (q : Bytes) (rows : List ℕ) (k : ℕ) → next_position rows k ≤ value_place rows k + 65 → length (line_value q rows k) ≤ 64
value-short q rows k h = simp length-take (omega arith)

module _ (q : Bytes) (rows : List ℕ) (lines : ℕ) where
  -- the pieces from row `j` on
  abbrev pub pieces_from : ℕ → ℕ → List Piece
  pieces_from j n = pieces_in q rows j (lesser n (lines - j))

  module _ (j n : ℕ) where
    pub from-none : n ≤ 0 → pieces_from j n ≡ []
    unfolding pieces_in
    from-none h = rw (lesser-none n (lines - j) h)

    pub from-over : lines ≤ j → pieces_from j n ≡ []
    unfolding pieces_in
    from-over h = rw (lesser-over n lines j h)

    pub from_on : j < lines → 0 < n → (v : Bytes) → v ≡ line_value q rows j → pieces_from j n ≡ record { place = column_a rows j; bytes = v } ∷ pieces_from (j + 1) (n - 1)
    unfolding pieces_in
    from_on l m v e = rw (lesser-on n lines j l m, e)

  -- the same up to the line `last`
  module _ (j last : ℕ) where
    pub span-on : j < last → (v : Bytes) → v ≡ line_value q rows j → pieces_in q rows j (last - j) ≡ record { place = column_a rows j; bytes = v } ∷ pieces_in q rows (j + 1) (last - (j + 1))
    unfolding pieces_in
    span-on l v e = let z : last - j ≡ suc (last - (j + 1)) = omega (arith, l) in rw (z, e)

    pub span_end : last ≤ j → pieces_in q rows j (last - j) ≡ []
    unfolding pieces_in
    span_end l = let z : last - j ≡ 0 = omega (arith, l) in rw z

-- all pieces fit
abbrev pub all_fit : ℕ → List Piece → Bool
all_fit syntax ps = all (λ (p : Piece). fits syntax p.bytes) ps

module _ (syntax : ℕ) {ps : List Piece} (p : Piece) (rest : List Piece) (e : ps ≡ p ∷ rest) where
  pub fit-lost : fits syntax p.bytes ≡ false → all_fit syntax ps ≡ false
  fit-lost f = rw (e, f)

  pub fit_on : fits syntax p.bytes ≡ true → all_fit syntax ps ≡ all_fit syntax rest
  fit_on f = rw (e, f)

-- all pieces stand in a text without stray blanks, from a place on
abbrev pub stand_from : Bytes → ℕ → List Piece → Bool
stand_from v from ps = matches (map (compared text) ps) (drop from (folded text v))

-- the text is the value itself, or the value with the blanks that count
module _ (v : Bytes) (ps : List Piece) where
  pub stand-tidy : is_tidy v ≡ true → pieces_stand v ps ≡ contains text ps v
  unfolding contains normal pieces_stand
  stand-tidy e = rw (tidy-tidied v e)

  pub stand-tidied : (t : Text) → t ≡ text_of (take 64 (tidied v)) → length v ≤ 64 → pieces_stand (take (t.length - 0) t.bytes) ps ≡ contains text ps v
  unfolding contains normal pieces_stand
  stand-tidied t e h = rw (text-bytes t (take 64 (tidied v)) e, take_all 64 (tidied v) (tidied-length v 64 (omega arith) h).1)

pub stand-none : (v : Bytes) (from : ℕ) {ps : List Piece} → ps ≡ [] → stand_from v from ps ≡ true
unfolding matches
stand-none v from e = rw e

module _ (v : Bytes) (from : ℕ) {ps : List Piece} (p : Piece) (rest : List Piece) (e : ps ≡ p ∷ rest) where
  pub stand-lost : used p.place (normal_piece text p.bytes) (drop from (folded text v)) ≡ None → stand_from v from ps ≡ false
  stand-lost f = ap (stand_from v from) e ∙ matches-off (compared text p) (map (compared text) rest) (folded text v) from f

  pub stand-on : (x : ℕ) → used p.place (normal_piece text p.bytes) (drop from (folded text v)) ≡ Some x → stand_from v from ps ≡ stand_from v (from + x) rest
  stand-on x f = ap (stand_from v from) e ∙ matches-on (compared text p) (map (compared text) rest) (folded text v) from x f

module _ {w : ℕ} {q : Bytes} {rows : List ℕ} {lines : ℕ} (h : LinesNoted w q rows lines) where
  abbrev at : ℕ → Sheet
  at k = lines_at w q (position_at rows k)

  -- the lines after `n` rows
  pub skip-within : (n k : ℕ) → k + n ≤ lines → after_lines n (at k) ≡ at (k + n)
  skip-within zero k l = skip-done (at k) ∙ ap at (omega arith)
  skip-within (suc n) k l = skip-on (row-lines (h.line k (omega (arith, l)))) n ∙ skip-within n (k + 1) (omega (arith, l)) ∙ ap at (omega arith)

  pub skip-beyond : (n k : ℕ) → k ≤ lines → lines ≤ k + n → after_lines n (at k) ≡ at lines
  skip-beyond zero k l m = skip-done (at k) ∙ ap at (omega (arith, l, m))
  skip-beyond (suc n) k l m = go (dec_lt k lines) (λ x. skip-beyond n (k + 1) (omega (arith, x)) (omega (arith, m)))
    where
      go : Dec (k < lines) → (k < lines → after_lines n (at (k + 1)) ≡ at lines) → after_lines (suc n) (at k) ≡ at lines
      go (yes x) ih = skip-on (row-lines (h.line k x)) n ∙ ih x
      go (no x) ih = let z : k ≡ lines = omega (arith, l, x) in ap (λ (y : ℕ). after_lines (suc n) (at y)) z ∙ skip_stop h.unread h.ends (suc n)

  -- the pieces of the lines are those of the rows
  pub pieces_are : (n k : ℕ) → k ≤ lines → pieces_of n (at k) ≡ pieces_from q rows lines k n
  pieces_are zero k l = pieces_none (at k) 0 (omega arith) ∙ sym (from-none q rows lines k 0 (omega arith))
  pieces_are (suc n) k l = go (dec_lt k lines) (λ x. pieces_are n (k + 1) (omega (arith, x)))
    where
      go : Dec (k < lines) → (k < lines → pieces_of n (at (k + 1)) ≡ pieces_from q rows lines (k + 1) n) → pieces_of (suc n) (at k) ≡ pieces_from q rows lines k (suc n)
      go (yes x) ih =
          let z : suc n - 1 ≡ n = omega arith in
          pieces-on (row-lines (h.line k x)) (suc n) (omega arith)
          ∙ rw z (ap (λ (ps : List Piece). record { place = column_a rows k; bytes = line_value q rows k } ∷ ps) (ih x))
          ∙ sym (rw z at (from_on q rows lines k (suc n) x (omega arith) (line_value q rows k) refl))
      go (no x) ih =
          let z : k ≡ lines = omega (arith, l, x) in
          ap (λ (y : ℕ). pieces_of (suc n) (at y)) z ∙ pieces-stop h.unread h.ends (suc n) ∙ sym (from-over q rows lines k (suc n) (omega (arith, z)))
