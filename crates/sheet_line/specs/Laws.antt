-- Laws of `Line`: a line that was taken is the first of the lines from its position on, and fits the sheet.
use Rattle.std.specs.Prelude.{ℕ, ◌+◌, ◌*◌, ◌≤◌, ◌≡◌, length, drop}
use Rattle.std.proofs.Math.Path.{refl}
use Rattle.std.proofs.Common.{sym, ◌∙◌, arith, length-drop, drop-drop, length-take-le}
use Rattle.rules.specs.Sheet.{Bytes, Sheet, end, broken, row, front_of, line_size}
use Rattle.rules.specs.Places.{lines_at}
use Rattle.rules.proofs.Laws.Sheet.{lines-taken, lines-broken, lines_end, taken-fits}
use Rattle.rules.specs.declared.Front.{Front}
use Rattle.sheet_line.specs.declared.Line.{Line}
use Rattle.sheet_line.specs.declared.Taken.{Taken}
use Rattle.sheet_line.specs.Line.{place_of, taken_by, taken_at, bytes_of, line_of}

-- the lines from a position on, by what was taken there
abbrev pub lines_by : ℕ → Bytes → Taken → Sheet
lines_by w s (Taken.Line x) = row (line_of s x) (lines_at w s x.next)
lines_by w s Taken.NotInForm = broken
lines_by w s Taken.End = end

-- a line of `l` bytes at the position `at`, where it fits the sheet
pub record LineFits (w : ℕ) (s : Bytes) (at : ℕ) (x : Line) : Type 0 where
  pub place : x.place ≡ place_of w at
  pub next : x.next ≡ x.place + x.length + 1
  pub short : x.length ≤ 64
  pub within : x.next ≤ length s

module _ (w : ℕ) (s : Bytes) (at : ℕ) where
  by_front_lem : (f : Front) → front_of w (drop at s) ≡ f → lines_at w s at ≡ lines_by w s (taken_by w at f)
  by_front_lem (Front.Taken k a b c l) e =
      let n : at + line_size w l ≡ place_of w at + l + 1 = omega arith in
      lines-taken w s at e ∙ rw (drop-drop (5 * w) at s, n)
  by_front_lem Front.NotInForm e = lines-broken w s at e
  by_front_lem Front.End e = lines_end w s at e

  pub taken-lines : lines_at w s at ≡ lines_by w s (taken_at w s at)
  unfolding taken_at
  taken-lines = by_front_lem (front_of w (drop at s)) refl

  fits-front : (f : Front) → front_of w (drop at s) ≡ f → {x : Line} → taken_by w at f ≡ Taken.Line x → LineFits w s at x
  fits-front (Front.Taken k a b c l) e {x} p =
      let h = taken-fits w s at e in
      let m : l ≡ x.length = cc in
      let i : place_of w at ≡ x.place = cc in
      let n : place_of w at + l + 1 ≡ x.next = cc in
      record { place = sym i; next = omega arith; short = omega (arith, h.0); within = omega (arith, h.1) }
  fits-front Front.NotInForm e p = absurd (let z : ◌≡◌ {A = ℕ} 0 1 = cc in omega arith)
  fits-front Front.End e p = absurd (let z : ◌≡◌ {A = ℕ} 0 1 = cc in omega arith)

  pub taken-fits-line : {x : Line} → taken_at w s at ≡ Taken.Line x → LineFits w s at x
  unfolding taken_at
  taken-fits-line e = fits-front (front_of w (drop at s)) refl e

pub bytes-length : (w : ℕ) (s : Bytes) (at : ℕ) {x : Line} → LineFits w s at x → length (bytes_of s x) ≡ x.length
bytes-length w s at {x} f = length-take-le x.length (drop x.place s) (rw length-drop (omega (arith, f.place, f.next, f.within)))
