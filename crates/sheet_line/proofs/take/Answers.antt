-- What stands at the front decides; a line that was taken fits the sheet, so that the positions in it do not wrap.
use Prim.Native.Nat.{ℕ, ◌+◌, ◌≤◌}
use mathlib.Core.Path.{◌≡◌, sym, ◌∙◌}
use lib.ListN.{length, drop}
use native.Mathlib.Omega.{arith}
use Rattle.rules.specs.Sheet.{Bytes, line_size, front_of}
use Rattle.rules.specs.declared.Front.{Front}
use Rattle.rules.proofs.Laws.Sheet.{taken-fits}
use Rattle.sheet_line.specs.Line.{taken_at}
use Rattle.sheet_line.proofs.take.Goals as goal

-- a line that was taken fits the sheet
fits : (w : ℕ) (s : Bytes) (at : ℕ) (x : Front) {k a b c l : ℕ} → x ≡ front_of w (drop at s) → x ≡ Front.Taken k a b c l → at + line_size w l ≤ length s
fits w s at x e q = (taken-fits w s at (sym e ∙ q)).1

pub place-place-requires : goal.place-place-requires
place-place-requires c = omega (arith, fits c.args.w c.args.s.now c.args.at _ c.front_at.ensures c.in-Taken.is)

pub after-requires : goal.after-requires
after-requires c = omega (arith, c.place-place.ensures, fits c.args.w c.args.s.now c.args.at _ c.front_at.ensures c.in-Taken.is)

pub returns-in-Taken : goal.returns-in-Taken
unfolding taken_at
returns-in-Taken c = rw (sym c.front_at.ensures ∙ c.in-Taken.is, c.after.ensures, c.place-place.ensures)

pub returns-in-NotInForm : goal.returns-in-NotInForm
unfolding taken_at
returns-in-NotInForm c = rw (sym c.front_at.ensures ∙ c.in-NotInForm.is)

pub returns-in-End : goal.returns-in-End
unfolding taken_at
returns-in-End c = rw (sym c.front_at.ensures ∙ c.in-End.is)
