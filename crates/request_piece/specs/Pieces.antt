-- The pieces of a substrings item by positions of the sheet, as the code reads them. They are over a grammar of the rules; its refusals are `n` and 2 or 3.
use Rattle.std.specs.Prelude.{ℕ, zero, suc, ◌+◌, ◌-◌, Bool, true, false, cond, eqb}
use Rattle.rules.specs.Sheet.{Bytes}
use Rattle.rules.specs.Judge.{Grammar}
use Rattle.sheet_line.specs.declared.Line.{Line}
use Rattle.sheet_due.specs.Lines.{seen_at}
use Rattle.sheet_due.specs.declared.Seen.{Seen}
use Rattle.request_piece.specs.Progress.{Progress}
use Rattle.request_piece.specs.Progress.{Read}

-- what follows, or the refusal
abbrev pub on_step : Progress → (ℕ → ℕ → Progress) → Progress
on_step (Read next left) go = go next left
on_step (Progress.Refused n) go = Progress.Refused n

-- "initial only first, final only last": a piece of place `a` with `after` pieces after it
abbrev pub in_place : ℕ → Bool → ℕ → Bool
in_place a first after = cond (eqb a 0) first (cond (eqb a 2) (eqb after 0) true)

-- by the kind of a line where a piece is due
abbrev pub piece_of : ℕ → Bool → ℕ → ℕ → Line → Progress
piece_of n first after left x = cond (eqb x.kind 28) (cond (in_place x.a first after) (Read x.next left) (Progress.Refused (n + 3))) (Progress.Refused (n + 3))

-- a piece, where `left` more lines are allowed
abbrev pub piece_by : ℕ → Bool → ℕ → ℕ → Seen → Progress
piece_by n first after left (Seen.Line x) = cond (eqb left 0) (Progress.Refused (n + 3)) (piece_of n first after (left - 1) x)
piece_by n first after left Seen.NotAllowed = Progress.Refused (n + 2)
piece_by n first after left Seen.Missing = Progress.Refused (n + 3)

module _ (G : Grammar) (w : ℕ) (q : Bytes) where
  -- a piece at the position `at`, with `after` pieces after it
  unfoldable pub piece_at : Bool → ℕ → ℕ → ℕ → Progress
  piece_at first after at left = piece_by G.refusals first after left (seen_at G.forms w q at)

  -- `n` pieces from the position `at` on
  unfoldable pub pieces_at : Bool → ℕ → ℕ → ℕ → Progress
  pieces_at first zero at left = Read at left
  pieces_at first (suc n) at left = on_step (piece_at first n at left) (pieces_at false n)
