-- Laws of `Pieces`: the turns of the code's loop, and that the rules read the same pieces.
use Prim.Native.Nat.{ℕ, zero, suc, ◌+◌, ◌-◌, ◌≤◌, ◌<◌}
use Rattle.std.specs.Prelude.{◌≡◌, Bool, ◌&&◌, ◌||◌, not, List, [], ◌∷◌, eqb}
use Rattle.std.proofs.Math.Path.{refl}
use Rattle.std.proofs.Common.{sym, ◌∙◌}
use Rattle.std.proofs.Math.Bool.{true, false, cond}
use Rattle.std.proofs.Math.Numerals.{sub-one}
use native.Mathlib.Omega.{arith}
use borrow.Author.Tests.{ne_eqb, eqb-true}
use Rattle.rules.specs.Sheet.{Bytes, Line, Sheet}
use Rattle.rules.specs.Value.{Piece}
use Rattle.rules.specs.Judge.{Verdict, refuse, refuse_if, Grammar, misplaced}
use Rattle.rules.specs.Request.{filter_line, pieces}
use Rattle.rules.specs.Places.{lines_at}
use Rattle.sheet_line.specs.Line.{line_of}
use Rattle.sheet_line.specs.declared.Line as Sheets
use Rattle.sheet_due.specs.Lines.{seen_at}
use Rattle.sheet_due.specs.Laws.Lines.{on_seen, by-seen}
use Rattle.sheet_due.specs.declared.Seen.{Seen}
use Rattle.request_piece.specs.Progress.{Progress}
use Rattle.request_piece.specs.Progress.{Read}
use Rattle.request_piece.specs.Pieces.{in_place, on_step, piece_at, piece_by, pieces_at}

-- ---- one turn of a loop

module _ (G : Grammar) (w : ℕ) (q : Bytes) (first : Bool) (pos left : ℕ) where
  pub pieces-on : (n : ℕ) → 0 < n → {next room : ℕ} → piece_at G w q first (n - 1) pos left ≡ Read next room
      → pieces_at G w q first n pos left ≡ pieces_at G w q false (n - 1) next room
  unfolding pieces_at
  pieces-on zero h e = absurd (omega arith)
  pieces-on (suc n) h e = rw (sub-one, rw sub-one at e)

  pub pieces-stop : (n : ℕ) → 0 < n → {number : ℕ} → piece_at G w q first (n - 1) pos left ≡ Progress.Refused number → pieces_at G w q first n pos left ≡ Progress.Refused number
  unfolding pieces_at
  pieces-stop zero h e = absurd (omega arith)
  pieces-stop (suc n) h e = rw (rw sub-one at e)

  pub pieces_none : (n : ℕ) → n ≤ 0 → pieces_at G w q first n pos left ≡ Read pos left
  unfolding pieces_at
  pieces_none n h = let z : n ≡ 0 = omega arith in rw z

-- ---- what the rules read

-- what the rules read, as `reader` hands it on, by what the code does; a refusal is never 0
abbrev pub Follows : {X : Type 0} → ℕ → Bytes → ((A : Type 0) → (X → ℕ → Sheet → Verdict A) → Verdict A) → Progress → Type 1
Follows {X} w q reader (Read next left) = (x : X) × ((A : Type 0) (k : X → ℕ → Sheet → Verdict A) → reader A k ≡ k x left (lines_at w q next))
Follows {X} w q reader (Progress.Refused n) = (n ≡ 0 → ⊥) × ((A : Type 0) (k : X → ℕ → Sheet → Verdict A) → reader A k ≡ refuse n)

module _ {X : Type 0} (w : ℕ) (q : Bytes) where
  -- another reader that does the same
  pub follows_by : (reader reader' : (A : Type 0) → (X → ℕ → Sheet → Verdict A) → Verdict A)
      → ((A : Type 0) (k : X → ℕ → Sheet → Verdict A) → reader' A k ≡ reader A k) → (st : Progress) → Follows w q reader st → Follows w q reader' st
  follows_by reader reader' e (Read next left) f = (f.0, λ A k. e A k ∙ f.1 A k)
  follows_by reader reader' e (Progress.Refused n) f = (f.0, λ A k. e A k ∙ f.1 A k)

module _ {X Y : Type 0} (w : ℕ) (q : Bytes) where
  -- something made of what was read
  pub follows-map : (make : X → Y) → (reader : (A : Type 0) → (X → ℕ → Sheet → Verdict A) → Verdict A) → (st : Progress) → Follows w q reader st
      → Follows w q (λ A k. reader A (λ x. k (make x))) st
  follows-map make reader (Read next left) f = (make f.0, λ A k. f.1 A (λ x. k (make x)))
  follows-map make reader (Progress.Refused n) f = (f.0, λ A k. f.1 A (λ x. k (make x)))

  -- something read after it
  pub follows_then : (reader : (A : Type 0) → (X → ℕ → Sheet → Verdict A) → Verdict A) (K : (A : Type 0) → (Y → ℕ → Sheet → Verdict A) → X → ℕ → Sheet → Verdict A)
      → (go : ℕ → ℕ → Progress) → ((x : X) (next left : ℕ) → Follows w q (λ A k. K A k x left (lines_at w q next)) (go next left))
      → (st : Progress) → Follows w q reader st → Follows w q (λ A k. reader A (K A k)) (on_step st go)
  follows_then reader K go h (Read next left) f =
      follows_by w q (λ A k. K A k f.0 left (lines_at w q next)) (λ A k. reader A (K A k)) (λ A k. f.1 A (K A k)) (go next left) (h f.0 next left)
  follows_then reader K go h (Progress.Refused n) f = (f.0, λ A k. f.1 A (K A k))

-- a line of a filter, by what is seen
module _ {A : Type 0} (G : Grammar) (w : ℕ) (q : Bytes) (at : ℕ) (next : ℕ → Line → Sheet → Verdict A) where
  pub filter-line-at : (left : ℕ) → filter_line G left (lines_at w q at) next
      ≡ on_seen w q (refuse (G.refusals + 3)) (refuse (G.refusals + 2)) (λ x rest. cond (eqb left 0) (refuse (G.refusals + 3)) (next (left - 1) x rest)) (seen_at G.forms w q at)
  unfolding filter_line misplaced
  filter-line-at zero = by-seen G.forms w q at (λ s. filter_line G zero s next) (refuse (G.refusals + 3)) (refuse (G.refusals + 2)) (λ x rest. refuse (G.refusals + 3)) refl refl (λ x rest e. rw e) (λ x rest e. rw e)
  filter-line-at (suc left) =
      by-seen G.forms w q at (λ s. filter_line G (suc left) s next) (refuse (G.refusals + 3)) (refuse (G.refusals + 2)) (λ x rest. cond (eqb (suc left) 0) (refuse (G.refusals + 3)) (next (suc left - 1) x rest))
      refl refl (λ x rest e. rw e) (λ x rest e. rw (e, ne_eqb (suc left) 0 (λ z. omega arith), sub-one))

-- ---- pieces

-- a piece from its line
abbrev piece_line : Line → Piece
piece_line x = record { place = x.a; bytes = x.bytes }

-- the rules' test of a piece is the code's
piece-test : (k a after : ℕ) (first : Bool) → eqb k 28 ≡ true
    → (not (eqb k 28) || (eqb a 0 && not first || eqb a 2 && not (eqb after 0))) ≡ not (in_place a first after)
piece-test k a after first e = rw e (by (eqb a 0) refl (eqb a 2) refl first)
  where
    by : (t : Bool) → eqb a 0 ≡ t → (u : Bool) → eqb a 2 ≡ u → (first : Bool) → (t && not first || u && not (eqb after 0)) ≡ not (cond t first (cond u (eqb after 0) true))
    by true e true f first = absurd (let z : 0 ≡ 2 = sym (eqb-true a 0 e) ∙ eqb-true a 2 f in omega arith)
    by true e false f true = refl
    by true e false f false = refl
    by false e true f first = refl
    by false e false f first = refl

-- how the rules read pieces
abbrev pub pieces_reader : Grammar → ℕ → Bytes → Bool → ℕ → ℕ → ℕ → (A : Type 0) → (List Piece → ℕ → Sheet → Verdict A) → Verdict A
pieces_reader G w q first n at left A k = pieces G first n left (lines_at w q at) k

-- a piece and what follows it, `n` pieces
unfoldable after_piece : Grammar → Bool → ℕ → (A : Type 0) → (List Piece → ℕ → Sheet → Verdict A) → ℕ → Line → Sheet → Verdict A
after_piece G first n A k left x rest =
    refuse_if (not (eqb x.kind 28) || (eqb x.a 0 && not first || eqb x.a 2 && not (eqb n 0))) (G.refusals + 3) (pieces G false n left rest λ ps. k (piece_line x ∷ ps))

module _ (G : Grammar) (w : ℕ) (q : Bytes) where
  module _ (first : Bool) (n at : ℕ) (rest : (at left : ℕ) → Follows w q (pieces_reader G w q false n at left) (pieces_at G w q false n at left)) where
    piece-one : (left : ℕ) (x : Sheets.Line) (t : Bool) → eqb x.kind 28 ≡ t → (u : Bool) → in_place x.a first n ≡ u
        → Follows w q (λ A f. after_piece G first n A f left (line_of q x) (lines_at w q x.next))
        (on_step (cond t (cond u (Read x.next left) (Progress.Refused (G.refusals + 3))) (Progress.Refused (G.refusals + 3))) (pieces_at G w q false n))
    unfolding after_piece
    piece-one left x true f true g =
        follows_by w q (λ A m. pieces_reader G w q false n x.next left A (λ ps. m (piece_line (line_of q x) ∷ ps)))
        (λ A m. after_piece G first n A m left (line_of q x) (lines_at w q x.next)) (λ A m. rw (piece-test x.kind x.a n first f, g))
        (pieces_at G w q false n x.next left)
        (follows-map w q (λ ps. piece_line (line_of q x) ∷ ps) (pieces_reader G w q false n x.next left) (pieces_at G w q false n x.next left) (rest x.next left))
    piece-one left x true f false g = (λ z. omega arith, λ A m. rw (piece-test x.kind x.a n first f, g))
    piece-one left x false f u g = (λ z. omega arith, λ A m. rw f)

    piece-seen : (left : ℕ) (x : Seen) (t : Bool) → eqb left 0 ≡ t
        → Follows w q (λ A f. on_seen w q (refuse (G.refusals + 3)) (refuse (G.refusals + 2)) (λ x rest. cond (eqb left 0) (refuse (G.refusals + 3)) (after_piece G first n A f (left - 1) x rest)) x)
        (on_step (piece_by G.refusals first n left x) (pieces_at G w q false n))
    piece-seen left (Seen.Line x) true z = rw z (λ y. omega arith, λ A m. refl)
    piece-seen left (Seen.Line x) false z = rw z (piece-one (left - 1) x (eqb x.kind 28) refl (in_place x.a first n) refl)
    piece-seen left Seen.NotAllowed t z = (λ y. omega arith, λ A m. refl)
    piece-seen left Seen.Missing t z = (λ y. omega arith, λ A m. refl)

  -- pieces from a position on, by what the code does
  pub pieces-follow : (first : Bool) (n at left : ℕ) → Follows w q (pieces_reader G w q first n at left) (pieces_at G w q first n at left)
  unfolding pieces pieces_at piece_at after_piece
  pieces-follow first zero at left = ([], λ A k. refl)
  pieces-follow first (suc n) at left =
      follows_by w q
      (λ A f. on_seen w q (refuse (G.refusals + 3)) (refuse (G.refusals + 2)) (λ x rest. cond (eqb left 0) (refuse (G.refusals + 3)) (after_piece G first n A f (left - 1) x rest)) (seen_at G.forms w q at))
      (pieces_reader G w q first (suc n) at left)
      (λ A k. filter-line-at G w q at (after_piece G first n A k) left)
      (on_step (piece_at G w q first n at left) (pieces_at G w q false n))
      (piece-seen first n at (pieces-follow false n) left (seen_at G.forms w q at) (eqb left 0) refl)
