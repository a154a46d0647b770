-- The end of a sheet, where items are due: it is behind the last byte, and nowhere before.
use Rattle.std.specs.Prelude.{ℕ, ◌+◌, ◌*◌, ◌≤◌, ◌<◌, ◌≡◌, refl, Bool, true, false, cond, eqb, ltb, leb, length, get_or, drop, Some, None}
use Rattle.std.proofs.Common.{sym, ◌∙◌, arith, length-drop}
use Rattle.std.proofs.Math.Decide.{dec_lt}
use Rattle.rules.specs.Sheet.{Bytes, whole, front_of}
use Rattle.rules.specs.Judge.{Verdict, accept, at_end}
use Rattle.rules.specs.Places.{lines_at}
use Rattle.rules.proofs.Laws.Sheet.{front-short, front-whole, front-past, lines-taken, lines-broken, lines_end}
use Rattle.rules.specs.Sheet.{Column}
use Rattle.rules.specs.declared.Front.{Front}
use Rattle.rules.specs.declared.Front.TheVariants.{Taken, NotInForm, End}

not-malformed : NotInForm ≡ End → ⊥
not-malformed e = let z : ◌≡◌ {A = ℕ} 0 1 = cc in omega arith

whole_open : (w : ℕ) (s : Bytes) (f₀ f₁ f₂ f₃ f₄ : Column) → whole w s f₀ f₁ f₂ f₃ f₄ ≡ End → ⊥
unfolding whole
whole_open w s None f₁ f₂ f₃ f₄ e = not-malformed e
whole_open w s (Some k) None f₂ f₃ f₄ e = not-malformed e
whole_open w s (Some k) (Some a) None f₃ f₄ e = not-malformed e
whole_open w s (Some k) (Some a) (Some b) None f₄ e = not-malformed e
whole_open w s (Some k) (Some a) (Some b) (Some c) None e = not-malformed e
whole_open w s (Some k) (Some a) (Some b) (Some c) (Some l) e = go (leb l 64) (ltb (5 * w + l) (length s)) (eqb (get_or s (5 * w + l) 0) 10) e
  where
    go : (t₁ t₂ t₃ : Bool) → cond t₁ (cond t₂ (cond t₃ (Taken k a b c l) NotInForm) NotInForm) NotInForm ≡ End → ⊥
    go true true true e = let z : ◌≡◌ {A = ℕ} 0 1 = cc in omega arith
    go true true false e = not-malformed e
    go true false t₃ e = not-malformed e
    go false t₂ t₃ e = not-malformed e

front-open : (w : ℕ) (s : Bytes) → (length s ≡ 0 → ⊥) → front_of w s ≡ End → ⊥
front-open w s n e = go (dec_lt (length s) (5 * w))
  where
    go : Dec (length s < 5 * w) → ⊥
    go (yes h) = not-malformed (sym (front-short w s n h) ∙ e)
    go (no h) = whole_open w s _ _ _ _ _ (sym (front-whole w s n (omega arith)) ∙ e)

-- within the sheet there is no end
pub not-at-end : {A : Type 0} (w : ℕ) (p : Bytes) (at : ℕ) (a : A) (v : Verdict A) → at < length p → at_end a (lines_at w p at) v ≡ v
not-at-end w p at a v h = go (front_of w (drop at p)) refl
  where
    go : (f : Front) → front_of w (drop at p) ≡ f → at_end a (lines_at w p at) v ≡ v
    go (Taken k a b c l) q = rw (lines-taken w p at q)
    go NotInForm q = rw (lines-broken w p at q)
    go End q = absurd (front-open w (drop at p) (λ e. omega (arith, length-drop at p)) q)

pub at-end : {A : Type 0} (w : ℕ) (p : Bytes) (at : ℕ) (a : A) (v : Verdict A) → length p ≤ at → at_end a (lines_at w p at) v ≡ accept a
at-end w p at a v h = rw (lines_end w p at (front-past w p at h))
