-- Tests: what a Bool that came out true or false tells.
use Rattle.std.specs.Prelude.{ℕ, ◌≡◌, refl, Bool, true, false, ◌&&◌, ◌||◌, not, cond, eqb}
use Rattle.std.proofs.Common.{sym, ap, ◌∙◌, true≢false, eq-eqb}
use Rattle.std.proofs.lemmas.Bool.{false≢true}

pub contra : (a b : Bool) → (a ≡ true → b ≡ true) → b ≡ false → a ≡ false
contra true b h e = absurd (true≢false (sym (h refl) ∙ e))
contra false b h e = refl

pub and_left : (a b : Bool) → (a && b) ≡ true → a ≡ true
and_left true b e = refl
and_left false b e = absurd (false≢true e)

pub and_right : (a b : Bool) → (a && b) ≡ true → b ≡ true
and_right true b e = e
and_right false b e = absurd (false≢true e)

pub both : (a b : Bool) → a ≡ true → b ≡ true → (a && b) ≡ true
both true b e h = h
both false b e h = absurd (false≢true e)

-- the second part counts only where the first passes
pub and-cong : (a b c : Bool) → (a ≡ true → b ≡ c) → (a && b) ≡ (a && c)
and-cong true b c h = h refl
and-cong false b c h = refl

-- the first part counts only where the second passes
pub and-cong-left : (a b c : Bool) → (b ≡ true → a ≡ c) → (a && b) ≡ (c && b)
and-cong-left a true c h = ap (λ (x : Bool). x && true) (h refl)
and-cong-left true false true h = refl
and-cong-left true false false h = refl
and-cong-left false false true h = refl
and-cong-left false false false h = refl

pub or_right : (a b : Bool) → b ≡ true → (a || b) ≡ true
or_right true b e = refl
or_right false b e = e

pub cond-cong {ℓ} : {A : Type ℓ} (b : Bool) {x x' y y' : A} → (b ≡ true → x ≡ x') → (b ≡ false → y ≡ y') → cond b x y ≡ cond b x' y'
cond-cong true h k = h refl
cond-cong false h k = k refl

pub bool-ext : (a b : Bool) → (a ≡ true → b ≡ true) → (b ≡ true → a ≡ true) → a ≡ b
bool-ext true b h k = sym (h refl)
bool-ext false true h k = k refl
bool-ext false false h k = refl

pub not-of : (b : Bool) → (b ≡ true → ⊥) → not b ≡ true
not-of true h = absurd (h refl)
not-of false h = refl

pub of-not : (b : Bool) → not b ≡ true → b ≡ true → ⊥
of-not true e h = false≢true e
of-not false e h = false≢true h

pub eqb_same : (a : ℕ) → eqb a a ≡ true
eqb_same a = eq-eqb a a refl

pub is_true_lem : (b : Bool) → not b ≡ false → b ≡ true
is_true_lem true e = refl
is_true_lem false e = absurd (true≢false e)

pub or-none : (a b : Bool) → (a || b) ≡ false → (a ≡ false) × (b ≡ false)
or-none true b e = absurd (true≢false e)
or-none false b e = (refl, e)
