-- Laws of `Sets`: a digest is in the rows of its slots.
use Rattle.std.specs.Prelude.{ℕ, ◌≡◌, refl, Bool, true, false, ◌||◌, eqb}
use Rattle.std.proofs.Common.{sym, ap, eq-eqb}
use Rattle.tables.specs.Sets.{first_slot, second_slot, slotted}

pub slotted-first : (d e : ℕ) → d ≡ e → slotted d (first_slot e) ≡ true
unfolding slotted
slotted-first d e p = rw (eq-eqb (first_slot e) (first_slot d) (ap first_slot (sym p)))

pub slotted-second : (d e : ℕ) → d ≡ e → slotted d (second_slot e) ≡ true
unfolding slotted
slotted-second d e p = rw (eq-eqb (second_slot e) (second_slot d) (ap second_slot (sym p))) (either (eqb (second_slot e) (first_slot d)))
  where
    either : (b : Bool) → (b || true) ≡ true
    either true = refl
    either false = refl
