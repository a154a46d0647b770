-- Laws of what "and" and "or" start from.
use Rattle.std.specs.Prelude.{ℕ, zero, suc, ◌≡◌, refl}
use Rattle.tables.specs.FilterLines.{start_in}
use Rattle.rules.specs.declared.Edition.TheVariants.{FirstEdition}
use Rattle.rules.specs.declared.Truth.{Truth}
use Rattle.rules.specs.declared.Truth.TheVariants.{Undefined}

-- the first edition starts undefined where there are parts
pub start-some : (t : Truth) (n : ℕ) → (n ≡ 0 → ⊥) → Undefined ≡ start_in FirstEdition t n
start-some t zero h = absurd (h refl)
start-some t (suc n) h = refl
