-- What the covers are made of: which entries each item is for, the order of the items, and the entries' parents.
use Rattle.std.specs.Prelude.{ℕ, ◌≤◌, ◌<◌, ◌≡◌, List, map, length, get_or, take}
use Rattle.rules.specs.Directory.{Stored, blank}
use Rattle.rules.specs.Decision.{Setting}
use Rattle.rules.specs.Derived.{Ranked, Accepted}
use Rattle.tables.specs.Numbers.{reach_of}

-- of the setting's items and the accepted entries `es`
pub record Sources (σ : Setting) (es : List Stored) (reach order parents : List ℕ) : Type 0 where
  pub accepted : Accepted σ.schema es
  pub few : length es ≤ 256
  pub few-items : length σ.items ≤ 256
  pub reach-is : take (length σ.items) reach ≡ map (reach_of σ es) σ.items
  pub ranked : Ranked σ.items order
  pub count : length order ≡ length σ.items
  pub parents-noted : length parents ≡ length es
  pub parent : (k : ℕ) → k < length es → get_or parents k 0 ≡ (get_or es k blank).parent
