-- What was taken is no line where its arm of a match was not gone.
use Prim.Native.Nat.{ℕ, ◌<◌}
use mathlib.Core.Path.{◌≡◌, refl, subst}
use mathlib.Core.List.{[], ◌∷◌}
use types.Run.{OneOf, miss}
use denote.Enum.Declared.{tag_of}
use Rattle.rules.specs.Sheet.{Bytes}
use Rattle.rules.specs.Places.{lines_at, parts_of}
use Rattle.sheet_line.specs.Line.{taken_at}
use Rattle.sheet_line.specs.declared.Line.{Line}
use Rattle.sheet_line.specs.declared.Taken.{Taken}
use Rattle.sheet_line.specs.contracts.Taken.{the_type}
use Rattle.directory_lookup.specs.Laws.Names.{parts-by}

not_line : (y : Line) → OneOf (1 ∷ (2 ∷ [])) (tag_of the_type (Taken.Line y)) → ⊥
not_line y h = miss (1 ∷ (2 ∷ [])) 0 tt h

-- then a name has no part there
pub no-parts-else : (w : ℕ) (s : Bytes) (i n : ℕ) → 0 < n → (x : Taken) → taken_at w s i ≡ x → ((y : Line) → x ≡ Taken.Line y → ⊥) → parts_of n (lines_at w s i) ≡ []
no-parts-else w s i n h (Taken.Line y) e k = absurd (k y refl)
no-parts-else w s i n h Taken.NotInForm e k = parts-by w s i n h Taken.NotInForm e
no-parts-else w s i n h Taken.End e k = parts-by w s i n h Taken.End e

-- the same, where it is said of the tag
pub no-parts : (w : ℕ) (s : Bytes) (i n : ℕ) → 0 < n → (x : Taken) → taken_at w s i ≡ x → OneOf (1 ∷ (2 ∷ [])) (tag_of the_type x) → parts_of n (lines_at w s i) ≡ []
no-parts w s i n h x e k = no-parts-else w s i n h x e (λ y q. not_line y (subst (λ (z : Taken). OneOf (1 ∷ (2 ∷ [])) (tag_of the_type z)) q k))
