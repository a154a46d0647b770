-- Where the code has found no line, none was taken: what the tag of a `Taken` tells.
use mathlib.Core.Path.{◌≡◌, subst}
use mathlib.Core.List.{[], ◌∷◌}
use types.Run.{OneOf, miss}
use denote.Enum.Declared.{tag_of}
use Rattle.sheet_line.specs.declared.Line.{Line}
use Rattle.sheet_line.specs.declared.Taken.{Taken}
use Rattle.sheet_line.specs.contracts.Taken.{the_type}

pub not_line : (t : Taken) → OneOf (1 ∷ (2 ∷ [])) (tag_of the_type t) → (x : Line) → t ≡ Taken.Line x → ⊥
not_line t h x e = miss (1 ∷ (2 ∷ [])) 0 tt (subst (λ (y : Taken). OneOf (1 ∷ (2 ∷ [])) (tag_of the_type y)) e h)
