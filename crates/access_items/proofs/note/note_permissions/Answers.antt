use Prim.Native.Nat.{ℕ, ◌+◌, ◌/◌, ◌%◌, ◌^◌}
use mathlib.Core.Path.{refl, sym, ap, ◌∙◌}
use native.Mathlib.Numerals.{add-one}
use mathlib.Core.List.{List}
use Rattle.tables.specs.Sets.{permission_row}
use Rattle.access_items.specs.Mark.{marked}
use Rattle.access_items.specs.Note.{permitted}
use Rattle.access_items.proofs.note.note_permissions.Goals as goal

pub loop-b-init : goal.loop-b-init
unfolding permitted
loop-b-init c = refl

pub loop-b-preserved : goal.loop-b-preserved
unfolding permitted
loop-b-preserved c = let L = c.loop-b in let A = c.args in c.mark.ensures ∙ ap (λ (t : List ℕ). marked t (permission_row + L.b) A.place (A.mask / 2 ^ L.b % 2)) L.invariant ∙ ap (λ (n : ℕ). permitted n A.mask A.place A.sets.now) (sym (add-one L.b))
