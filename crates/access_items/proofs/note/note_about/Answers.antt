use Prim.Native.Nat.{ℕ}
use mathlib.Core.Path.{ap₂, ◌∙◌}
use mathlib.Core.List.{List}
use Rattle.access_items.specs.Mark.{marked}
use Rattle.access_items.specs.Note.{about_noted}
use Rattle.access_items.proofs.note.note_about.Goals as goal

pub returns : goal.returns
unfolding about_noted
returns c =
    let A = c.args in
    c.mark-3.ensures
    ∙ ap₂ (λ (t : List ℕ) (r : ℕ). marked t r A.place 1)
    (c.mark-2.ensures ∙ ap₂ (λ (t : List ℕ) (r : ℕ). marked t r A.place 1) c.mark.ensures c.first_slot.ensures)
    c.second_slot.ensures
