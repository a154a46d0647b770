-- Where no item may stand, the refusal is that of a line that begins an item, or 13 for such a line itself.
use Rattle.std.specs.Prelude.{ℕ, ◌≡◌, refl, Bool, true, false, cond, eqb}
use Rattle.std.proofs.Common.{sym, ap, ◌∙◌, eqb-true, eq-eqb, ne_eqb}
use Rattle.rules.specs.Sheet.{Bytes}
use Rattle.rules.specs.Columns.{permission_forms}
use Rattle.rules.specs.Name.{Schema}
use Rattle.rules.specs.Permission.{sound_item, permission_grammar}
use Rattle.sheet_line.specs.Line.{line_of}
use Rattle.sheet_line.specs.declared.Line.{Line}
use Rattle.sheet_due.specs.declared.Seen.{Seen}
use Rattle.sheet_due.specs.Outcomes.{Due}
use Rattle.sheet_due.specs.Lines.{seen_at, misplaced_by, reached_at, not_due, found_due, due_by, due_at}

-- a refusal, or 13 where there is none
abbrev or13 : ℕ → ℕ
or13 n = cond (eqb n 0) 13 n

module _ (top : ℕ) (S : Schema) (w : ℕ) (p : Bytes) where
  -- an item's first line has nothing that the schema could refuse
  item-sound : (x : Line) → x.kind ≡ 4 → sound_item S (line_of p x) ≡ true
  unfolding sound_item
  item-sound x e = rw e

  by_kind : (x : Line) (b : Bool) → eqb x.kind 4 ≡ b → 13 ≡ or13 (cond b (cond (sound_item S (line_of p x)) (found_due x) (not_due 14)) (not_due 13)).refusal
  by_kind x true e = rw (item-sound x (eqb-true _ 4 e))
  by_kind x false e = refl

  by-seen : (x : Seen) → misplaced_by 10 x ≡ or13 (due_by (permission_grammar top S) w p 4 x).refusal
  by-seen (Seen.Line x) = by_kind x (eqb x.kind 4) refl
  by-seen Seen.NotAllowed = refl
  by-seen Seen.Missing = refl

  module _ (at : ℕ) {d : Due} (e : d ≡ due_at (permission_grammar top S) w p (reached_at at) 4) where
    due-seen : d ≡ due_by (permission_grammar top S) w p 4 (seen_at (permission_forms top) w p at)
    unfolding due_at
    due-seen = e

    misplaced-due : misplaced_by 10 (seen_at (permission_forms top) w p at) ≡ or13 d.refusal
    misplaced-due = by-seen (seen_at (permission_forms top) w p at) ∙ ap (λ (x : Due). or13 x.refusal) (sym due-seen)

    pub misplaced-refused : (d.refusal ≡ 0 → ⊥) → d.refusal ≡ misplaced_by 10 (seen_at (permission_forms top) w p at)
    misplaced-refused n = sym (misplaced-due ∙ rw (ne_eqb _ 0 n))

    pub misplaced-item : d.refusal ≡ 0 → 13 ≡ misplaced_by 10 (seen_at (permission_forms top) w p at)
    misplaced-item z = sym (misplaced-due ∙ rw (eq-eqb _ 0 z))
