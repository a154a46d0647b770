-- Laws of `Outcome`: the lines of these plans, and that they are sound.
use Rattle.std.specs.Prelude.{ℕ, ◌≤◌, ◌≡◌}
use Rattle.std.proofs.Common.{zero-le, arith}
use Rattle.std.proofs.Math.Path.{refl, ap}
use mathlib.Core.List.{List, [], ◌∷◌, map}
use Rattle.rules.specs.Name.{Name}
use Rattle.rules.specs.Directory.{Stored, entry_of}
use Rattle.rules.specs.Decision.{Setting}
use Rattle.rules.specs.Request.{Selection}
use Rattle.rules.specs.declared.Outcome.{Outcome}
use Rattle.rules.specs.declared.Outcome.TheVariants.{Result, NoSuchObject, InsufficientAccessRights, NoSuchAttributeOrValue, InvalidAttributeSyntax, AliasProblem}
use Rattle.rules.specs.Judge.{name_lines}
use Rattle.rules.specs.Answer.{outcome_number, outcome, no_such_object}
use Rattle.rules.specs.Sheet.{line}
use Rattle.rules.specs.Value.{Found}
use Rattle.tables.specs.Plan.{planned}
use Rattle.tables.specs.Sound.{Base, SoundPlan}
use Rattle.tables.specs.Outcome.{absent_plan, refused_plan}

module _ (σ : Setting) (es : List Stored) (s : Selection) (hits : List ℕ) (op : ℕ) where
  pub absent-planned : (n : Name) (base : Found) (missing : ℕ) → Base σ es n base missing → planned σ es s (absent_plan op missing) hits ≡ no_such_object σ (map entry_of es) op n
  unfolding planned no_such_object outcome
  absent-planned n base missing h = ap (λ (m : Name). line 30 op 1 0 [] ∷ name_lines m) h.matched

  pub refused-planned : (o : Outcome) → 2 ≤ outcome_number o → planned σ es s (refused_plan op o) hits ≡ outcome op o
  unfolding planned outcome
  refused-planned Result l = absurd (omega (arith, l))
  refused-planned NoSuchObject l = absurd (omega (arith, l))
  refused-planned InsufficientAccessRights l = refl
  refused-planned NoSuchAttributeOrValue l = refl
  refused-planned InvalidAttributeSyntax l = refl
  refused-planned AliasProblem l = refl

-- they are sound
module _ (count : ℕ) (hits : List ℕ) (op : ℕ) where
  pub absent-sound : (missing : ℕ) → missing ≤ count → SoundPlan count (absent_plan op missing) hits
  absent-sound missing l = record { name = l; entry = zero-le; shown = zero-le; hits = λ i m. absurd (omega (arith, m)) }

  pub refused-sound : (o : Outcome) → SoundPlan count (refused_plan op o) hits
  refused-sound o = record { name = zero-le; entry = zero-le; shown = zero-le; hits = λ i m. absurd (omega (arith, m)) }
