-- Compare: the outcome for an open entry, the values that count, and the plan.
use Rattle.std.specs.Prelude.{ℕ, Bool, ◌&&◌, cond, eqb}
use Rattle.rules.specs.Sheet.{Bytes, bit}
use Rattle.rules.specs.Name.{Part, Name, allowed, equal}
use Rattle.rules.specs.Directory.{Entry}
use Rattle.rules.specs.Permission.{DiscloseOnError, Compare}
use Rattle.rules.specs.Decision.{Setting, of_type, of_value, granted}
use Rattle.rules.specs.FilterItem.{holds}
use Rattle.rules.specs.declared.Outcome.{Outcome}
use Rattle.rules.specs.declared.Outcome.TheVariants.{Result, InsufficientAccessRights, NoSuchAttributeOrValue, InvalidAttributeSyntax}
use Rattle.tables.specs.declared.plan.Plan.{Plan}

-- "if Compare on the type is refused, 2 if the type is held and has DiscloseOnError, else 3; not held, 3; value outside the syntax, 4"; else a result
unfoldable pub compare_outcome : Setting → ℕ → Bytes → Entry → Outcome
compare_outcome σ t v e =
    cond (granted σ e.name (of_type t) Compare)
    (cond (holds e t) (cond (allowed σ.schema t v) Result InvalidAttributeSyntax) NoSuchAttributeOrValue)
    (cond (holds e t && granted σ e.name (of_type t) DiscloseOnError) InsufficientAccessRights NoSuchAttributeOrValue)

-- the same of an entry named `n` that holds the type
unfoldable pub held_outcome : Setting → ℕ → Bytes → Name → Outcome
held_outcome σ t v n =
    cond (granted σ n (of_type t) Compare)
    (cond (allowed σ.schema t v) Result InvalidAttributeSyntax)
    (cond (granted σ n (of_type t) DiscloseOnError) InsufficientAccessRights NoSuchAttributeOrValue)

-- a value of the type `t`, with Compare granted, equal to `v`
unfoldable pub counts : Setting → Name → ℕ → Bytes → Part → Bool
counts σ n t v u = eqb u.type t && (granted σ n (of_value u.type u.value) Compare && equal σ.schema t v u.value)

-- K 31: whether a value is equal
abbrev pub compare_plan : Bool → Plan
compare_plan b = record { operation = 2; outcome = Result; more = 0; name = 0; entry = 0; equal = bit b; shown = 0 }
