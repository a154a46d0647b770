-- The plans of an answer without entries: "no such object" with the matched name, and the other outcomes but success.
use Rattle.std.specs.Prelude.{ℕ, Bool, true, false}
use Rattle.rules.specs.declared.Outcome.{Outcome}
use Rattle.rules.specs.declared.Outcome.TheVariants.{Result, NoSuchObject, InsufficientAccessRights, NoSuchAttributeOrValue, InvalidAttributeSyntax, AliasProblem}
use Rattle.tables.specs.declared.plan.Plan.{Plan}

abbrev pub is_result : Outcome → Bool
is_result Result = true
is_result NoSuchObject = false
is_result InsufficientAccessRights = false
is_result NoSuchAttributeOrValue = false
is_result InvalidAttributeSyntax = false
is_result AliasProblem = false

-- `missing` being the number of the entry with the matched name
abbrev pub absent_plan : ℕ → ℕ → Plan
absent_plan op missing = record { operation = op; outcome = NoSuchObject; more = 0; name = missing; entry = 0; equal = 0; shown = 0 }

-- an outcome without lines after it
abbrev pub refused_plan : ℕ → Outcome → Plan
refused_plan op o = record { operation = op; outcome = o; more = 0; name = 0; entry = 0; equal = 0; shown = 0 }
