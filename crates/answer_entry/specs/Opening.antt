-- How an operation opens the entry that is asked for, by its number and the permission that it needs.
use Rattle.std.specs.Prelude.{ℕ, cond, List}
use Rattle.rules.specs.Directory.{Stored}
use Rattle.rules.specs.Permission.{DiscloseOnError}
use Rattle.rules.specs.Decision.{Setting, entry}
use Rattle.tables.specs.Sets.{granted_at}
use Rattle.rules.specs.declared.Outcome.{Outcome}
use Rattle.rules.specs.declared.Outcome.TheVariants.{Result, NoSuchObject, InsufficientAccessRights, NoSuchAttributeOrValue, InvalidAttributeSyntax, AliasProblem}
use Rattle.tables.specs.declared.plan.Plan.{Plan}
use Rattle.tables.specs.Outcome.{absent_plan, refused_plan}

-- "read and compare need Read on the entry; without it, 2 if DiscloseOnError is granted, else 1"
unfoldable pub opening_at : Setting → List Stored → ℕ → ℕ → Outcome
opening_at σ es e q = cond (granted_at σ es e entry q) Result (cond (granted_at σ es e entry DiscloseOnError) InsufficientAccessRights NoSuchObject)

-- the plan where the entry is not open
abbrev pub withheld_plan : ℕ → Outcome → ℕ → Plan
withheld_plan op Result missing = refused_plan op Result
withheld_plan op NoSuchObject missing = absent_plan op missing
withheld_plan op InsufficientAccessRights missing = refused_plan op InsufficientAccessRights
withheld_plan op NoSuchAttributeOrValue missing = refused_plan op NoSuchAttributeOrValue
withheld_plan op InvalidAttributeSyntax missing = refused_plan op InvalidAttributeSyntax
withheld_plan op AliasProblem missing = refused_plan op AliasProblem
