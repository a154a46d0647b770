-- Which entries list and search may return, by the permissions on an entry alone, and the plan of those that were found.
use Rattle.std.specs.Prelude.{ℕ, Bool, ◌&&◌, ◌||◌, cond, List, eqb, ltb}
use Rattle.rules.specs.Directory.{Stored}
use Rattle.rules.specs.Permission.{Read, Browse, ReturnDN}
use Rattle.rules.specs.Decision.{Setting, entry}
use Rattle.tables.specs.Sets.{granted_at}
use Rattle.rules.specs.declared.Outcome.TheVariants.{Result}
use Rattle.tables.specs.declared.plan.Plan.{Plan}
use Rattle.tables.specs.Outcome.{absent_plan}

module _ (σ : Setting) (es : List Stored) where
  -- "Browse (for the base Browse or Read)" on entry number `e`
  unfoldable pub browsable_at : ℕ → Bool → Bool
  browsable_at e base = granted_at σ es e entry Browse || base && granted_at σ es e entry Read

  -- the entry may be returned: with ReturnDN too
  unfoldable pub returnable_at : ℕ → Bool → Bool
  returnable_at e base = browsable_at e base && granted_at σ es e entry ReturnDN

-- success, with the lines of the first `shown` hits
abbrev pub success_plan : ℕ → ℕ → ℕ → Plan
success_plan op more shown = record { operation = op; outcome = Result; more = more; name = 0; entry = 0; equal = 0; shown = shown }

-- `count` hits within the size limit; 0 is none
unfoldable pub limited_plan : ℕ → ℕ → ℕ → Plan
limited_plan op limit count = cond (eqb limit 0) (success_plan op 0 count) (cond (ltb limit count) (success_plan op 1 limit) (success_plan op 0 count))

-- nothing to return is "no such object" unless the base is disclosed
unfoldable pub returned_plan : ℕ → ℕ → Bool → ℕ → ℕ → Plan
returned_plan op missing disclosed limit count = cond disclosed (limited_plan op limit count) (cond (eqb count 0) (absent_plan op missing) (limited_plan op limit count))
