-- Read: whether anything is left to return of an open entry, the outcome, and the plan.
use Rattle.std.specs.Prelude.{ℕ, ◌+◌, Bool, ◌&&◌, ◌||◌, not, cond}
use Rattle.rules.specs.Lists.{any, is_empty}
use Rattle.rules.specs.Name.{Part, Name}
use Rattle.rules.specs.Directory.{Entry}
use Rattle.rules.specs.Permission.{Read, DiscloseOnError}
use Rattle.rules.specs.Decision.{Setting, of_type, of_value, granted}
use Rattle.rules.specs.Request.{Selection}
use Rattle.rules.specs.Answer.{selected, information}
use Rattle.rules.specs.declared.Outcome.{Outcome}
use Rattle.rules.specs.declared.Outcome.TheVariants.{Result, InsufficientAccessRights, NoSuchAttributeOrValue}
use Rattle.tables.specs.declared.plan.Plan.{Plan}

module _ (σ : Setting) (s : Selection) (n : Name) where
  -- a value for which something is returned: its type is selected, with Read, and, if values are wanted, it has Read itself
  unfoldable pub readable : Part → Bool
  readable v = (selected s v.type && granted σ n (of_type v.type) Read) && (not s.values || granted σ n (of_value v.type v.value) Read)

  -- the type is selected, with DiscloseOnError
  unfoldable pub disclosing : ℕ → Bool
  disclosing t = selected s t && granted σ n (of_type t) DiscloseOnError

-- an empty list of types is asked for
abbrev pub asks_nothing : Selection → Bool
asks_nothing s = s.listed && is_empty s.types

-- "if nothing is left: an empty type list succeeds; otherwise 2 if a selected held type has DiscloseOnError, else 3"
unfoldable pub read_outcome : Setting → Selection → Entry → Outcome
read_outcome σ s e =
    cond (is_empty (information σ s e) && not (asks_nothing s))
    (cond (any (λ h. disclosing σ s e.name h.type) e.held) InsufficientAccessRights NoSuchAttributeOrValue)
    Result

-- the entry of index `k`, its name printed or not
abbrev pub read_plan : ℕ → Bool → Plan
read_plan k b = record { operation = 1; outcome = Result; more = 0; name = cond b (k + 1) 0; entry = k + 1; equal = 0; shown = 0 }
