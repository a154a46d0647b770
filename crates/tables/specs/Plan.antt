-- What a plan stands for: the lines of the answer, from the numbers of its entries.
use Rattle.std.specs.Prelude.{ℕ, zero, suc, cond, List, [], ◌∷◌, ◌++◌, eqb, get_or, take}
use Rattle.rules.specs.Lists.{gather}
use Rattle.rules.specs.Sheet.{Line, line, bit}
use Rattle.rules.specs.Directory.{Stored, blank, name_at, entry_of, is_alias, Alias, aliases}
use Rattle.rules.specs.Decision.{Setting}
use Rattle.rules.specs.Request.{Selection}
use Rattle.rules.specs.declared.Outcome.{Outcome}
use Rattle.rules.specs.declared.Outcome.TheVariants.{Result, NoSuchObject, InsufficientAccessRights, NoSuchAttributeOrValue, InvalidAttributeSyntax, AliasProblem}
use Rattle.rules.specs.Judge.{name_lines}
use Rattle.rules.specs.Answer.{outcome_number, entry_lines, information}
use Rattle.tables.specs.declared.plan.Plan.{Plan}

-- the aliases among the entries
abbrev pub aliases_of : Setting → List Stored → List Alias
aliases_of σ es = aliases (record { schema = σ.schema; entries = es })

-- K 32: the entry of index `k` as a child, C 1 marking an alias
unfoldable pub child_lines : List Stored → ℕ → List Line
child_lines es k = line 32 (get_or es k blank).naming.type 0 (bit (is_alias (get_or es k blank).target)) (get_or es k blank).naming.value ∷ []

module _ (σ : Setting) (es : List Stored) (s : Selection) where
  -- what is returned of the entry number `e`; the root, 0, has nothing
  unfoldable pub information_at : ℕ → List Line
  information_at zero = []
  information_at (suc k) = information σ s (entry_of (get_or es k blank))

  -- the entry of index `k` as a search returns it
  unfoldable pub found_lines : ℕ → List Line
  found_lines k = entry_lines (name_at es (suc k)) ++ information_at (suc k)

  -- after line 30 of a result, by the operation
  unfoldable pub success_lines : Plan → List ℕ → List Line
  success_lines r hits =
      cond (eqb r.operation 1) (entry_lines (name_at es r.name) ++ information_at r.entry)
      (cond (eqb r.operation 2) (line 31 r.equal 0 0 [] ∷ [])
      (cond (eqb r.operation 3) (gather (child_lines es) (take r.shown hits))
      (gather found_lines (take r.shown hits))))

  -- after line 30, by the outcome
  abbrev pub followed : Plan → List ℕ → Outcome → List Line
  followed r hits Result = success_lines r hits
  followed r hits NoSuchObject = name_lines (name_at es r.name)
  followed r hits InsufficientAccessRights = []
  followed r hits NoSuchAttributeOrValue = []
  followed r hits InvalidAttributeSyntax = []
  followed r hits AliasProblem = []

  -- the whole answer; `hits` are the indices of the entries found
  unfoldable pub planned : Plan → List ℕ → List Line
  planned r hits = line 30 r.operation (outcome_number r.outcome) r.more [] ∷ followed r hits r.outcome
