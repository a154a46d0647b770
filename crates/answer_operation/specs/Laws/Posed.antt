-- Laws of `Posed`: the parts of what is known, and the name asked for, replaced.
use Rattle.std.specs.Prelude.{ℕ, ◌≡◌, refl, List, map, length, Some, None}
use Rattle.std.proofs.Common.{sym, ap, ◌∙◌, subst}
use Rattle.std.proofs.Math.Option.{Option, none, some}
use Rattle.rules.specs.Sheet.{Bytes}
use Rattle.rules.specs.Name.{Name}
use Rattle.rules.specs.Directory.{Stored, entry_of}
use Rattle.rules.specs.Decision.{Setting}
use Rattle.rules.specs.Judge.{Grammar}
use Rattle.rules.specs.Request.{Operation, read, compare, list, search, Request}
use Rattle.rules.specs.Aliases.{resolved}
use Rattle.rules.specs.Answer.{operation_number, outcome, answer, answer_to}
use Rattle.rules.specs.Places.{lines_at, parts_of}
use Rattle.rules.specs.Value.{Found}
use Rattle.rules.specs.declared.Outcome.TheVariants.{AliasProblem}
use Rattle.request_sheet.specs.Noted.{NotedOperation}
use Rattle.request_sheet.specs.declared.Asked.{Asked}
use Rattle.tables.specs.Book.{width, schema}
use Rattle.tables.specs.declared.plan.Choice.{Choice}
use Rattle.tables.specs.Plan.{aliases_of}
use Rattle.tables.specs.Choice.{KnownChoice}
use Rattle.tables.specs.Sound.{Base, KnownBase}
use Rattle.answer_choice.specs.Selected.{selection_of}
use Rattle.answer_entry.specs.declared.Sought.{Sought}
use Rattle.answer_resolution.specs.Resolution.{Full, Resolves}
use Rattle.answer_resolution.specs.Resolved.{Resolved}
use Rattle.answer_entry.specs.Passing.{over}
use Rattle.answer_operation.specs.Hits.{found_by, found_for}
use Rattle.answer_operation.specs.Posed.{Posed, KnownRequest, KnownSought}

module _ {d p q : Bytes} {book held sets : List ℕ} {asked : Asked} {sought : Sought} {choice : Choice} (h : KnownSought d p q book held sets asked sought choice) where
  pub sought-base : KnownBase d p book held sets sought.base sought.missing
  sought-base = (h.0, h.1, h.4, h.5.world, h.6)

  pub sought-choice : KnownChoice (schema book) choice
  sought-choice = (selection_of h.3.operation, h.5.chosen)

module _ {d p q : Bytes} {book held sets : List ℕ} {asked : Asked} {choice : Choice} (h : KnownRequest d p q book held sets asked choice) where
  -- all parts of the name that it asks for stand there
  pub posed-full : Full (width book) q asked.base asked.base_parts
  posed-full = let n = h.4.noted.base in ap length n.parts ∙ n.count

-- ---- the name asked for, replaced

module _ {σ : Setting} {es : List Stored} {G : Grammar} {x : Request} {d p q : Bytes} {book held sets : List ℕ} {asked : Asked} {choice : Choice}
    (Q : Posed σ es G x d p q book held sets asked choice) (r : Resolved)
    (is : Resolves σ es (resolved σ.schema (aliases_of σ es) (parts_of asked.base_parts (lines_at (width book) q asked.base))) r)
  where
    by_name : Resolves σ es (resolved σ.schema (aliases_of σ es) x.base) r
    by_name = subst (λ (n : Name). Resolves σ es (resolved σ.schema (aliases_of σ es) n) r) Q.noted.base.parts is

    -- the name that is asked for in the end, and its sought
    pub to-sought : {t : Sought} → r ≡ Some t → (n : Name) × Base σ es n t.base t.missing × (resolved σ.schema (aliases_of σ es) x.base ≡ some n)
    to-sought {t} e = go (resolved σ.schema (aliases_of σ es) x.base) (subst (Resolves σ es (resolved σ.schema (aliases_of σ es) x.base)) e by_name)
      where
        go : (v : Option Name) → Resolves σ es v (Some t) → (n : Name) × Base σ es n t.base t.missing × (v ≡ some n)
        go none b = absurd b
        go (some n) b = (n, b, refl)

    -- a ninth replacement is due
    pub to-problem : r ≡ None → resolved σ.schema (aliases_of σ es) x.base ≡ none
    to-problem e = go (resolved σ.schema (aliases_of σ es) x.base) (subst (Resolves σ es (resolved σ.schema (aliases_of σ es) x.base)) e by_name)
      where
        go : (v : Option Name) → Resolves σ es v None → v ≡ none
        go none b = refl
        go (some n) b = absurd b

module _ (σ : Setting) (es : List Stored) (n : Name) (o : Operation) where
  pub answer-named : (m : Name) → resolved σ.schema (aliases_of σ es) n ≡ some m → answer σ (map entry_of es) (aliases_of σ es) m o ≡ answer_to σ (map entry_of es) (aliases_of σ es) n o
  unfolding answer_to
  answer-named m e = rw e

  pub answer-problem : resolved σ.schema (aliases_of σ es) n ≡ none → outcome (operation_number o) AliasProblem ≡ answer_to σ (map entry_of es) (aliases_of σ es) n o
  unfolding answer_to
  answer-problem e = rw e

  -- what is found
  pub found-named : (m : Name) (b : Found) (missing : ℕ) → Base σ es m b missing → resolved σ.schema (aliases_of σ es) n ≡ some m
      → found_by σ es b o ≡ found_for σ es (resolved σ.schema (aliases_of σ es) n) o
  found-named m b missing h e = sym (ap (λ (v : Option Name). found_for σ es v o) e ∙ ap (λ (f : Found). found_by σ es f o) h.walked)

  pub found_none : (before : List ℕ) → resolved σ.schema (aliases_of σ es) n ≡ none → before ≡ over (found_for σ es (resolved σ.schema (aliases_of σ es) n) o) before
  found_none before e = sym (ap (λ (v : Option Name). over (found_for σ es v o) before) e)

-- the number of the operation
pub operation-is : (G : Grammar) (w : ℕ) (q : Bytes) (a : Asked) (o : Operation) → NotedOperation G w q o a → a.operation ≡ operation_number o
operation-is G w q a (read s) n = n.operation
operation-is G w q a (compare t v) n = n.operation
operation-is G w q a (list limit) n = n.operation
operation-is G w q a (search s) n = n.operation
