-- The lines of a request after its base, by positions of the sheet, as the code finds them. They are over a grammar of the rules.
use Rattle.std.specs.Prelude.{ℕ, cond, eqb}
use Rattle.rules.specs.Sheet.{Bytes}
use Rattle.rules.specs.Judge.{Grammar}
use Rattle.sheet_line.specs.declared.Line.{Line}
use Rattle.sheet_due.specs.Lines.{reached_at, after_due, after_group, no_line, due_at, group_at}
use Rattle.sheet_due.specs.Outcomes.{Due, Reached, Group}
use Rattle.request_filter.specs.Filters.{filter_at}
use Rattle.request_piece.specs.Progress.{Progress}
use Rattle.request_piece.specs.Progress.{Read, Refused}
use Rattle.request_operation.specs.declared.Body.{Body}

-- the lines of an operation, or the refusal number (0: none)
pub record BodyDue : Type 0 where
  pub refusal : ℕ
  pub body : Body

-- the lines that say of which entries a search is and how they are ordered: K 16, 0 where there is none, and K 15 or the refusal
pub record SearchLines : Type 0 where
  pub ordering : Line
  pub subset : Due

-- K 12, K 14, K 16 and K 15, up to `e`
abbrev pub body_of : Reached → Line → Line → Line → Line → BodyDue
body_of e selection assertion ordering subset =
    record { refusal = e.refusal; body = record { selection = selection; assertion = assertion; ordering = ordering; subset = subset; next = e.next } }

-- the position after a filter, or its refusal
abbrev pub reached_by : Progress → Reached
reached_by (Read next left) = reached_at next
reached_by (Refused n) = record { refusal = n; next = 0 }

-- a list has no more lines
abbrev pub list_at : ℕ → BodyDue
list_at at = body_of (reached_at at) no_line no_line no_line no_line

module _ (G : Grammar) (w : ℕ) (q : Bytes) where
  -- K 15, or K 16 and K 15, where `r` has come to
  unfoldable pub search_lines_at : Reached → SearchLines
  search_lines_at r =
      let first = due_at G w q r 15 in
      let due = due_at G w q r 16 in
      cond (eqb first.refusal 0) (record { ordering = no_line; subset = first }) (record { ordering = due.line; subset = due_at G w q (after_due due) 15 })

  -- the filter where `r` has come to
  unfoldable pub filter_from : Reached → Reached
  filter_from r = cond (eqb r.refusal 0) (reached_by (filter_at G w q 16 r.next 128)) r

  module _ (at : ℕ) where
    -- K 12 and its K 13
    abbrev pub selection_at : Group
    selection_at = group_at G w q (reached_at at) 12 13

    -- K 14
    abbrev pub assertion_at : Due
    assertion_at = due_at G w q (reached_at at) 14

    -- K 16 and K 15 after the selection
    abbrev pub search_scope : SearchLines
    search_scope = search_lines_at (after_group selection_at)

    unfoldable pub read_at : BodyDue
    read_at = body_of (after_group selection_at) selection_at.line no_line no_line no_line

    unfoldable pub compare_at : BodyDue
    compare_at = body_of (after_due assertion_at) no_line assertion_at.line no_line no_line

    unfoldable pub search_at : BodyDue
    search_at = body_of (filter_from (after_due search_scope.subset)) selection_at.line no_line search_scope.ordering search_scope.subset.line

    -- by the operation
    unfoldable pub body_at : ℕ → BodyDue
    body_at op = cond (eqb op 1) read_at (cond (eqb op 2) compare_at (cond (eqb op 3) (list_at at) search_at))
