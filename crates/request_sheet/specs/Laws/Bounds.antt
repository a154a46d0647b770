-- What the columns of an allowed line of K 10, 11, 12 or 16 hold, and that no line is judged by the schema: all that the laws of a request ask of its grammar.
use Rattle.std.specs.Prelude.{ℕ, ◌≤◌, ◌≡◌, refl, true}
use Rattle.std.proofs.Common.{arith}
use Rattle.rules.specs.Sheet.{Line}
use Rattle.rules.specs.Columns.{form, between, exactly, unnamed, free, type_range, parts, request_forms}
use Rattle.rules.specs.Judge.{Grammar}
use Rattle.rules.specs.Request.{request_grammar}
use Rattle.sheet_form.specs.Columns.{in_form_of}
use Rattle.sheet_due.specs.Laws.Bounds.{by_form, no-form}

pub record Bounds (G : Grammar) : Type 0 where
  -- K 10: at most 8 parts
  pub requester : (a b c l : ℕ) → in_form_of G.forms 10 a b c l ≡ true → b ≤ 8
  -- K 11: at most 8 parts, operations 1 to 4, no size limit for read and compare
  pub base : (a b c l : ℕ) → in_form_of G.forms 11 a b c l ≡ true → (b ≤ 8) × (1 ≤ a) × (a ≤ 4) × (a ≤ 2 → c ≡ 0)
  -- K 12: at most 16 types
  pub selection : (a b c l : ℕ) → in_form_of G.forms 12 a b c l ≡ true → b ≤ 16
  -- K 16: types are 1 or more
  pub ordering : (a b c l : ℕ) → in_form_of G.forms 16 a b c l ≡ true → 1 ≤ a
  pub sound : (x : Line) → G.sound x ≡ true

module _ (top a b c l : ℕ) where
  requester-columns : in_form_of (request_forms top) 10 a b c l ≡ true → b ≤ 8
  unfolding request_forms in_form_of
  requester-columns = by_form a b c l (form 10 (between 0 2) parts (between 0 1) unnamed) _ (λ r. r.1.1) no-form

  base-columns : in_form_of (request_forms top) 11 a b c l ≡ true → (b ≤ 8) × (1 ≤ a) × (a ≤ 4) × (a ≤ 2 → c ≡ 0)
  unfolding request_forms in_form_of
  base-columns =
      by_form a b c l (form 11 (between 1 2) parts unnamed unnamed) _ (λ r. (r.1.1, r.0.0, omega (arith, r.0.1), λ i. r.2))
      (by_form a b c l (form 11 (between 3 4) parts free unnamed) _ (λ r. (r.1.1, omega (arith, r.0.0), r.0.1, λ i. absurd (omega (arith, r.0.0)))) no-form)

  selection-columns : in_form_of (request_forms top) 12 a b c l ≡ true → b ≤ 16
  unfolding request_forms in_form_of
  selection-columns =
      by_form a b c l (form 12 (exactly 0) unnamed (between 0 1) unnamed) _ (λ r. omega (arith, r.1))
      (by_form a b c l (form 12 (exactly 1) (between 0 16) (between 0 1) unnamed) _ (λ r. r.1.1) no-form)

  ordering-columns : in_form_of (request_forms top) 16 a b c l ≡ true → 1 ≤ a
  unfolding request_forms in_form_of
  ordering-columns = by_form a b c l (form 16 (type_range top) (between 0 1) unnamed unnamed) _ (λ r. r.0.0) no-form

pub request-bounds : (top : ℕ) → Bounds (request_grammar top)
request-bounds top = record { requester = requester-columns top; base = base-columns top; selection = selection-columns top; ordering = ordering-columns top; sound = λ x. refl }
