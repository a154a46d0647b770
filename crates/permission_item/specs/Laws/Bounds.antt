-- What the columns of a permission line may hold: the numbers of an accepted item are small.
use Rattle.std.specs.Prelude.{ℕ, ◌≤◌, ◌≡◌, true}
use Rattle.std.proofs.Common.{arith}
use Rattle.rules.specs.Columns.{unnamed, exactly, between, type_range, bytes, parts, form, permission_forms}
use Rattle.sheet_form.specs.Columns.{in_form_of}
use Rattle.sheet_due.specs.Laws.Bounds.{by_form, no-form}

module _ (top a b c l : ℕ) where
  pub head-bounds : in_form_of (permission_forms top) 4 a b c l ≡ true → (a ≤ 255) × (b ≤ 2) × (c ≤ 1)
  unfolding in_form_of permission_forms
  head-bounds = by_form a b c l (form 4 (between 0 255) (between 0 2) (between 0 1) unnamed) _ (λ r. omega (arith, r.0, r.1, r.2)) no-form

  pub base-bounds : in_form_of (permission_forms top) 5 a b c l ≡ true → (a ≤ 1) × (b ≤ 8)
  unfolding in_form_of permission_forms
  base-bounds = by_form a b c l (form 5 (between 0 1) parts unnamed unnamed) _ (λ r. omega (arith, r.0, r.1)) no-form

  pub user-bounds : in_form_of (permission_forms top) 6 a b c l ≡ true → (a ≤ 3) × (b ≤ 8)
  unfolding in_form_of permission_forms
  user-bounds =
      by_form a b c l (form 6 (exactly 0) unnamed unnamed unnamed) _ (λ r. omega (arith, r.0, r.1))
      (by_form a b c l (form 6 (exactly 1) parts unnamed unnamed) _ (λ r. omega (arith, r.0, r.1))
      (by_form a b c l (form 6 (exactly 2) unnamed unnamed unnamed) _ (λ r. omega (arith, r.0, r.1))
      (by_form a b c l (form 6 (exactly 3) parts unnamed unnamed) _ (λ r. omega (arith, r.0, r.1))
      no-form)))

  pub target-bounds : in_form_of (permission_forms top) 7 a b c l ≡ true → (a ≤ 5) × (b ≤ top)
  unfolding in_form_of permission_forms
  target-bounds =
      by_form a b c l (form 7 (between 0 2) unnamed unnamed unnamed) _ (λ r. omega (arith, r.0, r.1))
      (by_form a b c l (form 7 (between 3 4) (type_range top) unnamed unnamed) _ (λ r. omega (arith, r.0, r.1))
      (by_form a b c l (form 7 (exactly 5) (type_range top) unnamed bytes) _ (λ r. omega (arith, r.0, r.1))
      no-form))

  pub mask-bounds : in_form_of (permission_forms top) 8 a b c l ≡ true → (1 ≤ a) × (a ≤ 63)
  unfolding in_form_of permission_forms
  mask-bounds = by_form a b c l (form 8 (between 1 63) unnamed unnamed unnamed) _ (λ r. omega (arith, r.0)) no-form
