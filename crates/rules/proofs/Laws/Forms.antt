-- #109: a line is in form under every highest type that is not below its own type.
use Rattle.std.specs.Prelude.{ℕ, ◌≤◌, ◌≡◌, Bool, true, ◌&&◌, cond, [], ◌∷◌, leb, eqb, length}
use Rattle.std.proofs.Common.{arith, ◌∙◌, le-leb, eqb-true}
use Rattle.std.proofs.Math.Path.{refl, ap}
use Rattle.rules.specs.Lists.{any}
use Rattle.rules.specs.Sheet.{Line}
use Rattle.rules.specs.Columns.{Range, in_range, unnamed, exactly, between, free, type_range, bytes, form, takes, in_form, directory_forms, permission_forms, request_forms}
use Rattle.rules.specs.Theorems.{type_of}
use Rattle.rules.proofs.Laws.Tests.{and-cong}

-- `type_of` by its kind and columns
abbrev kind_type : ℕ → ℕ → ℕ → ℕ
kind_type k a b = cond (any (eqb k) (2 ∷ 7 ∷ [])) b (cond (any (eqb k) (1 ∷ 3 ∷ 9 ∷ 13 ∷ 14 ∷ 16 ∷ 23 ∷ 24 ∷ 25 ∷ 26 ∷ 27 ∷ [])) a 0)

-- under two highest types, neither below the line's own
module _ (x : Line) (top high : ℕ) (p : type_of x ≤ top) (q : type_of x ≤ high) where
  type-same : (n : ℕ) → type_of x ≡ n → (leb 1 n && leb n top) ≡ (leb 1 n && leb n high)
  type-same n e = rw (le-leb n top (omega (arith, p, e)), le-leb n high (omega (arith, q, e)))

  of-kind : (k : ℕ) → eqb x.kind k ≡ true → type_of x ≡ kind_type k x.a x.b
  of-kind k e = ap (λ (j : ℕ). kind_type j x.a x.b) (eqb-true x.kind k e)

  -- the type in column A
  in-a : (k : ℕ) (b c l : Range) → kind_type k x.a x.b ≡ x.a → takes (form k (type_range top) b c l) x ≡ takes (form k (type_range high) b c l) x
  unfolding takes
  in-a k b c l is =
      and-cong (eqb x.kind k) _ _ (λ e. ap (λ (r : Bool). r && (in_range b x.b && (in_range c x.c && in_range l (length x.bytes)))) (type-same x.a (of-kind k e ∙ is)))

  -- the type in column B
  in_b : (k : ℕ) (a c l : Range) → kind_type k x.a x.b ≡ x.b → takes (form k a (type_range top) c l) x ≡ takes (form k a (type_range high) c l) x
  unfolding takes
  in_b k a c l is =
      and-cong (eqb x.kind k) _ _ (λ e. ap (λ (r : Bool). in_range a x.a && (r && (in_range c x.c && in_range l (length x.bytes)))) (type-same x.b (of-kind k e ∙ is)))

  pub directory-forms : in_form (directory_forms top) x ≡ in_form (directory_forms high) x
  unfolding in_form directory_forms
  directory-forms = rw (in-a 1 (between 0 2) unnamed unnamed refl, in_b 2 free (between 0 1) bytes refl, in-a 3 unnamed unnamed bytes refl, in-a 9 unnamed unnamed bytes refl)

  pub permission-forms : in_form (permission_forms top) x ≡ in_form (permission_forms high) x
  unfolding in_form permission_forms
  permission-forms = rw (in_b 7 (between 3 4) unnamed unnamed refl, in_b 7 (exactly 5) unnamed bytes refl, in-a 9 unnamed unnamed bytes refl)

  pub request-forms : in_form (request_forms top) x ≡ in_form (request_forms high) x
  unfolding in_form request_forms
  request-forms =
      rw (
        in-a 9 unnamed unnamed bytes refl,
        in-a 13 unnamed unnamed unnamed refl,
        in-a 14 unnamed unnamed bytes refl,
        in-a 16 (between 0 1) unnamed unnamed refl,
        in-a 23 unnamed unnamed bytes refl,
        in-a 24 unnamed unnamed bytes refl,
        in-a 25 unnamed unnamed bytes refl,
        in-a 26 unnamed unnamed unnamed refl,
        in-a 27 (between 1 8) unnamed unnamed refl,
      )
