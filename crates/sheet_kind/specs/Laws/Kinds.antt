-- Laws of `Kinds`: the number of a kind is that kind, and what a number is has that number; what is left where some numbers are ruled out.
use Rattle.std.specs.Prelude.{ℕ, suc, ◌≤◌, ◌≡◌, refl, Bool, true, false, cond, List, [], ◌∷◌, eqb}
use Rattle.std.proofs.Common.{sym, ◌∙◌, ap, arith, eqb-true, ne_eqb}
use Rattle.std.proofs.lemmas.Bool.{eqb-false}
use Rattle.sheet_kind.specs.Kinds.{number_of, ranges, known_kinds, kind_in, kind_of}
use Rattle.sheet_kind.specs.declared.Kind.{Kind}
use Rattle.sheet_kind.specs.declared.Kind.TheVariants.{AttributeType, Entry, Value, Item, Base, UserClass, ProtectedItem, Permissions, NamePart, Requester, Operation, Selection, SelectedType, Assertion, Subset, Ordering, And, Or, Not, Equality, AtLeast, AtMost, Present, Substrings, Piece, Outcome, Comparison, Child, ReturnedEntry, ReturnedType, ReturnedValue, Target, Unknown}

pub kind-number : (x : Kind) → kind_of (number_of x) ≡ x
unfolding kind_of
kind-number AttributeType = refl
kind-number Entry = refl
kind-number Value = refl
kind-number Item = refl
kind-number Base = refl
kind-number UserClass = refl
kind-number ProtectedItem = refl
kind-number Permissions = refl
kind-number NamePart = refl
kind-number Requester = refl
kind-number Operation = refl
kind-number Selection = refl
kind-number SelectedType = refl
kind-number Assertion = refl
kind-number Subset = refl
kind-number Ordering = refl
kind-number And = refl
kind-number Or = refl
kind-number Not = refl
kind-number Equality = refl
kind-number AtLeast = refl
kind-number AtMost = refl
kind-number Present = refl
kind-number Substrings = refl
kind-number Piece = refl
kind-number Outcome = refl
kind-number Comparison = refl
kind-number Child = refl
kind-number ReturnedEntry = refl
kind-number ReturnedType = refl
kind-number ReturnedValue = refl
kind-number Target = refl
kind-number Unknown = refl

number_by : (x : Kind) (xs : List Kind) (k : ℕ) (t : Bool) → eqb k (number_of x) ≡ t
    → ((number_of (kind_in xs k) ≡ 0 → ⊥) → k ≡ number_of (kind_in xs k))
    → (number_of (cond t x (kind_in xs k)) ≡ 0 → ⊥) → k ≡ number_of (cond t x (kind_in xs k))
number_by x xs k true e ih h = eqb-true k (number_of x) e
number_by x xs k false e ih h = ih h

number_in : (xs : List Kind) (k : ℕ) → (number_of (kind_in xs k) ≡ 0 → ⊥) → k ≡ number_of (kind_in xs k)
number_in [] k h = absurd (h refl)
number_in (x ∷ xs) k h = number_by x xs k (eqb k (number_of x)) refl (number_in xs k) h

-- what `k` is has the number `k`, unless no sheet has the kind
pub kind-is : (k : ℕ) {x : Kind} → eqb (number_of x) 0 ≡ false → kind_of k ≡ x → k ≡ number_of x
unfolding kind_of
kind-is k {x} p e = number_in known_kinds k (λ z. eqb-false (number_of x) 0 p (sym (ap number_of e) ∙ z)) ∙ ap number_of e

-- whether `k` is the number `n` of a kind, by the answer `r`
module _ {k n : ℕ} {r : Bool} (e : r ≡ eqb k n) where
  pub is-kind : r ≡ true → k ≡ n
  is-kind h = eqb-true k n (sym e ∙ h)

  pub not-kind : r ≡ false → k ≡ n → ⊥
  not-kind h = eqb-false k n (sym e ∙ h)

-- the next number, where one is ruled out
pub past : {n k : ℕ} → n ≤ k → (k ≡ n → ⊥) → suc n ≤ k
past h e = omega (arith, e)

pub least : {n k : ℕ} → k ≤ n → n ≤ k → k ≡ n
least p q = omega arith

-- no line of a filter or an answer
pub no-range : (k : ℕ) → ((n : ℕ) → 20 ≤ n → n ≤ 35 → k ≡ n → n ≡ 29) → kind_in ranges k ≡ Unknown
no-range k h = rw (out 20 (omega arith) (omega arith) (λ e. omega arith), out 21 (omega arith) (omega arith) (λ e. omega arith), out 22 (omega arith) (omega arith) (λ e. omega arith), out 23 (omega arith) (omega arith) (λ e. omega arith), out 24 (omega arith) (omega arith) (λ e. omega arith), out 25 (omega arith) (omega arith) (λ e. omega arith), out 26 (omega arith) (omega arith) (λ e. omega arith), out 27 (omega arith) (omega arith) (λ e. omega arith), out 28 (omega arith) (omega arith) (λ e. omega arith), out 30 (omega arith) (omega arith) (λ e. omega arith), out 31 (omega arith) (omega arith) (λ e. omega arith), out 32 (omega arith) (omega arith) (λ e. omega arith), out 33 (omega arith) (omega arith) (λ e. omega arith), out 34 (omega arith) (omega arith) (λ e. omega arith), out 35 (omega arith) (omega arith) (λ e. omega arith))
  where
    out : (n : ℕ) → 20 ≤ n → n ≤ 35 → (n ≡ 29 → ⊥) → eqb k n ≡ false
    out n p q r = ne_eqb k n (λ e. r (h n p q e))
