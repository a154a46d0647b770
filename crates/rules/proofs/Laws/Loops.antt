-- What a loop over a list has after one element more: `gather`, `any` and `first` of the elements so far.
use Rattle.std.specs.Prelude.{◌≡◌, refl, ℕ, suc, ◌<◌, Bool, List, [], ◌∷◌, ◌++◌, length, get_or, take}
use Rattle.std.proofs.Common.{sym, ap, ◌∙◌, append_assoc, append-nil, take-suc}
use Rattle.std.proofs.Math.Option.{Option, none, some}
use Rattle.rules.specs.Lists.{gather}

module _ {A B : Type 0} (f : A → List B) where
  pub gather_append : (xs ys : List A) → gather f (xs ++ ys) ≡ gather f xs ++ gather f ys
  gather_append [] ys = refl
  gather_append (x ∷ xs) ys = ap (λ (r : List B). f x ++ r) (gather_append xs ys) ∙ sym (append_assoc (f x) (gather f xs) (gather f ys))

  pub gather-suc : (xs : List A) (i : ℕ) (z : A) → i < length xs → gather f (take (suc i) xs) ≡ gather f (take i xs) ++ f (get_or xs i z)
  gather-suc xs i z h =
      ap (gather f) (take-suc xs i z h) ∙ gather_append (take i xs) (get_or xs i z ∷ [])
      ∙ ap (λ (r : List B). gather f (take i xs) ++ r) (append-nil (f (get_or xs i z)))

module _ {A : Type 0} (p : A → Bool) where
  abbrev pub else : Option A → Option A → Option A
  else none o = o
  else (some x) o = some x
