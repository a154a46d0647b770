-- Laws of `Fold`.
use Rattle.std.specs.Prelude.{ℕ, zero, suc, ◌+◌, ◌-◌, ◌≤◌, ◌<◌, ◌≡◌, Bool, ◌&&◌, eqb, length, get_or, take, drop}
use Rattle.std.proofs.Math.Path.{refl, sym}
use Rattle.std.proofs.Common.{ap, ◌∙◌, arith, add-one, length-drop, drop-cons, take_all}
use Rattle.std.proofs.Math.Bool.{true, false, cond, and-eq-true_iff}
use mathlib.Core.List.{[], ◌∷◌, map, map-id}
use Rattle.std.proofs.lemmas.List.{length-map}
use Rattle.std.proofs.Math.ListN.{get_or-map}
use Rattle.rules.specs.Sheet.{Bytes}
use Rattle.rules.specs.Value.{text, small, folded}
use Rattle.value_collation.specs.Fold.{fold, four}

module _ (s : ℕ) (v : Bytes) where
  folded_map : folded s v ≡ map (fold s) v
  unfolding folded fold
  folded_map = go (eqb s text)
    where
      go : (t : Bool) → cond t (map small v) v ≡ map (λ (b : ℕ). cond t (small b) b) v
      go true = refl
      go false = sym (map-id v)

  pub folded-cons : (i : ℕ) → i < length v → drop i (folded s v) ≡ fold s (get_or v i 0) ∷ drop (i + 1) (folded s v)
  folded-cons i h =
      let l = length-map v (fold s) in
      let k : i < length (map (fold s) v) = omega arith in
      rw (folded_map, add-one, drop-cons (map (fold s) v) i (fold s 0) k, get_or-map (fold s) v i 0)

-- what the part of a slice that begins at `at` has
pub folded-part : (s : ℕ) (v : Bytes) (at : ℕ) → folded s (take (length v - at) (drop at v)) ≡ drop at (folded s v)
folded-part s v at = rw (take_all (length v - at) (drop at v) (simp length-drop (omega arith)), folded_map s v, folded_map s (drop at v)) (go at v)
  where
    go : (n : ℕ) (l : Bytes) → map (fold s) (drop n l) ≡ drop n (map (fold s) l)
    go zero l = refl
    go (suc n) [] = refl
    go (suc n) (x ∷ xs) = go n xs

-- ---- four at a time

-- what each step keeps, four steps keep
pub four-steps : (F : ℕ → ℕ) (p : ℕ → Bool) (i n : ℕ) → ((k : ℕ) → k < n → p k ≡ true → F k ≡ F (k + 1)) → i + 4 ≤ n → four p i ≡ true → F i ≡ F (i + 4)
four-steps F p i n step h e =
    let t = (and-eq-true_iff (p i && p (i + 1)) (p (i + 2) && p (i + 3))).0 e in
    let low = (and-eq-true_iff (p i) (p (i + 1))).0 t.0 in
    let high = (and-eq-true_iff (p (i + 2)) (p (i + 3))).0 t.1 in
    let e₂ : i + 1 + 1 ≡ i + 2 = omega arith in
    let e₃ : i + 2 + 1 ≡ i + 3 = omega arith in
    let e₄ : i + 3 + 1 ≡ i + 4 = omega arith in
    step i (omega arith) low.0 ∙ step (i + 1) (omega arith) low.1 ∙ ap F e₂
    ∙ step (i + 2) (omega arith) high.0 ∙ ap F e₃ ∙ step (i + 3) (omega arith) high.1 ∙ ap F e₄
