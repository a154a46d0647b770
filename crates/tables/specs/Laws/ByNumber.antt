-- Children and entries below a base by entry numbers: for a program that looks the base up first.
use Rattle.std.specs.Prelude.{◌≡◌, true, List, [], ◌∷◌, ◌++◌, length, get_or, eqb}
use Rattle.std.proofs.Common.{sym, ◌∙◌, subst, not-suc-le-zero, arith, eqb-true}
use Rattle.std.proofs.Math.Path.{ap, ap₂}
use Prim.Native.Nat.{ℕ, zero, suc, ◌≤◌, ◌<◌}
use Rattle.std.proofs.Math.Bool.{◌||◌}
use Rattle.rules.specs.Name.{Schema, Name, same_name, covers, child_of}
use Rattle.rules.specs.Directory.{Stored, blank, name_at}
use Rattle.tables.specs.Numbers.{climbs}
use Rattle.rules.proofs.Laws.Tests.{bool-ext, eqb_same}
use Rattle.rules.proofs.Laws.Name.{same_name-join, child-is, covers-nil, covers_snoc}
use Rattle.rules.specs.Derived.{Accepted}
use Rattle.rules.proofs.Laws.Directory.{one_number}

module _ (S : Schema) (es : List Stored) (ok : Accepted S es) (n : Name) (b : ℕ) (in-range : b ≤ length es) (base : same_name S n (name_at es b) ≡ true) where
  -- to have the asked name is to have the base's number
  pub named-is : (k : ℕ) → k ≤ length es → same_name S n (name_at es k) ≡ eqb k b
  named-is k l =
      bool-ext (same_name S n (name_at es k)) (eqb k b)
      (λ e. subst (λ (m : ℕ). eqb k m ≡ true) (one_number S es ok k k b (omega arith) l in-range (same_name-join S n _ _ e base)) (eqb_same k))
      (λ e. subst (λ (m : ℕ). same_name S n (name_at es m) ≡ true) (sym (eqb-true k b e)) base)

  pub child-by-number : (k : ℕ) → k < length es → child_of S n (get_or es k blank).name ≡ eqb (get_or es k blank).parent b
  child-by-number k l =
      let h : (get_or es k blank).parent ≤ k = ok.parents k l in
      ap (child_of S n) (ok.names k l)
      ∙ child-is S n (name_at es (get_or es k blank).parent) (get_or es k blank).naming
      ∙ named-is (get_or es k blank).parent (omega arith)

  pub below-by-number : (f k : ℕ) → k ≤ f → k ≤ length es → covers S n (name_at es k) ≡ climbs es f b k
  unfolding climbs name_at
  below-by-number zero zero a l = covers-nil S n ∙ named-is zero l
  below-by-number zero (suc k) a l = absurd (not-suc-le-zero a)
  below-by-number (suc f) zero a l = covers-nil S n ∙ named-is zero l
  below-by-number (suc f) (suc k) a l =
      let h : (get_or es k blank).parent ≤ k = ok.parents k l in
      let name : name_at es (suc k) ≡ name_at es (get_or es k blank).parent ++ ((get_or es k blank).naming ∷ []) = unfold name_at in ok.names k l in
      ap (covers S n) name
      ∙ covers_snoc S n (name_at es (get_or es k blank).parent) (get_or es k blank).naming
      ∙ ap₂ ◌||◌ (sym (ap (same_name S n) name) ∙ named-is (suc k) l) (below-by-number f (get_or es k blank).parent (omega arith) (omega arith))
