-- Laws of `Truths`: one line more.
use Rattle.std.specs.Prelude.{ℕ, ◌+◌, ◌<◌, ◌≡◌, List, length, get_or, set}
use Rattle.std.proofs.Common.{sym, subst, arith, get_or-set_same, get_or-set_other}
use Rattle.std.proofs.Math.Decide.{dec_lt}
use Rattle.rules.specs.Sheet.{Bytes}
use Rattle.rules.specs.Filter.{Assertion}
use Rattle.rules.specs.declared.Truth.{Truth}
use Rattle.rules.specs.declared.Truth.TheVariants.{Undefined}
use Rattle.filter_tree.specs.Truths.{TruthAt, Truths}

module _ (m : Assertion → Truth) (q : Bytes) (rows : List ℕ) (lines : ℕ) where
  pub truths-none : (truths : List Truth) → Truths m q rows lines 0 truths
  truths-none truths = record { line = λ k l. absurd (omega (arith, l)) }

  -- one line more
  pub truths-on : (k : ℕ) (x : Truth) (truths : List Truth) → k < length truths → TruthAt m q rows lines k x → Truths m q rows lines k truths → Truths m q rows lines (k + 1) (set truths k x)
  truths-on k x truths room t h = record { line = λ j l. go j l (dec_lt j k) }
    where
      go : (j : ℕ) → j < k + 1 → Dec (j < k) → TruthAt m q rows lines j (get_or (set truths k x) j Undefined)
      go j l (yes b) = subst (TruthAt m q rows lines j) (sym (get_or-set_other truths k j x Undefined (λ e. omega (arith, b, e)))) (h.line j b)
      go j l (no b) = let e : k ≡ j = omega (arith, l, b) in
          subst (λ (i : ℕ). TruthAt m q rows lines i (get_or (set truths k x) i Undefined)) e (subst (TruthAt m q rows lines k) (sym (get_or-set_same truths k x Undefined room)) t)
