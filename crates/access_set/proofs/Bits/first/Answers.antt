use mathlib.Core.Path.{◌≡◌, refl, sym, ◌∙◌, subst}
use Prim.Native.Nat.{ℕ, zero, suc, ◌<◌}
use mathlib.Core.List.{[], ◌∷◌}
use native.Mathlib.Omega.{arith}
use lib.ListN.{get_or}
use borrow.Author.Count.{below_more}
use Rattle.access_set.specs.declared.Bits.{Bits}
use Rattle.access_set.specs.Member.{Lowest, word_of}
use Rattle.access_set.specs.Laws.Sets.{least_at, least-none}
use Rattle.access_set.proofs.Bits.first.Goals as goal

word-listed : (s : Bits) (k : ℕ) → k < 4 → get_or (s.a ∷ (s.b ∷ (s.c ∷ (s.d ∷ [])))) k 0 ≡ word_of s k
unfolding word_of
word-listed s zero h = refl
word-listed s (suc zero) h = refl
word-listed s (suc (suc zero)) h = refl
word-listed s (suc (suc (suc zero))) h = refl
word-listed s (suc (suc (suc (suc k)))) h = absurd (omega arith)

pub returns-then-w-ne0 : goal.returns-then-w-ne0
returns-then-w-ne0 c =
    let s = c.args.self in
    let k = c.loop-k.k in
    least_at s k _ c.loop-k-test.true c.loop-k.invariant (subst (λ (w : ℕ). Lowest w c.lowest.result) (word-listed s k c.loop-k-test.true) c.lowest.ensures)

pub loop-k-preserved : goal.loop-k-preserved
loop-k-preserved c = below_more _ _ c.loop-k.invariant (sym (word-listed c.args.self c.loop-k.k c.loop-k-test.true) ∙ c.if-w-ne0.false)

pub returns : goal.returns
unfolding word_of
returns c =
    let none = c.loop-k.invariant in
    least-none c.args.self (none 0 (omega arith)) (none 1 (omega arith)) (none 2 (omega arith)) (none 3 (omega arith))
