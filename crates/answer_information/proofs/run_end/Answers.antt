use Rattle.std.proofs.Common.{rules, arith, ◌≡◌, ℕ, ◌+◌, ◌≤◌, ◌<◌, List, Option, None, Some, sym, ap, subst}
use Rattle.std.specs.Option.{MatchOption, unwrap_or}
use Rattle.std.proofs.Math.Decide.{dec_lt}
use Rattle.std.proofs.lemmas.Iterator.{first_from_Range}
use borrow.Author.Tests.{tests}
use Rattle.tables.specs.Held.{rank_at}
use Rattle.answer_information.specs.Information.{EndsAt}
use Rattle.answer_information.proofs.run_end.Goals as goal

module _ (held : List ℕ) (i end : ℕ) (l : i < end) where
  same-rank : (n : ℕ) → ((k : ℕ) → i + 1 ≤ k → k < n → rank_at held k ≡ rank_at held i) → (j : ℕ) → i ≤ j → j < n → rank_at held j ≡ rank_at held i
  same-rank n f j from to = go (dec_lt i j)
    where
      go : Dec (i < j) → rank_at held j ≡ rank_at held i
      go (yes h) = f j (omega (arith, h)) to
      go (no h) = let e : j ≡ i = omega (arith, h, from) in ap (rank_at held) e

  -- the first row with another rank ends the run, or the last row does
  run-ends : (o : Option ℕ) → MatchOption o ((k : ℕ) → i + 1 ≤ k → k < end → rank_at held k ≡ rank_at held i)
      (λ r. (i + 1 ≤ r) × (r < end) × (rank_at held r ≡ rank_at held i → ⊥) × ((k : ℕ) → i + 1 ≤ k → k < r → rank_at held k ≡ rank_at held i))
      → EndsAt held i end (unwrap_or o end)
  run-ends None f = record { alike = record { after = l; within = omega arith; same = same-rank end f }; ends = λ h e. absurd (omega arith) }
  run-ends (Some r) f = record { alike = record { after = omega (arith, f.0); within = omega (arith, f.1); same = same-rank r f.3 }; ends = λ h e. f.2 e }

pub returns : goal.returns
returns c = let A = c.args in let h = A.held.now in
    subst (EndsAt h A.i A.end) (sym c.unwrap_or.ensures) (run-ends h A.i A.end c.requires.0 c.find.result
    (first_from_Range _ _ _ _ (λ k. rank_at h k ≡ rank_at h A.i → ⊥) (λ k. rank_at h k ≡ rank_at h A.i) c.find.ensures.ran (λ k q m. search (rules, tests)) (λ k q m. (search rules, search (rules, tests)))))
