-- Laws of a plan's lines written one after another: one for each way through the code.
use Rattle.std.specs.Prelude.{ℕ, ◌+◌, ◌-◌, ◌≤◌, ◌<◌, ◌≡◌, length, get_or, take}
use Rattle.std.proofs.Common.{sym, add-one, take_all, length-take-le, get_or-take}
use Rattle.std.proofs.Math.Path.{subst}
use mathlib.Core.List.{List, [], ◌∷◌, ◌++◌}
use native.Mathlib.Omega.{arith}
use borrow.Author.Tests.{eq-eqb, ne_eqb}
use Rattle.rules.specs.Lists.{gather}
use Rattle.rules.specs.Sheet.{Bytes, Line, line, bit}
use Rattle.rules.specs.Directory.{Stored, blank, name_at, is_alias}
use Rattle.rules.specs.Decision.{Setting}
use Rattle.rules.specs.Request.{Selection}
use Rattle.rules.specs.declared.Outcome.{Outcome}
use Rattle.rules.specs.Answer.{outcome_number, entry_lines}
use Rattle.rules.proofs.Laws.Loops.{gather-suc}
use Rattle.answer_line.specs.Emit.{Emits}
use Rattle.answer_line.specs.Laws.Emit.{emits_none, emits-append}
use Rattle.tables.specs.Plan.{child_lines, information_at, found_lines, success_lines, followed, planned}
use Rattle.tables.specs.Sound.{SoundPlan}
use Rattle.tables.specs.declared.plan.Plan.{Plan}
use Rattle.answer_name.specs.Name.{naming_line}

-- ---- the lines of some entries

module _ (w : ℕ) (out : Bytes) (at : ℕ) (f : ℕ → List Line) (hits : List ℕ) where
  pub run-start : Emits w out at (gather f (take 0 hits)) out at
  run-start = emits_none w out at

  pub run_on : (i : ℕ) {out₁ out₂ : Bytes} {n r : ℕ} → i < length hits → Emits w out at (gather f (take i hits)) out₁ n → Emits w out₁ n (f (get_or hits i 0)) out₂ r
      → Emits w out at (gather f (take (i + 1) hits)) out₂ r
  run_on i {out₁} {out₂} {n} {r} l p q =
      rw (add-one i) (subst (λ (ls : List Line). Emits w out at ls out₂ r) (sym (gather-suc f hits i 0 l)) (emits-append w out at (gather f (take i hits)) (f (get_or hits i 0)) p q))

  pub run_end : (i : ℕ) {out₁ : Bytes} {n : ℕ} → length hits ≤ i → Emits w out at (gather f (take i hits)) out₁ n → Emits w out at (gather f hits) out₁ n
  run_end i {out₁} {n} h p = subst (λ (l : List ℕ). Emits w out at (gather f l) out₁ n) (take_all i hits h) p

-- the one line of a child
pub child-by : (es : List Stored) (w : ℕ) (out : Bytes) (at k : ℕ) {out' : Bytes} {r : ℕ} → Emits w out at (naming_line 32 (bit (is_alias (get_or es k blank).target)) (get_or es k blank) ∷ []) out' r → Emits w out at (child_lines es k) out' r
unfolding child_lines
child-by es w out at k p = p

-- the entries that are shown
module _ {count : ℕ} {r : Plan} {hits : List ℕ} (sound : SoundPlan count r hits) where
  pub shown-many : length (take (r.shown - 0) hits) ≡ r.shown
  shown-many = let z : r.shown - 0 ≡ r.shown = omega arith in rw z (length-take-le r.shown hits sound.shown)

  pub shown-below : (i : ℕ) → i < length (take (r.shown - 0) hits) → get_or (take (r.shown - 0) hits) i 0 < count
  shown-below i h =
      let z : r.shown - 0 ≡ r.shown = omega arith in
      let l : i < r.shown = omega (arith, h, shown-many) in
      rw (z, get_or-take r.shown hits i 0 l) (sound.hits i l)

-- ---- the whole answer, by its outcome and operation

module _ (σ : Setting) (es : List Stored) (s : Selection) (w : ℕ) (out : Bytes) (at : ℕ) where
  pub found-by : (k : ℕ) {out' : Bytes} {r : ℕ} → Emits w out at (entry_lines (name_at es (k + 1)) ++ information_at σ es s (k + 1)) out' r → Emits w out at (found_lines σ es s k) out' r
  unfolding found_lines
  found-by k {out'} {r} p = subst (λ (m : ℕ). Emits w out at (entry_lines (name_at es m) ++ information_at σ es s m) out' r) (add-one k) p

  module _ (r : Plan) (hits : List ℕ) {out' : Bytes} {n : ℕ} where
    pub success-read : r.operation ≡ 1 → Emits w out at (entry_lines (name_at es r.name) ++ information_at σ es s r.entry) out' n → Emits w out at (success_lines σ es s r hits) out' n
    unfolding success_lines
    success-read e p = rw (eq-eqb r.operation 1 e) p

    pub success-compare : r.operation ≡ 2 → Emits w out at (line 31 r.equal 0 0 [] ∷ []) out' n → Emits w out at (success_lines σ es s r hits) out' n
    unfolding success_lines
    success-compare e p = rw (ne_eqb r.operation 1 (λ z. omega arith), eq-eqb r.operation 2 e) p

    pub success-list : r.operation ≡ 3 → Emits w out at (gather (child_lines es) (take (r.shown - 0) hits)) out' n → Emits w out at (success_lines σ es s r hits) out' n
    unfolding success_lines
    success-list e p =
        let z : r.shown - 0 ≡ r.shown = omega arith in
        rw (ne_eqb r.operation 1 (λ z. omega arith), ne_eqb r.operation 2 (λ z. omega arith), eq-eqb r.operation 3 e)
        (subst (λ (m : ℕ). Emits w out at (gather (child_lines es) (take m hits)) out' n) z p)

    pub success-search : (r.operation ≡ 1 → ⊥) → (r.operation ≡ 2 → ⊥) → (r.operation ≡ 3 → ⊥) → Emits w out at (gather (found_lines σ es s) (take (r.shown - 0) hits)) out' n
        → Emits w out at (success_lines σ es s r hits) out' n
    unfolding success_lines
    success-search e₁ e₂ e₃ p =
        let z : r.shown - 0 ≡ r.shown = omega arith in
        rw (ne_eqb r.operation 1 e₁, ne_eqb r.operation 2 e₂, ne_eqb r.operation 3 e₃)
        (subst (λ (m : ℕ). Emits w out at (gather (found_lines σ es s) (take m hits)) out' n) z p)

  -- line 30 with the number `b` of the outcome `o`, and what follows it
  pub whole : (r : Plan) (hits : List ℕ) (o : Outcome) → r.outcome ≡ o → {b : ℕ} → b ≡ outcome_number r.outcome → {out₁ out' : Bytes} {m n : ℕ}
      → Emits w out at (line 30 r.operation b r.more [] ∷ []) out₁ m → Emits w out₁ m (followed σ es s r hits o) out' n → Emits w out at (planned σ es s r hits) out' n
  unfolding planned
  whole r hits o e f {out₁} {out'} {m} {n} head p =
      emits-append w out at (line 30 r.operation (outcome_number r.outcome) r.more [] ∷ []) (followed σ es s r hits r.outcome)
      (subst (λ (x : ℕ). Emits w out at (line 30 r.operation x r.more [] ∷ []) out₁ m) f head)
      (subst (λ (x : Outcome). Emits w out₁ m (followed σ es s r hits x) out' n) (sym e) p)
