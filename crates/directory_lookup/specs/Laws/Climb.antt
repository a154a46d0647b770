-- Climbing by the numbers of the book: a parent's number is below its child's, so an entry is not below a greater number.
use Prim.Native.Nat.{ℕ, zero, suc, ◌-◌, ◌≤◌, ◌<◌}
use Rattle.std.specs.Prelude.{◌≡◌, Bool, true, false, ◌||◌, List, length, get_or}
use Rattle.std.proofs.Math.Path.{refl, ap}
use Rattle.std.proofs.Common.{sym, ◌∙◌, arith}
use Rattle.std.proofs.Math.Dec.{eqb}
use borrow.Author.Tests.{eq-eqb, ne_eqb, eqb-true, eqb-false}
use Rattle.rules.specs.Sheet.{Bytes}
use Rattle.rules.specs.Directory.{Stored, blank}
use Rattle.rules.specs.Decision.{Setting}
use Rattle.tables.specs.Numbers.{climbs}
use Rattle.tables.specs.Book.{entry_count, parent_at}
use Rattle.tables.specs.World.{Entries}
use Rattle.tables.specs.Laws.World.{inside, parent_is}

module _ (es : List Stored) (falls : (k : ℕ) → k < length es → (get_or es k blank).parent ≤ k) (b : ℕ) where
  -- as many steps as the number are enough
  enough : (f g k : ℕ) → k ≤ f → k ≤ g → k ≤ length es → climbs es f b k ≡ climbs es g b k
  unfolding climbs
  enough zero zero k p q l = refl
  enough zero (suc g) zero p q l = refl
  enough zero (suc g) (suc k) p q l = absurd (omega arith)
  enough (suc f) zero zero p q l = refl
  enough (suc f) zero (suc k) p q l = absurd (omega arith)
  enough (suc f) (suc g) zero p q l = refl
  enough (suc f) (suc g) (suc k) p q l =
      let h : (get_or es k blank).parent ≤ k = falls k l in
      ap (λ (x : Bool). eqb (suc k) b || x) (enough f g (get_or es k blank).parent (omega arith) (omega arith) (omega arith))

  -- a number below `b` is not below `b` in the tree
  before : (f k : ℕ) → k < b → k ≤ length es → climbs es f b k ≡ false
  unfolding climbs
  before zero k h l = ne_eqb k b (λ e. omega arith)
  before (suc f) zero h l = ne_eqb zero b (λ e. omega arith)
  before (suc f) (suc k) h l =
      let g : (get_or es k blank).parent ≤ k = falls k l in
      rw (ne_eqb (suc k) b (λ e. omega arith)) (before f (get_or es k blank).parent (omega arith) (omega arith))

  met : (f k : ℕ) → k ≡ b → climbs es f b k ≡ true
  unfolding climbs
  met zero k e = eq-eqb k b e
  met (suc f) zero e = eq-eqb zero b e
  met (suc f) (suc k) e = rw (eq-eqb (suc k) b e)

  up : (k : ℕ) → b < suc k → suc k ≤ length es → climbs es (suc k) b (suc k) ≡ climbs es (get_or es k blank).parent b (get_or es k blank).parent
  unfolding climbs
  up k h l =
      let g : (get_or es k blank).parent ≤ k = falls k l in
      rw (ne_eqb (suc k) b (λ e. omega arith)) (enough k (get_or es k blank).parent (get_or es k blank).parent g (omega arith) (omega arith))

  arrived : (k : ℕ) → k ≤ b → k ≤ length es → eqb k b ≡ climbs es k b k
  arrived k h l = go (eqb k b) refl
    where
      go : (t : Bool) → eqb k b ≡ t → t ≡ climbs es k b k
      go true e = sym (met k k (eqb-true k b e))
      go false e = let n : k ≡ b → ⊥ = eqb-false k b e in sym (before k k (omega arith) l)

module _ (book : List ℕ) (b e : ℕ) where
  -- to climb from `k` is to climb from `e`
  pub record Climbing (k : ℕ) : Type 0 where
    pub leads : (σ : Setting) (es : List Stored) (d : Bytes) (held : List ℕ) → Entries σ es d book held → climbs es k b k ≡ climbs es e b e

  pub climbing-start : Climbing e
  climbing-start = record { leads = λ σ es d held h. refl }

  module _ (k : ℕ) (l : k ≤ entry_count book) (climbing : Climbing k) where
    pub climbing-on : b < k → Climbing (parent_at book (k - 1))
    climbing-on m = record { leads = λ σ es d held h. go σ es d held h k l m refl ∙ climbing.leads σ es d held h }
      where
        go : (σ : Setting) (es : List Stored) (d : Bytes) (held : List ℕ) → Entries σ es d book held → (n : ℕ) → n ≤ entry_count book → b < n → n ≡ k
            → climbs es (parent_at book (k - 1)) b (parent_at book (k - 1)) ≡ climbs es k b k
        go σ es d held h zero l m e = absurd (omega arith)
        go σ es d held h (suc n) l m e =
            let z : k - 1 ≡ n = omega arith in
            ap (λ (i : ℕ). climbs es (parent_at book i) b (parent_at book i)) z
            ∙ ap (λ (i : ℕ). climbs es i b i) (parent_is h n l)
            ∙ sym (up es h.accepted.parents b n m (inside h n l))
            ∙ ap (λ (i : ℕ). climbs es i b i) e

    pub climbing-end : k ≤ b → (σ : Setting) (es : List Stored) (d : Bytes) (held : List ℕ) → Entries σ es d book held → eqb k b ≡ climbs es e b e
    climbing-end m σ es d held h = arrived es h.accepted.parents b k m (omega (arith, l, h.count)) ∙ climbing.leads σ es d held h
