-- Laws of `Decision`: items in order, weightiest first and denials before grants. The first that applies decides.
use Prim.Native.Nat.{ℕ, zero, suc, ◌+◌, ◌*◌, ◌%◌, ◌≤◌, ◌<◌, max}
use Rattle.std.specs.Prelude.{◌≡◌, Bool, ◌&&◌, cond, ltb, length}
use Rattle.std.proofs.Math.Path.{refl, sym, ap}
use Rattle.std.proofs.Common.{◌∙◌, subst, true≢false, le_of_suc-le-suc, not-suc-le-zero, eq-eqb, ne_eqb, eqb-true, ltb-true, ltb-false}
use Rattle.std.proofs.Math.Bool.{true, false}
use mathlib.Core.List.{List, [], ◌∷◌}
use native.Mathlib.Omega.{arith}
use Rattle.std.proofs.Math.Dec.{eqb}
use Rattle.std.proofs.Math.ListN.{get_or}
use Rattle.std.proofs.lemmas.Bool.{eqb-false}
use Rattle.rules.specs.Name.{Name}
use Rattle.rules.specs.Permission.{Item}
use Rattle.rules.specs.Decision.{Setting, Thing, applies, granted}
use Rattle.rules.specs.Derived.{no_item, score, item_at, Ranked, weight}
use Rattle.rules.proofs.Laws.Decision.{Standing, weigh, weigh_all, start, granted-in-one-pass}

-- ---- the pass by scores

standing : Standing → ℕ
standing s = s.best * 2 + cond s.clear 0 1

beyond : (b m : ℕ) → ltb b (suc m) ≡ false → eqb b (suc m) ≡ false → suc m < b
beyond b m p r =
    let l : suc m ≤ b = ltb-false b (suc m) p in
    let d : b ≡ suc m → ⊥ = eqb-false b (suc m) r in
    omega arith

weigh-by : (s : Standing) (i : Item) → standing (weigh s i) ≡ max (standing s) (score i)
unfolding standing score weigh
weigh-by s i = sym (go s.best (weight i) s.clear i.grants (ltb s.best (suc (weight i))) refl (eqb s.best (suc (weight i))) refl)
  where
    above : (b m x y : ℕ) → b < suc m → x ≤ 1 → max (b * 2 + x) (m * 2 + (2 + y)) ≡ suc m * 2 + y
    above b m x y l k = omega arith

    below : (b m x y : ℕ) → suc m < b → y ≤ 1 → max (b * 2 + x) (m * 2 + (2 + y)) ≡ b * 2 + x
    below b m x y l k = omega arith

    go : (b m : ℕ) (c g l : Bool) → ltb b (suc m) ≡ l → (e : Bool) → eqb b (suc m) ≡ e
        → max (b * 2 + cond c 0 1) (m * 2 + cond g 2 3)
        ≡ standing (cond l (record { best = suc m; clear = g }) (cond e (record { best = b; clear = c && g }) (record { best = b; clear = c })))
    go b m true true true p e r = above b m 0 0 (ltb-true b (suc m) p) (omega arith)
    go b m true false true p e r = above b m 0 1 (ltb-true b (suc m) p) (omega arith)
    go b m false true true p e r = above b m 1 0 (ltb-true b (suc m) p) (omega arith)
    go b m false false true p e r = above b m 1 1 (ltb-true b (suc m) p) (omega arith)
    go b m true true false p true r = let q : b ≡ suc m = eqb-true b (suc m) r in omega arith
    go b m true false false p true r = let q : b ≡ suc m = eqb-true b (suc m) r in omega arith
    go b m false true false p true r = let q : b ≡ suc m = eqb-true b (suc m) r in omega arith
    go b m false false false p true r = let q : b ≡ suc m = eqb-true b (suc m) r in omega arith
    go b m true true false p false r = below b m 0 0 (beyond b m p r) (omega arith)
    go b m true false false p false r = below b m 0 1 (beyond b m p r) (omega arith)
    go b m false true false p false r = below b m 1 0 (beyond b m p r) (omega arith)
    go b m false false false p false r = below b m 1 1 (beyond b m p r) (omega arith)

module _ (p : Item → Bool) where
  -- no more than any bound
  most : (m : ℕ) (is : List Item) (s : Standing) → standing s ≤ m → ((k : ℕ) → k < length is → p (get_or is k no_item) ≡ true → score (get_or is k no_item) ≤ m) → standing (weigh_all p s is) ≤ m
  unfolding weigh_all
  most m [] s h k = h
  most m (i ∷ is) s h k = go (p i) refl (λ t g. most m is t g (λ j l. k (suc j) (omega arith)))
    where
      go : (b : Bool) → p i ≡ b → ((t : Standing) → standing t ≤ m → standing (weigh_all p t is) ≤ m) → standing (weigh_all p (cond b (weigh s i) s) is) ≤ m
      go true e ih = ih (weigh s i) (let f : score i ≤ m = k 0 (omega arith) e in omega (arith, weigh-by s i))
      go false e ih = ih s h

  -- no less than the start
  least : (is : List Item) (s : Standing) → standing s ≤ standing (weigh_all p s is)
  unfolding weigh_all
  least [] s = omega arith
  least (i ∷ is) s = go (p i) (λ t. least is t)
    where
      go : (b : Bool) → ((t : Standing) → standing t ≤ standing (weigh_all p t is)) → standing s ≤ standing (weigh_all p (cond b (weigh s i) s) is)
      go true ih = omega (arith, ih (weigh s i), weigh-by s i)
      go false ih = ih s

  -- no less than an item that passes
  reached : (is : List Item) (s : Standing) (k : ℕ) → k < length is → p (get_or is k no_item) ≡ true → score (get_or is k no_item) ≤ standing (weigh_all p s is)
  unfolding weigh_all
  reached [] s k l e = absurd (not-suc-le-zero l)
  reached (i ∷ is) s zero l e = rw e (omega (arith, least is (weigh s i), weigh-by s i))
  reached (i ∷ is) s (suc k) l e = reached is (cond (p i) (weigh s i) s) k (le_of_suc-le-suc l) e

  none : (is : List Item) (s : Standing) → ((k : ℕ) → k < length is → p (get_or is k no_item) ≡ false) → weigh_all p s is ≡ s
  unfolding weigh_all
  none [] s h = refl
  none (i ∷ is) s h = rw (h 0 (omega arith)) (none is s (λ k l. h (suc k) (omega arith)))

parity : (s : Standing) → eqb (standing s % 2) 0 ≡ s.clear
unfolding standing
parity s = go s.best s.clear
  where
    go : (b : ℕ) (c : Bool) → eqb ((b * 2 + cond c 0 1) % 2) 0 ≡ c
    go b true = eq-eqb ((b * 2 + 0) % 2) 0 (omega arith)
    go b false = ne_eqb ((b * 2 + 1) % 2) 0 (λ e. omega arith)

grants-by : (i : Item) → eqb (score i % 2) 0 ≡ i.grants
unfolding score
grants-by i = go (weight i) i.grants
  where
    go : (w : ℕ) (g : Bool) → eqb ((w * 2 + cond g 2 3) % 2) 0 ≡ g
    go w true = eq-eqb ((w * 2 + 2) % 2) 0 (omega arith)
    go w false = ne_eqb ((w * 2 + 3) % 2) 0 (λ e. omega arith)

score-some : (i : Item) → 1 < score i
unfolding score
score-some i = go i.grants
  where
    go : (g : Bool) → 1 < weight i * 2 + cond g 2 3
    go true = omega arith
    go false = omega arith

-- ---- the laws

module _ (σ : Setting) (n : Name) (x : Thing) (q : ℕ) where
  -- it decides
  pub decided-by : (k : ℕ) → k < length σ.items → applies σ n x q (get_or σ.items k no_item) ≡ true
      → ((j : ℕ) → j < length σ.items → applies σ n x q (get_or σ.items j no_item) ≡ true → score (get_or σ.items j no_item) ≤ score (get_or σ.items k no_item))
      → granted σ n x q ≡ (get_or σ.items k no_item).grants
  unfolding standing
  decided-by k l e h =
      granted-in-one-pass σ n x q ∙ sym (parity end) ∙ ap (λ (m : ℕ). eqb (m % 2) 0) same ∙ grants-by i
    where
      i : Item
      i = get_or σ.items k no_item

      end : Standing
      end = weigh_all (applies σ n x q) start σ.items

      same : standing end ≡ score i
      same =
          let a : standing end ≤ score i = most (applies σ n x q) (score i) σ.items start (omega (arith, score-some i)) h in
          let b : score i ≤ standing end = reached (applies σ n x q) σ.items start k l e in
          omega arith

  -- none does
  pub undecided : ((j : ℕ) → j < length σ.items → applies σ n x q (get_or σ.items j no_item) ≡ false) → granted σ n x q ≡ false
  undecided h = granted-in-one-pass σ n x q ∙ ap (λ (s : Standing). s.clear) (none (applies σ n x q) σ.items start h)

-- ---- the first in the order

module _ (σ : Setting) (n : Name) (x : Thing) (q : ℕ) (order : List ℕ) (ranked : Ranked σ.items order) where
  -- the first that applies
  pub decided-first : (p : ℕ) → p < length σ.items → applies σ n x q (item_at σ.items order p) ≡ true
      → ((r : ℕ) → r < p → applies σ n x q (item_at σ.items order r) ≡ false)
      → granted σ n x q ≡ (item_at σ.items order p).grants
  decided-first p l e before = decided-by σ n x q (get_or order p 0) (ranked.within p l) e (λ j b f. go j b f (ranked.complete j b))
    where
      go : (j : ℕ) → j < length σ.items → applies σ n x q (get_or σ.items j no_item) ≡ true → ((r : ℕ) × (r < length σ.items) × (get_or order r 0 ≡ j))
          → score (get_or σ.items j no_item) ≤ score (item_at σ.items order p)
      go j b f t = by (ltb r p) refl
        where
          r : ℕ
          r = t.0

          by : (s : Bool) → ltb r p ≡ s → score (get_or σ.items j no_item) ≤ score (item_at σ.items order p)
          by true g =
              absurd (true≢false (sym f ∙ ap (λ (k : ℕ). applies σ n x q (get_or σ.items k no_item)) (sym t.2) ∙ before r (ltb-true r p g)))
          by false g = subst (λ (k : ℕ). score (get_or σ.items k no_item) ≤ score (item_at σ.items order p)) t.2 (ranked.falling p r (ltb-false r p g) t.1)

  -- none applies
  pub decided-none : ((r : ℕ) → r < length σ.items → applies σ n x q (item_at σ.items order r) ≡ false) → granted σ n x q ≡ false
  decided-none h =
      undecided σ n x q (λ j b. let t = ranked.complete j b in ap (λ (k : ℕ). applies σ n x q (get_or σ.items k no_item)) (sym t.2) ∙ h t.0 t.1)
