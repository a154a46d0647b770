-- Which entries an item is for, as one number: its base and its "who" resolved to entry numbers once for a request.
use Rattle.std.proofs.Math.Path.{◌≡◌, refl}
use Rattle.std.proofs.Common.{sym, ap, ap₂, ◌∙◌, subst, true≢false, ne_eqb, eqb-true}
use Prim.Native.Nat.{ℕ, suc, ◌+◌, ◌-◌, ◌*◌, ◌/◌, ◌%◌, ◌<◌, zero-le}
use native.Mathlib.Omega.{arith}
use Rattle.std.specs.Prelude.{Bool, ◌&&◌, cond, length, get_or, eqb, Some, None}
use Rattle.std.proofs.Math.Bool.{true, false}
use mathlib.Core.List.{List, [], map}
use Rattle.std.proofs.lemmas.List.{length-map}
use Rattle.std.proofs.Math.ListN.{get_or-map}
use Rattle.std.proofs.Math.Dec.{eqb-suc-zero}
use Rattle.rules.specs.Name.{Name, same_name, covers}
use Rattle.rules.specs.Directory.{Stored, blank, name_at, Entry, entry_of}
use Rattle.rules.specs.Permission.{Item}
use Rattle.rules.specs.Decision.{Setting, base_covers, who_fits, level_fits}
use Rattle.tables.specs.Numbers.{walk, climbs, reaches, number_or0, base_reach, base_reaches, own_reach, fits_always, reach_from, reach_of}
use Rattle.rules.proofs.Laws.Tests.{bool-ext}
use Rattle.rules.proofs.Laws.Lists.{any_none, none-at}
use Rattle.rules.proofs.Laws.Absent.{present', nothing-below}
use Rattle.tables.specs.Laws.ByNumber.{named-is, below-by-number}
use Rattle.rules.specs.Derived.{concerns, Accepted}
use Rattle.tables.specs.Laws.Resolve.{walk-found, walk-missing}
use Rattle.rules.specs.Value.{Found}

-- ---- it reaches the entries that the item is for

reach-none : (es : List Stored) (e : ℕ) → reaches es 0 e ≡ false
unfolding reaches
reach-none es e = refl

reach-alone : (es : List Stored) (b e : ℕ) → reaches es (2 * b + 1) e ≡ eqb e b
unfolding reaches
reach-alone es b e =
    let h : (2 * b + 1) % 2 ≡ 1 = omega arith in
    let q : (2 * b + 1) / 2 ≡ b = omega arith in
    rw (ne_eqb (2 * b + 1) 0 (λ z. omega arith), h, q)

reach-below : (es : List Stored) (b e : ℕ) → reaches es (2 * b + 2) e ≡ climbs es e b e
unfolding reaches
reach-below es b e =
    let h : (2 * b + 2) % 2 ≡ 0 = omega arith in
    let q : (2 * b + 2) / 2 - 1 ≡ b = omega arith in
    rw (ne_eqb (2 * b + 2) 0 (λ z. omega arith), h, q)

-- the base, for an entry number that is not the root's
reach-base : (es : List Stored) (below : Bool) (b k : ℕ) → reaches es (base_reach below b) (suc k) ≡ base_reaches es below b (suc k)
unfolding base_reach base_reaches
reach-base es true b k = reach-below es b (suc k)
reach-base es false b k = go (eqb b 0) refl
  where
    go : (t : Bool) → eqb b 0 ≡ t → reaches es (cond t 0 (2 * b + 1)) (suc k) ≡ eqb (suc k) b
    go true e = reach-none es (suc k) ∙ sym (ne_eqb (suc k) b (λ h. let z : b ≡ 0 = eqb-true b 0 e in omega arith))
    go false e = reach-alone es b (suc k)

reach-own : (es : List Stored) (below : Bool) (b o k : ℕ) → reaches es (own_reach es below b o) (suc k) ≡ (base_reaches es below b (suc k) && eqb (suc k) o)
unfolding own_reach
reach-own es below b o k = go (eqb o 0) refl
  where
    none_of : (c : Bool) → false ≡ (c && false)
    none_of true = refl
    none_of false = refl

    same : (c : Bool) (t : Bool) → eqb (suc k) o ≡ t → base_reaches es below b o ≡ c → reaches es (cond c (2 * o + 1) 0) (suc k) ≡ (base_reaches es below b (suc k) && t)
    same true true e h = reach-alone es o (suc k) ∙ e ∙ sym (ap (λ (x : Bool). x && true) (ap (base_reaches es below b) (eqb-true (suc k) o e) ∙ h))
    same true false e h = reach-alone es o (suc k) ∙ e ∙ none_of (base_reaches es below b (suc k))
    same false true e h = reach-none es (suc k) ∙ sym (ap (λ (x : Bool). x && true) (ap (base_reaches es below b) (eqb-true (suc k) o e) ∙ h))
    same false false e h = reach-none es (suc k) ∙ none_of (base_reaches es below b (suc k))

    go : (t : Bool) → eqb o 0 ≡ t → reaches es (cond t 0 (cond (base_reaches es below b o) (2 * o + 1) 0)) (suc k) ≡ (base_reaches es below b (suc k) && eqb (suc k) o)
    go true e =
        let z : o ≡ 0 = eqb-true o 0 e in
        reach-none es (suc k) ∙ none_of (base_reaches es below b (suc k)) ∙ ap (λ (x : Bool). base_reaches es below b (suc k) && x) (sym (ne_eqb (suc k) o (λ h. omega arith)))
    go false e = same (base_reaches es below b o) (eqb (suc k) o) refl refl

module _ (σ : Setting) (es : List Stored) (ok : Accepted σ.schema es) (k : ℕ) (l : k < length es) where
  -- a name, by the number that it is found at
  named_by : (n : Name) (f : Found) → walk σ.schema es 0 n ≡ f → same_name σ.schema n (get_or es k blank).name ≡ eqb (suc k) (number_or0 f)
  unfolding name_at same_name
  named_by n (Some b) e =
      let r = walk-found σ.schema es ok n [] 0 b zero-le refl e in
      named-is σ.schema es ok n b r.0 r.1 (suc k) l
  named_by n None e =
      bool-ext (same_name σ.schema n (get_or es k blank).name) (eqb (suc k) 0)
      (λ h. absurd (walk-missing σ.schema es ok n [] 0 zero-le refl e (suc k) l h))
      (λ h. absurd (true≢false (sym h ∙ eqb-suc-zero k)))

  -- the base, by the number that it is found at
  covered-at : (below : Bool) (n : Name) (b : ℕ) → walk σ.schema es 0 n ≡ Some b
      → cond below (covers σ.schema n (get_or es k blank).name) (same_name σ.schema n (get_or es k blank).name) ≡ base_reaches es below b (suc k)
  unfolding name_at same_name base_reaches
  covered-at true n b e =
      let r = walk-found σ.schema es ok n [] 0 b zero-le refl e in
      below-by-number σ.schema es ok n b r.0 r.1 (suc k) (suc k) (omega arith) l
  covered-at false n b e = named_by n (Some b) e

  covered_none : (below : Bool) (n : Name) → walk σ.schema es 0 n ≡ None
      → cond below (covers σ.schema n (get_or es k blank).name) (same_name σ.schema n (get_or es k blank).name) ≡ false
  unfolding name_at same_name entry_of walk
  covered_none true n e =
      bool-ext (covers σ.schema n (get_or es k blank).name) false
      (λ h. absurd (none-at (λ x. covers σ.schema n x.name) (entry_of blank) (map entry_of es) (nothing-below σ.schema es ok n root absent) k
      (subst (λ (m : ℕ). k < m) (sym (length-map es entry_of)) l) (subst (λ (x : Entry). covers σ.schema n x.name ≡ true) (sym (get_or-map entry_of es k blank)) h)))
      (λ h. absurd (true≢false (sym h)))
    where
      found-not : ◌≡◌ {A = Found} (Some 0) None → ⊥
      found-not q = let z : ◌≡◌ {A = ℕ} 0 1 = cc in omega arith

      root : n ≡ [] → ⊥
      root q = found-not (subst (λ (m : Name). walk σ.schema es 0 m ≡ None) q e)

      absent : present' σ.schema es n ≡ false
      absent = any_none (λ x. same_name σ.schema n x.name) (entry_of blank) (map entry_of es)
          (λ j lj h. walk-missing σ.schema es ok n [] 0 zero-le refl e (suc j) (subst (λ (m : ℕ). j < m) (length-map es entry_of) lj)
          (subst (λ (x : Entry). same_name σ.schema n x.name ≡ true) (get_or-map entry_of es j blank) h))
  covered_none false n e = named_by n None e ∙ eqb-suc-zero k

  -- an item concerns an entry exactly where it reaches its number
  pub reach-concerns : (i : Item) → reaches es (reach_of σ es i) (suc k) ≡ concerns σ (get_or es k blank).name i
  unfolding reach_of concerns base_covers who_fits fits_always
  reach-concerns i = go (level_fits σ i) (walk σ.schema es 0 i.base) refl
    where
      o : ℕ
      o = number_or0 (walk σ.schema es 0 σ.requester.name)

      B : Bool
      B = cond i.below (covers σ.schema i.base (get_or es k blank).name) (same_name σ.schema i.base (get_or es k blank).name)

      dead : (b w : Bool) → false ≡ (b && (w && false))
      dead true true = refl
      dead true false = refl
      dead false w = refl

      W : Bool
      W = cond (eqb i.who 0) true
          (cond (eqb i.who 1) (covers σ.schema i.user σ.requester.name)
          (cond (eqb i.who 2) (same_name σ.schema σ.requester.name (get_or es k blank).name) (same_name σ.schema i.user σ.requester.name)))

      go : (v : Bool) (f : Found) → walk σ.schema es 0 i.base ≡ f → reaches es (cond v (reach_from σ es i o f) 0) (suc k) ≡ (B && (W && v))
      go false f e = reach-none es (suc k) ∙ dead B W
      go true None e = reach-none es (suc k) ∙ sym (ap (λ (x : Bool). x && (W && true)) (covered_none i.below i.base e))
      go true (Some b) e = two (eqb i.who 2) refl
        where
          cov : B ≡ base_reaches es i.below b (suc k)
          cov = covered-at i.below i.base b e

          mine : same_name σ.schema σ.requester.name (get_or es k blank).name ≡ eqb (suc k) o
          mine = named_by σ.requester.name (walk σ.schema es 0 σ.requester.name) refl

          and-true : (c : Bool) → c ≡ (c && true)
          and-true true = refl
          and-true false = refl

          always : (c : Bool) → reaches es (cond c (base_reach i.below b) 0) (suc k) ≡ (B && (c && true))
          always true = reach-base es i.below b k ∙ sym cov ∙ and-true B
          always false = reach-none es (suc k) ∙ none_of B
            where
              none_of : (c : Bool) → false ≡ (c && false)
              none_of true = refl
              none_of false = refl

          who' : Bool → Bool
          who' t = cond (eqb i.who 0) true
              (cond (eqb i.who 1) (covers σ.schema i.user σ.requester.name)
              (cond t (same_name σ.schema σ.requester.name (get_or es k blank).name) (same_name σ.schema i.user σ.requester.name)))

          itself : i.who ≡ 2 → who' true ≡ same_name σ.schema σ.requester.name (get_or es k blank).name
          itself q = rw (ne_eqb i.who 0 (λ z. omega arith), ne_eqb i.who 1 (λ z. omega arith))

          two : (t : Bool) → eqb i.who 2 ≡ t → reaches es (cond t (own_reach es i.below b o) (cond (fits_always σ i) (base_reach i.below b) 0)) (suc k) ≡ (B && (who' t && true))
          two true q =
              reach-own es i.below b o k
              ∙ ap₂ (λ (x y : Bool). x && y) (sym cov) (sym mine ∙ sym (itself (eqb-true i.who 2 q)) ∙ and-true (who' true))
          two false q = always (fits_always σ i)
