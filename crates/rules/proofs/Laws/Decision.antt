-- Laws of `Decision`: the decision function in one pass over the items, each with a weight, and equal values have equal permissions.
use Rattle.std.specs.Prelude.{◌≡◌, ◌⊎◌, true, false, ◌&&◌, ◌||◌, cond, leb}
use Rattle.std.proofs.Math.Path.{refl, ap, fun_ext}
use Rattle.std.proofs.Common.{sym, ap₂, ◌∙◌, subst, inl, inr, arith, true≢false, ltb-true, ltb-false, lt-ltb, eqb-true, leb-false}
use Prim.Native.Nat.{ℕ, suc, ◌+◌, ◌*◌, ◌≤◌, ◌<◌}
use Rattle.std.proofs.Math.Bool.{Bool, not}
use Rattle.std.proofs.lemmas.Bool.{false≢true, eqb-false}
use mathlib.Core.List.Memᴰ
use mathlib.Core.List.{List, [], ◌∷◌, ◌++◌, Memᴰ, append_assoc, append-nil}
use Rattle.std.proofs.Math.Dec.{ltb, eqb}
use Rattle.rules.specs.Lists.{given, any, keep}
use Rattle.rules.specs.Sheet.{Bytes}
use Rattle.rules.specs.Name.{Name, equal}
use Rattle.rules.specs.Permission.{Item}
use Rattle.rules.specs.Decision.{Setting, Thing, of_value, what_covers, names, applies, rank, explicit, highest, all_grant, granted}
use Rattle.rules.specs.Derived.{weight}
use Rattle.rules.proofs.Laws.Tests.{and_left, and_right, both, bool-ext, not-of, of-not}
use Rattle.rules.proofs.Laws.Name.{equal-join, equal-sym}

-- ---- what is kept of a list

module _ {A : Type 0} where
  any-mem : (p : A → Bool) (xs : List A) (x : A) → Memᴰ x xs → p x ≡ true → any p xs ≡ true
  any-mem p [] x m e = absurd (Memᴰ.not-nil m)
  any-mem p (y ∷ ys) x m e = go (Memᴰ.cases_cons m) (λ n. any-mem p ys x n e)
    where
      over : (b : Bool) → any p ys ≡ true → (b || any p ys) ≡ true
      over true h = refl
      over false h = h

      go : (x ≡ y) ⊎ Memᴰ x ys → (Memᴰ x ys → any p ys ≡ true) → (p y || any p ys) ≡ true
      go (inl q) k = rw (ap p (sym q) ∙ e)
      go (inr n) k = over (p y) (k n)

  -- an element that passes, if any does
  any_some : (p : A → Bool) (xs : List A) → any p xs ≡ true → (x : A) × Memᴰ x xs × (p x ≡ true)
  any_some p [] e = absurd (false≢true e)
  any_some p (y ∷ ys) e = go (p y) refl e (any_some p ys)
    where
      go : (b : Bool) → p y ≡ b → (b || any p ys) ≡ true → (any p ys ≡ true → (x : A) × Memᴰ x ys × (p x ≡ true)) → (x : A) × Memᴰ x (y ∷ ys) × (p x ≡ true)
      go true q h k = (y, Memᴰ.head refl, q)
      go false q h k = let r : (x : A) × Memᴰ x ys × (p x ≡ true) = k h in (r.0, Memᴰ.tail r.1, r.2)

  any-keep : (p q : A → Bool) (xs : List A) → any p (keep q xs) ≡ any (λ x. q x && p x) xs
  any-keep p q [] = refl
  any-keep p q (x ∷ xs) = go (q x) (any-keep p q xs)
    where
      go : (b : Bool) → any p (keep q xs) ≡ any (λ x. q x && p x) xs → any p (given b (x ∷ []) ++ keep q xs) ≡ (b && p x || any (λ x. q x && p x) xs)
      go true ih = ap (λ (r : Bool). p x || r) ih
      go false ih = ih

  keep-keep : (r q : A → Bool) (xs : List A) → keep r (keep q xs) ≡ keep (λ x. q x && r x) xs
  keep-keep r q [] = refl
  keep-keep r q (x ∷ xs) = go (q x) (keep-keep r q xs)
    where
      go : (b : Bool) → keep r (keep q xs) ≡ keep (λ x. q x && r x) xs → keep r (given b (x ∷ []) ++ keep q xs) ≡ given (b && r x) (x ∷ []) ++ keep (λ x. q x && r x) xs
      go true ih = ap (λ (l : List A). given (r x) (x ∷ []) ++ l) ih
      go false ih = ih

  keep-cong : (q r : A → Bool) (xs : List A) → ((x : A) → Memᴰ x xs → q x ≡ r x) → keep q xs ≡ keep r xs
  keep-cong q r [] h = refl
  keep-cong q r (x ∷ xs) h =
      ap₂ (λ (b : Bool) (l : List A). given b (x ∷ []) ++ l) (h x (Memᴰ.head refl)) (keep-cong q r xs (λ y m. h y (Memᴰ.tail m)))

-- ---- the highest by one number and then by another are the highest by a number made of both

module _ (f g w : Item → ℕ)
    (up : (i j : Item) → f i < f j → w i < w j)
    (level : (i j : Item) → f i ≡ f j → g i < g j → w i < w j)
    (down : (i j : Item) → f i ≡ f j → w i < w j → g i < g j)
  where
    highest-twice : (xs : List Item) → highest g (highest f xs) ≡ highest w xs
    unfolding highest
    highest-twice xs = keep-keep r q xs ∙ keep-cong (λ i. q i && r i) h xs (λ i m. bool-ext (q i && r i) (h i) (there i m) (back i m))
      where
        q : Item → Bool
        q i = not (any (λ j. ltb (f i) (f j)) xs)

        r : Item → Bool
        r i = not (any (λ j. ltb (g i) (g j)) (keep q xs))

        h : Item → Bool
        h i = not (any (λ j. ltb (w i) (w j)) xs)

        -- i is not exceeded
        by-f : (i j : Item) → q i ≡ true → Memᴰ j xs → f i < f j → ⊥
        by-f i j e m l = of-not (any (λ j. ltb (f i) (f j)) xs) e (any-mem (λ j. ltb (f i) (f j)) xs j m (lt-ltb (f i) (f j) l))

        by-g : (i j : Item) → r i ≡ true → Memᴰ j xs → q j ≡ true → g i < g j → ⊥
        by-g i j e m k l =
            of-not (any (λ j. ltb (g i) (g j)) (keep q xs)) e
            (any-keep (λ j. ltb (g i) (g j)) q xs ∙ any-mem (λ j. q j && ltb (g i) (g j)) xs j m (both (q j) (ltb (g i) (g j)) k (lt-ltb (g i) (g j) l)))

        by-w : (i j : Item) → h i ≡ true → Memᴰ j xs → w i < w j → ⊥
        by-w i j e m l = of-not (any (λ j. ltb (w i) (w j)) xs) e (any-mem (λ j. ltb (w i) (w j)) xs j m (lt-ltb (w i) (w j) l))

        there : (i : Item) → Memᴰ i xs → (q i && r i) ≡ true → h i ≡ true
        there i m e = not-of (any (λ j. ltb (w i) (w j)) xs) (λ s. exceeded (any_some (λ j. ltb (w i) (w j)) xs s))
          where
            qi : q i ≡ true
            qi = and_left (q i) (r i) e

            exceeded : ((j : Item) × Memᴰ j xs × (ltb (w i) (w j) ≡ true)) → ⊥
            exceeded t = by-g i t.0 (and_right (q i) (r i) e) t.1 top (down i t.0 same wl)
              where
                j : Item
                j = t.0

                wl : w i < w j
                wl = ltb-true (w i) (w j) t.2

                same : f i ≡ f j
                same = sandwich (λ l. by-f i j qi t.1 l) (λ l. clash (up j i l) wl)
                  where
                    clash : w j < w i → w i < w j → ⊥
                    clash a b = omega arith

                    sandwich : (f i < f j → ⊥) → (f j < f i → ⊥) → f i ≡ f j
                    sandwich a b = omega arith

                top : q j ≡ true
                top = not-of (any (λ k. ltb (f j) (f k)) xs) (λ s. over (any_some (λ k. ltb (f j) (f k)) xs s))
                  where
                    over : ((k : Item) × Memᴰ k xs × (ltb (f j) (f k) ≡ true)) → ⊥
                    over v = by-f i v.0 qi v.1 (subst (λ (n : ℕ). n < f v.0) (sym same) (ltb-true (f j) (f v.0) v.2))

        back : (i : Item) → Memᴰ i xs → h i ≡ true → (q i && r i) ≡ true
        back i m e = both (q i) (r i) qi (not-of (any (λ j. ltb (g i) (g j)) (keep q xs)) (λ s. lower (any_some (λ j. q j && ltb (g i) (g j)) xs (sym (any-keep (λ j. ltb (g i) (g j)) q xs) ∙ s))))
          where
            qi : q i ≡ true
            qi = not-of (any (λ j. ltb (f i) (f j)) xs) (λ s. over (any_some (λ j. ltb (f i) (f j)) xs s))
              where
                over : ((k : Item) × Memᴰ k xs × (ltb (f i) (f k) ≡ true)) → ⊥
                over v = by-w i v.0 e v.1 (up i v.0 (ltb-true (f i) (f v.0) v.2))

            lower : ((j : Item) × Memᴰ j xs × ((q j && ltb (g i) (g j)) ≡ true)) → ⊥
            lower t = by-w i j e t.1 (level i j same (ltb-true (g i) (g j) (and_right (q j) (ltb (g i) (g j)) t.2)))
              where
                j : Item
                j = t.0

                same : f i ≡ f j
                same = sandwich (λ l. by-f i j qi t.1 l) (λ l. by-f j i (and_left (q j) (ltb (g i) (g j)) t.2) m l)
                  where
                    sandwich : (f i < f j → ⊥) → (f j < f i → ⊥) → f i ≡ f j
                    sandwich a b = omega arith

-- ---- the weight of an item

rank-small : (i : Item) → rank i < 3
unfolding rank
rank-small i = go (leb 2 i.who) refl
  where
    go : (b : Bool) → leb 2 i.who ≡ b → cond b 2 i.who < 3
    go true e = omega arith
    go false e = omega (arith, leb-false 2 i.who e)

explicit-small : (i : Item) → explicit i < 2
unfolding explicit
explicit-small i = go (eqb i.what 3 || eqb i.what 5)
  where
    go : (b : Bool) → cond b 1 0 < 2
    go true = omega arith
    go false = omega arith

by-weight : (xs : List Item) → highest explicit (highest rank (highest (λ i. i.precedence) xs)) ≡ highest weight xs
unfolding weight
by-weight xs =
    ap (highest explicit)
    (highest-twice (λ i. i.precedence) rank (λ i. i.precedence * 3 + rank i)
    (λ i j l. omega (arith, rank-small i, rank-small j)) (λ i j e l. omega arith) (λ i j e l. omega arith) xs)
    ∙ highest-twice (λ i. i.precedence * 3 + rank i) explicit weight
    (λ i j l. omega (arith, explicit-small i, explicit-small j)) (λ i j e l. omega arith) (λ i j e l. omega arith) xs

-- ---- one pass

-- the greatest weight so far, plus one (0 while none applies), and whether all items of that weight grant
pub record Standing : Type 0 where
  pub best : ℕ
  pub clear : Bool

abbrev pub start : Standing
start = record { best = 0; clear = false }

unfoldable pub weigh : Standing → Item → Standing
weigh s i =
    cond (ltb s.best (suc (weight i)))
    (record { best = suc (weight i); clear = i.grants })
    (cond (eqb s.best (suc (weight i))) (record { best = s.best; clear = s.clear && i.grants }) s)

-- what a standing says of the items weighed so far
record Says (xs : List Item) (s : Standing) : Type 0 where
  bound : (x : Item) → Memᴰ x xs → weight x < s.best
  empty : s.best ≡ 0 → s.clear ≡ false
  met : (s.best ≡ 0) ⊎ ((x : Item) × Memᴰ x xs × (suc (weight x) ≡ s.best))
  sound : s.clear ≡ true → (x : Item) → Memᴰ x xs → suc (weight x) ≡ s.best → x.grants ≡ true
  full : (s.best ≡ 0 → ⊥) → ((x : Item) → Memᴰ x xs → suc (weight x) ≡ s.best → x.grants ≡ true) → s.clear ≡ true

module _ (xs : List Item) (i : Item) where
  last : Memᴰ i (xs ++ (i ∷ []))
  last = Memᴰ.append_right xs (Memᴰ.head refl)

  split : (P : Item → Type 0) → ((y : Item) → Memᴰ y xs → P y) → P i → (y : Item) → Memᴰ y (xs ++ (i ∷ [])) → P y
  split P before at y m = go (Memᴰ.append_cases xs m)
    where
      go : Memᴰ y xs ⊎ Memᴰ y (i ∷ []) → P y
      go (inl k) = before y k
      go (inr k) = subst P (sym (Memᴰ.eq_of_singleton k)) at

  weigh-says : (s : Standing) → Says xs s → Says (xs ++ (i ∷ [])) (weigh s i)
  unfolding weigh
  weigh-says s k = go (ltb s.best (suc (weight i))) (eqb s.best (suc (weight i))) refl refl
    where
      W : ℕ
      W = weight i

      more : (x : Item) → Memᴰ x xs → Memᴰ x (xs ++ (i ∷ []))
      more x m = Memᴰ.append_left (i ∷ []) m

      heavier : s.best < suc (weight i) → Says (xs ++ (i ∷ [])) (record { best = suc (weight i); clear = i.grants })
      heavier l = record {
        bound = split (λ y. weight y < suc (weight i)) (λ y m. let b : weight y < s.best = k.bound y m in omega arith) (omega arith);
        empty = λ e. absurd (omega (arith, e));
        met = inr (i, last, refl);
        sound = λ c. split (λ y. suc (weight y) ≡ suc (weight i) → y.grants ≡ true) (λ y m e. let b : weight y < s.best = k.bound y m in absurd (omega arith)) (λ e. c);
        full = λ e h. h i last refl;
      }

      equal : s.best ≡ suc (weight i) → Says (xs ++ (i ∷ [])) (record { best = s.best; clear = s.clear && i.grants })
      equal q = record {
        bound = split (λ y. weight y < s.best) k.bound (omega arith);
        empty = λ e. absurd (omega arith);
        met = inr (i, last, sym q);
        sound = λ c. split (λ y. suc (weight y) ≡ s.best → y.grants ≡ true) (k.sound (and_left s.clear i.grants c)) (λ e. and_right s.clear i.grants c);
        full = λ e h. both s.clear i.grants (k.full e (λ x m. h x (more x m))) (h i last (sym q));
      }

      lighter : suc (weight i) ≤ s.best → (s.best ≡ suc (weight i) → ⊥) → Says (xs ++ (i ∷ [])) s
      lighter l n = record {
        bound = split (λ y. weight y < s.best) k.bound l;
        empty = k.empty;
        met = wider k.met;
        sound = λ c. split (λ y. suc (weight y) ≡ s.best → y.grants ≡ true) (k.sound c) (λ e. absurd (n (sym e)));
        full = λ e h. k.full e (λ x m. h x (more x m));
      }
        where
          wider : (s.best ≡ 0) ⊎ ((x : Item) × Memᴰ x xs × (suc (weight x) ≡ s.best)) → (s.best ≡ 0) ⊎ ((x : Item) × Memᴰ x (xs ++ (i ∷ [])) × (suc (weight x) ≡ s.best))
          wider (inl e) = inl e
          wider (inr t) = inr (t.0, more t.0 t.1, t.2)

      go : (a b : Bool) → ltb s.best (suc (weight i)) ≡ a → eqb s.best (suc (weight i)) ≡ b
          → Says (xs ++ (i ∷ [])) (cond a (record { best = suc (weight i); clear = i.grants }) (cond b (record { best = s.best; clear = s.clear && i.grants }) s))
      go true b e h = heavier (ltb-true s.best (suc (weight i)) e)
      go false true e h = equal (eqb-true s.best (suc (weight i)) h)
      go false false e h = lighter (ltb-false s.best (suc (weight i)) e) (eqb-false s.best (suc (weight i)) h)

-- the items in turn, those that pass the test weighed
unfoldable pub weigh_all : (Item → Bool) → Standing → List Item → Standing
weigh_all q s [] = s
weigh_all q s (i ∷ is) = weigh_all q (cond (q i) (weigh s i) s) is

weigh_all-says : (q : Item → Bool) (ys xs : List Item) (s : Standing) → Says xs s → Says (xs ++ keep q ys) (weigh_all q s ys)
unfolding weigh_all
weigh_all-says q [] xs s k = subst (λ (l : List Item). Says l s) (sym (append-nil xs)) k
weigh_all-says q (y ∷ ys) xs s k = go (q y) (λ zs t n. weigh_all-says q ys zs t n)
  where
    go : (b : Bool) → ((zs : List Item) (t : Standing) → Says zs t → Says (zs ++ keep q ys) (weigh_all q t ys))
        → Says (xs ++ (given b (y ∷ []) ++ keep q ys)) (weigh_all q (cond b (weigh s y) s) ys)
    go true ih = subst (λ (l : List Item). Says l (weigh_all q (weigh s y) ys)) (append_assoc xs (y ∷ []) (keep q ys)) (ih (xs ++ (y ∷ [])) (weigh s y) (weigh-says xs y s k))
    go false ih = ih xs s k

start-says : Says [] start
start-says = record {
  bound = λ x m. absurd (Memᴰ.not-nil m);
  empty = λ e. refl;
  met = inl refl;
  sound = λ e x m. absurd (Memᴰ.not-nil m);
  full = λ e h. absurd (e refl);
}

-- the heaviest decide
verdict : (xs : List Item) (s : Standing) → Says xs s → all_grant (highest weight xs) ≡ s.clear
unfolding highest all_grant
verdict xs s k = bool-ext (any (λ i. true) (keep top xs) && not (any (λ i. not i.grants) (keep top xs))) s.clear there back
  where
    top : Item → Bool
    top i = not (any (λ j. ltb (weight i) (weight j)) xs)

    is-top : (i : Item) → suc (weight i) ≡ s.best → top i ≡ true
    is-top i e = not-of (any (λ j. ltb (weight i) (weight j)) xs) (λ h. over (any_some (λ j. ltb (weight i) (weight j)) xs h))
      where
        over : ((j : Item) × Memᴰ j xs × (ltb (weight i) (weight j) ≡ true)) → ⊥
        over t = let b : weight t.0 < s.best = k.bound t.0 t.1 in let l : weight i < weight t.0 = ltb-true (weight i) (weight t.0) t.2 in omega arith

    grants-of : (b : Bool) → (not b ≡ true → ⊥) → b ≡ true
    grants-of true h = refl
    grants-of false h = absurd (h refl)

    there : (any (λ i. true) (keep top xs) && not (any (λ i. not i.grants) (keep top xs))) ≡ true → s.clear ≡ true
    there e = k.full some' all'
      where
        some' : s.best ≡ 0 → ⊥
        some' z = go (any_some (λ i. top i && true) xs (sym (any-keep (λ i. true) top xs) ∙ and_left (any (λ i. true) (keep top xs)) _ e))
          where
            go : ((i : Item) × Memᴰ i xs × ((top i && true) ≡ true)) → ⊥
            go t = let b : weight t.0 < s.best = k.bound t.0 t.1 in omega arith

        all' : (x : Item) → Memᴰ x xs → suc (weight x) ≡ s.best → x.grants ≡ true
        all' x m q =
            grants-of x.grants (λ n. of-not (any (λ i. not i.grants) (keep top xs)) (and_right (any (λ i. true) (keep top xs)) _ e)
            (any-keep (λ i. not i.grants) top xs ∙ any-mem (λ i. top i && not i.grants) xs x m (both (top x) (not x.grants) (is-top x q) n)))

    back : s.clear ≡ true → (any (λ i. true) (keep top xs) && not (any (λ i. not i.grants) (keep top xs))) ≡ true
    back c = from k.met
      where
        from : (s.best ≡ 0) ⊎ ((x : Item) × Memᴰ x xs × (suc (weight x) ≡ s.best)) → (any (λ i. true) (keep top xs) && not (any (λ i. not i.grants) (keep top xs))) ≡ true
        from (inl z) = absurd (true≢false (sym c ∙ k.empty z))
        from (inr t) =
            both (any (λ i. true) (keep top xs)) (not (any (λ i. not i.grants) (keep top xs)))
            (any-keep (λ i. true) top xs ∙ any-mem (λ i. top i && true) xs t.0 t.1 (both (top t.0) true (is-top t.0 t.2) refl))
            (not-of (any (λ i. not i.grants) (keep top xs)) (λ h. deny (any_some (λ i. top i && not i.grants) xs (sym (any-keep (λ i. not i.grants) top xs) ∙ h))))
          where
            deny : ((y : Item) × Memᴰ y xs × ((top y && not y.grants) ≡ true)) → ⊥
            deny v =
                of-not y.grants (and_right (top y) (not y.grants) v.2) (k.sound c y v.1 (level unbeaten (k.bound y v.1) t.2))
              where
                y : Item
                y = v.0

                unbeaten : weight y < weight t.0 → ⊥
                unbeaten l = of-not (any (λ j. ltb (weight y) (weight j)) xs) (and_left (top y) (not y.grants) v.2) (any-mem (λ j. ltb (weight y) (weight j)) xs t.0 t.1 (lt-ltb (weight y) (weight t.0) l))

                level : (weight y < weight t.0 → ⊥) → weight y < s.best → suc (weight t.0) ≡ s.best → suc (weight y) ≡ s.best
                level a b q = omega arith

-- the decision function, in one pass
pub granted-in-one-pass : (σ : Setting) (n : Name) (x : Thing) (q : ℕ) → granted σ n x q ≡ (weigh_all (applies σ n x q) start σ.items).clear
unfolding granted
granted-in-one-pass σ n x q =
    ap all_grant (by-weight (keep (applies σ n x q) σ.items))
    ∙ verdict (keep (applies σ n x q) σ.items) (weigh_all (applies σ n x q) start σ.items) (weigh_all-says (applies σ n x q) σ.items [] start start-says)

unfoldable pub answers : Setting → Thing → ℕ → Item → Bool
answers σ x q i = what_covers σ i x && names σ i q

-- ---- equal values have equal permissions

module _ (σ : Setting) (t : ℕ) (v w : Bytes) (e : equal σ.schema t v w ≡ true) where
  covers-equal : (i : Item) → what_covers σ i (of_value t v) ≡ what_covers σ i (of_value t w)
  unfolding what_covers
  covers-equal i =
      ap (λ (c : Bool). eqb i.what 2 || (eqb i.type t && (eqb i.what 4 || eqb i.what 5 && c)))
      (bool-ext (equal σ.schema t i.value v) (equal σ.schema t i.value w)
      (λ h. equal-join σ.schema t v i.value w (equal-sym σ.schema t i.value v h) e)
      (λ h. equal-join σ.schema t w i.value v (equal-sym σ.schema t i.value w h) (equal-sym σ.schema t v w e)))

  applies-equal : (n : Name) (q : ℕ) (i : Item) → applies σ n (of_value t v) q i ≡ applies σ n (of_value t w) q i
  unfolding applies
  applies-equal n q i = rw (covers-equal i)

  pub granted-equal : (n : Name) (q : ℕ) → granted σ n (of_value t v) q ≡ granted σ n (of_value t w) q
  unfolding granted
  granted-equal n q =
      ap (λ (f : Item → Bool). all_grant (highest explicit (highest rank (highest (λ i. i.precedence) (keep f σ.items))))) (fun_ext (applies-equal n q))
