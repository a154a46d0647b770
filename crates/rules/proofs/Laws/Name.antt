-- Laws of `Name`: equality of values, parts and names goes from one thing to another, and a child's name is its parent's with one part more.
use Rattle.std.specs.Prelude.{◌≡◌, Bool, ◌&&◌, ◌||◌, length}
use Rattle.std.proofs.Math.Path.{refl, ap}
use Rattle.std.proofs.Common.{sym, ◌∙◌, subst}
use Prim.Native.Nat.{ℕ, suc}
use Rattle.std.proofs.Math.Bool.{true, false}
use Rattle.std.proofs.lemmas.Bool.{false≢true}
use Rattle.std.proofs.Math.Option.{Option, none, some}
use mathlib.Core.List.{[], ◌∷◌, ◌++◌}
use Rattle.std.proofs.Math.Dec.{eqb, eqb-suc-suc, eqb-suc-zero}
use borrow.Author.Tests.{eqb-true}
use Rattle.rules.specs.Lists.{first}
use Rattle.rules.specs.Sheet.{Bytes}
use Rattle.rules.specs.Value.{fits, same}
use Rattle.rules.specs.Name.{AttributeType, Schema, by_syntax, of_syntax, allowed, equal, Part, Name, same_part, same_name, covers, child_of}
use Rattle.rules.proofs.Laws.Tests.{and_left, and_right, both, eqb_same}
use Rattle.rules.proofs.Laws.Value.{same_self, same-sym, same-trans}

-- ---- values

module _ (S : Schema) where
  -- equal to one thing, equal to each other
  pub equal-join : (t : ℕ) (v a b : Bytes) → equal S t v a ≡ true → equal S t v b ≡ true → equal S t a b ≡ true
  unfolding equal of_syntax
  equal-join t v a b e h = join (first (λ k. eqb k.number t) S) e h
    where
      join : (o : Option AttributeType)
          → by_syntax (λ s. fits s v && (fits s a && same s v a)) o ≡ true
          → by_syntax (λ s. fits s v && (fits s b && same s v b)) o ≡ true
          → by_syntax (λ s. fits s a && (fits s b && same s a b)) o ≡ true
      join none e h = e
      join (some k) e h =
          let s : ℕ = k.syntax in
          let ea : (fits s a && same s v a) ≡ true = and_right (fits s v) _ e in
          let eb : (fits s b && same s v b) ≡ true = and_right (fits s v) _ h in
          both (fits s a) _ (and_left (fits s a) _ ea)
          (both (fits s b) _ (and_left (fits s b) _ eb) (same-trans s a v b (same-sym s v a (and_right (fits s a) _ ea)) (and_right (fits s b) _ eb)))

  pub equal-self : (t : ℕ) (v a : Bytes) → equal S t v a ≡ true → equal S t v v ≡ true
  unfolding equal of_syntax
  equal-self t v a e = self (first (λ k. eqb k.number t) S) e
    where
      self : (o : Option AttributeType)
          → by_syntax (λ s. fits s v && (fits s a && same s v a)) o ≡ true → by_syntax (λ s. fits s v && (fits s v && same s v v)) o ≡ true
      self none e = e
      self (some k) e =
          let f : fits k.syntax v ≡ true = and_left (fits k.syntax v) _ e in
          both (fits k.syntax v) _ f (both (fits k.syntax v) _ f (same_self k.syntax v))

  pub equal-sym : (t : ℕ) (v w : Bytes) → equal S t v w ≡ true → equal S t w v ≡ true
  equal-sym t v w e = equal-join t v w v e (equal-self t v w e)

  -- ---- parts and names

  pub same_part-join : (c a b : Part) → same_part S c a ≡ true → same_part S c b ≡ true → same_part S a b ≡ true
  unfolding same_part
  same_part-join c a b e h =
      let t : c.type ≡ a.type = eqb-true _ _ (and_left _ _ e) in
      let r : c.type ≡ b.type = eqb-true _ _ (and_left _ _ h) in
      both (eqb a.type b.type) _
      (subst (λ (k : ℕ). eqb a.type k ≡ true) (sym t ∙ r) (eqb_same a.type))
      (subst (λ (k : ℕ). equal S k a.value b.value ≡ true) t
      (equal-join c.type c.value a.value b.value (and_right (eqb c.type a.type) _ e) (and_right (eqb c.type b.type) _ h)))

  same_part-self : (a b : Part) → same_part S a b ≡ true → same_part S a a ≡ true
  unfolding same_part
  same_part-self a b e = both (eqb a.type a.type) _ (eqb_same a.type) (equal-self a.type a.value b.value (and_right (eqb a.type b.type) _ e))

  -- what the schema allows is equal to itself
  pub part-self : (p : Part) → allowed S p.type p.value ≡ true → same_part S p p ≡ true
  unfolding same_part equal allowed of_syntax
  part-self p e = both (eqb p.type p.type) _ (eqb_same p.type) (self (first (λ k. eqb k.number p.type) S) e)
    where
      self : (o : Option AttributeType) → by_syntax (λ s. fits s p.value) o ≡ true → by_syntax (λ s. fits s p.value && (fits s p.value && same s p.value p.value)) o ≡ true
      self none e = e
      self (some k) e = both (fits k.syntax p.value) _ e (both (fits k.syntax p.value) _ e (same_self k.syntax p.value))

  pub same_part-sym : (a b : Part) → same_part S a b ≡ true → same_part S b a ≡ true
  same_part-sym a b e = same_part-join a b a e (same_part-self a b e)

  pub same_name-join : (c a b : Name) → same_name S c a ≡ true → same_name S c b ≡ true → same_name S a b ≡ true
  unfolding same_name
  same_name-join [] [] [] e h = refl
  same_name-join [] [] (b ∷ bs) e h = h
  same_name-join [] (a ∷ as') b e h = absurd (false≢true e)
  same_name-join (c ∷ cs) [] b e h = absurd (false≢true e)
  same_name-join (c ∷ cs) (a ∷ as') [] e h = absurd (false≢true h)
  same_name-join (c ∷ cs) (a ∷ as') (b ∷ bs) e h =
      both (same_part S a b) _
      (same_part-join c a b (and_left _ _ e) (and_left _ _ h))
      (same_name-join cs as' bs (and_right (same_part S c a) _ e) (and_right (same_part S c b) _ h))

  -- ---- names that end in a part

  pub nil-snoc : (n : Name) (a : Part) → same_name S [] (n ++ (a ∷ [])) ≡ false
  unfolding same_name
  nil-snoc [] a = refl
  nil-snoc (b ∷ bs) a = refl

  pub snoc-nil : (n : Name) (a : Part) → same_name S (n ++ (a ∷ [])) [] ≡ false
  unfolding same_name
  snoc-nil [] a = refl
  snoc-nil (b ∷ bs) a = refl

  pub snoc-snoc : (m n : Name) (a b : Part) → same_name S (m ++ (a ∷ [])) (n ++ (b ∷ [])) ≡ true → (same_name S m n ≡ true) × (same_part S a b ≡ true)
  unfolding same_name
  snoc-snoc [] [] a b e = (refl, and_left _ _ e)
  snoc-snoc [] (y ∷ ys) a b e = absurd (false≢true (sym (nil-snoc ys b) ∙ and_right (same_part S a y) _ e))
  snoc-snoc (x ∷ xs) [] a b e = absurd (false≢true (sym (snoc-nil xs a) ∙ and_right (same_part S x b) _ e))
  snoc-snoc (x ∷ xs) (y ∷ ys) a b e =
      let r : (same_name S xs ys ≡ true) × (same_part S a b ≡ true) = snoc-snoc xs ys a b (and_right (same_part S x y) _ e) in
      (both (same_part S x y) _ (and_left (same_part S x y) _ e) r.0, r.1)

  -- a child's name is its parent's with one part more
  pub child-is : (n m : Name) (a : Part) → child_of S n (m ++ (a ∷ [])) ≡ same_name S n m
  unfolding child_of covers same_name
  child-is [] [] a = refl
  child-is [] (x ∷ xs) a = long xs
    where
      long : (xs : Name) → eqb (suc (length (xs ++ (a ∷ [])))) 1 ≡ false
      long [] = refl
      long (y ∷ ys) = eqb-suc-suc (suc (length (ys ++ (a ∷ [])))) 0 ∙ eqb-suc-zero (length (ys ++ (a ∷ [])))
  child-is (c ∷ cs) [] a = short (same_part S c a) cs
    where
      short : (b : Bool) (cs : Name) → (b && covers S cs [] && eqb 1 (suc (suc (length cs)))) ≡ false
      short true [] = refl
      short true (y ∷ ys) = refl
      short false cs = refl
  child-is (c ∷ cs) (x ∷ xs) a =
      step (same_part S c x) (ap (λ (b : Bool). covers S cs (xs ++ (a ∷ [])) && b) (eqb-suc-suc (length (xs ++ (a ∷ []))) (suc (length cs))) ∙ child-is cs xs a)
    where
      step : (b : Bool) → (covers S cs (xs ++ (a ∷ [])) && eqb (suc (length (xs ++ (a ∷ [])))) (suc (suc (length cs)))) ≡ same_name S cs xs
          → (b && covers S cs (xs ++ (a ∷ [])) && eqb (suc (length (xs ++ (a ∷ [])))) (suc (suc (length cs)))) ≡ (b && same_name S cs xs)
      step true ih = ih
      step false ih = refl

  pub covers-nil : (n : Name) → covers S n [] ≡ same_name S n []
  unfolding covers same_name
  covers-nil [] = refl
  covers-nil (c ∷ cs) = refl

  -- at or below a name: of that name, or with a parent that is at or below it
  pub covers_snoc : (n m : Name) (a : Part) → covers S n (m ++ (a ∷ [])) ≡ (same_name S n (m ++ (a ∷ [])) || covers S n m)
  unfolding covers same_name
  covers_snoc [] [] a = refl
  covers_snoc [] (x ∷ xs) a = refl
  covers_snoc (c ∷ []) [] a = go (same_part S c a)
    where
      go : (b : Bool) → (b && true) ≡ (b && true || false)
      go true = refl
      go false = refl
  covers_snoc (c ∷ (y ∷ ys)) [] a = go (same_part S c a)
    where
      go : (b : Bool) → (b && false) ≡ (b && false || false)
      go true = refl
      go false = refl
  covers_snoc (c ∷ cs) (x ∷ xs) a = go (same_part S c x) (covers_snoc cs xs a)
    where
      go : (b : Bool) → covers S cs (xs ++ (a ∷ [])) ≡ (same_name S cs (xs ++ (a ∷ [])) || covers S cs xs)
          → (b && covers S cs (xs ++ (a ∷ []))) ≡ (b && same_name S cs (xs ++ (a ∷ [])) || b && covers S cs xs)
      go true e = e
      go false e = refl

  pub same-covers : (n m : Name) → same_name S n m ≡ true → covers S n m ≡ true
  unfolding same_name covers
  same-covers [] m e = refl
  same-covers (c ∷ cs) [] e = e
  same-covers (c ∷ cs) (x ∷ xs) e = both (same_part S c x) _ (and_left (same_part S c x) _ e) (same-covers cs xs (and_right (same_part S c x) _ e))

  pub same_length : (a b : Name) → same_name S a b ≡ true → length a ≡ length b
  unfolding same_name
  same_length [] [] e = refl
  same_length [] (y ∷ ys) e = absurd (false≢true e)
  same_length (x ∷ xs) [] e = absurd (false≢true e)
  same_length (x ∷ xs) (y ∷ ys) e = ap suc (same_length xs ys (and_right (same_part S x y) _ e))
