-- Laws of `Twins`: what one mark more tells.
use Rattle.std.specs.Prelude.{ℕ, ◌+◌, ◌/◌, ◌%◌, ◌≤◌, ◌<◌, ◌≡◌, refl, Bool, false, ◌&&◌, List, [], ◌∷◌, ◌++◌, length, get_or}
use Rattle.std.proofs.Math.Path.{sym, ap, ap₂}
use Rattle.std.proofs.Common.{◌∙◌, subst, arith, length-append}
use Rattle.std.proofs.Math.Bool.{true, ◌||◌, and_assoc}
use Rattle.std.proofs.Math.Dec.{eqb}
use borrow.Author.Tests.{eq-eqb, ne_eqb, eqb-true}
use Rattle.rules.specs.Lists.{any, last_or}
use Rattle.rules.specs.Sheet.{Bytes}
use Rattle.rules.specs.Value.{same}
use Rattle.rules.specs.Name.{Schema, Part, part, allowed, equal, same_part}
use Rattle.rules.specs.Directory.{Stored, clashes}
use Rattle.rules.specs.Places.{schema_of}
use Rattle.rules.proofs.Laws.Tests.{and_left, and_right, both, and-cong, bool-ext}
use Rattle.rules.proofs.Laws.Name.{same_part-sym}
use Rattle.name.specs.Schema.{rank_in}
use Rattle.name.specs.Laws.Schema.{rank-type, allowed-within, equal-ranked}
use Rattle.directory_duplicates.specs.Mark.{Mark, marked_bytes, twin}
use Rattle.directory_duplicates.specs.Twins.{owner_of, key_of, Named, Valued}

pub any_snoc : {A : Type 0} (f : A → Bool) (xs : List A) (x : A) → any f (xs ++ (x ∷ [])) ≡ (f x || any f xs)
any_snoc f [] x = refl
any_snoc f (y ∷ ys) x = ap (λ (b : Bool). f y || b) (any_snoc f ys x) ∙ swap (f y) (f x) (any f ys)
  where
    swap : (a b c : Bool) → (a || (b || c)) ≡ (b || (a || c))
    swap true true c = refl
    swap true false c = refl
    swap false b c = refl

pub last_snoc : {A : Type 0} (z : A) (xs : List A) (x : A) → last_or z (xs ++ (x ∷ [])) ≡ x
last_snoc z [] x = refl
last_snoc z (y ∷ ys) x = last_snoc y ys x

same_part-swap : (S : Schema) (a b : Part) → same_part S a b ≡ same_part S b a
same_part-swap S a b = bool-ext _ _ (same_part-sym S a b) (same_part-sym S b a)

-- ---- one mark

module _ (ks : List ℕ) (few : length ks ≤ 64) where
  keys-same : (o u t x : ℕ) → rank_in ks t < length ks → rank_in ks x < length ks → eqb (key_of o (rank_in ks t)) (key_of u (rank_in ks x)) ≡ (eqb o u && eqb t x)
  keys-same o u t x kt kx = bool-ext _ _ there back
    where
      there : eqb (key_of o (rank_in ks t)) (key_of u (rank_in ks x)) ≡ true → (eqb o u && eqb t x) ≡ true
      there e =
          let h : key_of o (rank_in ks t) ≡ key_of u (rank_in ks x) = eqb-true _ _ e in
          let p : o ≡ u = omega (arith, kt, kx) in
          let q : rank_in ks t ≡ rank_in ks x = omega (arith, kt, kx) in
          both (eqb o u) _ (eq-eqb o u p) (eq-eqb t x (sym (rank-type ks t kt) ∙ ap (λ (r : ℕ). get_or ks r 0 / 4) q ∙ rank-type ks x kx))

      back : (eqb o u && eqb t x) ≡ true → eqb (key_of o (rank_in ks t)) (key_of u (rank_in ks x)) ≡ true
      back e =
          let p : o ≡ u = eqb-true o u (and_left _ _ e) in
          let q : t ≡ x = eqb-true t x (and_right (eqb o u) _ e) in
          eq-eqb (key_of o (rank_in ks t)) (key_of u (rank_in ks x)) (cc)

  -- two parts that the schema allows, by type and value
  pub part_same : (t x : ℕ) (u v : Bytes) → allowed (schema_of ks) t u ≡ true → allowed (schema_of ks) x v ≡ true
      → same_part (schema_of ks) (part t u) (part x v) ≡ (eqb t x && same (get_or ks (rank_in ks x) 0 % 4) u v)
  unfolding same_part
  part_same t x u v at ax = and-cong (eqb t x) _ _ one
    where
      one : eqb t x ≡ true → equal (schema_of ks) t u v ≡ same (get_or ks (rank_in ks x) 0 % 4) u v
      one e =
          let q : t ≡ x = eqb-true t x e in
          ap (λ (n : ℕ). equal (schema_of ks) n u v) q
          ∙ equal-ranked ks x u v (subst (λ (n : ℕ). allowed (schema_of ks) n u ≡ true) q at) ax

  module _ (s : Bytes) (m : Mark) (o t : ℕ) (u : Bytes) (key : m.key ≡ key_of o (rank_in ks t)) (bytes : marked_bytes s m ≡ u) (au : allowed (schema_of ks) t u ≡ true) where
    twin-is : (p x : ℕ) (v : Bytes) → allowed (schema_of ks) x v ≡ true → twin s (get_or ks (rank_in ks x) 0 % 4) (key_of p (rank_in ks x)) v m ≡ (eqb o p && same_part (schema_of ks) (part t u) (part x v))
    twin-is p x v ax =
        ap₂ (λ (k : ℕ) (b : Bytes). eqb k (key_of p (rank_in ks x)) && same (get_or ks (rank_in ks x) 0 % 4) b v) key bytes
        ∙ ap (λ (b : Bool). b && same (get_or ks (rank_in ks x) 0 % 4) u v) (keys-same o p t x (allowed-within ks t u au) (allowed-within ks x v ax))
        ∙ and_assoc (eqb o p) (eqb t x) (same (get_or ks (rank_in ks x) 0 % 4) u v)
        ∙ ap (λ (b : Bool). eqb o p && b) (sym (part_same t x u v au ax))

    twin-not : (p x : ℕ) (v : Bytes) → (o ≡ p → ⊥) → allowed (schema_of ks) x v ≡ true → twin s (get_or ks (rank_in ks x) 0 % 4) (key_of p (rank_in ks x)) v m ≡ false
    twin-not p x v h ax = twin-is p x v ax ∙ rw (ne_eqb o p h)

    -- the mark of an entry line, and no value yet
    module _ {es : List Stored} {ms : List Mark} (named : Named s ks es ms) (small : o ≤ 256) (e : Stored) (parent : e.parent ≡ o) (naming : e.naming ≡ part t u) where
      count-is : length (es ++ (e ∷ [])) ≡ length es + 1
      count-is = length-append es (e ∷ [])

      pub named-entry : Named s ks (es ++ (e ∷ [])) (m ∷ ms)
      unfolding clashes
      named-entry = record {
        siblings = λ p x v h ax.
            ap₂ ◌||◌ (twin-is p x v ax) (named.siblings p x v h ax)
            ∙ ap (λ (b : Bool). b || clashes (schema_of ks) es p (part x v)) (ap₂ (λ (k : ℕ) (n : Part). eqb k p && same_part (schema_of ks) n (part x v)) (sym parent) (sym naming))
            ∙ sym (any_snoc (λ d. eqb d.parent p && same_part (schema_of ks) d.naming (part x v)) es e);
        later = λ p x v h ax. ap₂ ◌||◌ (twin-not p x v (λ q. omega (arith, count-is)) ax) (named.later p x v (omega (arith, count-is)) ax);
      }

      pub valued-none : Valued s ks (owner_of (length (es ++ (e ∷ [])))) [] (m ∷ ms)
      valued-none = record {
        repeated = λ x v ax. ap₂ ◌||◌ (twin-not _ x v (λ q. omega (arith, count-is)) ax) (named.later _ x v (omega (arith, count-is)) ax);
      }

    -- the mark of a value line
    module _ {es : List Stored} {vs : List Part} {ms : List Mark} (named : Named s ks es ms) (valued : Valued s ks o vs ms) (owner : o ≡ owner_of (length es)) where
      pub named_value : Named s ks es (m ∷ ms)
      named_value = record {
        siblings = λ p x v h ax. ap₂ ◌||◌ (twin-not p x v (λ q. omega arith) ax) (named.siblings p x v h ax);
        later = λ p x v h ax. ap₂ ◌||◌ (twin-not p x v (λ q. omega arith) ax) (named.later p x v h ax);
      }

      own : (x : ℕ) (v : Bytes) → allowed (schema_of ks) x v ≡ true → twin s (get_or ks (rank_in ks x) 0 % 4) (key_of o (rank_in ks x)) v m ≡ same_part (schema_of ks) (part x v) (part t u)
      own x v ax = twin-is o x v ax ∙ rw (eq-eqb o o refl) (same_part-swap (schema_of ks) (part t u) (part x v))

      pub valued-more : Valued s ks o (vs ++ (part t u ∷ [])) (m ∷ ms)
      valued-more = record {
        repeated = λ x v ax.
            ap₂ ◌||◌ (own x v ax) (valued.repeated x v ax)
            ∙ sym (any_snoc (same_part (schema_of ks) (part x v)) vs (part t u));
      }

pub named_start : (s : Bytes) (ks : List ℕ) → Named s ks [] []
unfolding clashes
named_start s ks = record { siblings = λ p t v h a. refl; later = λ o t v h a. refl }
