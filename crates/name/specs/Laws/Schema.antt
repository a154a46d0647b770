-- Laws of `Schema`: what the rules ask of a type, by its rank and by the syntax found.
use Rattle.std.specs.Prelude.{ℕ, zero, suc, ◌/◌, ◌%◌, ◌<◌, ◌≤◌, ◌≡◌, Bool, ◌&&◌, cond, List, [], ◌∷◌, eqb, ltb, length, get_or, Some, None}
use Rattle.std.proofs.Math.Path.{refl}
use Rattle.std.proofs.Common.{sym, ◌∙◌, le_of_suc-le-suc, not-suc-le-zero, arith, eq-eqb, eqb-true, lt-ltb, le-ltb, ltb-true}
use Rattle.std.proofs.Math.Bool.{true, false}
use Rattle.std.proofs.Math.Option.{Option, none, some}
use Rattle.std.proofs.Math.Dec.{leb-suc-suc}
use Rattle.rules.specs.Lists.{first, first_or}
use Rattle.rules.specs.Sheet.{Bytes}
use Rattle.rules.specs.Value.{fits, same, ordered, order, by_found}
use Rattle.rules.specs.Name.{AttributeType, Schema, by_syntax, of_syntax, known, allowed, equal, order_by, order_of}
use Rattle.rules.specs.FilterItem.{is_less}
use Rattle.rules.proofs.Laws.Tests.{and_left, and_right}
use Rattle.rules.specs.Places.{attribute_of, schema_of}
use Rattle.name.specs.Schema.{Rising, rank_in, syntax_in, allowed_at, equal_by}

-- ---- the rank

pub rank_most : (ks : List ℕ) (t : ℕ) → rank_in ks t ≤ length ks
unfolding rank_in
rank_most [] t = omega arith
rank_most (k ∷ ks) t = go (eqb (k / 4) t) (rank_most ks t)
  where
    go : (b : Bool) → rank_in ks t ≤ length ks → cond b 0 (suc (rank_in ks t)) ≤ suc (length ks)
    go true h = omega arith
    go false h = omega arith

pub rank-type : (ks : List ℕ) (t : ℕ) → rank_in ks t < length ks → get_or ks (rank_in ks t) 0 / 4 ≡ t
unfolding rank_in
rank-type [] t h = absurd (not-suc-le-zero h)
rank-type (k ∷ ks) t h = go (eqb (k / 4) t) refl h (rank-type ks t)
  where
    go : (b : Bool) → eqb (k / 4) t ≡ b → cond b 0 (suc (rank_in ks t)) < suc (length ks) → (rank_in ks t < length ks → get_or ks (rank_in ks t) 0 / 4 ≡ t)
        → get_or (k ∷ ks) (cond b 0 (suc (rank_in ks t))) 0 / 4 ≡ t
    go true e h ih = eqb-true (k / 4) t e
    go false e h ih = ih (le_of_suc-le-suc h)

-- no type stands before its rank
pub rank-first : (ks : List ℕ) (t r : ℕ) → r < length ks → get_or ks r 0 / 4 ≡ t → rank_in ks t ≤ r
unfolding rank_in
rank-first [] t r h e = absurd (not-suc-le-zero h)
rank-first (k ∷ ks) t zero h e = rw (eq-eqb (k / 4) t e) (omega arith)
rank-first (k ∷ ks) t (suc r) h e = go (eqb (k / 4) t) (rank-first ks t r (le_of_suc-le-suc h) e)
  where
    go : (b : Bool) → rank_in ks t ≤ r → cond b 0 (suc (rank_in ks t)) ≤ suc r
    go true i = omega arith
    go false i = omega arith

-- ---- the rank, where the types rise

-- all types are above `n`
pub rising-above : (n : ℕ) (ks : List ℕ) → Rising n ks → (i : ℕ) → i < length ks → n < get_or ks i 0 / 4
rising-above n [] rising i h = absurd (not-suc-le-zero h)
rising-above n (k ∷ ks) rising zero h = rising.0
rising-above n (k ∷ ks) rising (suc i) h = omega (arith, rising.0, rising-above (k / 4) ks rising.1 i (le_of_suc-le-suc h))

known-above : (n : ℕ) (ks : List ℕ) → Rising n ks → (t : ℕ) → rank_in ks t < length ks → n < t
known-above n ks rising t h = omega (arith, rising-above n ks rising (rank_in ks t) h, rank-type ks t h)

-- no later type has a lower rank
pub rank_rises : (n : ℕ) (ks : List ℕ) → Rising n ks → (t u : ℕ) → rank_in ks t < length ks → t ≤ u → rank_in ks t ≤ rank_in ks u
unfolding rank_in
rank_rises n [] rising t u h l = omega arith
rank_rises n (k ∷ ks) rising t u h l = go (eqb (k / 4) t) (eqb (k / 4) u) refl h (λ i. rank_rises (k / 4) ks rising.1 t u i l)
  where
    go : (b d : Bool) → eqb (k / 4) u ≡ d → cond b 0 (suc (rank_in ks t)) < suc (length ks) → (rank_in ks t < length ks → rank_in ks t ≤ rank_in ks u)
        → cond b 0 (suc (rank_in ks t)) ≤ cond d 0 (suc (rank_in ks u))
    go true d e h ih = omega arith
    go false true e h ih = absurd (omega (arith, l, eqb-true (k / 4) u e, known-above (k / 4) ks rising.1 t (le_of_suc-le-suc h)))
    go false false e h ih = omega (arith, ih (le_of_suc-le-suc h))

-- ---- the syntax, by the rank

module _ (ks : List ℕ) (t : ℕ) where
  pub syntax-known : rank_in ks t < length ks → syntax_in ks t ≡ Some (get_or ks (rank_in ks t) 0 % 4)
  unfolding syntax_in
  syntax-known h = rw (lt-ltb (rank_in ks t) (length ks) h)

  pub syntax-unknown : length ks ≤ rank_in ks t → syntax_in ks t ≡ None
  unfolding syntax_in
  syntax-unknown h = rw (le-ltb (rank_in ks t) (length ks) h)

-- ---- the rules by the syntax found

pub by-syntax : (ks : List ℕ) (test : ℕ → Bool) (t : ℕ) → of_syntax (schema_of ks) test t ≡ by_found (syntax_in ks t) test
unfolding of_syntax schema_of attribute_of syntax_in rank_in
by-syntax [] test t = refl
by-syntax (k ∷ ks) test t = go (eqb (k / 4) t) (by-syntax ks test t)
  where
    go : (b : Bool) → of_syntax (schema_of ks) test t ≡ by_found (syntax_in ks t) test
        → by_syntax test (first_or b (attribute_of k) (first (λ x. eqb x.number t) (schema_of ks)))
        ≡ by_found (cond (ltb (cond b 0 (suc (rank_in ks t))) (suc (length ks))) (Some (get_or (k ∷ ks) (cond b 0 (suc (rank_in ks t))) 0 % 4)) None) test
    go true ih = rw (lt-ltb 0 (suc (length ks)) (omega arith))
    go false ih = rw (leb-suc-suc (suc (rank_in ks t)) (length ks)) ih

-- "less", too, is a test of the syntax
less_by : (S : Schema) (t : ℕ) (v u : Bytes) → is_less (order_of S t v u) ≡ of_syntax S (λ s. is_less (order s v u)) t
unfolding order_of of_syntax
less_by S t v u = go (first (λ k. eqb k.number t) S)
  where
    go : (o : Option AttributeType) → is_less (order_by o v u) ≡ by_syntax (λ s. is_less (order s v u)) o
    go none = refl
    go (some k) = refl

module _ (ks : List ℕ) (t : ℕ) where
  module _ (s : ℕ) (e : syntax_in ks t ≡ Some s) where
    pub known_at : known (schema_of ks) t ≡ true
    unfolding known
    known_at = by-syntax ks (λ s. true) t ∙ rw e

    pub allowed_at_lem : (v : Bytes) → allowed (schema_of ks) t v ≡ fits s v
    unfolding allowed
    allowed_at_lem v = by-syntax ks (λ s. fits s v) t ∙ rw e

    pub ordered_at : of_syntax (schema_of ks) ordered t ≡ ordered s
    ordered_at = by-syntax ks ordered t ∙ rw e

    pub less-at : (v u : Bytes) → is_less (order_of (schema_of ks) t v u) ≡ is_less (order s v u)
    less-at v u = less_by (schema_of ks) t v u ∙ by-syntax ks (λ s. is_less (order s v u)) t ∙ rw e

    pub equal-at : (v u : Bytes) → equal (schema_of ks) t v u ≡ equal_by s v u
    unfolding equal equal_by
    equal-at v u = by-syntax ks (λ s. fits s v && (fits s u && same s v u)) t ∙ rw e

  module _ (e : syntax_in ks t ≡ None) where
    pub known-none : known (schema_of ks) t ≡ false
    unfolding known
    known-none = by-syntax ks (λ s. true) t ∙ rw e

    pub allowed-none : (v : Bytes) → allowed (schema_of ks) t v ≡ false
    unfolding allowed
    allowed-none v = by-syntax ks (λ s. fits s v) t ∙ rw e

    pub ordered-none : of_syntax (schema_of ks) ordered t ≡ false
    ordered-none = by-syntax ks ordered t ∙ rw e

    pub equal-none : (v u : Bytes) → equal (schema_of ks) t v u ≡ false
    unfolding equal
    equal-none v u = by-syntax ks (λ s. fits s v && (fits s u && same s v u)) t ∙ rw e

-- ---- a value, by the rank of its type

-- it is allowed by the rules
pub allowed-ranked : (ks : List ℕ) (t : ℕ) (v : Bytes) → allowed_at ks (rank_in ks t) v ≡ allowed (schema_of ks) t v
unfolding allowed_at allowed syntax_in
allowed-ranked ks t v = go (ltb (rank_in ks t) (length ks)) ∙ sym (by-syntax ks (λ s. fits s v) t)
  where
    go : (b : Bool) → (b && fits (get_or ks (rank_in ks t) 0 % 4) v) ≡ by_found (cond b (Some (get_or ks (rank_in ks t) 0 % 4)) None) (λ s. fits s v)
    go true = refl
    go false = refl

-- its type is there, and it is within the syntax
pub allowed-known : (ks : List ℕ) (r : ℕ) (v : Bytes) → allowed_at ks r v ≡ true → (r < length ks) × (fits (get_or ks r 0 % 4) v ≡ true)
unfolding allowed_at
allowed-known ks r v e = (ltb-true r (length ks) (and_left _ _ e), and_right (ltb r (length ks)) _ e)

-- the schema has the type of a value that it allows
pub allowed-within : (ks : List ℕ) (t : ℕ) (v : Bytes) → allowed (schema_of ks) t v ≡ true → rank_in ks t < length ks
allowed-within ks t v a = (allowed-known ks (rank_in ks t) v (allowed-ranked ks t v ∙ a)).0

-- two values of a type that the schema allows
pub equal-ranked : (ks : List ℕ) (t : ℕ) (v u : Bytes) → allowed (schema_of ks) t v ≡ true → allowed (schema_of ks) t u ≡ true
    → equal (schema_of ks) t v u ≡ same (get_or ks (rank_in ks t) 0 % 4) v u
unfolding equal_by
equal-ranked ks t v u p q =
    let a = allowed-known ks (rank_in ks t) v (allowed-ranked ks t v ∙ p) in
    let b = allowed-known ks (rank_in ks t) u (allowed-ranked ks t u ∙ q) in
    equal-at ks t _ (syntax-known ks t a.0) v u ∙ rw (a.1, b.1)

-- ---- equality, told apart first

module _ (s : ℕ) (v u : Bytes) where
  pub equal-apart : same s v u ≡ false → equal_by s v u ≡ false
  unfolding equal_by
  equal-apart e = go (fits s v) (fits s u) (same s v u) e
    where
      go : (a b c : Bool) → c ≡ false → (a && (b && c)) ≡ false
      go true true c e = e
      go true false c e = refl
      go false b c e = refl

  pub equal-unfit : fits s v ≡ false → equal_by s v u ≡ false
  unfolding equal_by
  equal-unfit e = rw e

  pub equal-fit : same s v u ≡ true → fits s v ≡ true → equal_by s v u ≡ fits s u
  unfolding equal_by
  equal-fit e h = rw (h, e) (go (fits s u))
    where
      go : (b : Bool) → (b && true) ≡ b
      go true = refl
      go false = refl
