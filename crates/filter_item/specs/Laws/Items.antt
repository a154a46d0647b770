-- Laws of `Items`: the rules' item by its numbers, and a law for each way through the code.
use Rattle.std.specs.Prelude.{ℕ, ◌≡◌, refl, Bool, ◌||◌, not, List, [], ◌∷◌, Some, None}
use Rattle.std.proofs.Common.{sym, ◌∙◌, true≢false, arith}
use Rattle.std.proofs.Math.Path.{ap, ap₂, fun_ext}
use Rattle.std.proofs.Math.Bool.{true, false, ◌&&◌, cond}
use Rattle.std.proofs.Math.Dec.{eqb}
use borrow.Author.Tests.{ne_eqb, eqb-true}
use Rattle.rules.specs.Lists.{any, all}
use Rattle.rules.specs.Sheet.{Bytes}
use Rattle.rules.specs.Value.{Piece, text, fits, ordered, order, searchable, contains, by_found}
use Rattle.rules.specs.Name.{Name, Part, Schema, known, allowed, of_syntax, equal, order_of}
use Rattle.rules.specs.Directory.{Entry, held_of}
use Rattle.rules.specs.Permission.{FilterMatch}
use Rattle.rules.specs.Decision.{Setting, of_type, of_value, granted}
use Rattle.rules.specs.Filter.{equality, at_least, at_most, present, substrings, truth}
use Rattle.rules.specs.FilterItem.{is_less, asserted_type, holds, some_value, defined, below, satisfied, decidable, item_truth}
use Rattle.rules.specs.Places.{schema_of}
use Rattle.rules.proofs.Laws.Tests.{and_left}
use Rattle.rules.proofs.Laws.Held.{some_value-flat}
use Rattle.rules.specs.declared.Truth.TheVariants.{Undefined}
use Rattle.name.specs.Schema.{syntax_in, equal_by}
use Rattle.name.specs.Laws.Schema.{by-syntax, known_at, allowed_at_lem, less-at, equal-at}
use Rattle.filter_item.specs.Rows.{held_row, some_row, beside_by}
use Rattle.filter_item.specs.Items.{assertion_by, defined_by, passes_by, satisfied_in}

-- a value of the type `t` counts: the permission `q` is granted on it, and it passes the test
abbrev pub counts_by : Setting → Name → ℕ → ℕ → (Bytes → Bool) → Part → Bool
counts_by σ n t q test p = eqb p.type t && (granted σ n (of_value p.type p.value) q && test p.value)

-- the item is satisfied, given its type's syntax
unfoldable pub satisfied_by : Setting → Entry → ℕ → ℕ → ℕ → List Piece → Bytes → Bool
satisfied_by σ e s k t ps v = cond (eqb k 26) (holds e t) (some_value σ e t FilterMatch (passes_by s k ps v))

-- ---- tests that agree

any-cong : {A : Type 0} (f g : A → Bool) → ((x : A) → f x ≡ g x) → (xs : List A) → any f xs ≡ any g xs
any-cong f g h [] = refl
any-cong f g h (x ∷ xs) = ap₂ ◌||◌ (h x) (any-cong f g h xs)

all-cong : {A : Type 0} (f g : A → Bool) → ((x : A) → f x ≡ g x) → (xs : List A) → all f xs ≡ all g xs
all-cong f g h xs = ap not (any-cong (λ x. not (f x)) (λ x. not (g x)) (λ x. ap not (h x)) xs)

module _ (σ : Setting) (n : Name) (ps : List Part) (t q : ℕ) where
  some-cong : (f g : Bytes → Bool) → ((u : Bytes) → f u ≡ g u) → some_value σ (record { name = n; held = held_of ps }) t q f ≡ some_value σ (record { name = n; held = held_of ps }) t q g
  some-cong f g h =
      some_value-flat σ n ps t q f
      ∙ any-cong (counts_by σ n t q f) (counts_by σ n t q g) (λ p. ap (λ (b : Bool). eqb p.type t && (granted σ n (of_value p.type p.value) q && b)) (h p.value)) ps
      ∙ sym (some_value-flat σ n ps t q g)

-- ---- the rules' item, by the syntax found

module _ (σ : Setting) (ks : List ℕ) (e : σ.schema ≡ schema_of ks) (t : ℕ) where
  by-found : (test : ℕ → Bool) → of_syntax σ.schema test t ≡ by_found (syntax_in ks t) test
  by-found test = ap (λ (S : Schema). of_syntax S test t) e ∙ by-syntax ks test t

  module _ (s : ℕ) (found : syntax_in ks t ≡ Some s) where
    by-at : (test : ℕ → Bool) → of_syntax σ.schema test t ≡ test s
    by-at test = by-found test ∙ rw found

    fits-at : (v : Bytes) → allowed σ.schema t v ≡ fits s v
    fits-at v = ap (λ (S : Schema). allowed S t v) e ∙ allowed_at_lem ks t s found v

    equal_by_lem : (v u : Bytes) → equal σ.schema t v u ≡ equal_by s v u
    equal_by_lem v u = ap (λ (S : Schema). equal S t v u) e ∙ equal-at ks t s found v u

    less_by : (v u : Bytes) → is_less (order_of σ.schema t v u) ≡ is_less (order s v u)
    less_by v u = ap (λ (S : Schema). is_less (order_of S t v u)) e ∙ less-at ks t s found v u

    defined-by : (k : ℕ) (v : Bytes) (ps : List Piece) → defined σ (assertion_by k t v ps) ≡ defined_by s k ps v
    unfolding defined defined_by
    defined-by k v ps = go (eqb k 23) (eqb k 24) (eqb k 25) (eqb k 26)
      where
        go : (a b c d : Bool) → defined σ (cond a (equality t v) (cond b (at_least t v) (cond c (at_most t v) (cond d (present t) (substrings t ps)))))
            ≡ cond a (fits s v) (cond b (ordered s && fits s v) (cond c (ordered s && fits s v) (cond d true (searchable s && all (λ (p : Piece). fits s p.bytes) ps))))
        go true b c d = fits-at v
        go false true c d = ap₂ ◌&&◌ (by-at ordered) (fits-at v)
        go false false true d = ap₂ ◌&&◌ (by-at ordered) (fits-at v)
        go false false false true = ap (λ (S : Schema). known S t) e ∙ known_at ks t s found
        go false false false false = ap₂ ◌&&◌ (by-at searchable) (all-cong (λ (p : Piece). allowed σ.schema t p.bytes) (λ (p : Piece). fits s p.bytes) (λ p. fits-at p.bytes) ps)

    -- a substrings item that is defined is one of text
    text-only : (ps : List Piece) → (searchable s && all (λ (p : Piece). fits s p.bytes) ps) ≡ true → s ≡ text
    unfolding searchable
    text-only ps h = eqb-true s text (and_left (eqb s text) (all (λ (p : Piece). fits s p.bytes) ps) h)

    satisfied-by : (n : Name) (held : List Part) (k : ℕ) (v : Bytes) (ps : List Piece) → defined_by s k ps v ≡ true
        → satisfied σ (record { name = n; held = held_of held }) (assertion_by k t v ps) ≡ satisfied_by σ (record { name = n; held = held_of held }) s k t ps v
    unfolding defined_by satisfied satisfied_by passes_by below
    satisfied-by n held k v ps = go (eqb k 23) (eqb k 24) (eqb k 25) (eqb k 26) (λ h. apart k 23 (λ e. omega arith) h) (λ h. apart k 24 (λ e. omega arith) h) (λ h. apart k 25 (λ e. omega arith) h)
      where
        apart : (k j : ℕ) → (j ≡ 26 → ⊥) → eqb k j ≡ true → eqb k 26 ≡ false
        apart k j ne h = ne_eqb k 26 (λ g. ne (sym (eqb-true k j h) ∙ g))

        go : (a b c d : Bool) → (a ≡ true → d ≡ false) → (b ≡ true → d ≡ false) → (c ≡ true → d ≡ false)
            → cond a (fits s v) (cond b (ordered s && fits s v) (cond c (ordered s && fits s v) (cond d true (searchable s && all (λ (p : Piece). fits s p.bytes) ps)))) ≡ true
            → satisfied σ (record { name = n; held = held_of held }) (cond a (equality t v) (cond b (at_least t v) (cond c (at_most t v) (cond d (present t) (substrings t ps)))))
            ≡ cond d (holds (record { name = n; held = held_of held }) t) (some_value σ (record { name = n; held = held_of held }) t FilterMatch
            (λ u. cond a (equal_by s v u) (cond b (not (is_less (order s u v))) (cond c (not (is_less (order s v u))) (contains text ps u)))))
        go true b c true x y z h = absurd (true≢false (x refl))
        go true b c false x y z h = some-cong σ n held t FilterMatch (λ u. equal σ.schema t v u) (λ u. equal_by s v u) (equal_by_lem v)
        go false true c true x y z h = absurd (true≢false (y refl))
        go false true c false x y z h = some-cong σ n held t FilterMatch (λ u. not (is_less (order_of σ.schema t u v))) (λ u. not (is_less (order s u v))) (λ u. ap not (less_by u v))
        go false false true true x y z h = absurd (true≢false (z refl))
        go false false true false x y z h = some-cong σ n held t FilterMatch (λ u. not (is_less (order_of σ.schema t v u))) (λ u. not (is_less (order s v u))) (λ u. ap not (less_by v u))
        go false false false true x y z h = refl
        go false false false false x y z h = some-cong σ n held t FilterMatch (λ u. of_syntax σ.schema (λ s. contains s ps u) t) (λ u. contains text ps u) (λ u. by-at (λ s. contains s ps u) ∙ ap (λ (s : ℕ). contains s ps u) (text-only ps h))

  -- an unknown type
  module _ (found : syntax_in ks t ≡ None) where
    by-none : (test : ℕ → Bool) → of_syntax σ.schema test t ≡ false
    by-none test = by-found test ∙ rw found

    undefined-unknown : (k : ℕ) (v : Bytes) (ps : List Piece) → defined σ (assertion_by k t v ps) ≡ false
    unfolding defined allowed known
    undefined-unknown k v ps = go (eqb k 23) (eqb k 24) (eqb k 25) (eqb k 26)
      where
        go : (a b c d : Bool) → defined σ (cond a (equality t v) (cond b (at_least t v) (cond c (at_most t v) (cond d (present t) (substrings t ps))))) ≡ false
        go true b c d = by-none (λ s. fits s v)
        go false true c d = ap (λ (x : Bool). x && of_syntax σ.schema (λ s. fits s v) t) (by-none ordered)
        go false false true d = ap (λ (x : Bool). x && of_syntax σ.schema (λ s. fits s v) t) (by-none ordered)
        go false false false true = by-none (λ s. true)
        go false false false false = ap (λ (x : Bool). x && all (λ (p : Piece). of_syntax σ.schema (λ s. fits s p.bytes) t) ps) (by-none searchable)

-- ---- the item's truth: a law for each way through the code

asserted-by : (k t : ℕ) (v : Bytes) (ps : List Piece) → asserted_type (assertion_by k t v ps) ≡ t
unfolding asserted_type
asserted-by k t v ps = go (eqb k 23) (eqb k 24) (eqb k 25) (eqb k 26)
  where
    go : (a b c d : Bool) → asserted_type (cond a (equality t v) (cond b (at_least t v) (cond c (at_most t v) (cond d (present t) (substrings t ps))))) ≡ t
    go true b c d = refl
    go false true c d = refl
    go false false true d = refl
    go false false false true = refl
    go false false false false = refl

module _ (σ : Setting) (n : Name) (held : List Part) (ks : List ℕ) (e : σ.schema ≡ schema_of ks) (k t : ℕ) (v : Bytes) (ps : List Piece) where
  pub item-unknown : syntax_in ks t ≡ None → item_truth σ (record { name = n; held = held_of held }) (assertion_by k t v ps) ≡ Undefined
  unfolding item_truth decidable
  item-unknown found = rw (undefined-unknown σ ks e t found k v ps)

  module _ (s : ℕ) (found : syntax_in ks t ≡ Some s) where
    decidable-by : decidable σ (record { name = n; held = held_of held }) (assertion_by k t v ps) ≡ (defined_by s k ps v && granted σ n (of_type t) FilterMatch)
    unfolding decidable
    decidable-by = ap₂ ◌&&◌ (defined-by σ ks e t s found k v ps) (ap (λ (x : ℕ). granted σ n (of_type x) FilterMatch) (asserted-by k t v ps))

    pub item-undecided : (defined_by s k ps v && granted σ n (of_type t) FilterMatch) ≡ false → item_truth σ (record { name = n; held = held_of held }) (assertion_by k t v ps) ≡ Undefined
    unfolding item_truth
    item-undecided h = rw (decidable-by, h)

    pub item-decided : (defined_by s k ps v && granted σ n (of_type t) FilterMatch) ≡ true
        → item_truth σ (record { name = n; held = held_of held }) (assertion_by k t v ps) ≡ truth (satisfied_by σ (record { name = n; held = held_of held }) s k t ps v)
    unfolding item_truth
    item-decided h = rw (decidable-by, h) (ap truth (satisfied-by σ ks e t s found n held k v ps (and_left (defined_by s k ps v) (granted σ n (of_type t) FilterMatch) h)))

-- ---- the item by its kind: a law for each way through the code

module _ (s k : ℕ) (ps : List Piece) (v u : Bytes) (same : u ≡ v) where
  pub defined-equality : k ≡ 23 → fits s u ≡ defined_by s k ps v
  unfolding defined_by
  defined-equality e = rw (e, same)

  pub defined-least : k ≡ 24 → (ordered s && fits s u) ≡ defined_by s k ps v
  unfolding defined_by
  defined-least e = rw (e, same)

  pub defined-most : k ≡ 25 → (ordered s && fits s u) ≡ defined_by s k ps v
  unfolding defined_by
  defined-most e = rw (e, same)

  pub defined-present : k ≡ 26 → true ≡ defined_by s k ps v
  unfolding defined_by
  defined-present e = rw e

  pub defined-pieces : (k ≡ 23 → ⊥) → (k ≡ 24 → ⊥) → (k ≡ 25 → ⊥) → (k ≡ 26 → ⊥) → (searchable s && all (λ (p : Piece). fits s p.bytes) ps) ≡ defined_by s k ps v
  unfolding defined_by
  defined-pieces a b c e = rw (ne_eqb k 23 a, ne_eqb k 24 b, ne_eqb k 25 c, ne_eqb k 26 e)

  passes-pieces : (k ≡ 23 → ⊥) → (k ≡ 24 → ⊥) → (k ≡ 25 → ⊥) → (x : Bytes) → contains text ps x ≡ passes_by s k ps v x
  unfolding passes_by
  passes-pieces a b c x = rw (ne_eqb k 23 a, ne_eqb k 24 b, ne_eqb k 25 c)

  module _ (d : Bytes) (held values : List ℕ) (first end rank : ℕ) where
    pub satisfied-present : k ≡ 26 → held_row held first end rank ≡ satisfied_in d held values first end rank s k ps v
    unfolding satisfied_in
    satisfied-present e = rw e

    pub satisfied-equality : k ≡ 23 → some_row d held values first end rank (equal_by s u) ≡ satisfied_in d held values first end rank s k ps v
    unfolding satisfied_in passes_by
    satisfied-equality e = rw (e, same)

    pub satisfied-least : k ≡ 24 → some_row d held values first end rank (beside_by s true u) ≡ satisfied_in d held values first end rank s k ps v
    unfolding satisfied_in passes_by
    satisfied-least e = rw (e, same)

    pub satisfied-most : k ≡ 25 → some_row d held values first end rank (beside_by s false u) ≡ satisfied_in d held values first end rank s k ps v
    unfolding satisfied_in passes_by
    satisfied-most e = rw (e, same)

    pub satisfied-pieces : (k ≡ 23 → ⊥) → (k ≡ 24 → ⊥) → (k ≡ 25 → ⊥) → (k ≡ 26 → ⊥) → some_row d held values first end rank (contains text ps) ≡ satisfied_in d held values first end rank s k ps v
    unfolding satisfied_in
    satisfied-pieces a b c e =
        ap (some_row d held values first end rank) (fun_ext (passes-pieces a b c))
        ∙ ap (λ (x : Bool). cond x (held_row held first end rank) (some_row d held values first end rank (passes_by s k ps v))) (sym (ne_eqb k 26 e))
