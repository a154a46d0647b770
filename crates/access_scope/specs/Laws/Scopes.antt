-- Laws of `Scopes`: the ways through the code, and what the numbers stand for.
use Prim.Native.Nat.{ℕ, suc, ◌+◌, ◌*◌}
use Rattle.std.specs.Prelude.{◌≡◌, refl, Bool, true, false, ◌||◌, not, List, [], ◌∷◌, eqb, leb, length, get_or, Some, None}
use Rattle.std.proofs.Common.{sym, ◌∙◌, arith}
use Rattle.std.proofs.Math.Path.{ap, ap₂}
use Rattle.std.proofs.Math.Bool.{◌&&◌, cond}
use borrow.Author.Tests.{eq-eqb, ne_eqb, eqb-true}
use Rattle.rules.specs.Sheet.{Bytes, bit}
use Rattle.rules.specs.Name.{Schema, Name, same_part, same_name, covers}
use Rattle.rules.specs.Directory.{Stored}
use Rattle.rules.specs.Permission.{Item}
use Rattle.rules.specs.Decision.{Setting, level_fits}
use Rattle.rules.specs.Places.{lines_at, parts_of}
use Rattle.rules.proofs.Laws.Tests.{bool-ext, eqb_same}
use Rattle.tables.specs.Numbers.{climbs, walk, number_or0, base_reach, base_reaches, own_reach, fits_always, reach_from, reach_of}
use Rattle.permission_sheet.specs.Noted.{ItemRow}
use Rattle.access_scope.specs.Scopes.{Asker, scope_at, level_by, who_by, asked_by, spread_by, spread_from, item_by}
use Rattle.access_scope.specs.declared.Requester.{Requester}
use Rattle.access_scope.specs.declared.Scope.{Scope}
use Rattle.rules.specs.Value.{Found}

-- ---- the ways through the code

module _ (who : ℕ) (c : Bool) (n m : ℕ) where
  pub who-all : who ≡ 0 → who_by who c n m ≡ true
  unfolding who_by
  who-all e = rw (eq-eqb who 0 e)

  module _ (h : who ≡ 0 → ⊥) where
    pub who-self : who ≡ 2 → who_by who c n m ≡ true
    unfolding who_by
    who-self e = rw (ne_eqb who 0 h, eq-eqb who 2 e)

    module _ (g : who ≡ 2 → ⊥) where
      pub who-below : who ≡ 1 → who_by who c n m ≡ c
      unfolding who_by
      who-below e = rw (ne_eqb who 0 h, ne_eqb who 2 g, eq-eqb who 1 e)

      pub who-other : (who ≡ 1 → ⊥) → (n ≡ m → ⊥) → who_by who c n m ≡ false
      unfolding who_by
      who-other e d = rw (ne_eqb who 0 h, ne_eqb who 2 g, ne_eqb who 1 e, ne_eqb n m d)

      pub who-named : (who ≡ 1 → ⊥) → n ≡ m → who_by who c n m ≡ c
      unfolding who_by
      who-named e d = rw (ne_eqb who 0 h, ne_eqb who 2 g, ne_eqb who 1 e, eq-eqb n m d)

module _ (S : Schema) (w : ℕ) (p : Bytes) (x : Scope) (q : Bytes) (who : Requester) where
  pub asked_by_lem : level_by x.grants x.level who.level ≡ true
      → who_by x.who (covers S (parts_of x.user_parts (lines_at w p x.user)) (parts_of who.parts (lines_at w q who.place))) x.user_parts who.parts ≡ asked_by S w p x q who
  unfolding asked_by
  asked_by_lem h = rw h

  pub unasked : level_by x.grants x.level who.level ≡ false → false ≡ asked_by S w p x q who
  unfolding asked_by
  unasked h = rw h

  module _ (es : List Stored) (o : ℕ) where
    pub item-asked : asked_by S w p x q who ≡ true → spread_from es x.who x.below o (walk S es 0 (parts_of x.base_parts (lines_at w p x.base))) ≡ item_by S es w p x q who o
    unfolding item_by
    item-asked h = rw h

    pub item-unasked : asked_by S w p x q who ≡ false → 0 ≡ item_by S es w p x q who o
    unfolding item_by
    item-unasked h = rw h

module _ (es : List Stored) (below b o : ℕ) where
  pub own-none : o ≡ 0 → 0 ≡ own_reach es (eqb below 1) b o
  unfolding own_reach
  own-none e = rw (eq-eqb o 0 e)

  module _ (h : o ≡ 0 → ⊥) where
    pub own_below : (c : Bool) → below ≡ 1 → c ≡ climbs es o b o → cond c (2 * o + 1) 0 ≡ own_reach es (eqb below 1) b o
    unfolding own_reach base_reaches
    own_below c e q = rw (ne_eqb o 0 h, eq-eqb below 1 e, q)

    pub own_alone : (below ≡ 1 → ⊥) → o ≡ b → 2 * o + 1 ≡ own_reach es (eqb below 1) b o
    unfolding own_reach base_reaches
    own_alone e q = rw (ne_eqb o 0 h, ne_eqb below 1 e, eq-eqb o b q)

    pub own-apart : (below ≡ 1 → ⊥) → (o ≡ b → ⊥) → 0 ≡ own_reach es (eqb below 1) b o
    unfolding own_reach base_reaches
    own-apart e q = rw (ne_eqb o 0 h, ne_eqb below 1 e, ne_eqb o b q)

  module _ (who : ℕ) where
    pub spread-base : (who ≡ 2 → ⊥) → base_reach (eqb below 1) b ≡ spread_by es who below b o
    unfolding spread_by
    spread-base h = rw (ne_eqb who 2 h)

    pub spread-own : who ≡ 2 → own_reach es (eqb below 1) b o ≡ spread_by es who below b o
    unfolding spread_by
    spread-own h = rw (eq-eqb who 2 h)

-- ---- what the numbers stand for

-- two names are the same where one covers the other and they have equally many parts
same_by : (S : Schema) (m n : Name) → same_name S m n ≡ (covers S m n && eqb (length m) (length n))
unfolding same_name covers
same_by S [] [] = sym (eqb_same 0)
same_by S [] (b ∷ bs) = sym (ne_eqb 0 (suc (length bs)) (λ e. omega arith))
same_by S (a ∷ as') [] = refl
same_by S (a ∷ as') (b ∷ bs) = go (same_part S a b) (same_by S as' bs)
  where
    less : (j k : ℕ) → eqb j k ≡ eqb (suc j) (suc k)
    less j k = bool-ext (eqb j k) (eqb (suc j) (suc k)) (λ h. eq-eqb (suc j) (suc k) (ap suc (eqb-true j k h))) (λ h. let z : suc j ≡ suc k = eqb-true (suc j) (suc k) h in eq-eqb j k (omega arith))

    go : (c : Bool) → same_name S as' bs ≡ (covers S as' bs && eqb (length as') (length bs)) → (c && same_name S as' bs) ≡ ((c && covers S as' bs) && eqb (suc (length as')) (suc (length bs)))
    go true ih = ih ∙ ap (λ (x : Bool). covers S as' bs && x) (less (length as') (length bs))
    go false ih = refl

level_by_lem : (σ : Setting) (i : Item) → level_by (bit i.grants) i.level σ.requester.level ≡ level_fits σ i
unfolding level_by level_fits
level_by_lem σ i = go i.grants
  where
    go : (g : Bool) → cond (eqb (bit g) 1) (leb i.level σ.requester.level) true ≡ (not g || leb i.level σ.requester.level)
    go true = refl
    go false = refl

who-by : (σ : Setting) (i : Item) → who_by i.who (covers σ.schema i.user σ.requester.name) (length i.user) (length σ.requester.name) ≡ (eqb i.who 2 || fits_always σ i)
unfolding who_by fits_always
who-by σ i = rw (same_by σ.schema i.user σ.requester.name)
    (go (eqb i.who 0) (eqb i.who 1) (eqb i.who 2) (covers σ.schema i.user σ.requester.name) (eqb (length i.user) (length σ.requester.name)))
  where
    turn : (c n : Bool) → (n && c) ≡ (c && n)
    turn true true = refl
    turn true false = refl
    turn false true = refl
    turn false false = refl

    go : (z o t c n : Bool) → cond z true (cond t true (cond o c (n && c))) ≡ (t || cond z true (cond o c (c && n)))
    go true o true c n = refl
    go true o false c n = refl
    go false o true c n = refl
    go false true false c n = refl
    go false false false c n = turn c n

bit-one : (b : Bool) → eqb (bit b) 1 ≡ b
bit-one true = refl
bit-one false = refl

module _ (σ : Setting) (es : List Stored) (w : ℕ) (p q : Bytes) (rights scopes : List ℕ) (k : ℕ) (who : Requester) (o : ℕ) (i : Item)
    (asker : Asker σ w q who)
    (row : ItemRow w p i (λ j. get_or rights (k * 8 + j) 0) (λ j. get_or scopes (k * 7 + j) 0))
    (own : o ≡ number_or0 (walk σ.schema es 0 (parts_of who.parts (lines_at w q who.place))))
  where
    x : Scope
    x = scope_at rights scopes k

    asked_is : asked_by σ.schema w p (scope_at rights scopes k) q who ≡ (level_fits σ i && (eqb i.who 2 || fits_always σ i))
    unfolding asked_by x
    asked_is =
        ap₂ ◌&&◌
        (ap₂ (λ (g l : ℕ). level_by g l who.level) row.grants row.level ∙ ap (level_by (bit i.grants) i.level) (sym asker.level-is) ∙ level_by_lem σ i)
        (ap₂ (λ (u : ℕ) (n : Name). who_by u (covers σ.schema n (parts_of who.parts (lines_at w q who.place))) x.user_parts who.parts) row.who row.user
        ∙ ap₂ (λ (a b : ℕ). who_by i.who (covers σ.schema i.user (parts_of who.parts (lines_at w q who.place))) a b) row.user-parts asker.parts_are
        ∙ ap (λ (n : Name). who_by i.who (covers σ.schema i.user n) (length i.user) (length σ.requester.name)) asker.name-is
        ∙ who-by σ i)

    -- what is resolved of the item's rows is its reach
    pub item-is : item_by σ.schema es w p (scope_at rights scopes k) q who o ≡ reach_of σ es i
    unfolding item_by reach_of spread_by x
    item-is =
        ap (λ (b : Bool). cond b from-rows 0) asked_is
        ∙ ap (λ (n : ℕ). cond (level_fits σ i && (eqb i.who 2 || fits_always σ i)) n 0) rows_are
        ∙ go (walk σ.schema es 0 i.base)
      where
        from-rows : ℕ
        from-rows = spread_from es x.who x.below o (walk σ.schema es 0 (parts_of x.base_parts (lines_at w p x.base)))

        O : ℕ
        O = number_or0 (walk σ.schema es 0 σ.requester.name)

        rows_are : from-rows ≡ spread_from es i.who (bit i.below) O (walk σ.schema es 0 i.base)
        rows_are =
            ap₂ (λ (u b : ℕ). spread_from es u b o (walk σ.schema es 0 (parts_of x.base_parts (lines_at w p x.base)))) row.who row.below
            ∙ ap₂ (λ (n : Name) (m : ℕ). spread_from es i.who (bit i.below) m (walk σ.schema es 0 n)) row.base own
            ∙ ap (λ (n : Name). spread_from es i.who (bit i.below) (number_or0 (walk σ.schema es 0 n)) (walk σ.schema es 0 i.base)) asker.name-is

        by : (v t a : Bool) (m n : ℕ) → cond (v && (t || a)) (cond t m n) 0 ≡ cond v (cond t m (cond a n 0)) 0
        by false t a m n = refl
        by true true a m n = refl
        by true false true m n = refl
        by true false false m n = refl

        none : (v c : Bool) (z : ℕ) → cond (v && c) z z ≡ cond v z z
        none true true z = refl
        none true false z = refl
        none false c z = refl

        go : (f : Found) → cond (level_fits σ i && (eqb i.who 2 || fits_always σ i)) (spread_from es i.who (bit i.below) O f) 0 ≡ cond (level_fits σ i) (reach_from σ es i O f) 0
        go None = none (level_fits σ i) (eqb i.who 2 || fits_always σ i) 0
        go (Some b) =
            ap (λ (t : Bool). cond (level_fits σ i && (eqb i.who 2 || fits_always σ i)) (cond (eqb i.who 2) (own_reach es t b O) (base_reach t b)) 0) (bit-one i.below)
            ∙ by (level_fits σ i) (eqb i.who 2) (fits_always σ i) (own_reach es i.below b O) (base_reach i.below b)
