-- Laws of `Note`: which rows an item enters, and that it changes nothing else.
use Rattle.std.specs.Prelude.{ℕ, zero, suc, ◌+◌, ◌*◌, ◌/◌, ◌%◌, ◌^◌, ◌≤◌, ◌<◌, ◌≡◌, Bool, ◌&&◌, ◌||◌, cond, List, [], ◌∷◌}
use Rattle.std.proofs.Math.Path.{refl}
use Rattle.std.proofs.Common.{sym, ap, ◌∙◌, le_of_suc-le-suc, not-suc-le-zero, arith}
use Rattle.std.proofs.Math.Bool.{true, false}
use Rattle.std.proofs.Math.Dec.{eqb, ltb}
use Rattle.std.proofs.Math.ListN.{length, get_or}
use borrow.Author.Tests.{eq-eqb, ne_eqb, eqb-true, eqb-false, lt-ltb, le-ltb, ltb-true, ltb-false}
use Rattle.name.specs.Schema.{Rising, rank_in}
use Rattle.name.specs.Laws.Schema.{rank-type, rising-above}
use Rattle.permission_sheet.specs.Noted.{DIGEST, GRANTS, WHAT, TYPE, PERMISSIONS}
use Rattle.tables.specs.Held.{type_at}
use Rattle.tables.specs.Sets.{grants_row, permission_row, what_row, type_row, first_slot_row, set_rows, digest_column, SETS, in_row, first_slot, second_slot, slotted}
use Rattle.access_items.specs.Mark.{marked}
use Rattle.access_items.specs.Note.{Small, permitted, grants_noted, about_noted, type_noted}
use Rattle.access_items.specs.Laws.Mark.{marked-length, marked_other, marked-in}

-- ---- rows that the item at place `j` enters

-- those that `hit` names, and no word before the rows of items or after them changes
pub record ItemEntered (j : ℕ) (hit : ℕ → Bool) (s t : List ℕ) : Type 0 where
  pub size : length t ≡ length s
  pub front : (i : ℕ) → i < grants_row * 4 → get_or t i 0 ≡ get_or s i 0
  pub after : (i : ℕ) → digest_column ≤ i → get_or t i 0 ≡ get_or s i 0
  pub rows : (f i : ℕ) → in_row t f i ≡ ((eqb i j && hit f) || in_row s f i)

entered-none : (j : ℕ) (t : List ℕ) → ItemEntered j (λ f. false) t t
entered-none j t = record { size = refl; front = λ i l. refl; after = λ i l. refl; rows = λ f i. go (eqb i j) (in_row t f i) }
  where
    go : (x m : Bool) → m ≡ ((x && false) || m)
    go true m = refl
    go false m = refl

entered-then : (j : ℕ) (g h : ℕ → Bool) (s t u : List ℕ) → ItemEntered j h s t → ItemEntered j g t u → ItemEntered j (λ f. g f || h f) s u
entered-then j g h s t u p q = record {
  size = q.size ∙ p.size;
  front = λ i l. q.front i l ∙ p.front i l;
  after = λ i l. q.after i l ∙ p.after i l;
  rows = λ f i. q.rows f i ∙ ap (λ (m : Bool). (eqb i j && g f) || m) (p.rows f i) ∙ go (eqb i j) (g f) (h f) (in_row s f i);
}
  where
    go : (x a b m : Bool) → ((x && a) || ((x && b) || m)) ≡ ((x && (a || b)) || m)
    go true true b m = refl
    go true false b m = refl
    go false a b m = refl

entered-row : (t : List ℕ) (r j b : ℕ) → length t ≡ SETS → grants_row ≤ r → r < set_rows → j < 256 → b < 2 → ItemEntered j (λ f. eqb f r && eqb b 1) t (marked t r j b)
entered-row t r j b len low high small two = record {
  size = marked-length t r j b;
  front = λ i l. marked_other t r j b i (λ e. omega arith);
  after = λ i l. marked_other t r j b i (λ e. omega arith);
  rows = marked-in t r j b (omega arith) small two;
}

-- ---- the permissions

-- does row `f` stand for one of the first permissions of the mask?
unfoldable pub permits : ℕ → ℕ → ℕ → Bool
permits zero mask f = false
permits (suc b) mask f = (eqb f (permission_row + b) && eqb (mask / 2 ^ b % 2) 1) || permits b mask f

entered-permissions : (n mask j : ℕ) (t : List ℕ) → n ≤ 6 → length t ≡ SETS → j < 256 → ItemEntered j (permits n mask) t (permitted n mask j t)
unfolding permits permitted
entered-permissions zero mask j t h len small = entered-none j t
entered-permissions (suc b) mask j t h len small =
    let before = entered-permissions b mask j t (omega arith) len small in
    let d : mask / 2 ^ b % 2 < 2 = omega arith in
    entered-then j (λ f. eqb f (permission_row + b) && eqb (mask / 2 ^ b % 2) 1) (permits b mask) t (permitted b mask j t) (marked (permitted b mask j t) (permission_row + b) j (mask / 2 ^ b % 2)) before
    (entered-row (permitted b mask j t) (permission_row + b) j (mask / 2 ^ b % 2) (before.size ∙ len) (omega arith) (omega arith) small d)

-- no row from permission_row + n on, and none before permission_row
permits-above : (n mask f : ℕ) → permission_row + n ≤ f → permits n mask f ≡ false
unfolding permits
permits-above zero mask f h = refl
permits-above (suc b) mask f h = rw (ne_eqb f (permission_row + b) (λ e. omega arith)) (permits-above b mask f (omega arith))

permits-below : (n mask f : ℕ) → f < permission_row → permits n mask f ≡ false
unfolding permits
permits-below zero mask f h = refl
permits-below (suc b) mask f h = rw (ne_eqb f (permission_row + b) (λ e. omega arith)) (permits-below b mask f h)

permits-at : (n mask b : ℕ) → b < n → permits n mask (permission_row + b) ≡ eqb (mask / 2 ^ b % 2) 1
unfolding permits
permits-at zero mask b h = absurd (not-suc-le-zero h)
permits-at (suc n) mask b h = go (eqb b n) refl (λ l. permits-at n mask b l)
  where
    none : (x : Bool) → (x || false) ≡ x
    none true = refl
    none false = refl

    go : (x : Bool) → eqb b n ≡ x → (b < n → permits n mask (permission_row + b) ≡ eqb (mask / 2 ^ b % 2) 1)
        → ((eqb (permission_row + b) (permission_row + n) && eqb (mask / 2 ^ n % 2) 1) || permits n mask (permission_row + b)) ≡ eqb (mask / 2 ^ b % 2) 1
    go true e ih =
        let q : b ≡ n = eqb-true b n e in
        rw (eq-eqb (permission_row + b) (permission_row + n) (omega arith), permits-above n mask (permission_row + b) (omega arith))
        (none (eqb (mask / 2 ^ n % 2) 1) ∙ ap (λ (m : ℕ). eqb (mask / 2 ^ m % 2) 1) (sym q))
    go false e ih =
        let d : b ≡ n → ⊥ = eqb-false b n e in
        rw (ne_eqb (permission_row + b) (permission_row + n) (λ z. d (omega arith))) (ih (omega (arith, d)))

-- ---- the type

rank-of : (n : ℕ) (ks : List ℕ) → Rising n ks → (a r : ℕ) → r < length ks → a ≡ type_at ks r → rank_in ks a ≡ r
unfolding rank_in
rank-of n [] h a r l e = absurd (not-suc-le-zero l)
rank-of n (k ∷ ks) h a zero l e = rw (eq-eqb (k / 4) a (sym e))
rank-of n (k ∷ ks) h a (suc r) l e =
    rw (ne_eqb (k / 4) a (λ z. omega (arith, e, z, rising-above (k / 4) ks h.1 r (le_of_suc-le-suc l))))
    (ap suc (rank-of (k / 4) ks h.1 a r (le_of_suc-le-suc l) e))

-- no type has the number 0
rank-none : (n : ℕ) (ks : List ℕ) → Rising n ks → rank_in ks 0 ≡ length ks
unfolding rank_in
rank-none n [] h = refl
rank-none n (k ∷ ks) h = rw (ne_eqb (k / 4) 0 (λ z. omega (arith, z, h.0))) (ap suc (rank-none (k / 4) ks h.1))

module _ (schema : List ℕ) (a : ℕ) where
  -- does row `f` stand for the type?
  unfoldable pub names_type : ℕ → Bool
  names_type f = ltb (rank_in schema a) (length schema) && (eqb f (type_row + rank_in schema a) && eqb 1 1)

  module _ (j : ℕ) (t : List ℕ) where
    pub type-known : rank_in schema a < length schema → type_noted schema a j t ≡ marked t (type_row + rank_in schema a) j 1
    unfolding type_noted
    type-known h = rw (lt-ltb (rank_in schema a) (length schema) h)

    pub type-unknown : length schema ≤ rank_in schema a → type_noted schema a j t ≡ t
    unfolding type_noted
    type-unknown h = rw (le-ltb (rank_in schema a) (length schema) h)

    pub type-none : Rising 0 schema → a ≡ 0 → type_noted schema a j t ≡ t
    type-none h e = type-unknown (omega (arith, rank-none 0 schema h, ap (rank_in schema) e))

    entered-type : length schema ≤ 64 → length t ≡ SETS → j < 256 → ItemEntered j names_type t (type_noted schema a j t)
    unfolding names_type type_noted
    entered-type few len small = go (ltb (rank_in schema a) (length schema)) refl
      where
        go : (b : Bool) → ltb (rank_in schema a) (length schema) ≡ b
            → ItemEntered j (λ f. b && (eqb f (type_row + rank_in schema a) && eqb 1 1)) t (cond b (marked t (type_row + rank_in schema a) j 1) t)
        go true e =
            let l : rank_in schema a < length schema = ltb-true (rank_in schema a) (length schema) e in
            entered-row t (type_row + rank_in schema a) j 1 len (omega arith) (omega arith) small (omega arith)
        go false e = entered-none j t

  -- no row but those of the types
  type-row-other : (f : ℕ) → ((r : ℕ) → r < length schema → f ≡ type_row + r → ⊥) → names_type f ≡ false
  unfolding names_type
  type-row-other f h = go (ltb (rank_in schema a) (length schema)) refl
    where
      go : (b : Bool) → ltb (rank_in schema a) (length schema) ≡ b → (b && (eqb f (type_row + rank_in schema a) && eqb 1 1)) ≡ false
      go true e = rw (ne_eqb f (type_row + rank_in schema a) (h (rank_in schema a) (ltb-true (rank_in schema a) (length schema) e)))
      go false e = refl

  type-row-at : Rising 0 schema → (r : ℕ) → r < length schema → names_type (type_row + r) ≡ eqb a (type_at schema r)
  unfolding names_type
  type-row-at rising r l = go (ltb (rank_in schema a) (length schema)) refl (eqb a (type_at schema r)) refl
    where
      rank : eqb a (type_at schema r) ≡ true → rank_in schema a ≡ r
      rank q = rank-of 0 schema rising a r l (eqb-true a (type_at schema r) q)

      go : (b : Bool) → ltb (rank_in schema a) (length schema) ≡ b → (c : Bool) → eqb a (type_at schema r) ≡ c
          → (b && (eqb (type_row + r) (type_row + rank_in schema a) && eqb 1 1)) ≡ c
      go true e true q = rw (eq-eqb (type_row + r) (type_row + rank_in schema a) (omega (arith, rank q)))
      go true e false q =
          let d : a ≡ type_at schema r → ⊥ = eqb-false a (type_at schema r) q in
          let s : type_at schema (rank_in schema a) ≡ a = rank-type schema a (ltb-true (rank_in schema a) (length schema) e) in
          rw (ne_eqb (type_row + r) (type_row + rank_in schema a) (λ z. let y : rank_in schema a ≡ r = omega arith in d (sym s ∙ ap (type_at schema) y)))
      go false e true q = absurd (omega (arith, rank q, ltb-false (rank_in schema a) (length schema) e))
      go false e false q = refl

-- ---- the rows of one item

module _ (rights : List ℕ) (at : ℕ) (schema : List ℕ) where
  -- does the item enter row `f`?
  unfoldable pub belongs : ℕ → Bool
  belongs f = names_type schema (get_or rights (at + TYPE) 0) f
      || (((eqb f (second_slot (get_or rights (at + DIGEST) 0)) && eqb 1 1) || ((eqb f (first_slot (get_or rights (at + DIGEST) 0)) && eqb 1 1) || (eqb f (what_row + get_or rights (at + WHAT) 0) && eqb 1 1)))
      || (permits 6 (get_or rights (at + PERMISSIONS) 0) f || (eqb f grants_row && eqb (get_or rights (at + GRANTS) 0) 1)))

  module _ (small : Small rights at) (rising : Rising 0 schema) (few : length schema ≤ 64) where
    entered-grants : (j : ℕ) (t : List ℕ) → length t ≡ SETS → j < 256
        → ItemEntered j (λ f. permits 6 (get_or rights (at + PERMISSIONS) 0) f || (eqb f grants_row && eqb (get_or rights (at + GRANTS) 0) 1)) t (grants_noted rights at j t)
    unfolding grants_noted
    entered-grants j t len h =
        let t₁ = marked t grants_row j (get_or rights (at + GRANTS) 0) in
        let g = entered-row t grants_row j (get_or rights (at + GRANTS) 0) len (omega arith) (omega arith) h small.grants in
        entered-then j (permits 6 (get_or rights (at + PERMISSIONS) 0)) (λ f. eqb f grants_row && eqb (get_or rights (at + GRANTS) 0) 1) t t₁ (permitted 6 (get_or rights (at + PERMISSIONS) 0) j t₁) g
        (entered-permissions 6 (get_or rights (at + PERMISSIONS) 0) j t₁ (omega arith) (g.size ∙ len) h)

    entered-about : (j : ℕ) (t : List ℕ) → length t ≡ SETS → j < 256
        → ItemEntered j (λ f. (eqb f (second_slot (get_or rights (at + DIGEST) 0)) && eqb 1 1) || ((eqb f (first_slot (get_or rights (at + DIGEST) 0)) && eqb 1 1) || (eqb f (what_row + get_or rights (at + WHAT) 0) && eqb 1 1))) t
        (about_noted rights at j t)
    unfolding about_noted
    entered-about j t len h =
        let d = get_or rights (at + DIGEST) 0 in
        let t₁ = marked t (what_row + get_or rights (at + WHAT) 0) j 1 in
        let t₂ = marked t₁ (first_slot d) j 1 in
        let a = entered-row t (what_row + get_or rights (at + WHAT) 0) j 1 len (omega arith) (omega (arith, small.what)) h (omega arith) in
        let b = entered-row t₁ (first_slot d) j 1 (a.size ∙ len) (omega arith) (omega arith) h (omega arith) in
        let c = entered-then j (λ f. eqb f (first_slot d) && eqb 1 1) (λ f. eqb f (what_row + get_or rights (at + WHAT) 0) && eqb 1 1) t t₁ t₂ a b in
        entered-then j (λ f. eqb f (second_slot d) && eqb 1 1) _ t t₂ (marked t₂ (second_slot d) j 1) c
        (entered-row t₂ (second_slot d) j 1 (c.size ∙ len) (omega arith) (omega arith) h (omega arith))

    pub entered-item : (j : ℕ) (t : List ℕ) → length t ≡ SETS → j < 256
        → ItemEntered j belongs t (type_noted schema (get_or rights (at + TYPE) 0) j (about_noted rights at j (grants_noted rights at j t)))
    unfolding belongs
    entered-item j t len h =
        let t₁ = grants_noted rights at j t in
        let t₂ = about_noted rights at j t₁ in
        let g = entered-grants j t len h in
        let b = entered-then j _ _ t t₁ t₂ g (entered-about j t₁ (g.size ∙ len) h) in
        entered-then j _ _ t t₂ (type_noted schema (get_or rights (at + TYPE) 0) j t₂) b (entered-type schema (get_or rights (at + TYPE) 0) j t₂ few (b.size ∙ len) h)

    none : (x : Bool) → (x || false) ≡ x
    none true = refl
    none false = refl

    pub belongs-grants : belongs grants_row ≡ eqb (get_or rights (at + GRANTS) 0) 1
    unfolding belongs
    belongs-grants = rw (
      ne_eqb grants_row (first_slot (get_or rights (at + DIGEST) 0)) (λ e. omega arith),
      ne_eqb grants_row (second_slot (get_or rights (at + DIGEST) 0)) (λ e. omega arith),
      type-row-other schema (get_or rights (at + TYPE) 0) grants_row (λ r l e. omega arith),
      ne_eqb grants_row (what_row + get_or rights (at + WHAT) 0) (λ e. omega arith),
      permits-below 6 (get_or rights (at + PERMISSIONS) 0) grants_row (omega arith),
    )

    pub belongs-permission : (b : ℕ) → b < 6 → belongs (permission_row + b) ≡ eqb (get_or rights (at + PERMISSIONS) 0 / 2 ^ b % 2) 1
    unfolding belongs
    belongs-permission b h = rw (
      ne_eqb (permission_row + b) (first_slot (get_or rights (at + DIGEST) 0)) (λ e. omega arith),
      ne_eqb (permission_row + b) (second_slot (get_or rights (at + DIGEST) 0)) (λ e. omega arith),
      type-row-other schema (get_or rights (at + TYPE) 0) (permission_row + b) (λ r l e. omega arith),
      ne_eqb (permission_row + b) (what_row + get_or rights (at + WHAT) 0) (λ e. omega arith),
      permits-at 6 (get_or rights (at + PERMISSIONS) 0) b h,
      ne_eqb (permission_row + b) grants_row (λ e. omega arith),
    ) (none (eqb (get_or rights (at + PERMISSIONS) 0 / 2 ^ b % 2) 1))

    pub belongs-what : (x : ℕ) → x < 6 → belongs (what_row + x) ≡ eqb (get_or rights (at + WHAT) 0) x
    unfolding belongs
    belongs-what x h = rw (
      ne_eqb (what_row + x) (first_slot (get_or rights (at + DIGEST) 0)) (λ e. omega arith),
      ne_eqb (what_row + x) (second_slot (get_or rights (at + DIGEST) 0)) (λ e. omega arith),
      type-row-other schema (get_or rights (at + TYPE) 0) (what_row + x) (λ r l e. omega arith),
      permits-above 6 (get_or rights (at + PERMISSIONS) 0) (what_row + x) (omega arith),
      ne_eqb (what_row + x) grants_row (λ e. omega arith),
    ) (go (eqb (get_or rights (at + WHAT) 0) x) refl)
      where
        go : (b : Bool) → eqb (get_or rights (at + WHAT) 0) x ≡ b → ((eqb (what_row + x) (what_row + get_or rights (at + WHAT) 0) && true) || false) ≡ b
        go true e = rw (eq-eqb (what_row + x) (what_row + get_or rights (at + WHAT) 0) (omega (arith, eqb-true (get_or rights (at + WHAT) 0) x e)))
        go false e =
            let d : get_or rights (at + WHAT) 0 ≡ x → ⊥ = eqb-false (get_or rights (at + WHAT) 0) x e in
            rw (ne_eqb (what_row + x) (what_row + get_or rights (at + WHAT) 0) (λ z. d (omega arith)))

    pub belongs-type : (r : ℕ) → r < length schema → belongs (type_row + r) ≡ eqb (get_or rights (at + TYPE) 0) (type_at schema r)
    unfolding belongs
    belongs-type r h = rw (
      ne_eqb (type_row + r) (first_slot (get_or rights (at + DIGEST) 0)) (λ e. omega arith),
      ne_eqb (type_row + r) (second_slot (get_or rights (at + DIGEST) 0)) (λ e. omega arith),
      ne_eqb (type_row + r) (what_row + get_or rights (at + WHAT) 0) (λ e. omega (arith, small.what)),
      permits-above 6 (get_or rights (at + PERMISSIONS) 0) (type_row + r) (omega arith),
      ne_eqb (type_row + r) grants_row (λ e. omega arith),
    ) (none (names_type schema (get_or rights (at + TYPE) 0) (type_row + r)) ∙ type-row-at schema (get_or rights (at + TYPE) 0) rising r h)

    pub belongs-slot : (r : ℕ) → first_slot_row ≤ r → r < set_rows → belongs r ≡ slotted (get_or rights (at + DIGEST) 0) r
    unfolding belongs slotted
    belongs-slot r h l = rw (
      type-row-other schema (get_or rights (at + TYPE) 0) r (λ q m e. omega arith),
      ne_eqb r (what_row + get_or rights (at + WHAT) 0) (λ e. omega (arith, small.what)),
      permits-above 6 (get_or rights (at + PERMISSIONS) 0) r (omega arith),
      ne_eqb r grants_row (λ e. omega arith),
    ) (go (eqb r (first_slot (get_or rights (at + DIGEST) 0))) (eqb r (second_slot (get_or rights (at + DIGEST) 0))))
      where
        go : (a b : Bool) → (((b && true) || ((a && true) || false)) || false) ≡ (a || b)
        go true true = refl
        go true false = refl
        go false true = refl
        go false false = refl
