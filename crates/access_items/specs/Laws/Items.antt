-- Laws of `Items`: what the table holds when all items are noted.
use Prim.Native.Nat.{ℕ, zero, suc, ◌+◌, ◌*◌, ◌/◌, ◌%◌, ◌^◌, ◌≤◌, ◌<◌}
use Rattle.std.specs.Prelude.{◌≡◌, refl, Bool, true, false, ◌&&◌, ◌||◌, cond, eqb, ltb, length, set, take, drop, replicate}
use Rattle.std.proofs.Common.{sym, ap₂, ◌∙◌, subst, add-one, arith, eqb-true, lt-ltb, le-ltb, ltb-true, ltb-false}
use Rattle.std.proofs.Math.Path.{ap}
use mathlib.Core.List.{List}
use Rattle.std.proofs.Math.ListN.{get_or, length-set}
use Rattle.std.proofs.lemmas.List.{length-replicate}
use Rattle.std.proofs.Math.Seq.{get_or-set_same, get_or-set_other}
use Rattle.std.proofs.lemmas.Bool.{eqb-false}
use Rattle.rules.specs.Sheet.{Bytes, bit}
use Rattle.rules.specs.Permission.{Item}
use Rattle.rules.specs.Derived.{item_at}
use Rattle.value_syntax.specs.Laws.Digest.{digest-bound}
use Rattle.name.specs.Schema.{Rising, rank_in}
use Rattle.permission_sheet.specs.Noted.{ItemRow, DIGEST, TYPE, VALUE, LENGTH, RIGHTS, SCOPES}
use Rattle.tables.specs.Held.{type_at}
use Rattle.tables.specs.Sets.{grants_row, permission_row, what_row, type_row, set_rows, digest_column, value_place_column, value_length_column, SETS, in_row, slotted, Items}
use Rattle.access_items.specs.Note.{Small, Rows, permitted, value_noted, about_noted, type_noted, grants_noted, item_noted, items_noted}
use Rattle.access_items.specs.Sorted.{Sorted}
use Rattle.access_items.specs.Laws.Rows.{same_row, clear-row, zeros, more-in}
use Rattle.access_items.specs.Mark.{marked}
use Rattle.access_items.specs.Laws.Mark.{marked-length}
use Rattle.access_items.specs.Laws.Note.{ItemEntered, belongs, entered-item, belongs-grants, belongs-permission, belongs-what, belongs-type, belongs-slot}

-- one item more
pub items_more : (rights schema order s t u : List ℕ) (j : ℕ) → t ≡ items_noted rights schema order j s → u ≡ item_noted rights (get_or order j 0 * RIGHTS) schema j t → u ≡ items_noted rights schema order (j + 1) s
unfolding items_noted
items_more rights schema order s t u j h e =
    e ∙ ap (item_noted rights (get_or order j 0 * RIGHTS) schema j) h ∙ ap (λ (n : ℕ). items_noted rights schema order n s) (sym (add-one j))

-- ---- the table keeps its length

permitted-length : (n mask j : ℕ) (t : List ℕ) → length (permitted n mask j t) ≡ length t
unfolding permitted
permitted-length zero mask j t = refl
permitted-length (suc b) mask j t = marked-length (permitted b mask j t) (permission_row + b) j (mask / 2 ^ b % 2) ∙ permitted-length b mask j t

type-length : (schema : List ℕ) (a j : ℕ) (t : List ℕ) → length (type_noted schema a j t) ≡ length t
unfolding type_noted
type-length schema a j t = go (ltb (rank_in schema a) (length schema))
  where
    go : (b : Bool) → length (cond b (marked t (type_row + rank_in schema a) j 1) t) ≡ length t
    go true = marked-length t (type_row + rank_in schema a) j 1
    go false = refl

item-length : (rights : List ℕ) (at : ℕ) (schema : List ℕ) (j : ℕ) (t : List ℕ) → length (item_noted rights at schema j t) ≡ length t
unfolding item_noted value_noted about_noted grants_noted
item-length rights at schema j t = simp (length-set, type-length, marked-length, permitted-length)

pub items-length : (rights schema order : List ℕ) (n : ℕ) (t : List ℕ) → length (items_noted rights schema order n t) ≡ length t
unfolding items_noted
items-length rights schema order zero t = refl
items-length rights schema order (suc n) t = item-length rights (get_or order n 0 * RIGHTS) schema n (items_noted rights schema order n t) ∙ items-length rights schema order n t

-- ---- the numbers of a value

module _ (rights : List ℕ) (at j : ℕ) (small : j < 256) (t : List ℕ) (len : length t ≡ SETS) where
  t₁ : List ℕ
  t₁ = set t (digest_column + j) (get_or rights (at + DIGEST) 0)

  t₂ : List ℕ
  t₂ = set t₁ (value_place_column + j) (get_or rights (at + VALUE) 0)

  len₁ : length t₁ ≡ SETS
  unfolding t₁
  len₁ = length-set t (digest_column + j) (get_or rights (at + DIGEST) 0) ∙ len

  len₂ : length t₂ ≡ SETS
  unfolding t₂
  len₂ = length-set t₁ (value_place_column + j) (get_or rights (at + VALUE) 0) ∙ len₁

  value-length : length (value_noted rights at j t) ≡ SETS
  unfolding value_noted t₁ t₂
  value-length = length-set t₂ (value_length_column + j) (get_or rights (at + LENGTH) 0) ∙ len₂

  value-other : (i : ℕ) → (i ≡ digest_column + j → ⊥) → (i ≡ value_place_column + j → ⊥) → (i ≡ value_length_column + j → ⊥) → get_or (value_noted rights at j t) i 0 ≡ get_or t i 0
  unfolding value_noted t₁ t₂
  value-other i a b c =
      get_or-set_other t₂ (value_length_column + j) i (get_or rights (at + LENGTH) 0) 0 c
      ∙ get_or-set_other t₁ (value_place_column + j) i (get_or rights (at + VALUE) 0) 0 b
      ∙ get_or-set_other t (digest_column + j) i (get_or rights (at + DIGEST) 0) 0 a

  value-digest : get_or (value_noted rights at j t) (digest_column + j) 0 ≡ get_or rights (at + DIGEST) 0
  unfolding value_noted t₁ t₂
  value-digest =
      get_or-set_other t₂ (value_length_column + j) (digest_column + j) (get_or rights (at + LENGTH) 0) 0 (λ e. omega arith)
      ∙ get_or-set_other t₁ (value_place_column + j) (digest_column + j) (get_or rights (at + VALUE) 0) 0 (λ e. omega arith)
      ∙ get_or-set_same t (digest_column + j) (get_or rights (at + DIGEST) 0) 0 (omega arith)

  value-place : get_or (value_noted rights at j t) (value_place_column + j) 0 ≡ get_or rights (at + VALUE) 0
  unfolding value_noted t₁ t₂
  value-place =
      get_or-set_other t₂ (value_length_column + j) (value_place_column + j) (get_or rights (at + LENGTH) 0) 0 (λ e. omega arith)
      ∙ get_or-set_same t₁ (value_place_column + j) (get_or rights (at + VALUE) 0) 0 (omega (arith, len₁))

  value-size : get_or (value_noted rights at j t) (value_length_column + j) 0 ≡ get_or rights (at + LENGTH) 0
  unfolding value_noted t₁ t₂
  value-size = get_or-set_same t₂ (value_length_column + j) (get_or rights (at + LENGTH) 0) 0 (omega (arith, len₂))

-- a column of numbers from `c` on, with one place more
more-at : (s t : List ℕ) (c p : ℕ) (x : ℕ → ℕ) → get_or t (c + p) 0 ≡ x p → ((i : ℕ) → i < 256 → (i ≡ p → ⊥) → get_or t (c + i) 0 ≡ get_or s (c + i) 0)
    → ((i : ℕ) → i < 256 → get_or s (c + i) 0 ≡ cond (ltb i p) (x i) 0) → (i : ℕ) → i < 256 → get_or t (c + i) 0 ≡ cond (ltb i (suc p)) (x i) 0
more-at s t c p x here there h i l = go (eqb i p) refl (ltb i p) refl
  where
    go : (b : Bool) → eqb i p ≡ b → (u : Bool) → ltb i p ≡ u → get_or t (c + i) 0 ≡ cond (ltb i (suc p)) (x i) 0
    go true e u f =
        let q : i ≡ p = eqb-true i p e in
        ap (λ (m : ℕ). get_or t (c + m) 0) q ∙ here ∙ ap x (sym q) ∙ ap (λ (b : Bool). cond b (x i) 0) (sym (lt-ltb i (suc p) (omega arith)))
    go false e u f =
        let d : i ≡ p → ⊥ = eqb-false i p e in
        there i l d ∙ h i l ∙ ap (λ (b : Bool). cond b (x i) 0) (f ∙ same u f)
      where
        same : (u : Bool) → ltb i p ≡ u → u ≡ ltb i (suc p)
        same true f = let k : i < p = ltb-true i p f in sym (lt-ltb i (suc p) (omega arith))
        same false f =
            let k : p ≤ i = ltb-false i p f in
            let d : i ≡ p → ⊥ = eqb-false i p e in
            sym (le-ltb i (suc p) (omega arith))

-- ---- the items at the places below `n`

-- where the row of the item at a place begins
abbrev row_start : List ℕ → ℕ → ℕ
row_start order j = get_or order j 0 * RIGHTS

module _ (rights schema order : List ℕ) where
  pub record Filled (n : ℕ) (t : List ℕ) : Type 0 where
    pub size : length t ≡ SETS
    pub front : (i : ℕ) → i < grants_row * 4 → get_or t i 0 ≡ 0
    pub rows : (f j : ℕ) → f < set_rows → in_row t f j ≡ (ltb j n && belongs rights (row_start order j) schema f)
    pub digests : (j : ℕ) → j < 256 → get_or t (digest_column + j) 0 ≡ cond (ltb j n) (get_or rights (row_start order j + DIGEST) 0) 0
    pub places : (j : ℕ) → j < 256 → get_or t (value_place_column + j) 0 ≡ cond (ltb j n) (get_or rights (row_start order j + VALUE) 0) 0
    pub sizes : (j : ℕ) → j < 256 → get_or t (value_length_column + j) 0 ≡ cond (ltb j n) (get_or rights (row_start order j + LENGTH) 0) 0

  filled_none : Filled 0 (replicate SETS 0)
  filled_none = record {
    size = length-replicate {A = ℕ} SETS 0;
    front = λ i l. zeros SETS i;
    rows = λ f j l. clear-row (replicate SETS 0) f (λ i a b. zeros SETS i) j ∙ ap (λ (b : Bool). b && belongs rights (row_start order j) schema f) (sym (le-ltb j 0 (omega arith)));
    digests = λ j l. zeros SETS (digest_column + j) ∙ ap (λ (b : Bool). cond b (get_or rights (row_start order j + DIGEST) 0) 0) (sym (le-ltb j 0 (omega arith)));
    places = λ j l. zeros SETS (value_place_column + j) ∙ ap (λ (b : Bool). cond b (get_or rights (row_start order j + VALUE) 0) 0) (sym (le-ltb j 0 (omega arith)));
    sizes = λ j l. zeros SETS (value_length_column + j) ∙ ap (λ (b : Bool). cond b (get_or rights (row_start order j + LENGTH) 0) 0) (sym (le-ltb j 0 (omega arith)));
  }

  filled_more : (n : ℕ) (t : List ℕ) → n < 256 → Small rights (row_start order n) → Rising 0 schema → length schema ≤ 64 → Filled n t → Filled (suc n) (item_noted rights (row_start order n) schema n t)
  unfolding item_noted
  filled_more n t l small rising few h = record {
    size = value-length rights (row_start order n) n l u len;
    front = λ i b. other i (λ e. omega arith) (λ e. omega arith) (λ e. omega arith) ∙ E.front i b ∙ h.front i b;
    rows = λ f j b.
        same_row v u f (λ i a c. other i (λ e. omega arith) (λ e. omega arith) (λ e. omega arith)) j
        ∙ E.rows f j
        ∙ ap (λ (m : Bool). (eqb j n && belongs rights (row_start order n) schema f) || m) (h.rows f j b)
        ∙ more-in j n (λ i. belongs rights (row_start order i) schema f);
    digests = more-at t v digest_column n (λ i. get_or rights (row_start order i + DIGEST) 0) (value-digest rights (row_start order n) n l u len)
        (λ i b d. other (digest_column + i) (λ e. d (omega arith)) (λ e. omega arith) (λ e. omega arith) ∙ E.after (digest_column + i) (omega arith)) h.digests;
    places = more-at t v value_place_column n (λ i. get_or rights (row_start order i + VALUE) 0) (value-place rights (row_start order n) n l u len)
        (λ i b d. other (value_place_column + i) (λ e. omega arith) (λ e. d (omega arith)) (λ e. omega arith) ∙ E.after (value_place_column + i) (omega arith)) h.places;
    sizes = more-at t v value_length_column n (λ i. get_or rights (row_start order i + LENGTH) 0) (value-size rights (row_start order n) n l u len)
        (λ i b d. other (value_length_column + i) (λ e. omega arith) (λ e. omega arith) (λ e. d (omega arith)) ∙ E.after (value_length_column + i) (omega arith)) h.sizes;
  }
    where
      u : List ℕ
      u = type_noted schema (get_or rights (row_start order n + TYPE) 0) n (about_noted rights (row_start order n) n (grants_noted rights (row_start order n) n t))

      v : List ℕ
      v = value_noted rights (row_start order n) n u

      E : ItemEntered n (belongs rights (row_start order n) schema) t u
      E = entered-item rights (row_start order n) schema small rising few n t h.size l

      len : length u ≡ SETS
      len = E.size ∙ h.size

      other : (i : ℕ) → (i ≡ digest_column + n → ⊥) → (i ≡ value_place_column + n → ⊥) → (i ≡ value_length_column + n → ⊥) → get_or v i 0 ≡ get_or u i 0
      other = value-other rights (row_start order n) n l u len

  module _ (small : Rows rights order) (rising : Rising 0 schema) (few : length schema ≤ 64) (room : length order ≤ 256) where
    filled-all : (n : ℕ) → n ≤ length order → Filled n (items_noted rights schema order n (replicate SETS 0))
    unfolding items_noted
    filled-all zero l = filled_none
    filled-all (suc n) l = filled_more n (items_noted rights schema order n (replicate SETS 0)) (omega arith) (small n l) rising few (filled-all n (omega arith))

-- ---- the items

module _ (w : ℕ) (p : Bytes) (is : List Item) (rights scopes order : List ℕ) (S : Sorted w p is rights scopes order) where
  row_of : (j : ℕ) → j < length is
      → ItemRow w p (item_at is order j) (λ c. get_or rights (row_start order j + c) 0) (λ c. get_or scopes (get_or order j 0 * SCOPES + c) 0)
  row_of j l = S.table.rows (get_or order j 0) (S.ranked.within j l)

  pub small-rows : Rows rights order
  small-rows j l =
      let b : j < length is = subst (λ (m : ℕ). j < m) S.count l in
      let R = row_of j b in
      record {
        within = omega (arith, S.ranked.within j b, S.table.few);
        digest = subst (λ (m : ℕ). m < 4294967296) (sym R.digest) (digest-bound 0 (item_at is order j).value);
        grants = subst (λ (m : ℕ). m < 2) (sym R.grants) (bit-small (item_at is order j).grants);
        what = omega (arith, R.what, R.bounded.what);
      }
    where
      bit-small : (b : Bool) → bit b < 2
      bit-small true = omega arith
      bit-small false = omega arith

  module _ (schema : List ℕ) (rising : Rising 0 schema) (few : length schema ≤ 64) where
    -- the table, all items noted
    abbrev t : List ℕ
    t = items_noted rights schema order (length order) (replicate SETS 0)

    F : Filled rights schema order (length order) t
    F = filled-all rights schema order small-rows rising few (omega (arith, S.count, S.table.few)) (length order) (omega arith)

    -- no word of the entries' rows changes
    pub items-front : (i : ℕ) → i < grants_row * 4 → get_or (items_noted rights schema order (length order) (replicate SETS 0)) i 0 ≡ 0
    items-front = F.front

    below : (j : ℕ) → j < length is → ltb j (length order) ≡ true
    below j l = lt-ltb j (length order) (subst (λ (m : ℕ). j < m) (sym S.count) l)

    small : (j : ℕ) → j < length is → Small rights (row_start order j)
    small j l = small-rows j (subst (λ (m : ℕ). j < m) (sym S.count) l)

    -- a member of a row
    in-row' : (f j : ℕ) → f < set_rows → j < length is → in_row t f j ≡ belongs rights (row_start order j) schema f
    in-row' f j h l = F.rows f j h ∙ ap (λ (b : Bool). b && belongs rights (row_start order j) schema f) (below j l)

    -- a number of a column
    in-column : (c : ℕ) (x : ℕ → ℕ) → ((j : ℕ) → j < 256 → get_or t (c + j) 0 ≡ cond (ltb j (length order)) (x j) 0) → (j : ℕ) → j < length is → get_or t (c + j) 0 ≡ x j
    in-column c x h j l = h j (omega (arith, S.table.few)) ∙ ap (λ (b : Bool). cond b (x j) 0) (below j l)

    pub items-noted : Items is order schema p (items_noted rights schema order (length order) (replicate SETS 0))
    items-noted = record {
      ranked = S.ranked;
      few = S.table.few;
      grants = λ j l.
          in-row' grants_row j (omega arith) l ∙ belongs-grants rights _ _ (small j l) rising few
          ∙ ap (λ (m : ℕ). eqb m 1) (row_of j l).grants ∙ one (item_at is order j).grants;
      permission = λ b j h l.
          in-row' (permission_row + b) j (omega arith) l ∙ belongs-permission rights _ _ (small j l) rising few b h
          ∙ ap (λ (m : ℕ). eqb (m / 2 ^ b % 2) 1) (row_of j l).permissions;
      what = λ x j h l.
          in-row' (what_row + x) j (omega arith) l ∙ belongs-what rights _ _ (small j l) rising few x h ∙ ap (λ (m : ℕ). eqb m x) (row_of j l).what;
      type = λ r j h l.
          in-row' (type_row + r) j (omega arith) l ∙ belongs-type rights _ _ (small j l) rising few r h
          ∙ ap (λ (m : ℕ). eqb m (type_at schema r)) (row_of j l).type;
      slot = λ r j g h l.
          in-row' r j (omega arith) l ∙ belongs-slot rights _ _ (small j l) rising few r g h ∙ ap (λ (m : ℕ). slotted m r) (row_of j l).digest;
      digests = λ j l. in-column digest_column (λ i. get_or rights (row_start order i + DIGEST) 0) F.digests j l ∙ (row_of j l).digest;
      value = λ j l.
          ap₂ (λ (m n : ℕ). take m (drop n p)) (in-column value_length_column (λ i. get_or rights (row_start order i + LENGTH) 0) F.sizes j l)
          (in-column value_place_column (λ i. get_or rights (row_start order i + VALUE) 0) F.places j l)
          ∙ (row_of j l).value;
      within = λ j l. fits j l (ltb j (length order)) refl;
    }
      where
        one : (b : Bool) → eqb (bit b) 1 ≡ b
        one true = refl
        one false = refl

        fits : (j : ℕ) → j < 256 → (b : Bool) → ltb j (length order) ≡ b → get_or t (value_place_column + j) 0 + get_or t (value_length_column + j) 0 ≤ length p
        fits j l true e =
            let b : j < length is = subst (λ (m : ℕ). j < m) S.count (ltb-true j (length order) e) in
            omega (
              arith,
              (row_of j b).value-within,
              in-column value_length_column (λ i. get_or rights (row_start order i + LENGTH) 0) F.sizes j b,
              in-column value_place_column (λ i. get_or rights (row_start order i + VALUE) 0) F.places j b,
            )
        fits j l false e =
            let a : get_or t (value_place_column + j) 0 ≡ 0 = F.places j l ∙ ap (λ (b : Bool). cond b (get_or rights (row_start order j + VALUE) 0) 0) e in
            let b : get_or t (value_length_column + j) 0 ≡ 0 = F.sizes j l ∙ ap (λ (b : Bool). cond b (get_or rights (row_start order j + LENGTH) 0) 0) e in
            omega arith
