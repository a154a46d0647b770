-- Laws of the runs of an entry's rows: what is returned of one, and that one after the other they are all that the entry holds.
use Prim.Native.Nat.{ℕ, zero, suc, ◌+◌, ◌-◌, ◌≤◌, ◌<◌}
use Rattle.std.specs.Prelude.{◌≡◌, refl, Bool, true, false, ◌&&◌}
use Rattle.std.proofs.Math.Path.{sym, ap, ap₂, subst}
use Rattle.std.proofs.Common.{◌∙◌, arith}
use mathlib.Core.List.{List, [], ◌∷◌, ◌++◌, append_assoc, append-nil}
use Rattle.std.proofs.Math.Decide.{dec_lt}
use Rattle.std.proofs.Math.ListN.{length, get_or, drop, drop_of_length-le}
use Rattle.std.proofs.Math.Seq.{drop-cons}
use borrow.Author.Tests.{eq-eqb, ne_eqb}
use Rattle.rules.specs.Lists.{gather}
use Rattle.rules.specs.Sheet.{Bytes, Line, line}
use Rattle.rules.specs.Name.{Part, part, Name}
use Rattle.rules.specs.Directory.{Held, Stored, blank, name_at, held_of, entry_of}
use Rattle.rules.specs.Permission.{Read}
use Rattle.rules.specs.Decision.{Setting, of_type, granted}
use Rattle.rules.specs.Request.{Selection}
use Rattle.rules.specs.Answer.{selected, value_lines, type_lines, information}
use Rattle.rules.proofs.Laws.Held.{values_ahead, after_type, held_first}
use Rattle.tables.specs.Book.{width, entry_count, schema, first_at}
use Rattle.tables.specs.Held.{rank_at, bytes_at, type_at, HeldAt}
use Rattle.tables.specs.World.{Entries}
use Rattle.answer_line.specs.Emit.{Emits}
use Rattle.answer_line.specs.Laws.Emit.{emits_none, emits-append}
use Rattle.tables.specs.Plan.{information_at}
use Rattle.answer_information.specs.Information.{EndsAt, row_values, held_by, readable, shown_type, returned}
use Rattle.answer_information.specs.Laws.Rows.{index-suc, rows_of}

-- ---- what is returned of a type

module _ (σ : Setting) (s : Selection) (n : Name) (t : ℕ) where
  pub shown-yes : {b : Bool} → selected s t ≡ true → b ≡ granted σ n (of_type t) Read → b ≡ shown_type σ s n t
  shown-yes e f = f ∙ ap (λ (x : Bool). x && granted σ n (of_type t) Read) (sym e)

  pub shown-not : selected s t ≡ false → false ≡ shown_type σ s n t
  shown-not e = ap (λ (x : Bool). x && granted σ n (of_type t) Read) (sym e)

module _ (σ : Setting) (s : Selection) (n : Name) (h : Held) where
  pub returned-not : shown_type σ s n h.type ≡ false → returned σ s n h ≡ []
  returned-not e = rw e

  pub returned-type : shown_type σ s n h.type ≡ true → s.values ≡ false → (t : ℕ) → t ≡ h.type → returned σ s n h ≡ line 34 t 0 0 [] ∷ []
  unfolding type_lines
  returned-type e f t g = rw (e, f) (ap (λ (u : ℕ). line 34 u 0 0 [] ∷ []) (sym g))

  pub returned-values : shown_type σ s n h.type ≡ true → s.values ≡ true → returned σ s n h ≡ value_lines h.type (readable σ n h.type h.values)
  unfolding type_lines
  returned-values e f = rw (e, f)

-- ---- a run is what is held first

-- of the values `ps`, whose rows begin at `first`, those before index `r` have the type of one rank, and the one at `r` another
module _ (schema : List ℕ) (d : Bytes) (ps : List Part) (held : List ℕ) (first end : ℕ) (h : HeldAt schema d ps held first end)
    (distinct : (i j : ℕ) → i < length schema → j < length schema → type_at schema i ≡ type_at schema j → i ≡ j)
    (rank : ℕ) (known : rank < length schema) (r : ℕ) (in-range : r ≤ length ps) (ends : r < length ps → rank_at held (first + r) ≡ rank → ⊥)
  where
    of-rank : (k : ℕ) → k < length ps → rank_at held (first + k) ≡ rank → (get_or ps k (part 0 [])).type ≡ type_at schema rank
    of-rank k l e = sym (h.row k l).type ∙ ap (type_at schema) e

    -- the rows from index `k` on, `m` of them
    run-ahead : (m k : ℕ) → k + m ≡ r → ((j : ℕ) → k ≤ j → j < r → rank_at held (first + j) ≡ rank)
        → (values_ahead (type_at schema rank) (drop k ps) ≡ row_values d held (first + k) m) × (after_type (type_at schema rank) (drop k ps) ≡ drop r ps)
    unfolding values_ahead after_type row_values
    run-ahead zero k e same = go (dec_lt k (length ps))
      where
        t : ℕ
        t = type_at schema rank

        go : Dec (k < length ps) → (values_ahead (type_at schema rank) (drop k ps) ≡ []) × (after_type (type_at schema rank) (drop k ps) ≡ drop r ps)
        go (yes l) =
            let q : k ≡ r = omega (arith, e) in
            let p : Part = get_or ps k (part 0 []) in
            let ne : p.type ≡ type_at schema rank → ⊥ =
            λ z. ends (omega (arith, q, l)) (ap (λ (j : ℕ). rank_at held (first + j)) (sym q) ∙ distinct (rank_at held (first + k)) rank (h.row k l).rank known ((h.row k l).type ∙ z)) in
            (rw (drop-cons ps k (part 0 []) l, ne_eqb p.type (type_at schema rank) ne), rw (← q, drop-cons ps k (part 0 []) l, ne_eqb p.type (type_at schema rank) ne))
        go (no l) =
            let z : drop k ps ≡ [] = drop_of_length-le ps {i = k} (omega (arith, l)) in
            let y : drop r ps ≡ [] = drop_of_length-le ps {i = r} (omega (arith, l, e)) in
            (rw z, rw (z, y))
    run-ahead (suc m) k e same = go (run-ahead m (suc k) (omega (arith, e)) (λ j a b. same j (omega (arith, a)) b))
      where
        go : (values_ahead (type_at schema rank) (drop (suc k) ps) ≡ row_values d held (first + suc k) m) × (after_type (type_at schema rank) (drop (suc k) ps) ≡ drop r ps)
            → (values_ahead (type_at schema rank) (drop k ps) ≡ bytes_at d held (first + k) ∷ row_values d held (suc (first + k)) m)
            × (after_type (type_at schema rank) (drop k ps) ≡ drop r ps)
        go ih =
            let l : k < length ps = omega (arith, e, in-range) in
            let p : Part = get_or ps k (part 0 []) in
            let q : p.type ≡ type_at schema rank = of-rank k l (same k (omega arith) (omega (arith, e))) in
            let v : p.value ≡ bytes_at d held (first + k) = sym (h.row k l).value in
            let f : first + suc k ≡ suc (first + k) = omega arith in
            (rw (drop-cons ps k (part 0 []) l, eq-eqb p.type (type_at schema rank) q, v, ih.0, f), rw (drop-cons ps k (part 0 []) l, eq-eqb p.type (type_at schema rank) q, ih.1))

    -- what is held from there on
    run-held : (k : ℕ) → k < r → ((j : ℕ) → k ≤ j → j < r → rank_at held (first + j) ≡ rank)
        → held_of (drop k ps) ≡ record { type = type_at schema rank; values = row_values d held (first + k) (r - k) } ∷ held_of (drop r ps)
    unfolding values_ahead after_type
    run-held k g same =
        let t : ℕ = type_at schema rank in
        let l : k < length ps = omega (arith, g, in-range) in
        let p : Part = get_or ps k (part 0 []) in
        let q : p.type ≡ t = of-rank k l (same k (omega arith) g) in
        let ahead : (values_ahead t (drop k ps) ≡ row_values d held (first + k) (r - k)) × (after_type t (drop k ps) ≡ drop r ps) = run-ahead (r - k) k (omega (arith, g)) same in
        let c : drop k ps ≡ p ∷ drop (suc k) ps = drop-cons ps k (part 0 []) l in
        let vs : p.value ∷ values_ahead t (drop (suc k) ps) ≡ row_values d held (first + k) (r - k) = sym (rw (c, eq-eqb p.type t q)) ∙ ahead.0 in
        let rest : after_type t (drop (suc k) ps) ≡ drop r ps = sym (rw (c, eq-eqb p.type t q)) ∙ ahead.1 in
        ap held_of c ∙ held_first p.type p.value (drop (suc k) ps)
        ∙ ap (λ (u : ℕ). record { type = u; values = p.value ∷ values_ahead u (drop (suc k) ps) } ∷ held_of (after_type u (drop (suc k) ps))) q
        ∙ ap₂ (λ (us : List Bytes) (qs : List Part). record { type = t; values = us } ∷ held_of qs) vs rest

-- ---- the runs one after the other

-- the lines of the runs before index `k` are written
pub record Sofar (w : ℕ) (out : Bytes) (at : ℕ) (σ : Setting) (s : Selection) (n : Name) (ps : List Part) (k : ℕ) (out' : Bytes) (r : ℕ) : Type 0 where
  pub done : List Line
  pub emitted : Emits w out at done out' r
  pub all : done ++ gather (returned σ s n) (held_of (drop k ps)) ≡ gather (returned σ s n) (held_of ps)

module _ (w : ℕ) (out : Bytes) (at : ℕ) (σ : Setting) (s : Selection) (n : Name) (ps : List Part) where
  pub sofar-start : (k : ℕ) → k ≡ 0 → Sofar w out at σ s n ps k out at
  sofar-start zero e = record { done = []; emitted = emits_none w out at; all = refl }
  sofar-start (suc k) e = absurd (omega (arith, e))

  -- what is held from index `k` on is `h` and what is held from index `r` on
  held_on : (k r : ℕ) (h : Held) → held_of (drop k ps) ≡ h ∷ held_of (drop r ps) → {out₁ out₂ : Bytes} {m l : ℕ} → Sofar w out at σ s n ps k out₁ m
      → Emits w out₁ m (returned σ s n h) out₂ l → Sofar w out at σ s n ps r out₂ l
  held_on k r h c p q = record {
    done = p.done ++ returned σ s n h;
    emitted = emits-append w out at p.done (returned σ s n h) p.emitted q;
    all = append_assoc p.done (returned σ s n h) (gather (returned σ s n) (held_of (drop r ps))) ∙ ap (λ (hs : List Held). p.done ++ gather (returned σ s n) hs) (sym c) ∙ p.all;
  }

  held-end : (k : ℕ) → length ps ≤ k → {out' : Bytes} {r : ℕ} → Sofar w out at σ s n ps k out' r → Emits w out at (information σ s (record { name = n; held = held_of ps })) out' r
  unfolding information held_of
  held-end k g {out'} {r} p =
      let z : drop k ps ≡ [] = drop_of_length-le ps {i = k} g in
      subst (λ (ls : List Line). Emits w out at ls out' r)
      (sym (append-nil p.done) ∙ ap (λ (qs : List Part). p.done ++ gather (returned σ s n) (held_of qs)) (sym z) ∙ p.all) p.emitted

information-is : (σ : Setting) (es : List Stored) (s : Selection) (k : ℕ)
    → information_at σ es s (suc k) ≡ information σ s (record { name = name_at es (suc k); held = held_of (get_or es k blank).values })
unfolding information_at entry_of name_at
information-is σ es s k = refl

module _ (out : Bytes) (at : ℕ) {σ : Setting} {es : List Stored} {d : Bytes} {book held : List ℕ} (E : Entries σ es d book held) (s : Selection) (e : ℕ) (some : 1 ≤ e) (entry : e ≤ entry_count book)
  where
    here : List Part
    here = (get_or es (e - 1) blank).values

    -- one run more, from row `i` to row `r`
    pub sofar-on : (i r : ℕ) → first_at book (e - 1) ≤ i → EndsAt held i (first_at book e) r → {out₁ out₂ : Bytes} {m l : ℕ}
        → Sofar (width book) out at σ s (name_at es e) (get_or es (e - 1) blank).values (i - first_at book (e - 1)) out₁ m
        → Emits (width book) out₁ m (returned σ s (name_at es e) (held_by d book held (record { rank = rank_at held i; first = i; end = r }))) out₂ l
        → Sofar (width book) out at σ s (name_at es e) (get_or es (e - 1) blank).values (r - first_at book (e - 1)) out₂ l
    unfolding here
    sofar-on i r g run {out₁} {out₂} {m} {l} p q =
        let first : ℕ = first_at book (e - 1) in
        let R : HeldAt (schema book) d here held first (first_at book e) = rows_of E e some entry in
        let a : i < r = run.alike.after in
        let b : r ≤ first_at book e = run.alike.within in
        let k : ℕ = i - first in
        let z : first + k ≡ i = omega (arith, g) in
        let known : rank_at held i < length (schema book) = subst (λ (j : ℕ). rank_at held j < length (schema book)) z (R.row k (omega (arith, g, a, b, R.count))).rank in
        let ends : r - first < length here → rank_at held (first + (r - first)) ≡ rank_at held i → ⊥
        = λ x y. run.ends (omega (arith, x, g, a, R.count)) (ap (λ (j : ℕ). rank_at held j) (let f : r ≡ first + (r - first) = omega (arith, g, a) in f) ∙ y) in
        let same : (j : ℕ) → k ≤ j → j < r - first → rank_at held (first + j) ≡ rank_at held i = λ j x y. run.alike.same (first + j) (omega (arith, x, g)) (omega (arith, y, g)) in
        let c : held_of (drop k here) ≡ record { type = type_at (schema book) (rank_at held i); values = row_values d held (first + k) (r - first - k) } ∷ held_of (drop (r - first) here)
        = run-held (schema book) d here held first (first_at book e) R E.distinct (rank_at held i) known (r - first) (omega (arith, b, g, a, R.count)) ends k (omega (arith, a, g)) same in
        let y : r - first - k ≡ r - i = omega (arith, g, a) in
        held_on (width book) out at σ s (name_at es e) here k (r - first) (held_by d book held (record { rank = rank_at held i; first = i; end = r }))
        (c ∙ ap₂ (λ (j n : ℕ). record { type = type_at (schema book) (rank_at held i); values = row_values d held j n } ∷ held_of (drop (r - first) here)) z y) p q

    pub sofar-end : (i : ℕ) → first_at book e ≤ i → {out' : Bytes} {r : ℕ} → Sofar (width book) out at σ s (name_at es e) (get_or es (e - 1) blank).values (i - first_at book (e - 1)) out' r
        → Emits (width book) out at (information_at σ es s e) out' r
    sofar-end i g {out'} {r} p =
        let R : HeldAt (schema book) d (get_or es (e - 1) blank).values held (first_at book (e - 1)) (first_at book e) = rows_of E e some entry in
        subst (λ (ls : List Line). Emits (width book) out at ls out' r)
        (sym (ap (information_at σ es s) (index-suc e some) ∙ information-is σ es s (e - 1)
        ∙ ap (λ (j : ℕ). information σ s (record { name = name_at es j; held = held_of (get_or es (e - 1) blank).values })) (sym (index-suc e some))))
        (held-end (width book) out at σ s (name_at es e) (get_or es (e - 1) blank).values (i - first_at book (e - 1)) (omega (arith, g, R.count)) p)

pub root-emits : (w : ℕ) (out : Bytes) (at : ℕ) (σ : Setting) (es : List Stored) (s : Selection) (e : ℕ) → e ≡ 0 → Emits w out at (information_at σ es s e) out at
unfolding information_at
root-emits w out at σ es s zero h = emits_none w out at
root-emits w out at σ es s (suc k) h = absurd (omega arith)
