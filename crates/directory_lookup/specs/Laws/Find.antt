-- Laws of `Find`: the ways through the search for a child, and down a name.
use Prim.Native.Nat.{ℕ, zero, suc, ◌+◌, ◌-◌, ◌≤◌, ◌<◌}
use Rattle.std.specs.Prelude.{◌≡◌, Bool, true, false, List, [], ◌∷◌, leb, length, get_or, drop, Some, None}
use Rattle.std.proofs.Math.Path.{refl, sym, ap, ap₂}
use Rattle.std.proofs.Common.{◌∙◌, subst, add-one, arith}
use Rattle.std.proofs.Math.Bool.{◌&&◌}
use Rattle.std.proofs.Math.Dec.{eqb}
use Rattle.std.proofs.Math.ListN.{drop_of_length-le}
use Rattle.std.proofs.Math.Seq.{drop-cons}
use borrow.Author.Tests.{eq-eqb, ne_eqb, leb-true, leb-false}
use Rattle.rules.specs.Sheet.{Bytes}
use Rattle.rules.specs.Value.{fits, same}
use Rattle.rules.specs.Name.{Schema, Part, part, Name, equal, same_part}
use Rattle.rules.specs.Directory.{Stored, blank}
use Rattle.rules.specs.Decision.{Setting}
use Rattle.rules.specs.Places.{schema_of, lines_at, parts_of}
use Rattle.rules.specs.Derived.{Accepted}
use Rattle.tables.specs.Numbers.{child_from, walk, on_found}
use Rattle.name.specs.Schema.{syntax_in, equal_by}
use Rattle.name.specs.Laws.Schema.{equal-at, equal-none}
use Rattle.sheet_line.specs.Line.{taken_at, bytes_of}
use Rattle.sheet_line.specs.declared.Line.{Line}
use Rattle.sheet_line.specs.declared.Taken.{Taken}
use Rattle.tables.specs.Book.{entry_count, width, schema, parent_at, naming_at, naming_of}
use Rattle.tables.specs.World.{Entries}
use Rattle.tables.specs.Laws.World.{inside}
use Rattle.directory_lookup.specs.Find.{UpTo, is_child, by_child, LeadsWithin, step_found, step_of}
use Rattle.directory_lookup.specs.Laws.Names.{parts_by, parts-by}
use Rattle.directory_lookup.specs.declared.find.Descent.{Descent}
use Rattle.directory_lookup.specs.declared.find.Descent.TheVariants.{To, Lost, Ended}
use Rattle.rules.specs.Value.{Found}

-- values that differ are not equal by a syntax
pub unlike : (s : ℕ) (v u : Bytes) → same s v u ≡ false → equal_by s v u ≡ false
unfolding equal_by
unlike s v u e = rw e (none (fits s v) (fits s u))
  where
    none : (a b : Bool) → (a && (b && false)) ≡ false
    none true true = refl
    none true false = refl
    none false b = refl

pub up_to : (n : ℕ) (f : Found) (b : ℕ) → UpTo n f → f ≡ Some b → b ≤ n
up_to n f b h e = subst (UpTo n) e h

pub within_of : (n : ℕ) (x : Descent) (k next : ℕ) → LeadsWithin n x → x ≡ To k next → k ≤ n
within_of n x k next h e = subst (LeadsWithin n) e h

-- ---- is it the child?

module _ (book : List ℕ) (d : Bytes) (k parent t s : ℕ) (v : Bytes) where
  pub child-of-other : (parent_at book k ≡ parent → ⊥) → is_child book d k parent t s v ≡ false
  unfolding is_child
  child-of-other h = rw (ne_eqb (parent_at book k) parent h)

  module _ (e : parent_at book k ≡ parent) where
    pub child-by-other : (t ≡ naming_at book k → ⊥) → is_child book d k parent t s v ≡ false
    unfolding is_child
    child-by-other h = rw (eq-eqb (parent_at book k) parent e, ne_eqb t (naming_at book k) h)

    pub child-by-value : t ≡ naming_at book k → is_child book d k parent t s v ≡ equal_by s v (naming_of book d k)
    unfolding is_child
    child-by-value h = rw (eq-eqb (parent_at book k) parent e, eq-eqb t (naming_at book k) h)

  -- what the numbers of an entry say of it
  child-noted : {σ : Setting} {es : List Stored} {held : List ℕ} → Entries σ es d book held → k < entry_count book → syntax_in (schema book) t ≡ Some s
      → is_child book d k parent t s v ≡ (eqb (get_or es k blank).parent parent && same_part σ.schema (part t v) (get_or es k blank).naming)
  unfolding is_child same_part
  child-noted {σ} {es} h l q =
      ap₂ ◌&&◌ (ap (λ (x : ℕ). eqb x parent) (h.listed k (inside h k l)).parent)
      (ap₂ ◌&&◌ (ap (eqb t) (h.listed k (inside h k l)).type)
      (ap (equal_by s v) (h.listed k (inside h k l)).value
      ∙ sym (equal-at (schema book) t s q v (get_or es k blank).naming.value)
      ∙ ap (λ (S : Schema). equal S t v (get_or es k blank).naming.value) (sym h.schema-is)))

-- ---- the children, from an index on

module _ (S : Schema) (parent : ℕ) (p : Part) (es : List Stored) (i : ℕ) where
  from-here : i < length es → (eqb (get_or es i blank).parent parent && same_part S p (get_or es i blank).naming) ≡ true → child_from S parent p (drop i es) i ≡ Some (i + 1)
  unfolding child_from
  from-here l e = rw (drop-cons es i blank, e, add-one)

  from_on : i < length es → (eqb (get_or es i blank).parent parent && same_part S p (get_or es i blank).naming) ≡ false
      → child_from S parent p (drop i es) i ≡ child_from S parent p (drop (i + 1) es) (i + 1)
  unfolding child_from
  from_on l e = rw (add-one, drop-cons es i blank, e)

  from_end : length es ≤ i → child_from S parent p (drop i es) i ≡ None
  unfolding child_from
  from_end h = rw drop_of_length-le

-- no child stands before its parent
from-parent : (S : Schema) (parent : ℕ) (p : Part) (es : List Stored) → Accepted S es → (i : ℕ) → i ≤ parent → child_from S parent p (drop i es) i ≡ child_from S parent p es 0
from-parent S parent p es ok zero h = refl
from-parent S parent p es ok (suc i) h = go (leb (suc i) (length es)) refl ∙ from-parent S parent p es ok i (omega arith)
  where
    go : (b : Bool) → leb (suc i) (length es) ≡ b → child_from S parent p (drop (suc i) es) (suc i) ≡ child_from S parent p (drop i es) i
    go true e =
        let l : i < length es = leb-true (suc i) (length es) e in
        let f : (get_or es i blank).parent ≤ i = ok.parents i l in
        let z : suc i ≡ i + 1 = omega arith in
        ap (λ (n : ℕ). child_from S parent p (drop n es) n) z
        ∙ sym (from_on S parent p es i l (ap (λ (b : Bool). b && same_part S p (get_or es i blank).naming) (ne_eqb (get_or es i blank).parent parent (λ q. omega arith))))
    go false e =
        let l : length es < suc i = leb-false (suc i) (length es) e in
        from_end S parent p es (suc i) (omega arith) ∙ sym (from_end S parent p es i (omega arith))

module _ (book : List ℕ) (d : Bytes) (parent t s : ℕ) (v : Bytes) where
  -- what was found is the child
  abbrev pub IsFound : Found → Type 0
  IsFound f = (σ : Setting) (es : List Stored) (held : List ℕ) → Entries σ es d book held → syntax_in (schema book) t ≡ Some s → f ≡ child_from σ.schema parent (part t v) es 0

  -- the search from index `i` on finds what the whole search finds
  pub record ChildSought (i : ℕ) : Type 0 where
    pub leads : (σ : Setting) (es : List Stored) (held : List ℕ) → Entries σ es d book held → syntax_in (schema book) t ≡ Some s
        → child_from σ.schema parent (part t v) (drop i es) i ≡ child_from σ.schema parent (part t v) es 0

  pub sought-start : ChildSought parent
  sought-start = record { leads = λ σ es held h q. from-parent σ.schema parent (part t v) es h.accepted parent (omega arith) }

  module _ (i : ℕ) (sought : ChildSought i) where
    pub sought-here : i < entry_count book → is_child book d i parent t s v ≡ true → IsFound (Some (i + 1))
    sought-here l e σ es held h q =
        sym (from-here σ.schema parent (part t v) es i (inside h i l) (sym (child-noted book d i parent t s v h l q) ∙ e)) ∙ sought.leads σ es held h q

    pub sought-on : i < entry_count book → is_child book d i parent t s v ≡ false → ChildSought (i + 1)
    sought-on l e = record {
      leads = λ σ es held h q. sym (from_on σ.schema parent (part t v) es i (inside h i l) (sym (child-noted book d i parent t s v h l q) ∙ e)) ∙ sought.leads σ es held h q;
    }

    pub sought-end : entry_count book ≤ i → IsFound None
    sought-end l σ es held h q = sym (from_end σ.schema parent (part t v) es i (omega (arith, l, h.count))) ∙ sought.leads σ es held h q

-- a type that is not in the schema names no child
pub child-unknown : {σ : Setting} {es : List Stored} {d : Bytes} {book held : List ℕ} → Entries σ es d book held → (parent t : ℕ) (v : Bytes) → syntax_in (schema book) t ≡ None
    → None ≡ child_from σ.schema parent (part t v) es 0
unfolding same_part child_from
child-unknown {σ} {es} {d} {book} h parent t v q = sym (ap (λ (S : Schema). child_from S parent (part t v) es 0) h.schema-is ∙ none es 0)
  where
    and_none : (b : Bool) → (b && false) ≡ false
    and_none true = refl
    and_none false = refl

    other : (e : Stored) → (eqb e.parent parent && same_part (schema_of (schema book)) (part t v) e.naming) ≡ false
    other e = rw (equal-none (schema book) t q v e.naming.value, and_none (eqb t e.naming.type), and_none (eqb e.parent parent))

    none : (es : List Stored) (i : ℕ) → child_from (schema_of (schema book)) parent (part t v) es i ≡ None
    none [] i = refl
    none (e ∷ es) i = rw (other e) (none es (suc i))

-- ---- one part down

pub step-found : (S : Schema) (es : List Stored) (from w : ℕ) (s : Bytes) (j : ℕ) (x : Line) → taken_at w s j ≡ Taken.Line x → (v : Bytes) (f : Found) → v ≡ bytes_of s x
    → f ≡ child_from S from (part x.a v) es 0 → step_found f x.next ≡ step_of S es from s (taken_at w s j)
unfolding step_of
step-found S es from w s j x e v f q c = rw (e, ← q, ← c)

-- by the step
abbrev pub by_step : {A : Type 0} → A → A → (ℕ → ℕ → A) → Descent → A
by_step ended lost to (To k next) = to k next
by_step ended lost to Lost = lost
by_step ended lost to Ended = ended

-- what goes down a name part by part goes down by steps
pub name-step : {A : Type 0} (S : Schema) (es : List Stored) (from w : ℕ) (s : Bytes) (j n : ℕ) → 0 < n → (f : Name → A) (ended lost : A) (to : ℕ → Name → A)
    → f [] ≡ ended → ((p : Part) (ps : Name) → f (p ∷ ps) ≡ by_child lost (λ k. to k ps) (child_from S from p es 0))
    → f (parts_of n (lines_at w s j)) ≡ by_step ended lost (λ k next. to k (parts_of (n - 1) (lines_at w s next))) (step_of S es from s (taken_at w s j))
unfolding step_of
name-step S es from w s j n h f ended lost to none some = ap f (parts-by w s j n h (taken_at w s j) refl) ∙ go (taken_at w s j)
  where
    found : (f : Found) (next : ℕ) → by_child lost (λ k. to k (parts_of (n - 1) (lines_at w s next))) f ≡ by_step ended lost (λ k next. to k (parts_of (n - 1) (lines_at w s next))) (step_found f next)
    found (Some k) next = refl
    found None next = refl

    go : (x : Taken) → f (parts_by w s (n - 1) x) ≡ by_step ended lost (λ k next. to k (parts_of (n - 1) (lines_at w s next))) (step_of S es from s x)
    go (Taken.Line x) = some (part x.a (bytes_of s x)) (parts_of (n - 1) (lines_at w s x.next)) ∙ found (child_from S from (part x.a (bytes_of s x)) es 0) x.next
    go Taken.NotInForm = none
    go Taken.End = none

walk_step : (S : Schema) (es : List Stored) (from w : ℕ) (s : Bytes) (j n : ℕ) → 0 < n
    → walk S es from (parts_of n (lines_at w s j))
    ≡ by_step (Some from) None (λ k next. walk S es k (parts_of (n - 1) (lines_at w s next))) (step_of S es from s (taken_at w s j))
unfolding walk
walk_step S es from w s j n h = name-step S es from w s j n h (walk S es from) (Some from) None (λ k ps. walk S es k ps) refl (λ p ps. go ps (child_from S from p es 0))
  where
    go : (ps : Name) (f : Found) → on_found f (λ k. walk S es k ps) ≡ by_child None (λ k. walk S es k ps) f
    go ps (Some k) = refl
    go ps None = refl

-- ---- the way down a name

module _ (book : List ℕ) (d s : Bytes) (i n : ℕ) where
  -- what was found is the entry of this name
  abbrev pub IsNamed : Found → Type 0
  IsNamed f = (σ : Setting) (es : List Stored) (held : List ℕ) → Entries σ es d book held → f ≡ walk σ.schema es 0 (parts_of n (lines_at (width book) s i))

  -- the way from here leads where the whole way leads
  pub record Led (from j left : ℕ) : Type 0 where
    pub leads : (σ : Setting) (es : List Stored) (held : List ℕ) → Entries σ es d book held
        → walk σ.schema es from (parts_of left (lines_at (width book) s j)) ≡ walk σ.schema es 0 (parts_of n (lines_at (width book) s i))

  pub led-start : Led 0 i n
  led-start = record { leads = λ σ es held h. refl }

  module _ (from j left : ℕ) (led : Led from j left) where
    pub led-end : left ≤ 0 → IsNamed (Some from)
    unfolding walk parts_of
    led-end l σ es held h = sym (done left l) ∙ led.leads σ es held h
      where
        done : (left : ℕ) → left ≤ 0 → walk σ.schema es from (parts_of left (lines_at (width book) s j)) ≡ Some from
        done zero l = refl
        done (suc n) l = absurd (omega arith)

    module _ (more : 0 < left) (x : Descent)
        (is : (σ : Setting) (es : List Stored) (held : List ℕ) → Entries σ es d book held → x ≡ step_of σ.schema es from s (taken_at (width book) s j))
      where
        turn : (y : Descent) → x ≡ y → (σ : Setting) (es : List Stored) (held : List ℕ) → Entries σ es d book held
            → by_step (Some from) None (λ k next. walk σ.schema es k (parts_of (left - 1) (lines_at (width book) s next))) y ≡ walk σ.schema es 0 (parts_of n (lines_at (width book) s i))
        turn y e σ es held h =
            ap (by_step (Some from) None (λ k next. walk σ.schema es k (parts_of (left - 1) (lines_at (width book) s next)))) (sym e ∙ is σ es held h)
            ∙ sym (walk_step σ.schema es from (width book) s j left more)
            ∙ led.leads σ es held h

        pub led_on : (k next : ℕ) → x ≡ To k next → Led k next (left - 1)
        led_on k next e = record { leads = turn (To k next) e }

        pub led-lost : x ≡ Lost → IsNamed None
        led-lost e = turn Lost e

        pub led-ended : x ≡ Ended → IsNamed (Some from)
        led-ended e = turn Ended e
