-- Laws of `Compare`: what each outcome makes of the answer, and the values one by one.
use Rattle.std.specs.Prelude.{ℕ, ◌+◌, ◌/◌, ◌%◌, ◌<◌, ◌≡◌, Bool, ◌&&◌, List, [], ◌∷◌, ◌++◌, eqb, length, get_or, Some}
use Rattle.std.proofs.Common.{zero-le, sym, ◌∙◌, true≢false, arith}
use Rattle.std.proofs.Math.Path.{refl, ap}
use Rattle.std.proofs.Math.Bool.{true, false, cond}
use Rattle.std.proofs.lemmas.Bool.{false≢true}
use borrow.Author.Tests.{eq-eqb, ne_eqb}
use Rattle.rules.specs.Lists.{any}
use Rattle.rules.specs.Sheet.{Bytes, Line, line, bit}
use Rattle.rules.specs.Value.{fits}
use Rattle.rules.specs.Name.{Schema, part, Name, allowed, equal}
use Rattle.rules.specs.Directory.{Stored, blank, held_of, Entry, entry_of}
use Rattle.rules.specs.Permission.{DiscloseOnError, Compare}
use Rattle.rules.specs.Decision.{Setting, of_type, of_value, granted}
use Rattle.rules.specs.Request.{Selection}
use Rattle.rules.specs.FilterItem.{holds, some_value}
use Rattle.rules.specs.Answer.{outcome, compare_entry}
use Rattle.rules.proofs.Laws.Held.{holds-flat, some_value-flat}
use Rattle.rules.specs.declared.Outcome.{Outcome}
use Rattle.rules.specs.declared.Outcome.TheVariants.{Result, InsufficientAccessRights, NoSuchAttributeOrValue, InvalidAttributeSyntax}
use Rattle.tables.specs.Plan.{planned, success_lines}
use Rattle.tables.specs.Sound.{SoundPlan}
use Rattle.tables.specs.Outcome.{is_result, refused_plan}
use Rattle.tables.specs.Laws.Outcome.{refused-planned}
use Rattle.name.specs.Schema.{syntax_in, equal_by}
use Rattle.name.specs.Laws.Schema.{allowed_at_lem, equal-at}
use Rattle.tables.specs.Book.{schema_column, type_count, schema}
use Rattle.tables.specs.Held.{type_at}
use Rattle.tables.specs.World.{Entries}
use Rattle.tables.specs.Laws.Book.{schema-length, type-at}
use Rattle.access_may.specs.Laws.Schema.{syntax-ranked}
use Rattle.answer_compare.specs.Compare.{compare_outcome, held_outcome, counts, compare_plan}

-- ---- the outcome, by the questions asked in order

module _ (σ : Setting) (t : ℕ) (v : Bytes) (e : Entry) where
  pub outcome-unheld : holds e t ≡ false → NoSuchAttributeOrValue ≡ compare_outcome σ t v e
  unfolding compare_outcome
  outcome-unheld h = rw h (go (granted σ e.name (of_type t) Compare))
    where
      go : (b : Bool) → NoSuchAttributeOrValue ≡ cond b NoSuchAttributeOrValue NoSuchAttributeOrValue
      go true = refl
      go false = refl

  pub outcome-held : holds e t ≡ true → held_outcome σ t v e.name ≡ compare_outcome σ t v e
  unfolding compare_outcome held_outcome
  outcome-held h = rw h

module _ (σ : Setting) (t : ℕ) (v : Bytes) (n : Name) where
  pub outcome-inside : granted σ n (of_type t) Compare ≡ true → allowed σ.schema t v ≡ true → Result ≡ held_outcome σ t v n
  unfolding held_outcome
  outcome-inside g a = rw (g, a)

  pub outcome-outside : granted σ n (of_type t) Compare ≡ true → allowed σ.schema t v ≡ false → InvalidAttributeSyntax ≡ held_outcome σ t v n
  unfolding held_outcome
  outcome-outside g a = rw (g, a)

  pub outcome-told : granted σ n (of_type t) Compare ≡ false → granted σ n (of_type t) DiscloseOnError ≡ true → InsufficientAccessRights ≡ held_outcome σ t v n
  unfolding held_outcome
  outcome-told g a = rw (g, a)

  pub outcome-untold : granted σ n (of_type t) Compare ≡ false → granted σ n (of_type t) DiscloseOnError ≡ false → NoSuchAttributeOrValue ≡ held_outcome σ t v n
  unfolding held_outcome
  outcome-untold g a = rw (g, a)

-- ---- the values one by one

module _ (σ : Setting) (n : Name) (t : ℕ) (v : Bytes) (of : ℕ) (u : Bytes) where
  pub counts-other : (of ≡ t → ⊥) → false ≡ counts σ n t v (part of u)
  unfolding counts
  counts-other e = rw (ne_eqb of t e)

  pub counts-apart : equal σ.schema t v u ≡ false → false ≡ counts σ n t v (part of u)
  unfolding counts
  counts-apart h = rw h (go (eqb of t) (granted σ n (of_value of u) Compare))
    where
      go : (a b : Bool) → false ≡ (a && (b && false))
      go true true = refl
      go true false = refl
      go false b = refl

  pub counts-equal : of ≡ t → equal σ.schema t v u ≡ true → granted σ n (of_value t u) Compare ≡ counts σ n t v (part of u)
  unfolding counts
  counts-equal e h = rw (h, e, eq-eqb t t refl) (go (granted σ n (of_value t u) Compare))
    where
      go : (b : Bool) → b ≡ (b && true)
      go true = refl
      go false = refl

-- the entry of index `k`, by its values
module _ (σ : Setting) (es : List Stored) (k : ℕ) where
  pub holds-values : (t : ℕ) → holds (entry_of (get_or es k blank)) t ≡ any (λ u. eqb u.type t) (get_or es k blank).values
  unfolding entry_of
  holds-values t = holds-flat (get_or es k blank).name (get_or es k blank).values t

  pub some-values : (t : ℕ) (v : Bytes) → some_value σ (entry_of (get_or es k blank)) t Compare (equal σ.schema t v) ≡ any (counts σ (get_or es k blank).name t v) (get_or es k blank).values
  unfolding entry_of counts
  some-values t v = some_value-flat σ (get_or es k blank).name (get_or es k blank).values t Compare (equal σ.schema t v)

-- ---- by the rank of the type

module _ {σ : Setting} {es : List Stored} {d : Bytes} {book held : List ℕ} (h : Entries σ es d book held) (r : ℕ) (l : r < type_count book) where
  inside : r < length (schema book)
  inside = omega (arith, l, schema-length h.fits)

  syntax : syntax_in (schema book) (type_at (schema book) r) ≡ Some (get_or book (schema_column + r) 0 % 4)
  syntax = syntax-ranked (schema book) h.distinct r inside ∙ ap (λ (k : ℕ). Some (k % 4)) (type-at book r l)

  pub type-is : get_or book (schema_column + r) 0 / 4 ≡ type_at (schema book) r
  type-is = ap (λ (k : ℕ). k / 4) (sym (type-at book r l))

  pub allowed-rank : (v : Bytes) → allowed σ.schema (type_at (schema book) r) v ≡ fits (get_or book (schema_column + r) 0 % 4) v
  allowed-rank v = ap (λ (S : Schema). allowed S (type_at (schema book) r) v) h.schema-is ∙ allowed_at_lem (schema book) (type_at (schema book) r) (get_or book (schema_column + r) 0 % 4) syntax v

  pub equal-rank : (v u : Bytes) → equal σ.schema (type_at (schema book) r) v u ≡ equal_by (get_or book (schema_column + r) 0 % 4) v u
  equal-rank v u = ap (λ (S : Schema). equal S (type_at (schema book) r) v u) h.schema-is ∙ equal-at (schema book) (type_at (schema book) r) (get_or book (schema_column + r) 0 % 4) syntax v u

-- ---- the plan

pub compare-sound : (count : ℕ) (b : Bool) (hits : List ℕ) → SoundPlan count (compare_plan b) hits
compare-sound count b hits = record { name = zero-le; entry = zero-le; shown = zero-le; hits = λ i m. absurd (omega (arith, m)) }

-- of the entry of index `k`
module _ (σ : Setting) (es : List Stored) (s : Selection) (hits : List ℕ) (t : ℕ) (v : Bytes) (k : ℕ) where
  abbrev e : Entry
  e = record { name = (get_or es k blank).name; held = held_of (get_or es k blank).values }

  answered : Bool → List Line
  answered b = outcome 2 Result ++ (line 31 (bit b) 0 0 [] ∷ [])

  same : Bool
  same = some_value σ e t Compare (λ w. equal σ.schema t v w)

  by-outcome : (g h a d : Bool) → List Line
  by-outcome g h a d = cond g (cond h (cond a (answered same) (outcome 2 InvalidAttributeSyntax)) (outcome 2 NoSuchAttributeOrValue)) (outcome 2 (cond (h && d) InsufficientAccessRights NoSuchAttributeOrValue))

  abbrev out : (g h a d : Bool) → Outcome
  out g h a d = cond g (cond h (cond a Result InvalidAttributeSyntax) NoSuchAttributeOrValue) (cond (h && d) InsufficientAccessRights NoSuchAttributeOrValue)

  pub compared-planned : (b : Bool) → is_result (compare_outcome σ t v (entry_of (get_or es k blank))) ≡ true → b ≡ some_value σ (entry_of (get_or es k blank)) t Compare (λ w. equal σ.schema t v w) → planned σ es s (compare_plan b) hits ≡ compare_entry σ t v (entry_of (get_or es k blank))
  unfolding planned success_lines compare_entry compare_outcome answered same by-outcome outcome entry_of
  compared-planned b o q = ap answered q ∙ go (granted σ e.name (of_type t) Compare) (holds e t) (allowed σ.schema t v) (granted σ e.name (of_type t) DiscloseOnError) o
    where
      go : (g h a d : Bool) → is_result (out g h a d) ≡ true → answered same ≡ by-outcome g h a d
      go true true true d z = refl
      go true true false d z = absurd (false≢true z)
      go true false a d z = absurd (false≢true z)
      go false true a true z = absurd (false≢true z)
      go false true a false z = absurd (false≢true z)
      go false false a d z = absurd (false≢true z)

  pub refused-compare : (o : Outcome) → o ≡ compare_outcome σ t v (entry_of (get_or es k blank)) → is_result o ≡ false → planned σ es s (refused_plan 2 o) hits ≡ compare_entry σ t v (entry_of (get_or es k blank))
  unfolding compare_entry compare_outcome answered same by-outcome entry_of
  refused-compare o q z =
      ap (λ (x : Outcome). planned σ es s (refused_plan 2 x) hits) q
      ∙ go (granted σ e.name (of_type t) Compare) (holds e t) (allowed σ.schema t v) (granted σ e.name (of_type t) DiscloseOnError) (sym (ap is_result q) ∙ z)
    where
      go : (g h a d : Bool) → is_result (out g h a d) ≡ false → planned σ es s (refused_plan 2 (out g h a d)) hits ≡ by-outcome g h a d
      go true true true d x = absurd (true≢false x)
      go true true false d x = refused-planned σ es s hits 2 InvalidAttributeSyntax (omega arith)
      go true false a d x = refused-planned σ es s hits 2 NoSuchAttributeOrValue (omega arith)
      go false true a true x = refused-planned σ es s hits 2 InsufficientAccessRights (omega arith)
      go false true a false x = refused-planned σ es s hits 2 NoSuchAttributeOrValue (omega arith)
      go false false a d x = refused-planned σ es s hits 2 NoSuchAttributeOrValue (omega arith)
