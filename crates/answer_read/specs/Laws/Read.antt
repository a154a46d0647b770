-- Laws of `Read`: when nothing is left, and what each outcome makes of the answer.
use Rattle.std.specs.Prelude.{ℕ, ◌+◌, ◌<◌, ◌≡◌, Bool, ◌&&◌, ◌||◌, get_or}
use Rattle.std.proofs.Common.{zero-le, ◌∙◌, true≢false, add-one, arith}
use Rattle.std.proofs.Math.Path.{refl, sym, ap, ap₂}
use Rattle.std.proofs.Math.Bool.{true, false, not, cond}
use Rattle.std.proofs.lemmas.Bool.{false≢true}
use mathlib.Core.List.{List, [], ◌∷◌, ◌++◌}
use Rattle.rules.specs.Lists.{given, gather, any, keep, is_empty}
use Rattle.rules.specs.Sheet.{Bytes, line}
use Rattle.rules.specs.Name.{Part, part, Name}
use Rattle.rules.specs.Directory.{Stored, blank, name_at, Held, held_of, Entry, entry_of}
use Rattle.rules.specs.Permission.{Read, ReturnDN, DiscloseOnError}
use Rattle.rules.specs.Decision.{Setting, Thing, entry, of_type, of_value, granted}
use Rattle.rules.specs.Request.{Selection}
use Rattle.rules.specs.Answer.{outcome, entry_lines, value_lines, selected, type_lines, information, read_entry}
use Rattle.rules.proofs.Laws.Held.{any_held, any-type}
use Rattle.tables.specs.Sets.{granted_at}
use Rattle.rules.specs.declared.Outcome.{Outcome}
use Rattle.rules.specs.declared.Outcome.TheVariants.{Result, InsufficientAccessRights, NoSuchAttributeOrValue}
use Rattle.tables.specs.Plan.{planned, success_lines, information_at}
use Rattle.tables.specs.Sound.{SoundPlan}
use Rattle.tables.specs.Outcome.{is_result, refused_plan}
use Rattle.tables.specs.Laws.Outcome.{refused-planned}
use Rattle.answer_read.specs.Read.{readable, disclosing, asks_nothing, read_outcome, read_plan}

-- a permission on the entry of index `k`, by its number
pub granted-next : (σ : Setting) (es : List Stored) (k : ℕ) (x : Thing) (q : ℕ) → granted_at σ es (k + 1) x q ≡ granted σ (get_or es k blank).name x q
unfolding granted_at
granted-next σ es k x q = rw (add-one k)

-- ---- what is empty

any-cong : {A : Type 0} (p q : A → Bool) → ((x : A) → p x ≡ q x) → (xs : List A) → any p xs ≡ any q xs
any-cong p q h [] = refl
any-cong p q h (x ∷ xs) = ap₂ ◌||◌ (h x) (any-cong p q h xs)

append-empty : {A : Type 0} (xs ys : List A) → is_empty (xs ++ ys) ≡ (is_empty xs && is_empty ys)
append-empty [] ys = refl
append-empty (x ∷ xs) ys = refl

-- nothing is gathered where no element gives anything
gather-empty : {A B : Type 0} (f : A → List B) (xs : List A) → is_empty (gather f xs) ≡ not (any (λ x. not (is_empty (f x))) xs)
gather-empty f [] = refl
gather-empty f (x ∷ xs) = append-empty (f x) (gather f xs) ∙ go (is_empty (f x)) (gather-empty f xs)
  where
    go : (b : Bool) → is_empty (gather f xs) ≡ not (any (λ x. not (is_empty (f x))) xs) → (b && is_empty (gather f xs)) ≡ not (not b || any (λ x. not (is_empty (f x))) xs)
    go true ih = ih
    go false ih = refl

given-empty : {A : Type 0} (b : Bool) (xs : List A) → not (is_empty (given b xs)) ≡ (b && not (is_empty xs))
given-empty true xs = refl
given-empty false xs = refl

keep-empty : (p : Bytes → Bool) (vs : List Bytes) → not (is_empty (keep p vs)) ≡ any p vs
keep-empty p [] = refl
keep-empty p (v ∷ vs) = go (p v) (keep-empty p vs)
  where
    go : (b : Bool) → not (is_empty (keep p vs)) ≡ any p vs → not (is_empty (given b (v ∷ []) ++ keep p vs)) ≡ (b || any p vs)
    go true ih = refl
    go false ih = ih

values-empty : (t : ℕ) (vs : List Bytes) → is_empty (value_lines t vs) ≡ is_empty vs
unfolding value_lines
values-empty t [] = refl
values-empty t (v ∷ vs) = refl

-- ---- whether anything is left to return

module _ (σ : Setting) (s : Selection) (n : Name) where
  -- the type is selected, with Read on it
  abbrev of_types : ℕ → Bool
  of_types t = selected s t && granted σ n (of_type t) Read

  type-empty : (h : Held) → not (is_empty (type_lines σ s n h)) ≡ (not s.values || any (λ v. granted σ n (of_value h.type v) Read) h.values)
  unfolding type_lines
  type-empty h = go s.values
    where
      go : (b : Bool) → not (is_empty (cond b (value_lines h.type (keep (λ v. granted σ n (of_value h.type v) Read) h.values)) (line 34 h.type 0 0 [] ∷ [])))
          ≡ (not b || any (λ v. granted σ n (of_value h.type v) Read) h.values)
      go true = ap not (values-empty h.type (keep (λ v. granted σ n (of_value h.type v) Read) h.values)) ∙ keep-empty (λ v. granted σ n (of_value h.type v) Read) h.values
      go false = refl

  flat : (b : Bool) (ps : List Part) → any (λ h. of_types h.type && (not b || any (λ v. granted σ n (of_value h.type v) Read) h.values)) (held_of ps)
      ≡ any (λ p. of_types p.type && (not b || granted σ n (of_value p.type p.value) Read)) ps
  flat true ps = any_held (λ t v. granted σ n (of_value t v) Read) of_types ps
  flat false ps = any-type (λ t. of_types t && true) ps

  pub information-empty : (ps : List Part) → is_empty (information σ s (record { name = n; held = held_of ps })) ≡ not (any (readable σ s n) ps)
  unfolding information readable
  information-empty ps =
      gather-empty (λ h. given (of_types h.type) (type_lines σ s n h)) (held_of ps)
      ∙ ap not (any-cong (λ h. not (is_empty (given (of_types h.type) (type_lines σ s n h)))) (λ h. of_types h.type && (not s.values || any (λ v. granted σ n (of_value h.type v) Read) h.values))
      (λ h. given-empty (of_types h.type) (type_lines σ s n h) ∙ ap (λ (b : Bool). of_types h.type && b) (type-empty h)) (held_of ps)
      ∙ flat s.values ps)

  -- one value, by the questions asked of it in order
  module _ (t : ℕ) (v : Bytes) where
    pub unselected : selected s t ≡ false → readable σ s n (part t v) ≡ false
    unfolding readable
    unselected e = rw e

    pub type-hidden : selected s t ≡ true → granted σ n (of_type t) Read ≡ false → readable σ s n (part t v) ≡ false
    unfolding readable
    type-hidden e h = rw (e, h)

    pub type-enough : selected s t ≡ true → granted σ n (of_type t) Read ≡ true → s.values ≡ false → readable σ s n (part t v) ≡ true
    unfolding readable
    type-enough e h x = rw (e, h, x)

    pub value-asked : selected s t ≡ true → granted σ n (of_type t) Read ≡ true → s.values ≡ true → readable σ s n (part t v) ≡ granted σ n (of_value t v) Read
    unfolding readable
    value-asked e h x = rw (e, h, x)

  -- a type, by the questions asked of it in order
  module _ (t : ℕ) where
    pub undisclosing : selected s t ≡ false → false ≡ disclosing σ s n t
    unfolding disclosing
    undisclosing e = rw e

    pub disclosing-asked : selected s t ≡ true → granted σ n (of_type t) DiscloseOnError ≡ disclosing σ s n t
    unfolding disclosing
    disclosing-asked e = rw e

-- ---- the outcome

module _ (σ : Setting) (s : Selection) (n : Name) (ps : List Part) where
  abbrev whole : Entry
  whole = record { name = n; held = held_of ps }

  abbrev discloses : Bool
  discloses = any (λ h. disclosing σ s n h.type) (held_of ps)

  pub reads_nothing : asks_nothing s ≡ true → read_outcome σ s whole ≡ Result
  unfolding read_outcome
  reads_nothing e = ap (λ (b : Bool). cond (is_empty (information σ s whole) && not b) (cond discloses InsufficientAccessRights NoSuchAttributeOrValue) Result) e ∙ go (is_empty (information σ s whole))
    where
      go : (b : Bool) → cond (b && false) (cond discloses InsufficientAccessRights NoSuchAttributeOrValue) Result ≡ Result
      go true = refl
      go false = refl

  pub reads-some : any (readable σ s n) ps ≡ true → read_outcome σ s whole ≡ Result
  unfolding read_outcome
  reads-some e = ap (λ (b : Bool). cond (b && not (asks_nothing s)) (cond discloses InsufficientAccessRights NoSuchAttributeOrValue) Result) (information-empty σ s n ps ∙ ap not e)

  reads_none : (b : Bool) → asks_nothing s ≡ false → any (readable σ s n) ps ≡ false → discloses ≡ b → read_outcome σ s whole ≡ cond b InsufficientAccessRights NoSuchAttributeOrValue
  unfolding read_outcome
  reads_none b a e h = ap (λ (x : Bool). cond (x && not (asks_nothing s)) (cond discloses InsufficientAccessRights NoSuchAttributeOrValue) Result) (information-empty σ s n ps ∙ ap not e) ∙ ap₂ (λ (x y : Bool). cond (not x) (cond y InsufficientAccessRights NoSuchAttributeOrValue) Result) a h

  pub reads-disclosed : asks_nothing s ≡ false → any (readable σ s n) ps ≡ false → discloses ≡ true → read_outcome σ s whole ≡ InsufficientAccessRights
  reads-disclosed a e h = reads_none true a e h

  pub reads-hidden : asks_nothing s ≡ false → any (readable σ s n) ps ≡ false → discloses ≡ false → read_outcome σ s whole ≡ NoSuchAttributeOrValue
  reads-hidden a e h = reads_none false a e h

-- an entry as it is stored, by the questions asked in order
module _ (σ : Setting) (s : Selection) (e : Stored) where
  told-flat : any (λ h. disclosing σ s e.name h.type) (held_of e.values) ≡ any (λ v. disclosing σ s e.name v.type) e.values
  told-flat = any-type (disclosing σ s e.name) e.values

  pub outcome-nothing : asks_nothing s ≡ true → Result ≡ read_outcome σ s (entry_of e)
  unfolding entry_of
  outcome-nothing a = sym (reads_nothing σ s e.name e.values a)

  pub outcome-some : any (readable σ s e.name) e.values ≡ true → Result ≡ read_outcome σ s (entry_of e)
  unfolding entry_of
  outcome-some h = sym (reads-some σ s e.name e.values h)

  module _ (a : asks_nothing s ≡ false) (h : any (readable σ s e.name) e.values ≡ false) where
    pub outcome-disclosed : any (λ v. disclosing σ s e.name v.type) e.values ≡ true → InsufficientAccessRights ≡ read_outcome σ s (entry_of e)
    unfolding entry_of
    outcome-disclosed d = sym (reads-disclosed σ s e.name e.values a h (told-flat ∙ d))

    pub outcome-hidden : any (λ v. disclosing σ s e.name v.type) e.values ≡ false → NoSuchAttributeOrValue ≡ read_outcome σ s (entry_of e)
    unfolding entry_of
    outcome-hidden d = sym (reads-hidden σ s e.name e.values a h (told-flat ∙ d))

-- ---- the plan

pub read-sound : (count k : ℕ) (b : Bool) (hits : List ℕ) → k < count → SoundPlan count (read_plan k b) hits
read-sound count k true hits l = record { name = omega (arith, l); entry = omega (arith, l); shown = zero-le; hits = λ i m. absurd (omega (arith, m)) }
read-sound count k false hits l = record { name = zero-le; entry = omega (arith, l); shown = zero-le; hits = λ i m. absurd (omega (arith, m)) }

-- of the entry of index `k`
module _ (σ : Setting) (es : List Stored) (s : Selection) (hits : List ℕ) (k : ℕ) where
  abbrev it : Entry
  it = record { name = (get_or es k blank).name; held = held_of (get_or es k blank).values }

  abbrev fails : Bool
  fails = is_empty (information σ s it) && not (asks_nothing s)

  abbrev told : Bool
  told = any (λ h. disclosing σ s it.name h.type) it.held

  named-lines : (b : Bool) → name_at es (cond b (k + 1) 0) ≡ given b (get_or es k blank).name
  unfolding name_at
  named-lines true = rw (add-one k)
  named-lines false = refl

  pub read_found : (b : Bool) → is_result (read_outcome σ s (entry_of (get_or es k blank))) ≡ true → b ≡ granted σ (get_or es k blank).name entry ReturnDN
      → planned σ es s (read_plan k b) hits ≡ read_entry σ s (entry_of (get_or es k blank))
  unfolding planned success_lines information_at read_entry read_outcome disclosing outcome entry_of
  read_found b o e =
      ap₂ (λ (m : Name) (i : ℕ). line 30 1 0 0 [] ∷ (entry_lines m ++ information_at σ es s i)) (named-lines b ∙ ap (λ (x : Bool). given x (get_or es k blank).name) e) (add-one k)
      ∙ go fails told o
    where
      go : (x y : Bool) → is_result (cond x (cond y InsufficientAccessRights NoSuchAttributeOrValue) Result) ≡ true
          → outcome 1 Result ++ (entry_lines (given (granted σ it.name entry ReturnDN) it.name) ++ information σ s it)
          ≡ cond x (outcome 1 (cond y InsufficientAccessRights NoSuchAttributeOrValue)) (outcome 1 Result ++ (entry_lines (given (granted σ it.name entry ReturnDN) it.name) ++ information σ s it))
      go true true q = absurd (false≢true q)
      go true false q = absurd (false≢true q)
      go false y q = refl

  pub read-refused : (o : Outcome) → o ≡ read_outcome σ s (entry_of (get_or es k blank)) → is_result o ≡ false → planned σ es s (refused_plan 1 o) hits ≡ read_entry σ s (entry_of (get_or es k blank))
  unfolding read_entry read_outcome disclosing entry_of
  read-refused o e z = ap (λ (x : Outcome). planned σ es s (refused_plan 1 x) hits) e ∙ go fails told (sym (ap is_result e) ∙ z)
    where
      go : (x y : Bool) → is_result (cond x (cond y InsufficientAccessRights NoSuchAttributeOrValue) Result) ≡ false
          → planned σ es s (refused_plan 1 (cond x (cond y InsufficientAccessRights NoSuchAttributeOrValue) Result)) hits
          ≡ cond x (outcome 1 (cond y InsufficientAccessRights NoSuchAttributeOrValue)) (outcome 1 Result ++ (entry_lines (given (granted σ it.name entry ReturnDN) it.name) ++ information σ s it))
      go true true q = refused-planned σ es s hits 1 InsufficientAccessRights (omega arith)
      go true false q = refused-planned σ es s hits 1 NoSuchAttributeOrValue (omega arith)
      go false y q = absurd (true≢false q)
