-- Laws of `Opening`: the answer of an operation on one entry, by the outcome of opening it.
use Prim.Native.Nat.{ℕ, zero, suc, ◌-◌, ◌≤◌}
use Rattle.std.specs.Prelude.{◌≡◌, Bool, List, map, get_or, Some, None}
use Rattle.std.proofs.Math.Path.{refl, sym, ap}
use Rattle.std.proofs.Common.{◌∙◌, true≢false}
use Rattle.std.proofs.Math.Bool.{true, false, cond, false≢true}
use native.Mathlib.Omega.{arith}
use Rattle.rules.specs.Sheet.{Line}
use Rattle.rules.specs.Name.{Name}
use Rattle.rules.specs.Directory.{Stored, blank, Entry, entry_of}
use Rattle.rules.specs.Permission.{DiscloseOnError}
use Rattle.rules.specs.Decision.{Setting, entry}
use Rattle.rules.specs.Request.{Selection}
use Rattle.rules.specs.Answer.{outcome, no_such_object, named, opened}
use Rattle.rules.specs.Derived.{Accepted}
use Rattle.tables.specs.Laws.Resolve.{numbered, entry_by, named-walk}
use Rattle.rules.specs.declared.Outcome.{Outcome}
use Rattle.rules.specs.declared.Outcome.TheVariants.{Result, NoSuchObject, InsufficientAccessRights, NoSuchAttributeOrValue, InvalidAttributeSyntax, AliasProblem}
use Rattle.rules.specs.Value.{Found}
use Rattle.tables.specs.Sets.{granted_at}
use Rattle.tables.specs.Plan.{planned}
use Rattle.tables.specs.Sound.{Base, SoundPlan}
use Rattle.tables.specs.Outcome.{is_result, absent_plan, refused_plan}
use Rattle.tables.specs.Laws.Outcome.{absent-planned, refused-planned, absent-sound, refused-sound}
use Rattle.answer_entry.specs.Opening.{opening_at, withheld_plan}

module _ (σ : Setting) (es : List Stored) (e q : ℕ) where
  pub opens-granted : granted_at σ es e entry q ≡ true → Result ≡ opening_at σ es e q
  unfolding opening_at
  opens-granted h = rw h

  pub opens-disclosed : granted_at σ es e entry q ≡ false → granted_at σ es e entry DiscloseOnError ≡ true → InsufficientAccessRights ≡ opening_at σ es e q
  unfolding opening_at
  opens-disclosed h g = rw (h, g)

  pub opens-hidden : granted_at σ es e entry q ≡ false → granted_at σ es e entry DiscloseOnError ≡ false → NoSuchObject ≡ opening_at σ es e q
  unfolding opening_at
  opens-hidden h g = rw (h, g)

  -- the root does not open
  pub opens-entry : is_result (opening_at σ es e q) ≡ true → e ≡ 0 → ⊥
  unfolding opening_at granted_at
  opens-entry h z = go e z h
    where
      go : (e : ℕ) → e ≡ 0 → is_result (cond (granted_at σ es e entry q) Result (cond (granted_at σ es e entry DiscloseOnError) InsufficientAccessRights NoSuchObject)) ≡ true → ⊥
      go zero z h = false≢true h
      go (suc k) z h = omega arith

module _ (op : ℕ) where
  pub withheld-refused : (o : Outcome) (missing : ℕ) → (o ≡ NoSuchObject → ⊥) → refused_plan op o ≡ withheld_plan op o missing
  withheld-refused Result missing h = refl
  withheld-refused NoSuchObject missing h = absurd (h refl)
  withheld-refused InsufficientAccessRights missing h = refl
  withheld-refused NoSuchAttributeOrValue missing h = refl
  withheld-refused InvalidAttributeSyntax missing h = refl
  withheld-refused AliasProblem missing h = refl

  pub withheld-sound : (o : Outcome) (missing count : ℕ) (hits : List ℕ) → missing ≤ count → SoundPlan count (withheld_plan op o missing) hits
  withheld-sound Result missing count hits l = refused-sound count hits op Result
  withheld-sound NoSuchObject missing count hits l = absent-sound count hits op missing l
  withheld-sound InsufficientAccessRights missing count hits l = refused-sound count hits op InsufficientAccessRights
  withheld-sound NoSuchAttributeOrValue missing count hits l = refused-sound count hits op NoSuchAttributeOrValue
  withheld-sound InvalidAttributeSyntax missing count hits l = refused-sound count hits op InvalidAttributeSyntax
  withheld-sound AliasProblem missing count hits l = refused-sound count hits op AliasProblem

module _ (σ : Setting) (es : List Stored) (ok : Accepted σ.schema es) (n : Name) (base : Found) (missing : ℕ) (h : Base σ es n base missing) (op q : ℕ) (f : Entry → List Line) where
  by_number : opened σ (map entry_of es) op q n f (named σ (map entry_of es) n) ≡ opened σ (map entry_of es) op q n f (entry_by es base)
  by_number = ap (opened σ (map entry_of es) op q n f) (named-walk σ es ok n ∙ ap (entry_by es) h.walked)

  -- the base is no entry
  pub opened-none : (s : Selection) (hits : List ℕ) → base ≡ None → planned σ es s (absent_plan op missing) hits ≡ opened σ (map entry_of es) op q n f (named σ (map entry_of es) n)
  unfolding opened
  opened-none s hits e = absent-planned σ es s hits op n base missing h ∙ sym (by_number ∙ ap (λ (b : Found). opened σ (map entry_of es) op q n f (entry_by es b)) e)

  -- it is entry number `b`, or the root
  module _ (b : ℕ) (e : base ≡ Some b) where
    at-number : opened σ (map entry_of es) op q n f (named σ (map entry_of es) n)
        ≡ cond (granted_at σ es b entry q) (f (entry_of (get_or es (b - 1) blank))) (cond (granted_at σ es b entry DiscloseOnError) (outcome op InsufficientAccessRights) (no_such_object σ (map entry_of es) op n))
    unfolding opened numbered granted_at entry_of
    at-number = by_number ∙ ap (λ (x : Found). opened σ (map entry_of es) op q n f (entry_by es x)) e ∙ by b
      where
        by : (b : ℕ) → opened σ (map entry_of es) op q n f (numbered es b)
            ≡ cond (granted_at σ es b entry q) (f (entry_of (get_or es (b - 1) blank))) (cond (granted_at σ es b entry DiscloseOnError) (outcome op InsufficientAccessRights) (no_such_object σ (map entry_of es) op n))
        by zero = refl
        by (suc k) = let z : suc k - 1 ≡ k = omega arith in rw z

    pub opened-open : is_result (opening_at σ es b q) ≡ true → opened σ (map entry_of es) op q n f (named σ (map entry_of es) n) ≡ f (entry_of (get_or es (b - 1) blank))
    unfolding opening_at
    opened-open z = at-number ∙ go (granted_at σ es b entry q) (granted_at σ es b entry DiscloseOnError) z
      where
        go : (r t : Bool) → is_result (cond r Result (cond t InsufficientAccessRights NoSuchObject)) ≡ true
            → cond r (f (entry_of (get_or es (b - 1) blank))) (cond t (outcome op InsufficientAccessRights) (no_such_object σ (map entry_of es) op n)) ≡ f (entry_of (get_or es (b - 1) blank))
        go true t z = refl
        go false true z = absurd (false≢true z)
        go false false z = absurd (false≢true z)

    pub opened-withheld : (s : Selection) (hits : List ℕ) (o : Outcome) → o ≡ opening_at σ es b q → is_result o ≡ false
        → planned σ es s (withheld_plan op o missing) hits ≡ opened σ (map entry_of es) op q n f (named σ (map entry_of es) n)
    unfolding opening_at
    opened-withheld s hits o told z =
        ap (λ (x : Outcome). planned σ es s (withheld_plan op x missing) hits) told
        ∙ go (granted_at σ es b entry q) (granted_at σ es b entry DiscloseOnError) (sym (ap is_result told) ∙ z) ∙ sym at-number
      where
        go : (r t : Bool) → is_result (cond r Result (cond t InsufficientAccessRights NoSuchObject)) ≡ false
            → planned σ es s (withheld_plan op (cond r Result (cond t InsufficientAccessRights NoSuchObject)) missing) hits
            ≡ cond r (f (entry_of (get_or es (b - 1) blank))) (cond t (outcome op InsufficientAccessRights) (no_such_object σ (map entry_of es) op n))
        go true t x = absurd (true≢false x)
        go false true x = refused-planned σ es s hits op InsufficientAccessRights (omega arith)
        go false false x = absent-planned σ es s hits op n base missing h
