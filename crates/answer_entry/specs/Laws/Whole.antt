-- List and search as a whole, as far as they are alike: an absent base, the base's disclosure, and the numbers of the plans.
use Rattle.std.specs.Prelude.{ℕ, refl, Bool, true, false, ◌||◌, List, [], ◌∷◌, map, Some, None}
use Rattle.std.proofs.Math.Path.{◌≡◌, ap}
use Rattle.std.proofs.Common.{sym, ◌∙◌, subst}
use Rattle.std.proofs.Math.Option.{none}
use native.Mathlib.Omega.{arith}
use Rattle.rules.specs.Lists.{any, first, first_or}
use Rattle.rules.specs.Name.{Name, same_name}
use Rattle.rules.specs.Directory.{Stored, Directory, entry_of}
use Rattle.rules.specs.Permission.{DiscloseOnError}
use Rattle.rules.specs.Decision.{Setting, entry}
use Rattle.rules.specs.Request.{Selection}
use Rattle.rules.specs.Answer as Answer
use Rattle.rules.specs.Answer.{named, no_such_object}
use Rattle.rules.proofs.Laws.Absent.{present'}
use Rattle.rules.specs.Derived.{Accepted}
use Rattle.tables.specs.Numbers.{walk}
use Rattle.tables.specs.Laws.Resolve.{named-walk, entry_by}
use Rattle.rules.specs.Value.{Found}
use Rattle.tables.specs.declared.plan.Plan.{Plan}
use Rattle.tables.specs.Plan.{planned}
use Rattle.tables.specs.Sound.{Base, SoundPlan}
use Rattle.tables.specs.Laws.Sound.{Numbered}
use Rattle.tables.specs.Outcome.{absent_plan}
use Rattle.tables.specs.Laws.Outcome.{absent-planned, absent-sound}
use Rattle.tables.specs.Sets.{granted_at}
use Rattle.answer_entry.specs.Passing.{Indices}
use Rattle.answer_entry.specs.Returned.{returned_plan}
use Rattle.answer_entry.specs.Laws.Returned.{disclosed-at, returned-sound}

-- the directory of these entries
unfoldable pub directory_of : Setting → List Stored → Directory
directory_of σ es = record { schema = σ.schema; entries = es }

none_any : {A : Type 0} (p : A → Bool) (xs : List A) → first p xs ≡ none → any p xs ≡ false
none_any p [] e = refl
none_any {A} p (x ∷ xs) e = go (p x) e (none_any p xs)
  where
    go : (b : Bool) → first_or b x (first p xs) ≡ none → (first p xs ≡ none → any p xs ≡ false) → (b || any p xs) ≡ false
    go true q ih = absurd (let z : ◌≡◌ {A = ℕ} 0 1 = cc in omega arith)
    go false q ih = ih q

module _ (σ : Setting) (es : List Stored) (ok : Accepted σ.schema es) (n : Name) (base : Found) (missing : ℕ) (h : Base σ es n base missing) where
  -- the base is absent
  module _ (e : base ≡ None) where
    gone : walk σ.schema es 0 n ≡ None
    gone = h.walked ∙ e

    pub not_root : n ≡ [] → ⊥
    unfolding walk
    not_root q = let p : Some 0 ≡ None = ap (walk σ.schema es 0) (sym q) ∙ gone in let z : ◌≡◌ {A = ℕ} 0 1 = cc in omega arith

    pub not-present : present' σ.schema es n ≡ false
    unfolding named
    not-present = none_any (λ e. same_name σ.schema n e.name) (map entry_of es) (named-walk σ es ok n ∙ ap (entry_by es) gone)

  pub planned-absent : (plan : Plan) (hits : List ℕ) (s : Selection) (op : ℕ) → plan ≡ absent_plan op missing → planned σ es s plan hits ≡ no_such_object σ (map entry_of es) op n
  planned-absent plan hits s op q = ap (λ (r : Plan). planned σ es s r hits) q ∙ absent-planned σ es s hits op n base missing h

  -- the base has number `b`
  module _ (b : ℕ) (e : base ≡ Some b) where
    pub there : walk σ.schema es 0 n ≡ Some b
    there = h.walked ∙ e

    pub told-disclosed : (d : Bool) → d ≡ granted_at σ es b entry DiscloseOnError → any (Answer.disclosed σ n) (map entry_of es) ≡ d
    told-disclosed d told = disclosed-at σ es ok n b there ∙ sym told

-- the numbers of the plans are in range
module _ (count : ℕ) (base : Found) (missing : ℕ) (h : Numbered count base missing) (plan : Plan) (hits : List ℕ) (op : ℕ) where
  pub none-sound : plan ≡ absent_plan op missing → SoundPlan count plan hits
  none-sound e = subst (λ (r : Plan). SoundPlan count r hits) (sym e) (absent-sound count hits op missing h.matched)

  pub some-sound : (n : ℕ) (before : List ℕ) → Indices count n before hits → (d : Bool) (limit : ℕ) → plan ≡ returned_plan op missing d limit n → SoundPlan count plan hits
  some-sound n before i d limit e = subst (λ (r : Plan). SoundPlan count r hits) (sym e) (returned-sound count hits n i.room i.below op limit missing h.matched d)
