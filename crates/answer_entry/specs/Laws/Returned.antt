-- Laws of `Returned`: the answer of list and search, from the entries found.
use Rattle.std.specs.Prelude.{ℕ, zero, suc, ◌≤◌, ◌<◌, ◌≡◌, Bool, ◌&&◌, eqb, ltb, length, get_or, take, Some}
use Rattle.std.proofs.Common.{zero-le, arith, ◌∙◌, subst, take-take, take_all, length-take-le, ne_eqb, ltb-true, ltb-false}
use Rattle.std.proofs.Math.Path.{refl, sym, ap}
use Rattle.std.proofs.Math.Bool.{true, false, not, cond}
use mathlib.Core.List.{List, [], ◌∷◌, ◌++◌, map}
use Rattle.std.proofs.lemmas.List.{length-map}
use Rattle.rules.specs.Lists.{gather, any, is_empty}
use Rattle.rules.specs.Sheet.{Line, line, bit}
use Rattle.rules.specs.Name.{Name}
use Rattle.rules.specs.Directory.{Stored, entry_of}
use Rattle.rules.specs.Permission.{Read, Browse, ReturnDN, DiscloseOnError}
use Rattle.rules.specs.Decision.{Setting, entry, granted}
use Rattle.rules.specs.Request.{Selection}
use Rattle.rules.specs.Answer as Answer
use Rattle.rules.specs.Derived.{Accepted}
use Rattle.tables.specs.Numbers.{walk}
use Rattle.tables.specs.Laws.Resolve.{numbered, disclosed-walk, entry_by, test}
use Rattle.rules.specs.Value.{Found}
use Rattle.tables.specs.Sets.{granted_at}
use Rattle.tables.specs.Plan.{success_lines, planned}
use Rattle.tables.specs.Sound.{Base, SoundPlan}
use Rattle.tables.specs.Outcome.{absent_plan}
use Rattle.tables.specs.Laws.Outcome.{absent-planned, absent-sound}
use Rattle.answer_entry.specs.Returned.{browsable_at, returnable_at, success_plan, limited_plan, returned_plan}

-- ---- what the code finds of an entry

module _ (σ : Setting) (es : List Stored) (e : ℕ) (base : Bool) where
  pub browse-granted : granted_at σ es e entry Browse ≡ true → true ≡ browsable_at σ es e base
  unfolding browsable_at
  browse-granted h = rw h

  pub browse-base : granted_at σ es e entry Browse ≡ false → base ≡ true → granted_at σ es e entry Read ≡ browsable_at σ es e base
  unfolding browsable_at
  browse-base h b = rw (h, b)

  pub browse-refused : granted_at σ es e entry Browse ≡ false → base ≡ false → false ≡ browsable_at σ es e base
  unfolding browsable_at
  browse-refused h b = rw (h, b)

  pub return-asked : browsable_at σ es e base ≡ true → granted_at σ es e entry ReturnDN ≡ returnable_at σ es e base
  unfolding returnable_at
  return-asked h = rw h

  pub return_refused : browsable_at σ es e base ≡ false → false ≡ returnable_at σ es e base
  unfolding returnable_at
  return_refused h = rw h

-- ---- the lines

module _ (f : ℕ → List Line) where
  gather-map : (xs : List ℕ) → gather (λ hit. hit) (map f xs) ≡ gather f xs
  gather-map [] = refl
  gather-map (x ∷ xs) = ap (λ (r : List Line). f x ++ r) (gather-map xs)

  take-map : (m : ℕ) (xs : List ℕ) → take m (map f xs) ≡ map f (take m xs)
  take-map zero xs = refl
  take-map (suc m) [] = refl
  take-map (suc m) (x ∷ xs) = ap (λ (r : List (List Line)). f x ∷ r) (take-map m xs)

  none_found : (count : ℕ) (xs : List ℕ) → count ≤ length xs → is_empty (map f (take count xs)) ≡ eqb count 0
  none_found zero xs l = refl
  none_found (suc m) [] l = absurd (omega arith)
  none_found (suc m) (x ∷ xs) l = sym (ne_eqb (suc m) 0 (λ e. omega arith))

module _ (σ : Setting) (es : List Stored) (s : Selection) (hits : List ℕ) (count : ℕ) (room : count ≤ length hits) where
  -- the lines of a success with this operation are those of its hits, by `f`
  abbrev LinesOf : ℕ → (ℕ → List Line) → Type 0
  LinesOf op f = (more shown : ℕ) → success_lines σ es s (success_plan op more shown) hits ≡ gather f (take shown hits)

  module _ (op : ℕ) (f : ℕ → List Line) (lines : LinesOf op f) where
    counted : length (map f (take count hits)) ≡ count
    counted = length-map (take count hits) f ∙ length-take-le count hits room

    limited-planned : (limit : ℕ) → planned σ es s (limited_plan op limit count) hits ≡ Answer.limited op limit (map f (take count hits))
    unfolding planned limited_plan Answer.limited
    limited-planned limit = go (eqb limit 0) (ltb limit count) refl
      where
        all : (more : ℕ) (H : List (List Line)) → H ≡ map f (take count hits) → line 30 op 0 more [] ∷ success_lines σ es s (success_plan op more count) hits ≡ line 30 op 0 more [] ∷ gather (λ hit. hit) H
        all more H e = ap (λ (r : List Line). line 30 op 0 more [] ∷ r) (lines more count ∙ sym (gather-map f (take count hits)) ∙ ap (gather (λ hit. hit)) (sym e))

        go : (a b : Bool) → ltb limit count ≡ b
            → planned σ es s (cond a (success_plan op 0 count) (cond b (success_plan op 1 limit) (success_plan op 0 count))) hits
            ≡ cond a (line 30 op 0 0 [] ∷ gather (λ hit. hit) (map f (take count hits)))
            (line 30 op 0 (bit (ltb limit (length (map f (take count hits))))) [] ∷ gather (λ hit. hit) (take limit (map f (take count hits))))
        go true b e = all 0 (map f (take count hits)) refl
        go false true e =
            let l : limit < count = ltb-true limit count e in
            rw (counted, e) (ap (λ (r : List Line). line 30 op 0 1 [] ∷ r)
            (lines 1 limit ∙ sym (gather-map f (take limit hits)) ∙ ap (gather (λ hit. hit)) (ap (map f) (sym (take-take limit count hits (omega arith))) ∙ sym (take-map f limit (take count hits)))))
        go false false e =
            let l : count ≤ limit = ltb-false limit count e in
            rw (counted, e) (all 0 (take limit (map f (take count hits))) (take_all limit (map f (take count hits)) (subst (λ (m : ℕ). m ≤ limit) (sym counted) l)))

    pub returned-planned : (n : Name) (base : Found) (missing : ℕ) → Base σ es n base missing → (d : Bool) → any (Answer.disclosed σ n) (map entry_of es) ≡ d
        → (limit : ℕ) (H : List (List Line)) → H ≡ map f (take count hits)
        → planned σ es s (returned_plan op missing d limit count) hits ≡ Answer.returned σ (map entry_of es) op n limit H
    unfolding returned_plan Answer.returned
    returned-planned n base missing h d e limit H q =
        rw (e, q, none_found f count hits room) (go (eqb count 0) d)
      where
        go : (a d : Bool) → planned σ es s (cond d (limited_plan op limit count) (cond a (absent_plan op missing) (limited_plan op limit count))) hits
            ≡ cond (a && not d) (Answer.no_such_object σ (map entry_of es) op n) (Answer.limited op limit (map f (take count hits)))
        go true true = limited-planned limit
        go true false = absent-planned σ es s hits op n base missing h
        go false true = limited-planned limit
        go false false = limited-planned limit

-- ---- the base

pub disclosed-at : (σ : Setting) (es : List Stored) → Accepted σ.schema es → (n : Name) (b : ℕ) → walk σ.schema es 0 n ≡ Some b
    → any (Answer.disclosed σ n) (map entry_of es) ≡ granted_at σ es b entry DiscloseOnError
disclosed-at σ es ok n b walked = disclosed-walk σ es ok n ∙ ap (λ (f : Found). test (λ e. granted σ e.name entry DiscloseOnError) (entry_by es f)) walked ∙ at b
  where
    at : (b : ℕ) → test (λ e. granted σ e.name entry DiscloseOnError) (numbered es b) ≡ granted_at σ es b entry DiscloseOnError
    at zero = unfold numbered granted_at in refl
    at (suc k) = unfold numbered granted_at entry_of in refl

-- ---- soundness

module _ (total : ℕ) (hits : List ℕ) (count : ℕ) (room : count ≤ length hits) (below : (i : ℕ) → i < count → get_or hits i 0 < total) (op limit : ℕ) where
  limited-sound : SoundPlan total (limited_plan op limit count) hits
  unfolding limited_plan
  limited-sound = go (eqb limit 0) (ltb limit count) refl
    where
      few : (more shown : ℕ) → shown ≤ count → SoundPlan total (success_plan op more shown) hits
      few more shown l = record { name = zero-le; entry = zero-le; shown = omega arith; hits = λ i m. below i (omega arith) }

      go : (a b : Bool) → ltb limit count ≡ b → SoundPlan total (cond a (success_plan op 0 count) (cond b (success_plan op 1 limit) (success_plan op 0 count))) hits
      go true b e = few 0 count (omega arith)
      go false true e = let l : limit < count = ltb-true limit count e in few 1 limit (omega arith)
      go false false e = few 0 count (omega arith)

  pub returned-sound : (missing : ℕ) → missing ≤ total → (d : Bool) → SoundPlan total (returned_plan op missing d limit count) hits
  unfolding returned_plan
  returned-sound missing l d = go (eqb count 0) d
    where
      go : (a d : Bool) → SoundPlan total (cond d (limited_plan op limit count) (cond a (absent_plan op missing) (limited_plan op limit count))) hits
      go a true = limited-sound
      go true false = absent-sound total hits op missing l
      go false false = limited-sound
