-- List as a whole: the plan of the children found stands for the answer of the rules, and so does that of an absent base.
use Rattle.std.specs.Prelude.{ℕ, ◌≤◌, ◌≡◌, Bool, List, map, length, take, Some, None}
use Rattle.std.proofs.Math.Path.{refl, sym, ap}
use Rattle.std.proofs.Common.{◌∙◌}
use Rattle.rules.specs.Lists.{gather}
use Rattle.rules.specs.Name.{Name}
use Rattle.rules.specs.Directory.{Stored, entry_of, entries_in}
use Rattle.rules.specs.Permission.{DiscloseOnError}
use Rattle.rules.specs.Decision.{Setting, entry}
use Rattle.rules.specs.Request.{Selection, list}
use Rattle.rules.specs.Answer.{answer, list_hits}
use Rattle.rules.proofs.Laws.Absent.{list-absent}
use Rattle.rules.specs.Derived.{Accepted}
use Rattle.rules.specs.Value.{Found}
use Rattle.tables.specs.declared.plan.Plan.{Plan}
use Rattle.tables.specs.Plan.{aliases_of, child_lines, success_lines, planned}
use Rattle.tables.specs.Sound.{Base}
use Rattle.tables.specs.Outcome.{absent_plan}
use Rattle.tables.specs.Sets.{granted_at}
use Rattle.answer_entry.specs.Passing.{passing, over, Indices}
use Rattle.answer_entry.specs.Laws.Passing.{over-found}
use Rattle.answer_entry.specs.Returned.{success_plan, returned_plan}
use Rattle.answer_entry.specs.Laws.Returned.{returned-planned}
use Rattle.answer_entry.specs.Laws.Whole.{directory_of, not_root, not-present, planned-absent, there, told-disclosed}
use Rattle.answer_list.specs.Hits.{listed_at, list_found}
use Rattle.answer_list.specs.Laws.Hits.{list-hits}

module _ (σ : Setting) (es : List Stored) (ok : Accepted σ.schema es) (n : Name) (base : Found) (missing : ℕ) (h : Base σ es n base missing) (plan : Plan) (hits : List ℕ) where
  -- the base is absent
  pub list-none : base ≡ None → (s : Selection) (limit : ℕ) → plan ≡ absent_plan 3 missing → planned σ es s plan hits ≡ answer σ (map entry_of es) (aliases_of σ es) n (list limit)
  unfolding entries_in directory_of
  list-none e s limit q =
      planned-absent σ es ok n base missing h plan hits s 3 q
      ∙ sym (list-absent σ (directory_of σ es) refl ok n (not_root σ es ok n base missing h e) (not-present σ es ok n base missing h e) (aliases_of σ es) limit)

  -- the base has number `b`
  module _ (b : ℕ) (e : base ≡ Some b) (d : Bool) (told : d ≡ granted_at σ es b entry DiscloseOnError) (count : ℕ) (room : count ≤ length hits) where
    child-success : (s : Selection) (more shown : ℕ) → success_lines σ es s (success_plan 3 more shown) hits ≡ gather (child_lines es) (take shown hits)
    unfolding success_lines
    child-success s more shown = refl

    pub list-some : (s : Selection) (limit : ℕ) → take count hits ≡ passing (listed_at σ es b) (length es) → plan ≡ returned_plan 3 missing d limit count
        → planned σ es s plan hits ≡ answer σ (map entry_of es) (aliases_of σ es) n (list limit)
    unfolding answer
    list-some s limit taken q =
        ap (λ (r : Plan). planned σ es s r hits) q
        ∙ returned-planned σ es s hits count room 3 (child_lines es) (child-success s) n base missing h d (told-disclosed σ es ok n base missing h b e d told) limit (list_hits σ (map entry_of es) (aliases_of σ es) n)
        (list-hits σ es ok n b (there σ es ok n base missing h b e) ∙ ap (map (child_lines es)) (sym taken))

-- ---- what the list of hits holds

pub list-unfound : (σ : Setting) (es : List Stored) (base : Found) (hits : List ℕ) → base ≡ None → hits ≡ over (list_found σ es base) hits
unfolding list_found
list-unfound σ es base hits e = rw e

pub list-found : (σ : Setting) (es : List Stored) (base : Found) (b k n : ℕ) (before hits : List ℕ) → base ≡ Some b → Indices k n before hits → take n hits ≡ passing (listed_at σ es b) (length es)
    → hits ≡ over (list_found σ es base) before
unfolding list_found
list-found σ es base b k n before hits e found t = over-found k n before hits (passing (listed_at σ es b) (length es)) found t ∙ ap (λ (x : Found). over (list_found σ es x) before) (sym e)
