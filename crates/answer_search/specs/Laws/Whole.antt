-- Search as a whole: the plan of the entries found stands for the answer of the rules, and so does that of an absent base.
use Rattle.std.specs.Prelude.{ℕ, ◌+◌, ◌-◌, ◌≤◌, ◌<◌, ◌≡◌, Bool, List, ◌++◌, map, length, get_or, take, drop, Some, None}
use Rattle.std.proofs.Common.{arith, ◌∙◌, subst, length-append, length-drop, length-take-le, get_or-append-add, get_or-take, get_or-drop, take_at}
use Rattle.std.proofs.Math.Path.{refl, sym, ap}
use Rattle.std.proofs.Math.Option.{Option}
use Rattle.std.proofs.Math.ListN.{get_or-append}
use Rattle.rules.specs.Lists.{gather}
use Rattle.rules.specs.Sheet.{Bytes}
use Rattle.rules.specs.Judge.{Grammar}
use Rattle.rules.specs.Name.{Name}
use Rattle.rules.specs.Directory.{Stored, entry_of, entries_in}
use Rattle.rules.specs.Permission.{DiscloseOnError}
use Rattle.rules.specs.Decision.{Setting, entry}
use Rattle.rules.specs.Filter.{Filter}
use Rattle.rules.specs.Request.{Selection, Ordering, Search, search}
use Rattle.rules.specs.Answer.{answer, search_hits}
use Rattle.rules.specs.Places.{ordering_by}
use Rattle.rules.specs.Derived.{Each, Accepted}
use Rattle.rules.proofs.Laws.Each.{each_at, each-by-index}
use Rattle.rules.proofs.Laws.Absent.{search-absent}
use Rattle.rules.specs.Value.{Found}
use Rattle.tables.specs.declared.plan.Plan.{Plan}
use Rattle.tables.specs.Plan.{aliases_of, found_lines, success_lines, planned}
use Rattle.tables.specs.Sound.{Base}
use Rattle.tables.specs.Outcome.{absent_plan}
use Rattle.tables.specs.Sets.{granted_at}
use Rattle.answer_entry.specs.Passing.{passing, over, Indices}
use Rattle.answer_entry.specs.Returned.{success_plan, returned_plan}
use Rattle.answer_entry.specs.Laws.Returned.{returned-planned}
use Rattle.answer_entry.specs.Laws.Whole.{directory_of, not_root, not-present, planned-absent, there, told-disclosed}
use Rattle.filter_tree.specs.Tree.{FilterAt}
use Rattle.answer_arrange.specs.Arrange.{arranged_at}
use Rattle.answer_arrange.specs.Laws.Arrange.{arranged-size, arranged-each}
use Rattle.answer_search.specs.Hits.{found_at, search_found}
use Rattle.answer_search.specs.Query.{Seeks}
use Rattle.answer_search.specs.declared.Query.{Query}
use Rattle.answer_search.specs.Laws.Hits.{search-hits}

-- a filter is read where it stands
pub read_at_lem : (g : Grammar) (w : ℕ) (q : Bytes) (f : Filter) {i j : ℕ} → i ≡ j → FilterAt g w q j f → FilterAt g w q i f
read_at_lem g w q f e h = subst (λ (k : ℕ). FilterAt g w q k f) (sym e) h

module _ (σ : Setting) (es : List Stored) (ok : Accepted σ.schema es) (n : Name) (base : Found) (missing : ℕ) (h : Base σ es n base missing) (plan : Plan) (hits : List ℕ) where
  -- the base is absent
  pub search-none : base ≡ None → (r : Search) → plan ≡ absent_plan 4 missing → planned σ es r.selection plan hits ≡ answer σ (map entry_of es) (aliases_of σ es) n (search r)
  unfolding entries_in directory_of
  search-none e r q =
      planned-absent σ es ok n base missing h plan hits r.selection 4 q
      ∙ sym (search-absent σ (directory_of σ es) refl ok n (not_root σ es ok n base missing h e) (not-present σ es ok n base missing h e) (aliases_of σ es) r)

  -- the base has number `b`
  module _ (b : ℕ) (e : base ≡ Some b) (d : Bool) (told : d ≡ granted_at σ es b entry DiscloseOnError) (count : ℕ) (room : count ≤ length hits) where
    found-success : (s : Selection) (more shown : ℕ) → success_lines σ es s (success_plan 4 more shown) hits ≡ gather (found_lines σ es s) (take shown hits)
    unfolding success_lines
    found-success s more shown = refl

    pub search-some : (r : Search) (limit : ℕ) → r.limit ≡ limit → take count hits ≡ search_found σ es r (Some b) → plan ≡ returned_plan 4 missing d limit count
        → planned σ es r.selection plan hits ≡ answer σ (map entry_of es) (aliases_of σ es) n (search r)
    unfolding answer search_found
    search-some r limit l taken q =
        ap (λ (p : Plan). planned σ es r.selection p hits) (q ∙ ap (λ (x : ℕ). returned_plan 4 missing d x count) (sym l))
        ∙ returned-planned σ es r.selection hits count room 4 (found_lines σ es r.selection) (found-success r.selection) n base missing h d (told-disclosed σ es ok n base missing h b e d told) r.limit (search_hits σ (map entry_of es) n r)
        (search-hits σ es ok n b (there σ es ok n base missing h b e) r ∙ ap (map (found_lines σ es r.selection)) (sym taken))

-- ---- what the list of hits holds

pub search-unfound : (σ : Setting) (es : List Stored) (s : Search) (base : Found) (hits : List ℕ) → base ≡ None → hits ≡ over (search_found σ es s base) hits
unfolding search_found
search-unfound σ es s base hits e = rw e

-- the entries found, before they are arranged
pub found-by : (σ : Setting) (es : List Stored) (s : Search) (b : ℕ) (a : Query) (ks : List ℕ) {g : Grammar} {w : ℕ} {q : Bytes} → Seeks g w q s a
    → ks ≡ passing (found_at σ es b a.subset a.edition s.filter) (length es) → arranged_at σ es (ordering_by a.order_type a.falling) ks ≡ search_found σ es s (Some b)
unfolding search_found
found-by σ es s b a ks h e = rw (e, h.ordering, h.subset, h.edition)

-- ---- the front of the list of hits arranged

-- it has indices
pub found_below : (k n : ℕ) (before hits : List ℕ) → Indices k n before hits → Each (λ i. i < k) (take n hits)
found_below k n before hits found =
    each-by-index (λ i. i < k) 0 (take n hits) (λ i l. let m : i < n = omega (arith, l, length-take-le n hits found.room) in subst (λ (x : ℕ). x < k) (sym (get_or-take n hits i 0 m)) (found.below i m))

module _ (σ : Setting) (es : List Stored) (o : Option Ordering) (k n : ℕ) (before hits : List ℕ) (found : Indices k n before hits)
    {arranged : List ℕ} (e : arranged ≡ arranged_at σ es o (take n hits) ++ drop n hits) where
  abbrev front : List ℕ
  front = arranged_at σ es o (take n hits)

  size : length front ≡ n
  size = arranged-size σ es o (take n hits) ∙ length-take-le n hits found.room

  below : Each (λ i. i < k) front
  below = arranged-each σ es (λ i. i < k) o (take n hits) (found_below k n before hits found)

  behind : (i : ℕ) → n ≤ i → get_or (front ++ drop n hits) i 0 ≡ get_or hits i 0
  behind i l =
      let f : i ≡ length front + (i - n) = omega (arith, size) in
      let g : n + (i - n) ≡ i = omega arith in
      ap (λ (m : ℕ). get_or (front ++ drop n hits) m 0) f ∙ get_or-append-add front (drop n hits) (i - n) 0 ∙ get_or-drop n hits (i - n) 0 ∙ ap (λ (m : ℕ). get_or hits m 0) g

  same_size : length (front ++ drop n hits) ≡ length hits
  same_size = let l : length (front ++ drop n hits) ≡ length front + length (drop n hits) = length-append front (drop n hits) in omega (arith, l, length-drop n hits, size, found.room)

  pub arranged-indices : Indices k n before arranged
  arranged-indices = subst (Indices k n before) (sym e) (record {
    size = same_size ∙ found.size;
    few = found.few;
    room = omega (arith, same_size, found.room);
    below = λ i l. subst (λ (x : ℕ). x < k) (sym (get_or-append front (drop n hits) 0 i (omega (arith, l, size)))) (each_at (λ i. i < k) 0 front below i (omega (arith, l, size)));
    kept = λ i l. behind i l ∙ found.kept i l;
  })

  pub arranged-front : take n arranged ≡ front
  arranged-front = ap (take n) e ∙ take_at front (drop n hits) n size
