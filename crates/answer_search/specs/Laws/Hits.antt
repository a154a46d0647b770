-- Laws of `Hits`: the tests of the rules at an index, and the hits as indices that pass.
use Rattle.std.specs.Prelude.{ℕ, suc, ◌+◌, ◌<◌, ◌≡◌, Bool, true, false, ◌&&◌, eqb, length, Some}
use Rattle.std.proofs.Math.Path.{refl, ap}
use Rattle.std.proofs.Common.{ap₂, ◌∙◌}
use Rattle.std.proofs.Math.Bool.{and_assoc}
use mathlib.Core.List.{List, [], ◌∷◌, map}
use Rattle.std.proofs.Math.Numerals.{add-one}
use borrow.Author.Tests.{eq-eqb, ne_eqb}
use Rattle.std.proofs.Math.ListN.{get_or, get_or-map}
use Rattle.rules.specs.Name.{Name}
use Rattle.rules.specs.Directory.{Stored, blank, name_at, Entry, entry_of}
use Rattle.rules.specs.Decision.{Setting}
use Rattle.rules.specs.Filter.{Filter}
use Rattle.rules.specs.Request.{Search}
use Rattle.rules.specs.Arrange.{arranged}
use Rattle.rules.specs.Answer as Answer
use Rattle.rules.specs.Derived.{Accepted}
use Rattle.tables.specs.Numbers.{climbs, within_number, walk}
use Rattle.tables.specs.Laws.Hits.{candidate-number}
use Rattle.rules.specs.declared.Edition.{Edition}
use Rattle.tables.specs.Sets.{granted_at}
use Rattle.tables.specs.Plan.{found_lines, information_at}
use Rattle.answer_entry.specs.Returned.{browsable_at, returnable_at}
use Rattle.answer_entry.specs.Passing.{passing}
use Rattle.answer_entry.specs.Laws.Passing.{entries-passing}
use Rattle.filter_tree.specs.Tree.{matches_at}
use Rattle.answer_arrange.specs.Arrange.{arranged_at}
use Rattle.answer_arrange.specs.Laws.Arrange.{entry_at, arranged-entries}
use Rattle.answer_search.specs.Hits.{found_at}

-- ---- what the code finds of an entry

module _ (es : List Stored) (subset b k : ℕ) where
  pub within-base : subset ≡ 0 → eqb (k + 1) b ≡ within_number es subset b (suc k)
  unfolding within_number
  within-base e = rw (add-one k, eq-eqb subset 0 e)

  pub within-children : (subset ≡ 0 → ⊥) → subset ≡ 1 → eqb (get_or es k blank).parent b ≡ within_number es subset b (suc k)
  unfolding within_number
  within-children h e = rw (ne_eqb subset 0 h, eq-eqb subset 1 e)

  pub within-below : (subset ≡ 0 → ⊥) → (subset ≡ 1 → ⊥) → climbs es (k + 1) b (k + 1) ≡ within_number es subset b (suc k)
  unfolding within_number
  within-below h e = rw (add-one k, ne_eqb subset 0 h, ne_eqb subset 1 e)

module _ (σ : Setting) (es : List Stored) (b subset : ℕ) (ed : Edition) (f : Filter) (k : ℕ) where
  pub found-outside : within_number es subset b (suc k) ≡ false → false ≡ found_at σ es b subset ed f k
  unfolding found_at
  found-outside e = rw e

  pub found-withheld : within_number es subset b (suc k) ≡ true → returnable_at σ es (k + 1) (eqb (k + 1) b) ≡ false → false ≡ found_at σ es b subset ed f k
  unfolding found_at
  found-withheld e h = rw (e, ← add-one k, h)

  pub found-asked : within_number es subset b (suc k) ≡ true → returnable_at σ es (k + 1) (eqb (k + 1) b) ≡ true → matches_at σ es ed f k ≡ found_at σ es b subset ed f k
  unfolding found_at
  found-asked e h = rw (e, ← add-one k, h)

-- ---- maps

map_same : {A : Type 0} (f g : ℕ → A) → ((k : ℕ) → f k ≡ g k) → (ks : List ℕ) → map f ks ≡ map g ks
map_same f g h [] = refl
map_same {A} f g h (k ∷ ks) = ap₂ (λ (x : A) (xs : List A). x ∷ xs) (h k) (map_same f g h ks)

map-map : {A B : Type 0} (g : A → B) (f : ℕ → A) (ks : List ℕ) → map g (map f ks) ≡ map (λ k. g (f k)) ks
map-map g f [] = refl
map-map {A} {B} g f (k ∷ ks) = ap (λ (xs : List B). g (f k) ∷ xs) (map-map g f ks)

-- ---- they are the tests of the rules

next-number : (σ : Setting) (es : List Stored) (b k : ℕ) → returnable_at σ es (k + 1) (eqb (k + 1) b) ≡ true → returnable_at σ es (suc k) (eqb (suc k) b) ≡ true
next-number σ es b k h = rw (← add-one k) h

-- #103: an entry within the subset that may be returned is a candidate
pub candidate-asked : (σ : Setting) (es : List Stored) (ok : Accepted σ.schema es) (n : Name) (b : ℕ) (walked : walk σ.schema es 0 n ≡ Some b) (k : ℕ) → k < length es → (subset : ℕ)
    → within_number es subset b (suc k) ≡ true → returnable_at σ es (k + 1) (eqb (k + 1) b) ≡ true → Answer.candidate σ n subset (entry_of (get_or es k blank)) ≡ true
unfolding returnable_at browsable_at granted_at
candidate-asked σ es ok n b walked k l subset e h =
    candidate-number σ es ok n b walked k l subset ∙ ap₂ (λ (x y : Bool). x && y) e (next-number σ es b k h)

module _ (σ : Setting) (es : List Stored) (ok : Accepted σ.schema es) (n : Name) (b : ℕ) (walked : walk σ.schema es 0 n ≡ Some b) (r : Search) where
  found-at : (k : ℕ) → k < length es → Answer.found σ n r (entry_of (get_or es k blank)) ≡ found_at σ es b r.subset r.edition r.filter k
  unfolding Answer.found found_at matches_at returnable_at browsable_at granted_at
  found-at k l =
      ap (λ (x : Bool). x && matches_at σ es r.edition r.filter k) (candidate-number σ es ok n b walked k l r.subset)
      ∙ and_assoc (within_number es r.subset b (suc k)) (returnable_at σ es (suc k) (eqb (suc k) b)) (matches_at σ es r.edition r.filter k)

  found-lines : (k : ℕ) → Answer.search_hit σ r (entry_of (get_or es k blank)) ≡ found_lines σ es r.selection k
  unfolding Answer.search_hit found_lines information_at entry_of name_at
  found-lines k = refl

  -- the hits, by their indices
  pub search-hits : Answer.search_hits σ (map entry_of es) n r
      ≡ map (found_lines σ es r.selection) (arranged_at σ es r.ordering (passing (found_at σ es b r.subset r.edition r.filter) (length es)))
  unfolding Answer.search_hits
  search-hits =
      let ks = passing (found_at σ es b r.subset r.edition r.filter) (length es) in
      ap (λ (l : List Entry). map (Answer.search_hit σ r) (arranged σ r.ordering l))
      (entries-passing es (Answer.found σ n r) (found_at σ es b r.subset r.edition r.filter) found-at ∙ map_same (λ k. get_or (map entry_of es) k (entry_of blank)) (entry_at σ es) (λ k. get_or-map entry_of es k blank) ks)
      ∙ ap (map (Answer.search_hit σ r)) (arranged-entries σ es r.ordering ks) ∙ map-map (Answer.search_hit σ r) (entry_at σ es) (arranged_at σ es r.ordering ks)
      ∙ map_same (λ k. Answer.search_hit σ r (entry_at σ es k)) (found_lines σ es r.selection) found-lines (arranged_at σ es r.ordering ks)
