-- #104: "it is shown once, over the edition, that items alone decide the filter": two judgements that agree on the items that stand in a filter give it
-- one truth.
use Rattle.std.specs.Prelude.{◌≡◌, refl}
use Rattle.std.proofs.Common.{ap, ap₂}
use mathlib.Core.List.Memᴰ
use mathlib.Core.List.{List, [], ◌∷◌, ◌++◌, Memᴰ}
use Rattle.rules.specs.Filter.{Assertion, Filter, and, or, not', item, Filters, none, more, conjunction, disjunction, negation, evaluate, evaluate_all}
use Rattle.rules.specs.declared.Edition.{Edition}
use Rattle.rules.specs.declared.Truth.{Truth}

-- the items that stand in a filter
unfoldable mutual
  pub items_of : Filter → List Assertion
  items_of (and fs) = items_in fs
  items_of (or fs) = items_in fs
  items_of (not' f) = items_of f
  items_of (item a) = a ∷ []

  pub items_in : Filters → List Assertion
  items_in none = []
  items_in (more f fs) = items_of f ++ items_in fs

mutual
  unfolding items_of items_in evaluate evaluate_all

  pub own-items-decide : (ed : Edition) (m m' : Assertion → Truth) (f : Filter) → ((a : Assertion) → Memᴰ a (items_of f) → m a ≡ m' a) → evaluate ed m f ≡ evaluate ed m' f
  own-items-decide ed m m' (and fs) h = ap (conjunction ed) (all-decide ed m m' fs h)
  own-items-decide ed m m' (or fs) h = ap (disjunction ed) (all-decide ed m m' fs h)
  own-items-decide ed m m' (not' f) h = ap negation (own-items-decide ed m m' f h)
  own-items-decide ed m m' (item a) h = h a (Memᴰ.head refl)

  all-decide : (ed : Edition) (m m' : Assertion → Truth) (fs : Filters) → ((a : Assertion) → Memᴰ a (items_in fs) → m a ≡ m' a) → evaluate_all ed m fs ≡ evaluate_all ed m' fs
  all-decide ed m m' none h = refl
  all-decide ed m m' (more f fs) h =
      ap₂ (λ (t : Truth) (ts : List Truth). t ∷ ts)
      (own-items-decide ed m m' f (λ a k. h a (Memᴰ.append_left (items_in fs) k)))
      (all-decide ed m m' fs (λ a k. h a (Memᴰ.append_right (items_of f) k)))
