-- Document 01, "Filter", and RFC 4511, 4.5.1.7: filters and their three truth values; #104: those of the first edition (X.511 of 1990, 7.8.2). Items are
-- judged in `FilterItem`, in both alike.
use Rattle.std.specs.Prelude.{ℕ, Bool, true, false, ◌&&◌, not, cond, List, [], ◌∷◌}
use Rattle.rules.specs.Lists.{any, all, is_empty}
use Rattle.rules.specs.Sheet.{Bytes}
use Rattle.rules.specs.Value.{Piece}
use Rattle.rules.specs.declared.Edition.{Edition}
use Rattle.rules.specs.declared.Edition.TheVariants.{LaterLogic, FirstEdition}
use Rattle.rules.specs.declared.Truth.{Truth}
use Rattle.rules.specs.declared.Truth.TheVariants.{True, False, Undefined}

-- the filter items, K 23 to 27: a type, and a value or pieces
pub data Assertion : Type 0 where
  equality at_least at_most : ℕ → Bytes → Assertion
  present : ℕ → Assertion
  substrings : ℕ → List Piece → Assertion

mutual
  -- K 20 and, 21 or, 22 not, or an item
  pub data Filter : Type 0 where
    and or : Filters → Filter
    not' : Filter → Filter
    item : Assertion → Filter

  pub data Filters : Type 0 where
    none : Filters
    more : Filter → Filters → Filters

abbrev pub truth : Bool → Truth
truth true = True
truth false = False

abbrev pub is_true : Truth → Bool
is_true True = true
is_true False = false
is_true Undefined = false

abbrev pub is_false : Truth → Bool
is_false True = false
is_false False = true
is_false Undefined = false

abbrev pub is_undefined : Truth → Bool
is_undefined True = false
is_undefined False = false
is_undefined Undefined = true

-- #104: "a filter with one or more parts, all undefined, is undefined"
unfoldable pub all_undefined : List Truth → Bool
all_undefined ts = not (is_empty ts) && all is_undefined ts

-- "And: false if a part is false, true if all are true, else undefined"; #104: otherwise ""and" is true unless a part is false"
unfoldable pub conjunction : Edition → List Truth → Truth
conjunction LaterLogic ts = cond (any is_false ts) False (cond (any (λ t. not (is_true t)) ts) Undefined True)
conjunction FirstEdition ts = cond (all_undefined ts) Undefined (truth (not (any is_false ts)))

-- "Or: true if a part is true, false if all are false, else undefined"; #104: otherwise ""or" is false unless a part is true"
unfoldable pub disjunction : Edition → List Truth → Truth
disjunction LaterLogic ts = cond (any is_true ts) True (cond (any (λ t. not (is_false t)) ts) Undefined False)
disjunction FirstEdition ts = cond (all_undefined ts) Undefined (truth (any is_true ts))

-- "Not keeps undefined"; #104: otherwise ""not" is true when its part is false, else false": the same in both editions
abbrev pub negation : Truth → Truth
negation True = False
negation False = True
negation Undefined = Undefined

-- a filter's truth, from the truth of its items alone
unfoldable mutual
  unfolding conjunction disjunction

  pub evaluate : Edition → (Assertion → Truth) → Filter → Truth
  evaluate ed m (and fs) = conjunction ed (evaluate_all ed m fs)
  evaluate ed m (or fs) = disjunction ed (evaluate_all ed m fs)
  evaluate ed m (not' f) = negation (evaluate ed m f)
  evaluate ed m (item a) = m a

  pub evaluate_all : Edition → (Assertion → Truth) → Filters → List Truth
  evaluate_all ed m none = []
  evaluate_all ed m (more f fs) = evaluate ed m f ∷ evaluate_all ed m fs
