-- What the rules say of names, by entry numbers: entries count from 1, and 0 is the root. For the contracts of a program that looks names up once
-- and then goes by numbers; the laws `Resolve`, `ByNumber`, `Hits`, `Reach` and `Targets` say that it comes to the same. `serve` does not rest on these.
use Rattle.std.specs.Prelude.{ℕ, zero, suc, ◌+◌, ◌-◌, ◌*◌, ◌/◌, ◌%◌, Bool, true, false, ◌&&◌, ◌||◌, cond, List, [], ◌∷◌, eqb, get_or, Some, None}
use Rattle.std.proofs.Math.Option.{Option, none, some}
use Rattle.rules.specs.Name.{Schema, Part, Name, same_part, same_name, covers}
use Rattle.rules.specs.Directory.{Stored, blank, under_alias, Alias, alias_of}
use Rattle.rules.specs.Permission.{Item}
use Rattle.rules.specs.Decision.{Setting, level_fits}
use Rattle.rules.specs.Value.{Found}

-- ---- a name looked up from the root down

abbrev pub on_found : Found → (ℕ → Found) → Found
on_found (Some i) next = next i
on_found None next = None

-- the number of the child of entry `parent` with the naming part `p`, among entries that count from `suc i`
unfoldable pub child_from : Schema → ℕ → Part → List Stored → ℕ → Found
child_from S parent p [] i = None
child_from S parent p (e ∷ es) i = cond (eqb e.parent parent && same_part S p e.naming) (Some (suc i)) (child_from S parent p es (suc i))

-- the number of the entry reached from number `k` by the parts `ps`
unfoldable pub walk : Schema → List Stored → ℕ → Name → Found
walk S es k [] = Some k
walk S es k (p ∷ ps) = on_found (child_from S k p es 0) (λ j. walk S es j ps)

-- #105: the number of the alias with whose name a name begins, from number `k` on by the parts `ps`
unfoldable pub lead : Schema → List Stored → ℕ → Name → Found
lead S es k [] = cond (under_alias es k) (Some k) None
lead S es k (p ∷ ps) = cond (under_alias es k) (Some k) (on_found (child_from S k p es 0) (λ j. lead S es j ps))

-- the alias that has a number
abbrev pub alias_by : List Stored → Found → Option Alias
alias_by es None = none
alias_by es (Some zero) = none
alias_by es (Some (suc k)) = some (alias_of (get_or es k blank))

-- ---- entries below a base

-- entry number `k` is number `b` or below it, climbing at most `f` steps; the root has number 0
unfoldable pub climbs : List Stored → ℕ → ℕ → ℕ → Bool
climbs es zero b k = eqb k b
climbs es (suc f) b zero = eqb zero b
climbs es (suc f) b (suc k) = eqb (suc k) b || climbs es f b (get_or es k blank).parent

-- number `k` is in the subset `b` of base number `base`: the base alone, its children, or the base and all below
unfoldable pub within_number : List Stored → ℕ → ℕ → ℕ → Bool
within_number es b base k = cond (eqb b 0) (eqb k base) (cond (eqb b 1) (is_child k) (climbs es k base k))
  where
    is_child : ℕ → Bool
    is_child zero = false
    is_child (suc j) = eqb (get_or es j blank).parent base

-- ---- which entries an item is for, as one number

-- 0: no entry; 2 * b + 1: entry b alone; 2 * b + 2: entry b, or the root, and all below
unfoldable pub reaches : List Stored → ℕ → ℕ → Bool
reaches es r e = cond (eqb r 0) false (cond (eqb (r % 2) 1) (eqb e (r / 2)) (climbs es e (r / 2 - 1) e))

-- the number of the entry that has a name, 0 where there is none
abbrev pub number_or0 : Found → ℕ
number_or0 (Some b) = b
number_or0 None = 0

-- base number `b`, alone or with all below
unfoldable pub base_reach : Bool → ℕ → ℕ
base_reach below b = cond below (2 * b + 2) (cond (eqb b 0) 0 (2 * b + 1))

-- base number `b` covers number `o`
unfoldable pub base_reaches : List Stored → Bool → ℕ → ℕ → Bool
base_reaches es below b o = cond below (climbs es o b o) (eqb o b)

-- "the entry itself": the requester's own number `o`, if the base covers it
unfoldable pub own_reach : List Stored → Bool → ℕ → ℕ → ℕ
own_reach es below b o = cond (eqb o 0) 0 (cond (base_reaches es below b o) (2 * o + 1) 0)

-- a "who" that does not depend on the entry
unfoldable pub fits_always : Setting → Item → Bool
fits_always σ i = cond (eqb i.who 0) true (cond (eqb i.who 1) (covers σ.schema i.user σ.requester.name) (same_name σ.schema i.user σ.requester.name))

module _ (σ : Setting) (es : List Stored) where
  abbrev pub reach_from : Item → ℕ → Found → ℕ
  reach_from i o None = 0
  reach_from i o (Some b) = cond (eqb i.who 2) (own_reach es i.below b o) (cond (fits_always σ i) (base_reach i.below b) 0)

  unfoldable pub reach_of : Item → ℕ
  reach_of i = cond (level_fits σ i) (reach_from i (number_or0 (walk σ.schema es 0 σ.requester.name)) (walk σ.schema es 0 i.base)) 0
