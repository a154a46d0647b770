-- The reach of an item for a requester, from its rows of numbers and from names where they stand.
use Rattle.std.specs.Prelude.{ℕ, zero, suc, ◌+◌, ◌*◌, ◌≡◌, Bool, true, ◌&&◌, cond, List, [], ◌∷◌, ◌++◌, eqb, leb, length, get_or, Some, None}
use Rattle.rules.specs.Sheet.{Bytes}
use Rattle.rules.specs.Name.{Schema, covers}
use Rattle.rules.specs.Directory.{Stored}
use Rattle.rules.specs.Decision.{Setting}
use Rattle.rules.specs.Places.{lines_at, parts_of}
use Rattle.permission_sheet.specs.Noted.{GRANTS, RIGHTS, BELOW, BASE, BASE-PARTS, WHO, USER, USER-PARTS, LEVEL, SCOPES}
use Rattle.tables.specs.Numbers.{walk, number_or0, base_reach, own_reach}
use Rattle.access_scope.specs.declared.Requester.{Requester}
use Rattle.access_scope.specs.declared.Scope.{Scope}
use Rattle.rules.specs.Value.{Found}

-- the requester of the setting, whose name stands on the sheet `q`
pub record Asker (σ : Setting) (w : ℕ) (q : Bytes) (who : Requester) : Type 0 where
  pub level-is : σ.requester.level ≡ who.level
  pub name-is : parts_of who.parts (lines_at w q who.place) ≡ σ.requester.name
  pub parts_are : who.parts ≡ length σ.requester.name

-- the scope of the item of index `k`
abbrev pub scope_at : List ℕ → List ℕ → ℕ → Scope
scope_at rights scopes k = record {
  grants = get_or rights (k * RIGHTS + GRANTS) 0;
  level = get_or scopes (k * SCOPES + LEVEL) 0;
  who = get_or scopes (k * SCOPES + WHO) 0;
  user = get_or scopes (k * SCOPES + USER) 0;
  user_parts = get_or scopes (k * SCOPES + USER-PARTS) 0;
  below = get_or scopes (k * SCOPES + BELOW) 0;
  base = get_or scopes (k * SCOPES + BASE) 0;
  base_parts = get_or scopes (k * SCOPES + BASE-PARTS) 0;
}

-- ---- is the item for the requester?

-- the level counts for a grant alone
unfoldable pub level_by : ℕ → ℕ → ℕ → Bool
level_by grants need level = cond (eqb grants 1) (leb need level) true

-- by what the item says of users; `c`: the user's name, of `n` parts, covers the requester's, of `m`. "The entry itself" is left to the base
unfoldable pub who_by : ℕ → Bool → ℕ → ℕ → Bool
who_by who c n m = cond (eqb who 0) true (cond (eqb who 2) true (cond (eqb who 1) c (eqb n m && c)))

-- by both
unfoldable pub asked_by : Schema → ℕ → Bytes → Scope → Bytes → Requester → Bool
asked_by S w p x q who =
    level_by x.grants x.level who.level
    && who_by x.who (covers S (parts_of x.user_parts (lines_at w p x.user)) (parts_of who.parts (lines_at w q who.place))) x.user_parts who.parts

-- ---- its reach

-- the reach of the base `b`, by what the item says of users; `o` is the requester's own number
unfoldable pub spread_by : List Stored → ℕ → ℕ → ℕ → ℕ → ℕ
spread_by es who below b o = cond (eqb who 2) (own_reach es (eqb below 1) b o) (base_reach (eqb below 1) b)

-- none where the base is not found
abbrev pub spread_from : List Stored → ℕ → ℕ → ℕ → Found → ℕ
spread_from es who below o (Some b) = spread_by es who below b o
spread_from es who below o None = 0

-- the reach of the item with this scope
unfoldable pub item_by : Schema → List Stored → ℕ → Bytes → Scope → Bytes → Requester → ℕ → ℕ
item_by S es w p x q who o = cond (asked_by S w p x q who) (spread_from es x.who x.below o (walk S es 0 (parts_of x.base_parts (lines_at w p x.base)))) 0

-- the number of the entry that the requester's name names, 0 where there is none
abbrev pub own_number : Schema → List Stored → ℕ → Bytes → Requester → ℕ
own_number S es w q who = number_or0 (walk S es 0 (parts_of who.parts (lines_at w q who.place)))

-- the reaches of the first `n` items
unfoldable pub reaches_by : Schema → List Stored → ℕ → Bytes → List ℕ → List ℕ → Bytes → Requester → ℕ → List ℕ
reaches_by S es w p rights scopes q who zero = []
reaches_by S es w p rights scopes q who (suc n) =
    reaches_by S es w p rights scopes q who n ++ (item_by S es w p (scope_at rights scopes n) q who (own_number S es w q who) ∷ [])
