-- What the judge of the permission sheet gives: the refusal number, or the items as rows of numbers. The contract of `judge` is `PermissionsJudged`.
-- An item has a row of rights (what a question about it touches) and a row of scopes (which entries and which users it is for, by name and level).
-- Names and values are noted by their positions on the sheet, a value by its digest too.
use Rattle.std.specs.Prelude.{ℕ, ◌+◌, ◌-◌, ◌*◌, ◌≤◌, ◌<◌, ◌≡◌, List, [], length, get_or, take, drop, replicate, Result, Ok, Err}
use Rattle.rules.specs.Sheet.{Bytes, bit, lines}
use Rattle.rules.specs.declared.Format.{Format}
use Rattle.rules.specs.Name.{Schema}
use Rattle.rules.specs.Judge.{accept, refuse, refusal_of}
use Rattle.rules.specs.Permission.{Item, items, permissions_of}
use Rattle.rules.specs.Places.{lines_at, parts_of, schema_of}
use Rattle.rules.specs.Derived.{weight, score, no_item}
use Rattle.value_syntax.specs.Digest.{digest}
use Rattle.rules.specs.Refusals.{refusal_number}
use Rattle.rules.specs.declared.refusals.Refusal.{Refusal}

-- ---- the numbers of a row, by their places in it

-- a row of rights
abbrev pub SCORE : ℕ
SCORE = 0

abbrev pub DIGEST : ℕ
DIGEST = 1

abbrev pub GRANTS : ℕ
GRANTS = 2

abbrev pub WHAT : ℕ
WHAT = 3

abbrev pub TYPE : ℕ
TYPE = 4

abbrev pub PERMISSIONS : ℕ
PERMISSIONS = 5

abbrev pub VALUE : ℕ
VALUE = 6

abbrev pub LENGTH : ℕ
LENGTH = 7

abbrev pub RIGHTS : ℕ
RIGHTS = 8

-- those of 256 items
abbrev pub ALL-RIGHTS : ℕ
ALL-RIGHTS = 256 * RIGHTS

-- a row of scopes
abbrev pub BELOW : ℕ
BELOW = 0

abbrev pub BASE : ℕ
BASE = 1

abbrev pub BASE-PARTS : ℕ
BASE-PARTS = 2

abbrev pub WHO : ℕ
WHO = 3

abbrev pub USER : ℕ
USER = 4

abbrev pub USER-PARTS : ℕ
USER-PARTS = 5

abbrev pub LEVEL : ℕ
LEVEL = 6

abbrev pub SCOPES : ℕ
SCOPES = 7

-- those of 256 items
abbrev pub ALL-SCOPES : ℕ
ALL-SCOPES = 256 * SCOPES

-- ---- an item and its rows

-- the numbers of an accepted item are small, whatever the highest type is
pub record Bounded (i : Item) : Type 0 where
  pub precedence : i.precedence ≤ 255
  pub weight : weight i ≤ 1535
  pub level : i.level ≤ 2
  pub base : length i.base ≤ 8
  pub who : i.who ≤ 3
  pub user : length i.user ≤ 8
  pub what : i.what ≤ 5
  pub value : length i.value ≤ 64
  pub permissions : (1 ≤ i.permissions) × (i.permissions ≤ 63)

-- the rows of the item `i` on the sheet `p`, in columns of `w` bytes: VALUE is where the bytes of its K 7 line begin, BASE and USER where the K 9 lines of each name begin
pub record ItemRow (w : ℕ) (p : Bytes) (i : Item) (right scope : ℕ → ℕ) : Type 0 where
  pub bounded : Bounded i
  pub score : right SCORE ≡ score i
  pub digest : right DIGEST ≡ digest 0 i.value
  pub grants : right GRANTS ≡ bit i.grants
  pub what : right WHAT ≡ i.what
  pub type : right TYPE ≡ i.type
  pub permissions : right PERMISSIONS ≡ i.permissions
  pub value : take (right LENGTH) (drop (right VALUE) p) ≡ i.value
  pub value-within : right VALUE + right LENGTH ≤ length p
  pub below : scope BELOW ≡ bit i.below
  pub base : parts_of (scope BASE-PARTS) (lines_at w p (scope BASE)) ≡ i.base
  pub base-parts : scope BASE-PARTS ≡ length i.base
  pub base-within : scope BASE ≤ length p
  pub who : scope WHO ≡ i.who
  pub user : parts_of (scope USER-PARTS) (lines_at w p (scope USER)) ≡ i.user
  pub user-parts : scope USER-PARTS ≡ length i.user
  pub user-within : scope USER ≤ length p
  pub level : scope LEVEL ≡ i.level

-- ---- the whole sheet

-- the rows of the accepted items `is`, in their order, and zeros after the last
pub record Table (w : ℕ) (p : Bytes) (is : List Item) (rights scopes : List ℕ) : Type 0 where
  pub few : length is ≤ 256
  pub rows : (k : ℕ) → k < length is → ItemRow w p (get_or is k no_item) (λ j. get_or rights (k * RIGHTS + j) 0) (λ j. get_or scopes (k * SCOPES + j) 0)
  pub rights-length : length rights ≡ 256 * RIGHTS
  pub scopes-length : length scopes ≡ 256 * SCOPES
  pub rights-rest : drop (length is * RIGHTS) rights ≡ replicate (256 * RIGHTS - length is * RIGHTS) 0
  pub scopes-rest : drop (length is * SCOPES) scopes ≡ replicate (256 * SCOPES - length is * SCOPES) 0

-- the refusal number (0: none), and how many items are noted
pub record NotedItems : Type 0 where
  pub refusal : ℕ
  pub count : ℕ

-- the accepted items `is`
pub record PermissionsNoted (f : Format) (p : Bytes) (is : List Item) (r : NotedItems) (rights scopes : List ℕ) : Type 0 where
  pub refusal : r.refusal ≡ 0
  pub count : r.count ≡ length is
  pub table : Table f.width p is rights scopes
  pub types : (k : ℕ) → k < length is → (get_or is k no_item).type ≤ f.top

-- nothing but a refusal
abbrev pub items_refused : ℕ → NotedItems
items_refused n = record { refusal = n; count = 0 }

-- what a result gives: the number of items, or nothing but the refusal
abbrev pub noted_of : Result ℕ Refusal → NotedItems
noted_of (Ok n) = record { refusal = 0; count = n }
noted_of (Err r) = items_refused (refusal_number r)

-- the rows of the first items of a sheet, as far as it was read
pub record FirstItems (f : Format) (p : Bytes) (S : Schema) (rights scopes : List ℕ) : Type 0 where
  pub first : List Item
  pub at : ℕ
  pub from : items f.top S (256 - length first) first (lines_at f.width p at) ≡ items f.top S 256 [] (lines f.width p)
  pub table : Table f.width p first rights scopes

-- what the sheet `p` in the format `f` gives, judged against the schema
pub record PermissionsJudged (f : Format) (p : Bytes) (schema : List ℕ) (r : NotedItems) (rights scopes : List ℕ) : Type 0 where
  pub refusal : r.refusal ≡ refusal_of (permissions_of f (schema_of schema) p)
  pub accepted : r.refusal ≡ 0 → (is : List Item) × (permissions_of f (schema_of schema) p ≡ accept is)
  pub noted : (is : List Item) → permissions_of f (schema_of schema) p ≡ accept is → PermissionsNoted f p is r rights scopes
  pub nothing : (n : ℕ) → permissions_of f (schema_of schema) p ≡ refuse n → (r ≡ items_refused n) × FirstItems f p (schema_of schema) rights scopes
