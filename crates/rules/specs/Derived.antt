-- What the contracts of the parts name besides the rules: notions that follow from the papers and stand in none of them. The contracts of the whole
-- (`dinghy`) name none of these.
use Rattle.std.specs.Prelude.{ℕ, ◌+◌, ◌*◌, ◌≤◌, ◌<◌, ◌≡◌, Bool, true, false, ◌&&◌, cond, List, [], ◌∷◌, ◌++◌, eqb, length, get_or, take, drop}
use Rattle.std.proofs.Math.Option.{Option, none, some}
use Rattle.rules.specs.Lists.{given}
use Rattle.rules.specs.Sheet.{Bytes}
use Rattle.std.specs.declared.cmp.Ordering.{Ordering}
use Rattle.std.specs.declared.cmp.Ordering.TheVariants.{Less, Equal, Greater}
use Rattle.rules.specs.Value.{Piece, normal_piece}
use Rattle.rules.specs.Name.{Schema, Name, allowed, same_part}
use Rattle.rules.specs.Directory.{Stored, blank, name_at, under_alias}
use Rattle.rules.specs.Permission.{Item}
use Rattle.rules.specs.Decision.{Setting, base_covers, who_fits, level_fits, rank, explicit}

-- ---- lists

-- every element has it
abbrev pub Each : {A : Type 0} → (A → Type 0) → List A → Type 0
Each P [] = Unit {0}
Each P (x ∷ xs) = P x × Each P xs

-- what is found has it
abbrev pub IfFound : {A : Type 0} → (A → Type 0) → Option A → Type 0
IfFound P none = Unit {0}
IfFound P (some x) = P x

-- `s` in the place of what stands in `d` from `at` on
unfoldable pub put_at : List ℕ → ℕ → List ℕ → List ℕ
put_at d at s = (take at d ++ s) ++ drop (at + length s) d

-- ---- values

-- the order turned round
abbrev pub reversed : Ordering → Ordering
reversed Less = Greater
reversed Equal = Equal
reversed Greater = Less

-- The bytes of a text after those written: a blank is written only where something is written already and something follows it.
-- `started`: something is written. `gap`: a blank is due before what follows.
unfoldable pub words : Bool → Bool → Bytes → Bytes
words started gap [] = []
words started gap (c ∷ cs) = cond (eqb c 32) (words started started cs) (given gap (32 ∷ []) ++ (c ∷ words true false cs))

-- the piece as it is compared
abbrev pub compared : ℕ → Piece → Piece
compared s p = record { place = p.place; bytes = normal_piece s p.bytes }

-- ---- items, in order of weight

-- precedence, then the rank of "who", then explicitness, as one number
unfoldable pub weight : Item → ℕ
weight i = (i.precedence * 3 + rank i) * 2 + explicit i

-- the weight, and within a weight a denial before a grant
unfoldable pub score : Item → ℕ
score i = weight i * 2 + cond i.grants 2 3

-- the items whose base covers the entry, whose "who" fits and whose level is enough: what is asked of the entry is decided by these
unfoldable pub concerns : Setting → Name → Item → Bool
concerns σ n i = base_covers σ i n && (who_fits σ i n && level_fits σ i)

-- beyond the items
abbrev pub no_item : Item
no_item = record { precedence = 0; level = 0; grants = false; below = false; base = []; who = 0; user = []; what = 0; type = 0; value = []; permissions = 0 }

-- the item at a place of the order
abbrev pub item_at : List Item → List ℕ → ℕ → Item
item_at is order p = get_or is (get_or order p 0) no_item

-- all items, those of higher scores first, at the front of `order`
pub record Ranked (is : List Item) (order : List ℕ) : Type 0 where
  pub within : (p : ℕ) → p < length is → get_or order p 0 < length is
  pub complete : (k : ℕ) → k < length is → (p : ℕ) × (p < length is) × (get_or order p 0 ≡ k)
  pub falling : (p r : ℕ) → p ≤ r → r < length is → score (item_at is order r) ≤ score (item_at is order p)

-- ---- the entries of an accepted directory

-- no deeper than 8
abbrev pub Shallow : Stored → Type 0
Shallow e = length e.name ≤ 8

-- the naming value is one that its type's syntax allows
abbrev pub NamingAllowed : Schema → Stored → Type 0
NamingAllowed S e = allowed S e.naming.type e.naming.value ≡ true

-- each value is one that its type's syntax allows
abbrev pub ValuesAllowed : Schema → Stored → Type 0
ValuesAllowed S e = Each (λ p. allowed S p.type p.value ≡ true) e.values

-- of the directory's rules, those that names and the order of values rest on
pub record Accepted (S : Schema) (es : List Stored) : Type 0 where
  pub parents : (k : ℕ) → k < length es → (get_or es k blank).parent ≤ k
  pub names : (k : ℕ) → k < length es → (get_or es k blank).name ≡ name_at es (get_or es k blank).parent ++ ((get_or es k blank).naming ∷ [])
  pub siblings : (i j : ℕ) → i < j → j < length es → (get_or es i blank).parent ≡ (get_or es j blank).parent
      → same_part S (get_or es i blank).naming (get_or es j blank).naming ≡ true → ⊥
  pub childless : (k : ℕ) → k < length es → under_alias es (get_or es k blank).parent ≡ false
  pub depths : Each Shallow es
  pub namings : Each (NamingAllowed S) es
  pub values : Each (ValuesAllowed S) es
