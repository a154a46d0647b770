-- A schema as numbers: the rank of a type, its syntax, whether a value is allowed, and the equality of two values of a syntax.
use Rattle.std.specs.Prelude.{ℕ, suc, ◌/◌, ◌%◌, ◌<◌, Bool, ◌&&◌, cond, List, [], ◌∷◌, eqb, ltb, length, get_or, Some, None}
use Rattle.rules.specs.Sheet.{Bytes}
use Rattle.rules.specs.Value.{fits, same}
use Rattle.rules.specs.Value.{Found}

-- the types rise, and all are above `n`
abbrev pub Rising : ℕ → List ℕ → Type 0
Rising n [] = Unit {0}
Rising n (k ∷ ks) = (n < k / 4) × Rising (k / 4) ks

-- the rank of a type: how many types stand before it; the schema's length if it is not there
unfoldable pub rank_in : List ℕ → ℕ → ℕ
rank_in [] t = 0
rank_in (k ∷ ks) t = cond (eqb (k / 4) t) 0 (suc (rank_in ks t))

-- the syntax of a type, by its rank
unfoldable pub syntax_in : List ℕ → ℕ → Found
syntax_in ks t = cond (ltb (rank_in ks t) (length ks)) (Some (get_or ks (rank_in ks t) 0 % 4)) None

-- a value of the type of this rank is allowed
unfoldable pub allowed_at : List ℕ → ℕ → Bytes → Bool
allowed_at ks r v = ltb r (length ks) && fits (get_or ks r 0 % 4) v

-- two values that the syntax allows are equal
unfoldable pub equal_by : ℕ → Bytes → Bytes → Bool
equal_by s v u = fits s v && (fits s u && same s v u)
