-- Sets of numbers below 256, as four words of 64 bits: membership, what two sets have in common and together, and the least member.
use Rattle.std.specs.Prelude.{ℕ, ◌/◌, ◌%◌, ◌^◌, ◌<◌, ◌≡◌, Bool, true, false, cond, eqb, Some, None}
use Rattle.std.specs.Int.Bits.{bit_and, bit_or}
use Rattle.access_set.specs.declared.Bits.{Bits}
use Rattle.rules.specs.Value.{Found}

-- bit `i` of `x`
unfoldable pub bit_of : ℕ → ℕ → Bool
bit_of x i = eqb (x / 2 ^ i % 2) 1

-- `i` is the place of the lowest bit of a word that is set
pub record Lowest (x i : ℕ) : Type 0 where
  pub within : i < 64
  pub set : bit_of x i ≡ true
  pub below : (j : ℕ) → j < i → bit_of x j ≡ false

-- word `k`
unfoldable pub word_of : Bits → ℕ → ℕ
word_of s k = cond (eqb k 0) s.a (cond (eqb k 1) s.b (cond (eqb k 2) s.c (cond (eqb k 3) s.d 0)))

-- is `i` in the set?
unfoldable pub member : Bits → ℕ → Bool
member s i = bit_of (word_of s (i / 64)) (i % 64)

-- an operation on each word
abbrev pub each : (ℕ → ℕ → ℕ) → Bits → Bits → Bits
each f s o = record { a = f s.a o.a; b = f s.b o.b; c = f s.c o.c; d = f s.d o.d }

-- the numbers in both sets
abbrev pub meet : Bits → Bits → Bits
meet s o = each bit_and s o

-- the numbers in either set
abbrev pub join : Bits → Bits → Bits
join s o = each bit_or s o

-- the least number that passes
abbrev pub Least : (ℕ → Bool) → Found → Type 0
Least p (Some i) = (i < 256) × (p i ≡ true) × ((j : ℕ) → j < i → p j ≡ false)
Least p None = (j : ℕ) → p j ≡ false
