-- A number that equal values share and few others do, so that bytes are compared only where the numbers agree.
use Rattle.std.specs.Prelude.{ℕ, ◌+◌, ◌*◌, ◌/◌, ◌%◌, [], ◌∷◌, take}
use Rattle.std.specs.Int.Bits.{bit_and, bit_or, bit_xor}
use Rattle.rules.specs.Sheet.{Bytes}
use Rattle.rules.specs.Value.{tidied}

-- a byte, letters without case: one with the bit of 64, as letters have it, gets the bit of 32, in which alone a capital letter and its small one differ
unfoldable pub caseless : ℕ → ℕ
caseless b = bit_or b (bit_and b 64 / 2)

-- four bytes as one number
abbrev pub number : ℕ → ℕ → ℕ → ℕ → ℕ
number a b c d = a + b * 256 + c * 65536 + d * 16777216

-- the same, letters without case
abbrev pub word : ℕ → ℕ → ℕ → ℕ → ℕ
word a b c d = number (caseless a) (caseless b) (caseless c) (caseless d)

-- a number mixed into `h`: a product whose high bits fall on its low ones, so that numbers are not mixed by sums alone
unfoldable pub stirred : ℕ → ℕ → ℕ
stirred h w = bit_xor ((h % 4294967296 + w) * 1540483477) ((h % 4294967296 + w) * 1540483477 / 536870912)

-- the bytes mixed into `h`, four at a time and then those left one by one
unfoldable pub mixed : ℕ → Bytes → ℕ
mixed h [] = h % 4294967296
mixed h (a ∷ []) = stirred h (caseless a) % 4294967296
mixed h (a ∷ (b ∷ [])) = stirred (stirred h (caseless a)) (caseless b) % 4294967296
mixed h (a ∷ (b ∷ (c ∷ []))) = stirred (stirred (stirred h (caseless a)) (caseless b)) (caseless c) % 4294967296
mixed h (a ∷ (b ∷ (c ∷ (d ∷ v)))) = mixed (stirred h (word a b c d)) v

-- the digest of a value: its first 64 bytes with the blanks that count in text (#102), whatever the syntax
unfoldable pub digest : ℕ → Bytes → ℕ
digest h v = mixed h (take 64 (tidied v))
