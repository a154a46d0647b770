-- A digit, and a numeral of at most 19 of them.
use Rattle.std.specs.Prelude.{ℕ, ◌-◌, cond, leb, ltb, length, None}
use Rattle.rules.specs.Sheet.{Bytes, numeral}
use Rattle.rules.specs.Sheet.{Column}

-- a digit's number; 10 for any other byte
unfoldable pub digit : ℕ → ℕ
digit b = cond (leb 48 b) (cond (leb b 57) (b - 48) 10) 10

-- a numeral of more than 19 digits is none
unfoldable pub bounded : Bytes → Column
bounded bs = cond (ltb 19 (length bs)) None (numeral bs)
