-- The order of texts, a byte at a time.
use Rattle.std.specs.Prelude.{ℕ, Bool, true, false, cond, map, ltb, drop, Some, None}
use Rattle.rules.specs.Sheet.{Bytes}
use Rattle.rules.specs.Value.{small}
use Rattle.rules.specs.Derived.{words}
use Rattle.std.specs.declared.cmp.Ordering.{Ordering}
use Rattle.std.specs.declared.cmp.Ordering.TheVariants.{Less, Equal, Greater}
use Rattle.value_blank.specs.Blank.{Next}

-- two bytes that differ
abbrev pub apart : ℕ → ℕ → Ordering
apart a b = cond (ltb a b) Less Greater

-- a text that has ended, and one with this next
abbrev pub ended : Next → Ordering
ended (Some (b, k)) = Less
ended None = Equal

-- what is left of a text from `i` on, where something comes before it
abbrev pub left : Bytes → ℕ → Bytes
left v i = map small (words true false (drop i v))

abbrev pub is_equal : Ordering → Bool
is_equal Less = false
is_equal Equal = true
is_equal Greater = false
