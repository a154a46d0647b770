-- The folded form of a value, a byte at a time, and four bytes at a time.
use Rattle.std.specs.Prelude.{ℕ, ◌+◌, Bool, ◌&&◌, cond, eqb}
use Rattle.rules.specs.Value.{text, small}

-- a byte as the syntax compares it
unfoldable pub fold : ℕ → ℕ → ℕ
fold s b = cond (eqb s text) (small b) b

-- a test of four bytes that stand one after the other
abbrev pub four : (ℕ → Bool) → ℕ → Bool
four p i = (p i && p (i + 1)) && (p (i + 2) && p (i + 3))
