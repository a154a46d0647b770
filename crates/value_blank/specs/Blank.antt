-- Blanks in text, byte 32 (#102): stray ones, what is left without them, and a text of at most 64 bytes.
use Rattle.std.specs.Prelude.{ℕ, suc, ◌+◌, ◌-◌, Bool, false, ◌&&◌, ◌||◌, not, cond, [], ◌∷◌, ◌++◌, eqb, ltb, length, get_or, drop, set, replicate, Option, Some, None}
use Rattle.rules.specs.Sheet.{Bytes}
use Rattle.rules.specs.Value.{blank_first}
use Rattle.value_blank.specs.declared.Text.{Text}

-- two blanks together
abbrev pub pair_at : Bytes → ℕ → Bool
pair_at v i = eqb (get_or v i 0) 32 && eqb (get_or v (i + 1) 0) 32

-- a blank that another follows
abbrev pub doubled_at : Bytes → ℕ → Bool
doubled_at v i = eqb (get_or v i 0) 32 && blank_first (drop (i + 1) v)

unfoldable pub has_run : Bytes → Bool
has_run [] = false
has_run (b ∷ bs) = (eqb b 32 && blank_first bs) || has_run bs

-- not empty, no blank at either end, and no run
unfoldable pub is_tidy : Bytes → Bool
is_tidy v =
    cond (eqb (length v) 0) false
    (cond (eqb (get_or v 0 0) 32) false
    (cond (eqb (get_or v (length v - 1) 0) 32) false
    (not (has_run v))))

-- how many blanks stand at the beginning
unfoldable pub blanks : Bytes → ℕ
blanks [] = 0
blanks (b ∷ bs) = cond (eqb b 32) (suc (blanks bs)) 0

-- the first place from `i` on with another byte, or the end
abbrev pub skipped : Bytes → ℕ → ℕ
skipped v i = i + blanks (drop i v)

-- the byte of a tidied text that comes next, with the place from which to go on; none at the text's end
abbrev pub Next : Type 0
Next = Option (ℕ × ℕ)

-- what comes next of a tidied text from `i` on, where something comes before it: blanks at the end are dropped, others are one
unfoldable pub next_at : Bytes → ℕ → Next
next_at v i =
    cond (eqb (skipped v i) (length v)) None
    (cond (ltb i (skipped v i)) (Some (32, skipped v i))
    (Some (get_or v (skipped v i) 0, skipped v i + 1)))

-- ---- a text of at most 64 bytes

unfoldable pub text_of : Bytes → Text
text_of l = record { bytes = l ++ replicate (64 - length l) 0; length = length l }

-- one byte more, where there is room
unfoldable pub put : Text → ℕ → Text
put t b = cond (ltb t.length 64) (record { bytes = set t.bytes t.length b; length = t.length + 1 }) t

-- byte `i` of `v` more, unless another blank follows it there
unfoldable pub kept : Text → Bytes → ℕ → Text
kept t v i = cond (doubled_at v i) t (put t (get_or v i 0))
