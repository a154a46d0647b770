-- What a buffer holds after lines are written one by one, each only where it fits. The place moves on by each line's length in
-- either case, so that a run over an empty buffer tells the length of an answer before a byte of it is written.
use Rattle.std.specs.Prelude.{ℕ, ◌+◌, ◌≡◌, cond, List, [], ◌∷◌, ltb, length}
use Rattle.rules.specs.Sheet.{Bytes, Line, line_bytes, print}
use Rattle.rules.specs.Derived.{put_at}

-- `s` in `d` from `at` on where it fits, else `d` unchanged
unfoldable pub emit_at : Bytes → ℕ → Bytes → Bytes
emit_at d at s = cond (ltb (length d) (at + length s)) d (put_at d at s)

-- the lines one after another
unfoldable pub emit_lines : ℕ → Bytes → ℕ → List Line → Bytes
emit_lines w d at [] = d
emit_lines w d at (x ∷ ls) = emit_lines w (emit_at d at (line_bytes w x)) (at + length (line_bytes w x)) ls

-- from `d` and the place `at`, the lines `ls` leave `d'` and lead to the place `r`
pub record Emits (w : ℕ) (d : Bytes) (at : ℕ) (ls : List Line) (d' : Bytes) (r : ℕ) : Type 0 where
  pub bytes : d' ≡ emit_lines w d at ls
  pub next : r ≡ at + length (print w ls)
