-- A sheet rewritten line by line: what is left from a line on, and how many bytes that is.
use Rattle.std.specs.Prelude.{ℕ, ◌+◌, ◌*◌, ◌≤◌, ◌≡◌, [], ◌++◌, length}
use Rattle.std.proofs.Math.Path.{ap}
use Rattle.std.proofs.Common.{◌∙◌, arith, length-append}
use Rattle.rules.specs.Sheet.{Bytes, Sheet, line_size, line_bytes, print}
use Rattle.rules.proofs.Laws.Sheet.{line-length}
use Rattle.sheet_line.specs.declared.Line.{Line}
use Rattle.sheet_line.specs.declared.Taken.{Taken}
use Rattle.sheet_line.specs.Line.{taken_at, line_of}
use Rattle.sheet_line.specs.Laws.{lines_by, taken-lines, taken-fits-line, bytes-length}
use Rattle.directory_move.specs.Rewritten.{lines_of, rewritten_from}

module _ (w v : ℕ) (s : Bytes) (at : ℕ) where
  by-taken : {t : Taken} → taken_at w s at ≡ t → rewritten_from w v s at ≡ print v (lines_of (lines_by w s t))
  unfolding rewritten_from
  by-taken e = ap (λ (t : Sheet). print v (lines_of t)) (taken-lines w s at) ∙ ap (λ (t : Taken). print v (lines_of (lines_by w s t))) e

  -- a line, then what is left after it
  pub rewritten-on : {x : Line} → taken_at w s at ≡ Taken.Line x → rewritten_from w v s at ≡ line_bytes v (line_of s x) ++ rewritten_from w v s x.next
  unfolding rewritten_from print
  rewritten-on e = by-taken e

  -- no line
  pub rewritten-broken : taken_at w s at ≡ Taken.NotInForm → rewritten_from w v s at ≡ []
  unfolding print
  rewritten-broken e = by-taken e

  pub rewritten-end : taken_at w s at ≡ Taken.End → rewritten_from w v s at ≡ []
  unfolding print
  rewritten-end e = by-taken e

  -- the length of both
  pub rewritten-length : {x : Line} → taken_at w s at ≡ Taken.Line x → length (rewritten_from w v s at) ≡ line_size v x.length + length (rewritten_from w v s x.next)
  rewritten-length {x} e =
      ap length (rewritten-on e)
      ∙ length-append (line_bytes v (line_of s x)) (rewritten_from w v s x.next)
      ∙ rw (line-length v (line_of s x), bytes-length w s at (taken-fits-line w s at e))

-- ---- measured line by line

-- `n` bytes are those of the lines before `at`
pub record Measured (w v : ℕ) (s : Bytes) (n at : ℕ) : Type 0 where
  pub so_far : n + length (rewritten_from w v s at) ≡ length (rewritten_from w v s 0)
  -- no line takes more than one of 64 bytes in columns of 18
  pub few : n ≤ line_size 18 64 * at
  pub within : at ≤ length s

pub measured-start : (w v : ℕ) (s : Bytes) → Measured w v s 0 0
measured-start w v s = record { so_far = omega arith; few = omega arith; within = omega arith }

module _ {w v : ℕ} {s : Bytes} {n at : ℕ} (m : Measured w v s n at) where
  pub measured-on : v ≤ 18 → {x : Line} → taken_at w s at ≡ Taken.Line x → {k : ℕ} → k ≡ line_size v x.length → Measured w v s (n + k) x.next
  measured-on h {x} e g =
      let f = taken-fits-line w s at e in
      record {
        so_far = omega (arith, g, m.so_far, rewritten-length w v s at e);
        few = omega (arith, g, h, m.few, f.place, f.next, f.short);
        within = f.within;
      }

  pub measured-done : rewritten_from w v s at ≡ [] → n ≡ length (rewritten_from w v s 0)
  measured-done e = let z : length (rewritten_from w v s at) ≡ 0 = rw e in omega (arith, m.so_far, z)
