-- Document 01, "Sheets": a sheet of bytes as lines, and lines as bytes. The width of a column is a parameter, `w`: what holds of a line leaves it
-- open (#109).
use Rattle.std.specs.Prelude.{ℕ, zero, suc, ◌+◌, ◌-◌, ◌*◌, ◌/◌, ◌%◌, ◌≤◌, ◌<◌, Bool, true, false, cond, List, [], ◌∷◌, ◌++◌, leb, ltb, eqb, length, get_or, take, drop, Option, Some, None}
use Rattle.rules.specs.Lists.{gather}
use Rattle.rules.specs.declared.Format.{Format}
use Rattle.rules.specs.declared.Front.{Front}
use Rattle.rules.specs.declared.Front.TheVariants.{Taken, NotInForm, End}

abbrev pub Bytes : Type 0
Bytes = List ℕ

-- "five decimal numbers K, A, B, C, L, .. then L bytes": L is the number of the bytes
pub record Line : Type 0 where
  pub kind : ℕ
  pub a : ℕ
  pub b : ℕ
  pub c : ℕ
  pub bytes : Bytes

abbrev pub line : ℕ → ℕ → ℕ → ℕ → Bytes → Line
line k a b c bytes = record { kind = k; a = a; b = b; c = c; bytes = bytes }

-- a column that says yes or no
abbrev pub bit : Bool → ℕ
bit true = 1
bit false = 0

-- "each right-justified in six columns", "types are 1 to 999"
abbrev pub narrow : Format
narrow = record { width = 6; top = 999 }

-- #109: "nine columns a number and types up to 9,999,999"
abbrev pub wide : Format
wide = record { width = 9; top = 9999999 }

-- #109: "the caller names the form by a yes or no"
abbrev pub format_of : Bool → Format
format_of false = narrow
format_of true = wide

-- a format whose numbers fit those of the code
pub record Usable (f : Format) : Type 0 where
  -- a line has 31 bytes or more, so that a sheet has at most 2,114
  pub least : 6 ≤ f.width
  -- the number in a column is below 2 ^ 64
  pub most : f.width ≤ 18
  -- a type times 4 is below 2 ^ 64
  pub types : f.top < 4294967296

-- ---- a column read

-- the number of a column, none where it is not in form
abbrev pub Column : Type 0
Column = Option ℕ

-- "spaces on the left": what is left after them
unfoldable pub strip : Bytes → Bytes
strip [] = []
strip (b ∷ bs) = cond (eqb b 32) (strip bs) (b ∷ bs)

-- the decimal digits `bs` after the number `v`
unfoldable pub digits : ℕ → Bytes → Column
digits v [] = Some v
digits v (b ∷ bs) = cond (leb 48 b) (cond (leb b 57) (digits (v * 10 + (b - 48)) bs) None) None

-- "no leading zero, zero is one 0"
unfoldable pub numeral : Bytes → Column
numeral [] = None
numeral (b ∷ []) = digits 0 (b ∷ [])
numeral (b ∷ (c ∷ bs)) = cond (eqb b 48) None (digits 0 (b ∷ (c ∷ bs)))

-- "right-justified"
unfoldable pub column_of : Bytes → Column
column_of bs = numeral (strip bs)

-- ---- a line read

-- column i
abbrev pub column_at : ℕ → ℕ → Bytes → Bytes
column_at w i s = take w (drop (i * w) s)

-- the five numbers, "then L bytes (L 0 to 64), then byte 10"
unfoldable pub whole : ℕ → Bytes → Column → Column → Column → Column → Column → Front
whole w s None fa fb fc fl = NotInForm
whole w s (Some k) None fb fc fl = NotInForm
whole w s (Some k) (Some a) None fc fl = NotInForm
whole w s (Some k) (Some a) (Some b) None fl = NotInForm
whole w s (Some k) (Some a) (Some b) (Some c) None = NotInForm
whole w s (Some k) (Some a) (Some b) (Some c) (Some l) =
    cond (leb l 64) (cond (ltb (5 * w + l) (length s)) (cond (eqb (get_or s (5 * w + l) 0) 10) (Taken k a b c l) NotInForm) NotInForm) NotInForm

-- what stands at the front of a sheet's rest
unfoldable pub front_of : ℕ → Bytes → Front
front_of w s =
    cond (eqb (length s) 0) End
    (cond (ltb (length s) (5 * w)) NotInForm
    (whole w s (column_of (column_at w 0 s)) (column_of (column_at w 1 s)) (column_of (column_at w 2 s)) (column_of (column_at w 3 s)) (column_of (column_at w 4 s))))

-- the bytes of a line of `l` bytes at the front: "shown as a part of the lent sheet"
abbrev pub value_of : ℕ → ℕ → Bytes → Bytes
value_of w l s = take l (drop (5 * w) s)

-- how many bytes a line of `l` bytes takes: with five columns and byte 10
abbrev pub line_size : ℕ → ℕ → ℕ
line_size w l = 5 * w + 1 + l

-- "the rest of a sheet is read as a part that begins after the line just taken"
abbrev pub rest_of : ℕ → ℕ → Bytes → Bytes
rest_of w l s = drop (line_size w l) s

-- ---- the lines of a sheet

-- a sheet's lines, and how it ends: at the end of a line, or in a line not in form
pub data Sheet : Type 0 where
  end : Sheet
  broken : Sheet
  row : Line → Sheet → Sheet

-- the lines `ls`, then the sheet `t`
abbrev pub rows : List Line → Sheet → Sheet
rows [] t = t
rows (x ∷ ls) t = row x (rows ls t)

abbrev pub by_front : ℕ → Bytes → (Bytes → Sheet) → Front → Sheet
by_front w s lines (Taken k a b c l) = row (line k a b c (value_of w l s)) (lines (rest_of w l s))
by_front w s lines NotInForm = broken
by_front w s lines End = end

-- at most `f` lines
unfoldable pub lines_within : ℕ → ℕ → Bytes → Sheet
lines_within zero w s = end
lines_within (suc f) w s = by_front w s (λ rest. lines_within f w rest) (front_of w s)

-- the lines of the sheet `s`: a line takes at least one byte, so that there are at most `length s` of them
unfoldable pub lines : ℕ → Bytes → Sheet
lines w s = lines_within (length s) w s

-- ---- a line written

-- the digits of `v` in `i` columns, spaces on the left; nothing but spaces where it is 0
unfoldable pub leading : ℕ → ℕ → Bytes
leading zero v = []
leading (suc i) v = leading i (v / 10) ++ (cond (eqb v 0) 32 (48 + v % 10) ∷ [])

-- `n` right-justified in `w` columns
unfoldable pub column : ℕ → ℕ → Bytes
column zero n = []
column (suc w) n = leading w (n / 10) ++ ((48 + n % 10) ∷ [])

unfoldable pub numbers : ℕ → ℕ → ℕ → ℕ → ℕ → ℕ → Bytes
numbers w k a b c l = (((column w k ++ column w a) ++ column w b) ++ column w c) ++ column w l

unfoldable pub line_bytes : ℕ → Line → Bytes
line_bytes w x = (numbers w x.kind x.a x.b x.c (length x.bytes) ++ x.bytes) ++ (10 ∷ [])

unfoldable pub print : ℕ → List Line → Bytes
print w ls = gather (line_bytes w) ls
