-- #109, nine columns: a directory sheet moved to the other form. Refusals 1 to 6, 35 and 36.
use Rattle.std.specs.Prelude.{ℕ, Bool, ◌||◌, ltb, length}
use Rattle.rules.specs.Lists.{any}
use Rattle.rules.specs.Sheet.{Bytes, narrow, wide, print}
use Rattle.rules.specs.declared.Format.{Format}
use Rattle.rules.specs.Judge.{Verdict, accept, refuse_if, then}
use Rattle.rules.specs.Name.{Schema}
use Rattle.rules.specs.Directory.{directory_of, directory_lines}

-- "a type above 999 on the way back"; every type on the sheet is one of the schema
unfoldable pub beyond : ℕ → Schema → Bool
beyond top S = any (λ k. ltb top k.number) S

-- "the moved sheet does not fit the lent buffer or exceeds 65,536 bytes"
unfoldable pub spills : ℕ → Bytes → Bool
spills room s = ltb room (length s) || ltb 65536 (length s)

-- the sheet `s` of the form `from` in the form `to`, "35 .. after 6; 36 .. after 35"
unfoldable pub moved : Format → Format → Bytes → ℕ → Verdict Bytes
moved from to s room =
    then (directory_of from s) λ d.
    let t = print to.width (directory_lines d) in
    refuse_if (beyond to.top d.schema) 35 (refuse_if (spills room t) 36 (accept t))

-- "an old sheet can be moved to the new form"
abbrev pub widened : Bytes → ℕ → Verdict Bytes
widened = moved narrow wide

-- "and a new one back"
abbrev pub narrowed : Bytes → ℕ → Verdict Bytes
narrowed = moved wide narrow
