-- Document 01, "Sheets": the kinds of each sheet's lines, and what their columns may hold whatever stands before them.
-- "A kind or column not allowed" is a line that no form of its sheet takes; a parent's number is judged in `Directory`.
use Rattle.std.specs.Prelude.{ℕ, Bool, true, ◌&&◌, List, [], ◌∷◌, leb, eqb, length}
use Rattle.rules.specs.Lists.{any}
use Rattle.rules.specs.Sheet.{Line}

-- "columns not named for a kind, or for that case of it, are 0"
pub data Range : Type 0 where
  unnamed : Range
  exactly : ℕ → Range
  between : ℕ → ℕ → Range
  free : Range

abbrev pub in_range : Range → ℕ → Bool
in_range unnamed n = eqb n 0
in_range (exactly m) n = eqb n m
in_range (between low high) n = leb low n && leb n high
in_range free n = true

-- a kind of line, or a case of it: what A, B, C and L may be
pub record Form : Type 0 where
  pub kind : ℕ
  pub a : Range
  pub b : Range
  pub c : Range
  pub length : Range

abbrev pub form : ℕ → Range → Range → Range → Range → Form
form k a b c l = record { kind = k; a = a; b = b; c = c; length = l }

unfoldable pub takes : Form → Line → Bool
takes f x = eqb x.kind f.kind && (in_range f.a x.a && (in_range f.b x.b && (in_range f.c x.c && in_range f.length (length x.bytes))))

-- "types are 1 to 999", in general to the highest type `top`
abbrev pub type_range : ℕ → Range
type_range top = between 1 top

abbrev pub bytes : Range
bytes = between 0 64

-- "number of name parts, 0 to 8"
abbrev pub parts : Range
parts = between 0 8

-- a part of a name: in permissions and requests, and in the target of an alias
abbrev pub part_form : ℕ → Form
part_form top = form 9 (type_range top) unnamed unnamed bytes

-- #105: "in K 2, C 1 marks an alias"; "K 36 (B name parts, 1 to 8, as K 9)"
unfoldable pub directory_forms : ℕ → List Form
directory_forms top =
    form 1 (type_range top) (between 0 2) unnamed unnamed
    ∷ form 2 free (type_range top) (between 0 1) bytes
    ∷ form 3 (type_range top) unnamed unnamed bytes
    ∷ form 36 unnamed (between 1 8) unnamed unnamed
    ∷ part_form top
    ∷ []

unfoldable pub permission_forms : ℕ → List Form
permission_forms top =
    form 4 (between 0 255) (between 0 2) (between 0 1) unnamed
    ∷ form 5 (between 0 1) parts unnamed unnamed
    ∷ form 6 (exactly 0) unnamed unnamed unnamed
    ∷ form 6 (exactly 1) parts unnamed unnamed
    ∷ form 6 (exactly 2) unnamed unnamed unnamed
    ∷ form 6 (exactly 3) parts unnamed unnamed
    ∷ form 7 (between 0 2) unnamed unnamed unnamed
    ∷ form 7 (between 3 4) (type_range top) unnamed unnamed
    ∷ form 7 (exactly 5) (type_range top) unnamed bytes
    ∷ form 8 (between 1 63) unnamed unnamed unnamed
    ∷ part_form top
    ∷ []

-- #106: K 16, "A type, B 0 rising, 1 falling"
unfoldable pub request_forms : ℕ → List Form
request_forms top =
    part_form top
    ∷ form 10 (between 0 2) parts (between 0 1) unnamed
    ∷ form 11 (between 1 2) parts unnamed unnamed
    ∷ form 11 (between 3 4) parts free unnamed
    ∷ form 12 (exactly 0) unnamed (between 0 1) unnamed
    ∷ form 12 (exactly 1) (between 0 16) (between 0 1) unnamed
    ∷ form 13 (type_range top) unnamed unnamed unnamed
    ∷ form 14 (type_range top) unnamed unnamed bytes
    ∷ form 15 (between 0 2) unnamed unnamed unnamed
    ∷ form 16 (type_range top) (between 0 1) unnamed unnamed
    ∷ form 20 (between 0 127) unnamed unnamed unnamed
    ∷ form 21 (between 0 127) unnamed unnamed unnamed
    ∷ form 22 unnamed unnamed unnamed unnamed
    ∷ form 23 (type_range top) unnamed unnamed bytes
    ∷ form 24 (type_range top) unnamed unnamed bytes
    ∷ form 25 (type_range top) unnamed unnamed bytes
    ∷ form 26 (type_range top) unnamed unnamed unnamed
    ∷ form 27 (type_range top) (between 1 8) unnamed unnamed
    ∷ form 28 (between 0 2) unnamed unnamed (between 1 64)
    ∷ []

-- the line is in one of the forms
unfoldable pub in_form : List Form → Line → Bool
in_form forms x = any (λ f. takes f x) forms
