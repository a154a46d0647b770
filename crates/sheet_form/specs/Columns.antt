-- Columns by kind, with the kind, the numbers and the length apart, as the code has them.
use Rattle.std.specs.Prelude.{ℕ, Bool, ◌&&◌, List, eqb}
use Rattle.rules.specs.Lists.{any}
use Rattle.rules.specs.Columns.{in_range, Form}
use Rattle.sheet_line.specs.declared.Line.{Line}

-- the columns are in the form, whatever the kind
unfoldable pub fits_form : Form → ℕ → ℕ → ℕ → ℕ → Bool
fits_form f a b c l = in_range f.a a && (in_range f.b b && (in_range f.c c && in_range f.length l))

-- a line of these numbers, with any `l` bytes, is in one of the forms
unfoldable pub in_form_of : List Form → ℕ → ℕ → ℕ → ℕ → ℕ → Bool
in_form_of forms k a b c l = any (λ f. eqb k f.kind && fits_form f a b c l) forms

-- a line that was taken is in one of the forms
abbrev pub columns_in : List Form → Line → Bool
columns_in forms x = in_form_of forms x.kind x.a x.b x.c x.length
