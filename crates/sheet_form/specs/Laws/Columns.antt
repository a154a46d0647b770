-- Laws of `Columns`: what they say of a line, and a form by the lowest and highest numbers of its columns.
use Rattle.std.specs.Prelude.{ℕ, ◌≤◌, ◌≡◌, refl, Bool, true, false, ◌&&◌, ◌||◌, List, leb, eqb, length}
use Rattle.std.proofs.Common.{sym, ◌∙◌, arith, le-leb, eq-eqb, ne_eqb, leb-true, leb-false}
use Rattle.std.proofs.Math.Bool.{or-false}
use Rattle.rules.specs.Sheet.{Bytes, line}
use Rattle.rules.specs.Columns.{Range, unnamed, exactly, between, free, in_range, Form, form, takes, in_form}
use Rattle.sheet_line.specs.declared.Line.{Line}
use Rattle.sheet_line.specs.declared.Taken.TheVariants as Taken
use Rattle.sheet_line.specs.Line.{taken_at, bytes_of, line_of}
use Rattle.sheet_line.specs.Laws.{taken-fits-line, bytes-length}
use Rattle.sheet_form.specs.Columns.{fits_form, in_form_of, columns_in}

pub in-form : (forms : List Form) (k a b c : ℕ) (bytes : Bytes) {l : ℕ} → length bytes ≡ l → in_form_of forms k a b c l ≡ in_form forms (line k a b c bytes)
unfolding in_form in_form_of takes fits_form
in-form forms k a b c bytes e = rw (← e)

-- a line that was taken from a sheet
pub columns-in-form : (forms : List Form) (w : ℕ) (s : Bytes) (i : ℕ) {x : Line} → taken_at w s i ≡ Taken.Line x → columns_in forms x ≡ in_form forms (line_of s x)
columns-in-form forms w s i {x} e = in-form forms x.kind x.a x.b x.c (bytes_of s x) (bytes-length w s i (taken-fits-line w s i e))

-- ---- a range by its lowest and highest number

abbrev pub bounded : Range → Range
bounded unnamed = between 0 0
bounded (exactly m) = between m m
bounded (between low high) = between low high
bounded free = between 0 18446744073709551615

abbrev pub bounded_form : Form → Form
bounded_form f = form 0 (bounded f.a) (bounded f.b) (bounded f.c) (bounded f.length)

exactly-by : (n m : ℕ) (t u : Bool) → leb m n ≡ t → leb n m ≡ u → t && u ≡ eqb n m
exactly-by n m true true p q = sym (eq-eqb n m (omega (arith, leb-true m n p, leb-true n m q)))
exactly-by n m true false p q = sym (ne_eqb n m (λ e. omega (arith, leb-false n m q)))
exactly-by n m false u p q = sym (ne_eqb n m (λ e. omega (arith, leb-false m n p)))

in-bounded : (r : Range) (n : ℕ) → n ≤ 18446744073709551615 → in_range (bounded r) n ≡ in_range r n
in-bounded unnamed n h = exactly-by n 0 (leb 0 n) (leb n 0) refl refl
in-bounded (exactly m) n h = exactly-by n m (leb m n) (leb n m) refl refl
in-bounded (between low high) n h = refl
in-bounded free n h = rw (le-leb 0 n (omega arith), le-leb n 18446744073709551615 h)

module _ (a b c l : ℕ) (ha : a ≤ 18446744073709551615) (hb : b ≤ 18446744073709551615) (hc : c ≤ 18446744073709551615) (hl : l ≤ 18446744073709551615) where
  fits-bounded : (f : Form) → fits_form (bounded_form f) a b c l ≡ fits_form f a b c l
  unfolding fits_form
  fits-bounded f = rw (in-bounded f.a a ha, in-bounded f.b b hb, in-bounded f.c c hc, in-bounded f.length l hl)

  -- the forms of one kind, by their bounds
  pub one_form : (f : Form) → fits_form (bounded_form f) a b c l ≡ fits_form f a b c l || false
  one_form f = fits-bounded f ∙ sym (or-false (fits_form f a b c l))

  pub two-forms : (f g : Form) → fits_form (bounded_form f) a b c l || fits_form (bounded_form g) a b c l ≡ fits_form f a b c l || (fits_form g a b c l || false)
  two-forms f g = rw (fits-bounded f, one_form g)

  pub three-forms : (f g h : Form) → fits_form (bounded_form f) a b c l || (fits_form (bounded_form g) a b c l || fits_form (bounded_form h) a b c l)
      ≡ fits_form f a b c l || (fits_form g a b c l || (fits_form h a b c l || false))
  three-forms f g h = rw (fits-bounded f, two-forms g h)

  pub four-forms : (f g h i : Form) → fits_form (bounded_form f) a b c l || (fits_form (bounded_form g) a b c l || (fits_form (bounded_form h) a b c l || fits_form (bounded_form i) a b c l))
      ≡ fits_form f a b c l || (fits_form g a b c l || (fits_form h a b c l || (fits_form i a b c l || false)))
  four-forms f g h i = rw (fits-bounded f, three-forms g h i)
