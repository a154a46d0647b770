-- Laws of `Lines`: what one line, a line not in form and the sheet's end make of what was read, and what a line's columns may hold by its kind.
use Rattle.std.specs.Prelude.{ℕ, ◌≤◌, ◌≡◌, refl, Bool, true, false, ◌&&◌, ◌||◌, [], ◌∷◌}
use Rattle.std.proofs.Common.{sym, ◌∙◌, subst, arith}
use Rattle.std.proofs.Math.Bool.{or-false}
use Rattle.std.proofs.Math.Dec.{leb}
use borrow.Author.Tests.{eq-eqb, ne_eqb, leb-true}
use Rattle.rules.specs.Sheet.{Bytes}
use Rattle.rules.specs.Sheet as Rules
use Rattle.rules.specs.declared.Format.{Format}
use Rattle.rules.specs.Columns.{directory_forms, in_form}
use Rattle.rules.specs.Judge.{accept, refuse, then, fold}
use Rattle.rules.specs.Directory.{Reading, step, finish, type_line, entry_line, value_line, target_line, part_line, of_last}
use Rattle.rules.specs.Places.{lines_at, values_of}
use Rattle.rules.proofs.Laws.Tests.{and_left, and_right}
use Rattle.sheet_form.specs.Columns.{fits_form, in_form_of}
use Rattle.sheet_form.specs.Laws.Columns.{columns-in-form}
use Rattle.sheet_line.specs.declared.Line.{Line}
use Rattle.sheet_line.specs.declared.Taken.{Taken}
use Rattle.sheet_line.specs.Line.{taken_at, bytes_of, line_of}
use Rattle.sheet_line.specs.Laws.{taken-lines}
use Rattle.directory_schema.specs.Lines.{judged_from, Passes, none, one, columns_fit, Other}

pub other-line : (k : ℕ) (x : Line) → (x.kind ≡ k → ⊥) → Other k (Taken.Line x)
other-line k x h y e q = h (let same : x.kind ≡ y.kind = cc in same ∙ q)

-- ---- the judge at a position

module _ (f : Format) (s : Bytes) (i : ℕ) where
  pub judged-broken : (st : Reading) → taken_at f.width s i ≡ Taken.NotInForm → judged_from f s st i ≡ refuse 2
  unfolding fold
  judged-broken st e = rw (taken-lines f.width s i, e)

  pub judged-end : (st : Reading) → taken_at f.width s i ≡ Taken.End → judged_from f s st i ≡ finish st
  unfolding fold
  judged-end st e = rw (taken-lines f.width s i, e)

  module _ {x : Line} (e : taken_at f.width s i ≡ Taken.Line x) where
    pub formed : columns_fit f.top x ≡ in_form (directory_forms f.top) (line_of s x)
    formed = columns-in-form (directory_forms f.top) f.width s i e

    judged-row : (st : Reading) → judged_from f s st i ≡ then (step f.top st (line_of s x)) (λ next. judged_from f s next x.next)
    unfolding fold
    judged-row st = rw (taken-lines f.width s i, e)

    pub judged-refused : (st : Reading) (n : ℕ) → step f.top st (line_of s x) ≡ refuse n → judged_from f s st i ≡ refuse n
    judged-refused st n h = judged-row st ∙ rw h

    pub judged-on : (st next : Reading) → step f.top st (line_of s x) ≡ accept next → judged_from f s st i ≡ judged_from f s next x.next
    judged-on st next h = judged-row st ∙ rw h

    -- an entry's values go on at a K 3 line
    pub values-on : x.kind ≡ 3 → values_of (lines_at f.width s i) ≡ record { type = x.a; value = bytes_of s x } ∷ values_of (lines_at f.width s x.next)
    unfolding values_of
    values-on h = rw (taken-lines f.width s i, e, eq-eqb x.kind 3 h)

  -- and end where none stands
  pub values-none : (t : Taken) → t ≡ taken_at f.width s i → Other 3 t → values_of (lines_at f.width s i) ≡ []
  unfolding values_of
  values-none (Taken.Line x) e h = rw (taken-lines f.width s i, ← e, ne_eqb x.kind 3 (h x refl))
  values-none Taken.NotInForm e h = rw (taken-lines f.width s i, ← e)
  values-none Taken.End e h = rw (taken-lines f.width s i, ← e)

-- the lines that the judge takes
pub passes-judged : {f : Format} {s : Bytes} {st : Reading} {i : ℕ} {next : Reading} {j : ℕ} → Passes f s st i next j → judged_from f s st i ≡ judged_from f s next j
passes-judged none = refl
passes-judged {f = f} {s = s} (one {next = m} {more = n} {j = k} p e h) = passes-judged p ∙ judged-on f s k e m n h

-- ---- one line by its kind

module _ (top : ℕ) (st : Reading) (x : Rules.Line) where
  pub step-form : in_form (directory_forms top) x ≡ false → step top st x ≡ refuse 2
  unfolding step
  step-form h = rw h

  module _ (h : in_form (directory_forms top) x ≡ true) where
    pub step-type : x.kind ≡ 1 → step top st x ≡ type_line st x
    unfolding step
    step-type e = rw (h, eq-eqb x.kind 1 e)

    pub step-entry : x.kind ≡ 2 → step top st x ≡ entry_line st x
    unfolding step
    step-entry e = rw (h, ne_eqb x.kind 1 (λ q. omega arith), eq-eqb x.kind 2 e)

    pub step_value : x.kind ≡ 3 → step top st x ≡ value_line st st.current x
    unfolding step
    step_value e = rw (h, e)

    pub step-target : x.kind ≡ 36 → step top st x ≡ of_last (target_line st) st.current x
    unfolding step
    step-target e = rw (h, e)

    pub step_part : x.kind ≡ 9 → step top st x ≡ of_last (part_line st) st.current x
    unfolding step
    step_part e = rw (h, e)

-- ---- columns by kind

or-none : (t : Bool) → (t || false) ≡ true → t ≡ true
or-none t e = sym (or-false t) ∙ e

-- a number in a range that is allowed
between-true : (low high n : ℕ) → (leb low n && leb n high) ≡ true → (low ≤ n) × (n ≤ high)
between-true low high n e = (leb-true low n (and_left _ _ e), leb-true n high (and_right (leb low n) _ e))

module _ (top : ℕ) (x : Line) (h : columns_fit top x ≡ true) where
  abbrev At : ℕ → Bool
  At n = in_form_of (directory_forms top) n x.a x.b x.c x.length

  pub type-columns : x.kind ≡ 1 → (1 ≤ x.a) × (x.a ≤ top) × (x.b ≤ 2)
  unfolding in_form_of directory_forms fits_form
  type-columns e =
      let f = or-none _ (subst (λ (n : ℕ). At n ≡ true) e h) in
      let ra = between-true 1 top x.a (and_left _ _ f) in
      let rb = between-true 0 2 x.b (and_left _ _ (and_right (leb 1 x.a && leb x.a top) _ f)) in
      (ra.0, ra.1, rb.1)

  pub entry-columns : x.kind ≡ 2 → x.c ≤ 1
  unfolding in_form_of directory_forms fits_form
  entry-columns e =
      let f = or-none _ (subst (λ (n : ℕ). At n ≡ true) e h) in
      (between-true 0 1 x.c (and_left _ _ (and_right (leb 1 x.b && leb x.b top) _ f))).1
