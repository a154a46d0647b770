-- Laws of `Sheet`: the lines of a sheet one by one, and a line that is printed is read back.
use Prim.Native.Nat.{ℕ, zero, suc, ◌+◌, ◌-◌, ◌*◌, ◌/◌, ◌%◌, ◌^◌, ◌≤◌, ◌<◌}
use Rattle.std.specs.Prelude.{◌≡◌, Bool, cond, get_or, take, drop, Some, None}
use Rattle.std.proofs.Math.Path.{refl, ap, subst}
use Rattle.std.proofs.Common.{sym, ◌∙◌, pow-suc, length-append, length-drop, length-take-le, take_at, take_all, drop_at, drop-drop}
use Rattle.std.proofs.Math.Bool.{true, false}
use mathlib.Core.List.{List, [], ◌∷◌, ◌++◌, append_assoc, append-nil}
use native.Mathlib.Omega.{arith}
use Rattle.std.proofs.Math.Dec.{leb, ltb, eqb}
use Rattle.std.proofs.Math.ListN.{length}
use Rattle.std.proofs.lemmas.List.{get_or_at}
use borrow.Author.Tests.{eq-eqb, ne_eqb, le-leb, lt-ltb, le-ltb, ltb-true, leb-true, eqb-true, eqb-false}
use Rattle.rules.specs.Lists.{gather}
use Rattle.rules.specs.Sheet.{Bytes, Line, line, strip, digits, numeral, column_of, column_at, whole, front_of, value_of, line_size, rest_of, Sheet, end, broken, row, by_front, lines_within, lines, leading, column, numbers, line_bytes, print, rows}
use Rattle.rules.specs.Derived.{Each}
use Rattle.rules.specs.Sheet.{Column}
use Rattle.rules.specs.declared.Front.{Front}
use Rattle.rules.specs.declared.Front.TheVariants.{Taken, NotInForm, End}

-- ---- what stands at the front

pub no_bytes : (v : Bytes) → length v ≡ 0 → v ≡ []
no_bytes [] e = refl
no_bytes (b ∷ bs) e = absurd (omega arith)

-- a line taken: its columns, that it fits the sheet, and its end
pub record LineAt (w : ℕ) (s : Bytes) (k a b c l : ℕ) : Type 0 where
  pub col₀ : column_of (column_at w 0 s) ≡ Some k
  pub col₁ : column_of (column_at w 1 s) ≡ Some a
  pub col₂ : column_of (column_at w 2 s) ≡ Some b
  pub col₃ : column_of (column_at w 3 s) ≡ Some c
  pub col₄ : column_of (column_at w 4 s) ≡ Some l
  pub short : l ≤ 64
  pub fits : 5 * w + l < length s
  pub stop : get_or s (5 * w + l) 0 ≡ 10

abbrev pub Tells : ℕ → Bytes → Front → Type 0
Tells w s (Taken k a b c l) = LineAt w s k a b c l
Tells w s NotInForm = Unit {0}
Tells w s End = s ≡ []

module _ (w : ℕ) (s : Bytes) where
  whole_tells : (f₀ f₁ f₂ f₃ f₄ : Column) → column_of (column_at w 0 s) ≡ f₀ → column_of (column_at w 1 s) ≡ f₁ → column_of (column_at w 2 s) ≡ f₂
      → column_of (column_at w 3 s) ≡ f₃ → column_of (column_at w 4 s) ≡ f₄ → Tells w s (whole w s f₀ f₁ f₂ f₃ f₄)
  unfolding whole
  whole_tells None f₁ f₂ f₃ f₄ e₀ e₁ e₂ e₃ e₄ = tt
  whole_tells (Some k) None f₂ f₃ f₄ e₀ e₁ e₂ e₃ e₄ = tt
  whole_tells (Some k) (Some a) None f₃ f₄ e₀ e₁ e₂ e₃ e₄ = tt
  whole_tells (Some k) (Some a) (Some b) None f₄ e₀ e₁ e₂ e₃ e₄ = tt
  whole_tells (Some k) (Some a) (Some b) (Some c) None e₀ e₁ e₂ e₃ e₄ = tt
  whole_tells (Some k) (Some a) (Some b) (Some c) (Some l) e₀ e₁ e₂ e₃ e₄ = go (leb l 64) (ltb (5 * w + l) (length s)) (eqb (get_or s (5 * w + l) 0) 10) refl refl refl
    where
      go : (t₁ t₂ t₃ : Bool) → leb l 64 ≡ t₁ → ltb (5 * w + l) (length s) ≡ t₂ → eqb (get_or s (5 * w + l) 0) 10 ≡ t₃
          → Tells w s (cond t₁ (cond t₂ (cond t₃ (Taken k a b c l) NotInForm) NotInForm) NotInForm)
      go true true true p q r = record { col₀ = e₀; col₁ = e₁; col₂ = e₂; col₃ = e₃; col₄ = e₄; short = leb-true l 64 p; fits = ltb-true (5 * w + l) (length s) q; stop = eqb-true (get_or s (5 * w + l) 0) 10 r }
      go true true false p q r = tt
      go true false t₃ p q r = tt
      go false t₂ t₃ p q r = tt

  pub front-tells : (x : Front) → front_of w s ≡ x → Tells w s x
  unfolding front_of
  front-tells x e = subst (Tells w s) e (go (eqb (length s) 0) (ltb (length s) (5 * w)) refl)
    where
      go : (t₁ t₂ : Bool) → eqb (length s) 0 ≡ t₁
          → Tells w s (cond t₁ End (cond t₂ NotInForm (whole w s (column_of (column_at w 0 s)) (column_of (column_at w 1 s)) (column_of (column_at w 2 s)) (column_of (column_at w 3 s)) (column_of (column_at w 4 s)))))
      go true t₂ p = no_bytes s (eqb-true (length s) 0 p)
      go false true p = tt
      go false false p = whole_tells _ _ _ _ _ refl refl refl refl refl

  pub front_fits : {k a b c l : ℕ} → front_of w s ≡ Taken k a b c l → (l ≤ 64) × (5 * w + l < length s)
  front_fits {k} {a} {b} {c} {l} e = let f = front-tells (Taken k a b c l) e in (f.short, f.fits)

pub front-end : (w : ℕ) (s : Bytes) → length s ≡ 0 → front_of w s ≡ End
unfolding front_of
front-end w s e = rw (eq-eqb (length s) 0 e)

pub front-short : (w : ℕ) (s : Bytes) → (length s ≡ 0 → ⊥) → length s < 5 * w → front_of w s ≡ NotInForm
unfolding front_of
front-short w s e h = rw (ne_eqb (length s) 0 e, lt-ltb (length s) (5 * w) h)

pub front-whole : (w : ℕ) (s : Bytes) → (length s ≡ 0 → ⊥) → 5 * w ≤ length s
    → front_of w s ≡ whole w s (column_of (column_at w 0 s)) (column_of (column_at w 1 s)) (column_of (column_at w 2 s)) (column_of (column_at w 3 s)) (column_of (column_at w 4 s))
unfolding front_of
front-whole w s e h = rw (ne_eqb (length s) 0 e, le-ltb (length s) (5 * w) h)

-- ---- the lines one by one

by-same : (w : ℕ) (s : Bytes) (p q : Bytes → Sheet) (x : Front) → ((l : ℕ) → p (rest_of w l s) ≡ q (rest_of w l s)) → by_front w s p x ≡ by_front w s q x
by-same w s p q (Taken k a b c l) h = ap (row (line k a b c (value_of w l s))) (h l)
by-same w s p q NotInForm h = refl
by-same w s p q End h = refl

within-empty : (f w : ℕ) (s : Bytes) → length s ≡ 0 → lines_within f w s ≡ end
unfolding lines_within
within-empty zero w s e = refl
within-empty (suc f) w s e = rw (front-end w s e)

rest-shorter : (w l : ℕ) (s : Bytes) (f : ℕ) → length s ≤ suc f → length (rest_of w l s) ≤ f
rest-shorter w l s f h = simp length-drop (omega arith)

-- more lines allowed than bytes there are changes nothing
enough : (f g w : ℕ) (s : Bytes) → length s ≤ f → length s ≤ g → lines_within f w s ≡ lines_within g w s
unfolding lines_within
enough zero g w s p q = sym (within-empty g w s (omega arith))
enough (suc f) zero w s p q = within-empty (suc f) w s (omega arith)
enough (suc f) (suc g) w s p q =
    by-same w s (λ r. lines_within f w r) (λ r. lines_within g w r) (front_of w s) (λ l. enough f g w (rest_of w l s) (rest-shorter w l s f p) (rest-shorter w l s g q))

pub lines_step : (w : ℕ) (s : Bytes) → lines w s ≡ by_front w s (lines w) (front_of w s)
unfolding lines lines_within
lines_step w s =
    enough (length s) (suc (length s)) w s (omega arith) (omega arith)
    ∙ by-same w s (λ r. lines_within (length s) w r) (lines w) (front_of w s) (λ l. enough (length s) (length (rest_of w l s)) w (rest_of w l s) (rest-shorter w l s (length s) (omega arith)) (omega arith))

-- at a position: what one step of a loop over the lines needs
module _ (w : ℕ) (s : Bytes) (i : ℕ) where
  pub lines-taken : {k a b c l : ℕ} → front_of w (drop i s) ≡ Taken k a b c l
      → lines w (drop i s) ≡ row (line k a b c (value_of w l (drop i s))) (lines w (drop (i + line_size w l) s))
  lines-taken {l = l} e = lines_step w (drop i s) ∙ rw (e, drop-drop (line_size w l) i s)

  pub lines-broken : front_of w (drop i s) ≡ NotInForm → lines w (drop i s) ≡ broken
  lines-broken e = lines_step w (drop i s) ∙ rw e

  pub lines_end : front_of w (drop i s) ≡ End → lines w (drop i s) ≡ end
  lines_end e = lines_step w (drop i s) ∙ rw e

  pub front-past : length s ≤ i → front_of w (drop i s) ≡ End
  front-past h = front-end w (drop i s) (simp length-drop (omega arith))

  pub taken-fits : {k a b c l : ℕ} → front_of w (drop i s) ≡ Taken k a b c l → (l ≤ 64) × (i + line_size w l ≤ length s)
  taken-fits e = let h = front_fits w (drop i s) e in omega (arith, h.0, simp length-drop at h.1)

  pub taken-length : {k a b c l : ℕ} → front_of w (drop i s) ≡ Taken k a b c l → length (value_of w l (drop i s)) ≡ l
  taken-length {l = l} e = let h = front_fits w (drop i s) e in length-take-le l (drop (5 * w) (drop i s)) (rw length-drop (omega (arith, h.1)))

-- ---- lengths

pub leading_length : (i v : ℕ) → length (leading i v) ≡ i
unfolding leading
leading_length zero v = refl
leading_length (suc i) v = length-append (leading i (v / 10)) _ ∙ rw (leading_length i (v / 10)) (omega arith)

pub column-length : (w n : ℕ) → length (column w n) ≡ w
unfolding column
column-length zero n = refl
column-length (suc w) n = length-append (leading w (n / 10)) _ ∙ rw (leading_length w (n / 10)) (omega arith)

pub numbers-length : (w k a b c l : ℕ) → length (numbers w k a b c l) ≡ 5 * w
unfolding numbers
numbers-length w k a b c l = simp (length-append, column-length) (omega arith)

-- ---- a column written is read back

-- nothing left to write: spaces, which are stripped
leading-none : (i : ℕ) (r : Bytes) → strip (leading i 0 ++ r) ≡ strip r
unfolding leading
leading-none zero r = refl
leading-none (suc i) r = rw (append_assoc (leading i 0) (32 ∷ []) r) (leading-none i (32 ∷ r) ∙ (unfold strip in refl))

-- the digit `d` after the number `v`
digits-digit : (v d : ℕ) (r : Bytes) → d ≤ 9 → digits v ((48 + d) ∷ r) ≡ digits (v * 10 + d) r
unfolding digits
digits-digit v d r h =
    let e : 48 + d - 48 ≡ d = omega arith in
    rw (le-leb 48 (48 + d) (omega arith), le-leb (48 + d) 57 (omega arith), e)

strip-digit : (d : ℕ) (r : Bytes) → strip ((48 + d) ∷ r) ≡ (48 + d) ∷ r
unfolding strip
strip-digit d r = rw (ne_eqb (48 + d) 32 (λ e. omega arith))

numeral-digit : (d : ℕ) (r : Bytes) → (d ≡ 0 → ⊥) → numeral ((48 + d) ∷ r) ≡ digits 0 ((48 + d) ∷ r)
unfolding numeral
numeral-digit d [] h = refl
numeral-digit d (b ∷ bs) h = rw (ne_eqb (48 + d) 48 (λ e. h (omega arith)))

-- something left to write: its digits are read before what follows
module _ (i v : ℕ) (r : Bytes) (nz : v ≡ 0 → ⊥) where
  leading-open : leading (suc i) v ++ r ≡ leading i (v / 10) ++ ((48 + v % 10) ∷ r)
  unfolding leading
  leading-open = rw (ne_eqb v 0 nz) (append_assoc (leading i (v / 10)) ((48 + v % 10) ∷ []) r)

  leading-last : v / 10 ≡ 0 → column_of (leading i (v / 10) ++ ((48 + v % 10) ∷ r)) ≡ digits v r
  unfolding column_of
  leading-last z =
      let m : 0 * 10 + v % 10 ≡ v = omega arith in
      rw (z, leading-none i ((48 + v % 10) ∷ r), strip-digit (v % 10) r, numeral-digit (v % 10) r (λ q. nz (omega arith)), digits-digit 0 (v % 10) r (omega arith), m)

  -- by the test of `v / 10`, with what is had of it where it is not 0
  leading-by : (t : Bool) → eqb (v / 10) 0 ≡ t
      → ((v / 10 ≡ 0 → ⊥) → column_of (leading i (v / 10) ++ ((48 + v % 10) ∷ r)) ≡ digits (v / 10) ((48 + v % 10) ∷ r))
      → column_of (leading (suc i) v ++ r) ≡ digits v r
  leading-by true e ih = ap column_of leading-open ∙ leading-last (eqb-true (v / 10) 0 e)
  leading-by false e ih =
      let m : v / 10 * 10 + v % 10 ≡ v = omega arith in
      ap column_of leading-open ∙ ih (eqb-false (v / 10) 0 e) ∙ digits-digit (v / 10) (v % 10) r (omega arith) ∙ rw m

leading-some : (i v : ℕ) (r : Bytes) → (v ≡ 0 → ⊥) → v < 10 ^ i → column_of (leading i v ++ r) ≡ digits v r
leading-some zero v r nz h = absurd (nz (omega arith))
leading-some (suc i) v r nz h = leading-by i v r nz (eqb (v / 10) 0) refl (λ q. leading-some i (v / 10) ((48 + v % 10) ∷ r) q (omega (arith, pow-suc 10 i)))

column-by : (w n : ℕ) → n < 10 ^ suc w → (t : Bool) → eqb (n / 10) 0 ≡ t → column_of (column (suc w) n) ≡ Some n
unfolding column column_of numeral digits
column-by w n h true e =
    let z : n / 10 ≡ 0 = eqb-true (n / 10) 0 e in
    let m : 0 * 10 + n % 10 ≡ n = omega arith in
    rw (z, leading-none w ((48 + n % 10) ∷ []), strip-digit (n % 10) []) (digits-digit 0 (n % 10) [] (omega arith) ∙ rw m)
column-by w n h false e =
    let m : n / 10 * 10 + n % 10 ≡ n = omega arith in
    leading-some w (n / 10) ((48 + n % 10) ∷ []) (eqb-false (n / 10) 0 e) (omega (arith, pow-suc 10 w)) ∙ digits-digit (n / 10) (n % 10) [] (omega arith) ∙ rw m

pub column-read : (w n : ℕ) → n < 10 ^ suc w → column_of (column (suc w) n) ≡ Some n
column-read w n h = column-by w n h (eqb (n / 10) 0) refl

-- ---- a line written is read back

-- numbers of at most `w` digits, and at most 64 bytes
pub record FitsColumns (w : ℕ) (x : Line) : Type 0 where
  pub kind : x.kind < 10 ^ w
  pub a : x.a < 10 ^ w
  pub b : x.b < 10 ^ w
  pub c : x.c < 10 ^ w
  pub count : length x.bytes < 10 ^ w
  pub bytes : length x.bytes ≤ 64

-- five parts of `w` bytes each are the columns
module _ (w : ℕ) (x₀ x₁ x₂ x₃ x₄ r : Bytes) (e₀ : length x₀ ≡ w) (e₁ : length x₁ ≡ w) (e₂ : length x₂ ≡ w) (e₃ : length x₃ ≡ w) (e₄ : length x₄ ≡ w) where
  columns-split : let s = ((((x₀ ++ x₁) ++ x₂) ++ x₃) ++ x₄) ++ r in
      (column_at w 0 s ≡ x₀) × (column_at w 1 s ≡ x₁) × (column_at w 2 s ≡ x₂) × (column_at w 3 s ≡ x₃) × (column_at w 4 s ≡ x₄)
  columns-split = (
    part [] x₀ (x₁ ++ (x₂ ++ (x₃ ++ (x₄ ++ r)))) (0 * w) (omega arith) e₀ (simp append_assoc),
    part x₀ x₁ (x₂ ++ (x₃ ++ (x₄ ++ r))) (1 * w) (omega arith) e₁ (simp append_assoc),
    part (x₀ ++ x₁) x₂ (x₃ ++ (x₄ ++ r)) (2 * w) (simp length-append (omega arith)) e₂ (simp append_assoc),
    part ((x₀ ++ x₁) ++ x₂) x₃ (x₄ ++ r) (3 * w) (simp length-append (omega arith)) e₃ (simp append_assoc),
    part (((x₀ ++ x₁) ++ x₂) ++ x₃) x₄ r (4 * w) (simp length-append (omega arith)) e₄ (simp append_assoc),
  )
    where
      part : (p x q : Bytes) (n : ℕ) → length p ≡ n → length x ≡ w → {s : Bytes} → s ≡ p ++ (x ++ q) → take w (drop n s) ≡ x
      part p x q n e f g = rw (g, drop_at p (x ++ q) n e) (take_at x q w f)

module _ (w : ℕ) (x : Line) where
  abbrev numbers_of : Bytes
  numbers_of = numbers w x.kind x.a x.b x.c (length x.bytes)

  pub line-length : length (line_bytes w x) ≡ line_size w (length x.bytes)
  unfolding line_bytes
  line-length = simp (length-append, numbers-length) (omega arith)

  module _ (rest : Bytes) where
    abbrev parts : Bytes
    parts = numbers_of ++ (x.bytes ++ (10 ∷ rest))

    printed-parts : line_bytes w x ++ rest ≡ parts
    unfolding line_bytes
    printed-parts = append_assoc (numbers_of ++ x.bytes) (10 ∷ []) rest ∙ append_assoc numbers_of x.bytes (10 ∷ rest)

    parts-length : length parts ≡ 5 * w + (length x.bytes + suc (length rest))
    parts-length = simp (length-append, numbers-length)

    parts-end : get_or parts (5 * w + length x.bytes) 0 ≡ 10
    parts-end =
        rw (← append_assoc numbers_of x.bytes (10 ∷ rest))
        (get_or_at (numbers_of ++ x.bytes) 10 rest 0 (5 * w + length x.bytes) (simp (length-append, numbers-length)))

    pub printed-value : value_of w (length x.bytes) (line_bytes w x ++ rest) ≡ x.bytes
    printed-value =
        rw (printed-parts, drop_at numbers_of (x.bytes ++ (10 ∷ rest)) (5 * w) (simp numbers-length))
        (take_at x.bytes (10 ∷ rest) (length x.bytes) refl)

    pub printed-rest : rest_of w (length x.bytes) (line_bytes w x ++ rest) ≡ rest
    printed-rest = drop_at (line_bytes w x) rest (line_size w (length x.bytes)) line-length

module _ (w : ℕ) (x : Line) (rest : Bytes) (f : FitsColumns (suc w) x) where
  pub printed-front : front_of (suc w) (line_bytes (suc w) x ++ rest) ≡ Taken x.kind x.a x.b x.c (length x.bytes)
  unfolding numbers whole
  printed-front =
      let v = suc w in
      let l = length x.bytes in
      let s = parts v x rest in
      let n : length s ≡ 5 * v + (l + suc (length rest)) = parts-length v x rest in
      let p = columns-split v (column v x.kind) (column v x.a) (column v x.b) (column v x.c) (column v l) (x.bytes ++ (10 ∷ rest))
      (column-length v _) (column-length v _) (column-length v _) (column-length v _) (column-length v _) in
      ap (front_of v) (printed-parts v x rest)
      ∙ front-whole v s (λ z. omega arith) (omega arith)
      ∙ rw (p.0, p.1, p.2, p.3, p.4, column-read w x.kind f.kind, column-read w x.a f.a, column-read w x.b f.b, column-read w x.c f.c, column-read w l f.count, le-leb l 64 f.bytes, lt-ltb (5 * v + l) (length s) (omega arith), eq-eqb (get_or s (5 * v + l) 0) 10 (parts-end v x rest))

-- ---- a sheet written is read back

-- all lines fit
abbrev pub AllFit : ℕ → List Line → Type 0
AllFit w ls = Each (FitsColumns w) ls

-- whatever follows
pub printed-then : (w : ℕ) (ls : List Line) (rest : Bytes) → AllFit (suc w) ls → lines (suc w) (print (suc w) ls ++ rest) ≡ rows ls (lines (suc w) rest)
unfolding print
printed-then w [] rest f = refl
printed-then w (x ∷ ls) rest f =
    let more = gather (line_bytes (suc w)) ls ++ rest in
    ap (lines (suc w)) (append_assoc (line_bytes (suc w) x) (gather (line_bytes (suc w)) ls) rest)
    ∙ lines_step (suc w) (line_bytes (suc w) x ++ more)
    ∙ rw (printed-front w x more f.0, printed-value (suc w) x more, printed-rest (suc w) x more) (ap (row x) (printed-then w ls rest f.1))

pub printed : (w : ℕ) (ls : List Line) → AllFit (suc w) ls → lines (suc w) (print (suc w) ls) ≡ rows ls end
printed w ls f =
    ap (lines (suc w)) (sym (append-nil (print (suc w) ls)))
    ∙ printed-then w ls [] f
    ∙ ap (rows ls) (lines_step (suc w) [] ∙ rw (front-end (suc w) [] refl))

-- ---- each line of a sheet

abbrev pub AllRows : (Line → Type 0) → Sheet → Type 0
AllRows P end = Unit {0}
AllRows P broken = Unit {0}
AllRows P (row x rest) = P x × AllRows P rest

pub rows-each : (P : Line → Type 0) (ls : List Line) → AllRows P (rows ls end) → Each P ls
rows-each P [] k = tt
rows-each P (x ∷ ls) k = (k.0, rows-each P ls k.1)

pub each_rows : (P : Line → Type 0) (ls : List Line) → Each P ls → AllRows P (rows ls end)
each_rows P [] k = tt
each_rows P (x ∷ ls) k = (k.0, each_rows P ls k.1)

-- ---- a part of a sheet

-- up to its end, or of `n` bytes
pub part-rest : (s : Bytes) (i : ℕ) → take (length s - i) (drop i s) ≡ drop i s
part-rest s i = take_all (length s - i) (drop i s) (simp length-drop (omega arith))

pub part_of : (s : Bytes) (i n : ℕ) → take (i + n - i) (drop i s) ≡ take n (drop i s)
part_of s i n = let e : i + n - i ≡ n = omega arith in rw e
