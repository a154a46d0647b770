-- A sheet that was read is written back byte for byte: a number has one form in its column, and a line one form in its sheet.
use Rattle.std.specs.Prelude.{ℕ, zero, suc, ◌+◌, ◌-◌, ◌*◌, ◌^◌, ◌≤◌, ◌<◌, ◌≡◌, refl, Bool, true, false, cond, eqb, length, drop, Some}
use native.Mathlib.Omega.{arith}
use Rattle.std.proofs.Common.{pow-suc, mul_assoc, mul_comm, mul-le-mul_right, sym, ◌∙◌, subst, length-drop, length-take-le, drop-cons, drop-drop, take-add, eqb-true}
use Rattle.std.proofs.Math.Nat.{pow-le-pow_right}
use Rattle.std.proofs.Math.Path.{ap, ap₂}
use mathlib.Core.List.{List, [], ◌∷◌, ◌++◌, append_assoc}
use Rattle.std.proofs.Math.ListN.{take, take-append-drop}
use Rattle.rules.specs.Lists.{gather}
use Rattle.rules.specs.Sheet.{Bytes, Line, line, strip, digits, numeral, column_of, column_at, front_of, value_of, rest_of, end, row, by_front, lines, column, numbers, line_bytes, print, rows}
use Rattle.rules.specs.declared.Front.{Front}
use Rattle.rules.specs.declared.Front.TheVariants.{Taken, NotInForm, End}
use Rattle.rules.proofs.Laws.Value.{unlike, digits-cons, numeral-digits, numeral-eq}
use Rattle.rules.proofs.Laws.Sheet.{LineAt, Tells, front-tells, column-length, column-read, lines_step}

-- ---- a column

-- as many digits make a number below that power of ten
digits-below : (bs : Bytes) (v m : ℕ) → digits v bs ≡ Some m → m < suc v * 10 ^ length bs
unfolding digits
digits-below [] v m e = let h : v ≡ m = cc in omega arith
digits-below (b ∷ bs) v m e =
    let c = digits-cons v b bs m e in
    let h : m < suc (v * 10 + (b - 48)) * 10 ^ length bs = digits-below bs (v * 10 + (b - 48)) m c.2 in
    let l : suc (v * 10 + (b - 48)) * 10 ^ length bs ≤ (suc v * 10) * 10 ^ length bs = mul-le-mul_right (10 ^ length bs) (omega (arith, c.0, c.1)) in
    let p : 10 ^ suc (length bs) ≡ 10 ^ length bs * 10 = pow-suc 10 (length bs) in
    let q : (suc v * 10) * 10 ^ length bs ≡ suc v * (10 ^ length bs * 10) = mul_assoc (suc v) 10 (10 ^ length bs) ∙ ap (λ (x : ℕ). suc v * x) (mul_comm 10 (10 ^ length bs)) in
    subst (λ (x : ℕ). m < suc v * x) (sym p) (omega (arith, h, l, q))

numeral-below : (bs : Bytes) (m : ℕ) → numeral bs ≡ Some m → m < 10 ^ length bs
unfolding numeral
numeral-below [] m e = unlike (cc)
numeral-below (b ∷ bs) m e = omega (arith, digits-below (b ∷ bs) 0 m (numeral-digits b bs m e).0)

strip-shorter : (bs : Bytes) → length (strip bs) ≤ length bs
unfolding strip
strip-shorter [] = omega arith
strip-shorter (b ∷ bs) = go (eqb b 32) (strip-shorter bs)
  where
    go : (t : Bool) → length (strip bs) ≤ length bs → length (cond t (strip bs) (b ∷ bs)) ≤ suc (length bs)
    go true h = omega arith
    go false h = omega arith

strip-same : (a b : Bytes) → length a ≡ length b → strip a ≡ strip b → a ≡ b
unfolding strip
strip-same [] [] l e = refl
strip-same [] (y ∷ ys) l e = absurd (omega arith)
strip-same (x ∷ xs) [] l e = absurd (omega arith)
strip-same (x ∷ xs) (y ∷ ys) l e = go (eqb x 32) (eqb y 32) refl refl e (strip-same xs ys (omega arith))
  where
    go : (s t : Bool) → eqb x 32 ≡ s → eqb y 32 ≡ t → cond s (strip xs) (x ∷ xs) ≡ cond t (strip ys) (y ∷ ys) → (strip xs ≡ strip ys → xs ≡ ys) → x ∷ xs ≡ y ∷ ys
    go true true p q e ih = ap₂ (λ (z : ℕ) (l : Bytes). z ∷ l) (eqb-true x 32 p ∙ sym (eqb-true y 32 q)) (ih e)
    go true false p q e ih = absurd (let h : length (strip xs) ≡ suc (length ys) = ap length e in omega (arith, h, strip-shorter xs, l))
    go false true p q e ih = absurd (let h : suc (length xs) ≡ length (strip ys) = ap length e in omega (arith, h, strip-shorter ys, l))
    go false false p q e ih = e

-- a number has one form in a column
column-unique : (w n : ℕ) (bs : Bytes) → length bs ≡ suc w → column_of bs ≡ Some n → column (suc w) n ≡ bs
unfolding column_of
column-unique w n bs l e =
    let p : 10 ^ length (strip bs) ≤ 10 ^ suc w = pow-le-pow_right (omega arith) (omega (arith, strip-shorter bs)) in
    let h : n < 10 ^ suc w = omega (arith, numeral-below (strip bs) n e) in
    strip-same (column (suc w) n) bs (column-length (suc w) n ∙ sym l) (numeral-eq (strip (column (suc w) n)) (strip bs) n (column-read w n h) e)

-- ---- a line

-- the columns one after the other
columns-join : (w i : ℕ) (s : Bytes) → take (suc i * w) s ≡ take (i * w) s ++ column_at w i s
columns-join w i s = let e : suc i * w ≡ i * w + w = omega arith in ap (λ (m : ℕ). take m s) e ∙ take-add (i * w) w s

module _ (w : ℕ) (s : Bytes) {k a b c l : ℕ} (f : LineAt (suc w) s k a b c l) where
  abbrev v : ℕ
  v = suc w

  column-at : (i n : ℕ) → suc i * v ≤ 5 * v → column_of (column_at v i s) ≡ Some n → column_at v i s ≡ column v n
  column-at i n h q =
      let g : suc i * v ≡ i * v + v = omega arith in
      let d : length (drop (i * v) s) ≡ length s - i * v = length-drop (i * v) s in
      sym (column-unique w n (column_at v i s) (length-take-le v (drop (i * v) s) (omega (arith, f.fits, g, d, h))) q)

  five : take (5 * v) s ≡ numbers v k a b c l
  unfolding numbers
  five =
      let z : take (0 * v) s ≡ [] = let o : 0 * v ≡ 0 = omega arith in ap (λ (m : ℕ). take m s) o in
      columns-join v 4 s
      ∙ ap₂ ◌++◌ (columns-join v 3 s
      ∙ ap₂ ◌++◌ (columns-join v 2 s
      ∙ ap₂ ◌++◌ (columns-join v 1 s
      ∙ ap₂ ◌++◌ (columns-join v 0 s ∙ ap (λ (x : Bytes). x ++ column_at v 0 s) z ∙ column-at 0 k (omega arith) f.col₀)
      (column-at 1 a (omega arith) f.col₁)) (column-at 2 b (omega arith) f.col₂)) (column-at 3 c (omega arith) f.col₃)) (column-at 4 l (omega arith) f.col₄)

  value-length : length (value_of v l s) ≡ l
  value-length = let d : length (drop (5 * v) s) ≡ length s - 5 * v = length-drop (5 * v) s in length-take-le l (drop (5 * v) s) (omega (arith, f.fits, d))

  tail : drop (5 * v) s ≡ (value_of v l s ++ (10 ∷ [])) ++ rest_of v l s
  tail =
      let m : suc (5 * v + l) ≡ 5 * v + 1 + l = omega arith in
      let stop : drop l (drop (5 * v) s) ≡ 10 ∷ rest_of v l s =
      drop-drop l (5 * v) s ∙ drop-cons s (5 * v + l) 0 f.fits ∙ ap₂ (λ (x : ℕ) (r : Bytes). x ∷ r) f.stop (ap (λ (x : ℕ). drop x s) m) in
      sym (take-append-drop l (drop (5 * v) s)) ∙ ap (λ (r : Bytes). value_of v l s ++ r) stop ∙ sym (append_assoc (value_of v l s) (10 ∷ []) (rest_of v l s))

  line-back : line_bytes v (line k a b c (value_of v l s)) ++ rest_of v l s ≡ s
  unfolding line_bytes
  line-back =
      ap (λ (m : ℕ). ((numbers v k a b c m ++ value_of v l s) ++ (10 ∷ [])) ++ rest_of v l s) value-length
      ∙ ap (λ (x : Bytes). ((x ++ value_of v l s) ++ (10 ∷ [])) ++ rest_of v l s) (sym five)
      ∙ ap (λ (x : Bytes). x ++ rest_of v l s) (append_assoc (take (5 * v) s) (value_of v l s) (10 ∷ []))
      ∙ append_assoc (take (5 * v) s) (value_of v l s ++ (10 ∷ [])) (rest_of v l s)
      ∙ ap (λ (x : Bytes). take (5 * v) s ++ x) (sym tail)
      ∙ take-append-drop (5 * v) s

-- at any width: without columns no line is taken
line-again : (w : ℕ) (s : Bytes) {k a b c l : ℕ} → LineAt w s k a b c l → line_bytes w (line k a b c (value_of w l s)) ++ rest_of w l s ≡ s
unfolding column_of strip numeral
line-again zero s f = let e = f.col₀ in unlike (cc)
line-again (suc w) s f = line-back w s f

-- ---- a sheet

pub lines-back : (w : ℕ) (ls : List Line) (s : Bytes) → lines w s ≡ rows ls end → print w ls ≡ s
unfolding print
lines-back w [] s e = go (front_of w s) (front-tells w s (front_of w s) refl) (sym (lines_step w s) ∙ e)
  where
    go : (x : Front) → Tells w s x → by_front w s (lines w) x ≡ end → [] ≡ s
    go (Taken k a b c l) p q = unlike (cc)
    go NotInForm p q = unlike (cc)
    go End p q = sym p
lines-back w (x ∷ ls) s e = go (front_of w s) (front-tells w s (front_of w s) refl) (sym (lines_step w s) ∙ e) (λ r. lines-back w ls r)
  where
    go : (y : Front) → Tells w s y → by_front w s (lines w) y ≡ row x (rows ls end)
        → ((r : Bytes) → lines w r ≡ rows ls end → gather (line_bytes w) ls ≡ r) → line_bytes w x ++ gather (line_bytes w) ls ≡ s
    go (Taken k a b c l) p q ih =
        let t : line k a b c (value_of w l s) ≡ x = cc in
        let r : lines w (rest_of w l s) ≡ rows ls end = cc in
        ap₂ (λ (y : Line) (z : Bytes). line_bytes w y ++ z) (sym t) (ih (rest_of w l s) r) ∙ line-again w s p
    go NotInForm p q ih = unlike (cc)
    go End p q ih = unlike (cc)
