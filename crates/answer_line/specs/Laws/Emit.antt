-- Laws of `Emit`: lines after lines are lines, all are written where all fit, and nothing changes in an empty buffer.
use Rattle.std.specs.Prelude.{ℕ, ◌+◌, ◌-◌, ◌≤◌, ◌<◌, ◌≡◌, refl, take, drop}
use Rattle.std.proofs.Common.{zero-add, sym, ◌∙◌, subst, length-append, length-drop, take-append-drop, length-take-le, drop-drop, lt-ltb, le-ltb}
use Rattle.std.proofs.Math.Path.{ap}
use mathlib.Core.List.{List, [], ◌∷◌, ◌++◌, append_assoc, append-nil}
use native.Mathlib.Omega.{arith}
use Rattle.std.proofs.Math.Decide.{dec_lt}
use Rattle.std.proofs.Math.ListN.{length}
use Rattle.std.proofs.Math.Seq.{take-append_seam, drop-append-add, take-append-add, drop-append_seam}
use Rattle.rules.specs.Sheet.{Bytes, Line, line_size, line_bytes, print}
use Rattle.rules.proofs.Laws.Loops.{gather_append}
use Rattle.rules.proofs.Laws.Sheet.{line-length}
use Rattle.rules.specs.Derived.{put_at}
use Rattle.sheet_write.specs.Laws.Put.{put-none, put-length, put-append}
use Rattle.answer_line.specs.Emit.{emit_at, emit_lines, Emits}

-- ---- one part

-- a part from the first byte on
pub put_front : (d s : Bytes) → put_at d 0 s ≡ s ++ drop (length s) d
unfolding put_at
put_front d s = rw (zero-add (length s))

pub emit-fits : (d : Bytes) (at : ℕ) (s : Bytes) → at + length s ≤ length d → emit_at d at s ≡ put_at d at s
unfolding emit_at
emit-fits d at s h = rw (le-ltb (length d) (at + length s) h)

pub emit-not : (d : Bytes) (at : ℕ) (s : Bytes) → length d < at + length s → emit_at d at s ≡ d
unfolding emit_at
emit-not d at s h = rw (lt-ltb (length d) (at + length s) h)

emit-length : (d : Bytes) (at : ℕ) (s : Bytes) → length (emit_at d at s) ≡ length d
emit-length d at s = go (dec_lt (length d) (at + length s))
  where
    go : Dec (length d < at + length s) → length (emit_at d at s) ≡ length d
    go (yes h) = ap length (emit-not d at s h)
    go (no h) = ap length (emit-fits d at s (omega arith)) ∙ put-length d at s (omega arith)

-- ---- lines after lines

print-append : (w : ℕ) (xs ys : List Line) → print w (xs ++ ys) ≡ print w xs ++ print w ys
unfolding print
print-append w xs ys = gather_append (line_bytes w) xs ys

print-cons : (w : ℕ) (x : Line) (ls : List Line) → length (print w (x ∷ ls)) ≡ length (line_bytes w x) + length (print w ls)
unfolding print
print-cons w x ls = length-append (line_bytes w x) (print w ls)

print-none : (w : ℕ) → print w [] ≡ []
unfolding print
print-none w = refl

print-more : (w : ℕ) (x : Line) (ls : List Line) → print w (x ∷ ls) ≡ line_bytes w x ++ print w ls
unfolding print
print-more w x ls = refl

lines-append : (w : ℕ) (d : Bytes) (at : ℕ) (xs ys : List Line) → emit_lines w d at (xs ++ ys) ≡ emit_lines w (emit_lines w d at xs) (at + length (print w xs)) ys
unfolding emit_lines
lines-append w d at [] ys = let z : at + length (print w []) ≡ at = rw (print-none w) (omega arith) in rw z
lines-append w d at (x ∷ xs) ys =
    let n : (at + length (line_bytes w x)) + length (print w xs) ≡ at + length (print w (x ∷ xs)) = rw (print-cons w x xs) (omega arith) in
    lines-append w (emit_at d at (line_bytes w x)) (at + length (line_bytes w x)) xs ys ∙ rw n

lines_none : (w : ℕ) (d : Bytes) (at : ℕ) → emit_lines w d at [] ≡ d
unfolding emit_lines
lines_none w d at = refl

module _ (w : ℕ) (d : Bytes) (at : ℕ) where
  pub emits_none : Emits w d at [] d at
  unfolding emit_lines print
  emits_none = record { bytes = refl; next = omega arith }

  -- the same lines by other words
  pub emits-same : {ls ms : List Line} {d' : Bytes} {r : ℕ} → ls ≡ ms → Emits w d at ms d' r → Emits w d at ls d' r
  emits-same {d' = d'} {r = r} e p = subst (λ (ls : List Line). Emits w d at ls d' r) (sym e) p

  pub emits_one : (x : Line) {d' : Bytes} {r : ℕ} → d' ≡ emit_at d at (line_bytes w x) → r ≡ at + length (line_bytes w x) → Emits w d at (x ∷ []) d' r
  unfolding emit_lines
  emits_one x e n =
      let q : print w (x ∷ []) ≡ line_bytes w x = print-more w x [] ∙ rw (print-none w) (append-nil (line_bytes w x)) in
      let l : length (print w (x ∷ [])) ≡ length (line_bytes w x) = ap length q in
      record { bytes = e; next = omega (arith, n, l) }

  pub emits-append : (xs ys : List Line) {d₁ d₂ : Bytes} {n r : ℕ} → Emits w d at xs d₁ n → Emits w d₁ n ys d₂ r → Emits w d at (xs ++ ys) d₂ r
  emits-append xs ys {d₁} {d₂} {n} {r} p q = record {
    bytes = q.bytes ∙ rw (p.bytes, p.next) (sym (lines-append w d at xs ys));
    next = let l : length (print w (xs ++ ys)) ≡ length (print w xs) + length (print w ys) = ap length (print-append w xs ys) ∙ length-append (print w xs) (print w ys) in
        omega (arith, l, p.next, q.next);
  }

  -- the place after one line
  pub emits-length : (x : Line) {d' : Bytes} {r : ℕ} → Emits w d at (x ∷ []) d' r → r ≡ at + line_size w (length x.bytes)
  emits-length x p =
      let l : length (line_bytes w x) ≡ line_size w (length x.bytes) = line-length w x in
      let m : length (print w (x ∷ [])) ≡ length (line_bytes w x) + length (print w []) = print-cons w x [] in
      let z : length (print w []) ≡ 0 = ap length (print-none w) in
      omega (arith, l, m, z, p.next)

  -- a line that fits is written
  pub emits-written : (x : Line) {d' : Bytes} {r : ℕ} → at + line_size w (length x.bytes) ≤ length d → d' ≡ put_at d at (line_bytes w x)
      → r ≡ at + line_size w (length x.bytes) → Emits w d at (x ∷ []) d' r
  emits-written x h e n =
      let l : length (line_bytes w x) ≡ line_size w (length x.bytes) = line-length w x in
      emits_one x (e ∙ sym (emit-fits d at (line_bytes w x) (omega arith))) (omega arith)

  -- a line that does not fit is not, and the place is moved all the same
  pub emits-not : (x : Line) {r : ℕ} → length d < at + line_size w (length x.bytes) → r ≡ at + line_size w (length x.bytes) → Emits w d at (x ∷ []) d r
  emits-not x h n =
      let l : length (line_bytes w x) ≡ line_size w (length x.bytes) = line-length w x in
      emits_one x (sym (emit-not d at (line_bytes w x) (omega arith))) (omega arith)

-- ---- a line after those that follow it

-- beyond the first bytes, these are as they were
put-beyond : (a r t : Bytes) (x : ℕ) → put_at (a ++ r) (length a + x) t ≡ a ++ put_at r x t
unfolding put_at
put-beyond a r t x =
    let e : length a + x + length t ≡ length a + (x + length t) = omega arith in
    rw (take-append-add a r x, e, drop-append-add a r (x + length t), append_assoc a (take x r) t, append_assoc a (take x r ++ t) (drop (x + length t) r))

-- in the place of as many bytes
put-over : (a b r s : Bytes) → length b ≡ length s → put_at ((a ++ b) ++ r) (length a) s ≡ (a ++ s) ++ r
unfolding put_at
put-over a b r s e =
    let l : length a + length s ≡ length (a ++ b) = rw (length-append a b, e) in
    rw (l, drop-append_seam (a ++ b) r, append_assoc a b r, take-append_seam a (b ++ r))

-- two parts that do not overlap, in either order
put-either : (d : Bytes) (at : ℕ) (s : Bytes) (m : ℕ) (t : Bytes) → at + length s ≤ m → m ≤ length d → put_at (put_at d at s) m t ≡ put_at (put_at d m t) at s
put-either d at s m t h f =
    let a : Bytes = take at d in
    let b : Bytes = take (length s) (drop at d) in
    let r : Bytes = drop (at + length s) d in
    let x : ℕ = m - (at + length s) in
    let la : length a ≡ at = length-take-le at d (omega arith) in
    let lb : length b ≡ length s = length-take-le (length s) (drop at d) (rw (length-drop at d) (omega arith)) in
    go a b r x la lb (omega arith) (whole at (length s) d)
  where
    whole : (i n : ℕ) (l : Bytes) → (take i l ++ take n (drop i l)) ++ drop (i + n) l ≡ l
    whole i n l = append_assoc (take i l) (take n (drop i l)) (drop (i + n) l)
        ∙ ap (λ (z : Bytes). take i l ++ (take n (drop i l) ++ z)) (sym (drop-drop n i l))
        ∙ ap (λ (z : Bytes). take i l ++ z) (take-append-drop n (drop i l)) ∙ take-append-drop i l

    go : (a b r : Bytes) (x : ℕ) → length a ≡ at → length b ≡ length s → m ≡ at + length s + x → (a ++ b) ++ r ≡ d → put_at (put_at d at s) m t ≡ put_at (put_at d m t) at s
    go a b r x la lb lm w =
        let ms : m ≡ length (a ++ s) + x = lm ∙ rw (length-append a s, la) in
        let mb : m ≡ length (a ++ b) + x = lm ∙ rw (length-append a b, la, lb) in
        let one : put_at d at s ≡ (a ++ s) ++ r = rw (← w, ← la) (put-over a b r s lb) in
        let two : put_at d m t ≡ (a ++ b) ++ put_at r x t = rw (← w, mb) (put-beyond (a ++ b) r t x) in
        ap (λ (z : Bytes). put_at z m t) one ∙ ap (λ (i : ℕ). put_at ((a ++ s) ++ r) i t) ms ∙ put-beyond (a ++ s) r t x
        ∙ sym (ap (λ (z : Bytes). put_at z at s) two ∙ ap (λ (i : ℕ). put_at ((a ++ b) ++ put_at r x t) i s) (sym la) ∙ put-over a b (put_at r x t) s lb)

emit-either : (d : Bytes) (at : ℕ) (s : Bytes) (m : ℕ) (t : Bytes) → at + length s ≤ m → emit_at (emit_at d at s) m t ≡ emit_at (emit_at d m t) at s
emit-either d at s m t h = go (dec_lt (length d) (at + length s)) (dec_lt (length d) (m + length t))
  where
    go : Dec (length d < at + length s) → Dec (length d < m + length t) → emit_at (emit_at d at s) m t ≡ emit_at (emit_at d m t) at s
    go (yes p) q =
        let e : emit_at d m t ≡ d = emit-not d m t (omega (arith, p, h)) in
        rw (emit-not d at s p, e, emit-not d at s p)
    go (no p) (yes q) =
        let l : length (emit_at d at s) ≡ length d = emit-length d at s in
        emit-not (emit_at d at s) m t (omega (arith, q, l)) ∙ sym (ap (λ (z : Bytes). emit_at z at s) (emit-not d m t q))
    go (no p) (no q) =
        let f : at + length s ≤ length d = omega arith in
        let g : m + length t ≤ length d = omega arith in
        let lf : length (put_at d at s) ≡ length d = put-length d at s f in
        let lg : length (put_at d m t) ≡ length d = put-length d m t g in
        ap (λ (z : Bytes). emit_at z m t) (emit-fits d at s f) ∙ emit-fits (put_at d at s) m t (omega (arith, lf, g))
        ∙ put-either d at s m t h (omega (arith, g))
        ∙ sym (ap (λ (z : Bytes). emit_at z at s) (emit-fits d m t g) ∙ emit-fits (put_at d m t) at s (omega (arith, lg, f)))

lines_after : (w : ℕ) (d : Bytes) (at : ℕ) (s : Bytes) (m : ℕ) (ls : List Line) → at + length s ≤ m → emit_lines w (emit_at d at s) m ls ≡ emit_at (emit_lines w d m ls) at s
unfolding emit_lines
lines_after w d at s m [] h = refl
lines_after w d at s m (x ∷ ls) h =
    ap (λ (z : Bytes). emit_lines w z (m + length (line_bytes w x)) ls) (emit-either d at s m (line_bytes w x) h)
    ∙ lines_after w (emit_at d m (line_bytes w x)) at s (m + length (line_bytes w x)) ls (omega arith)

lines_cons : (w : ℕ) (d : Bytes) (at : ℕ) (x : Line) (ls : List Line) → emit_lines w d at (x ∷ ls) ≡ emit_lines w (emit_at d at (line_bytes w x)) (at + length (line_bytes w x)) ls
unfolding emit_lines
lines_cons w d at x ls = refl

-- a line may be written after those that follow it, in the room left for it
pub emits-before : (w : ℕ) (d : Bytes) (at : ℕ) (x : Line) (ls : List Line) {d₁ d₂ : Bytes} {m n r : ℕ} → m ≡ at + line_size w (length x.bytes)
    → Emits w d m ls d₁ r → Emits w d₁ at (x ∷ []) d₂ n → Emits w d at (x ∷ ls) d₂ r
emits-before w d at x ls {d₁} {d₂} {m} {n} {r} e p q =
    let l : length (line_bytes w x) ≡ line_size w (length x.bytes) = line-length w x in
    let k : m ≡ at + length (line_bytes w x) = omega (arith, e, l) in
    let c : length (print w (x ∷ ls)) ≡ length (line_bytes w x) + length (print w ls) = print-cons w x ls in
    record {
      bytes = q.bytes ∙ lines_cons w d₁ at x [] ∙ lines_none w (emit_at d₁ at (line_bytes w x)) (at + length (line_bytes w x))
          ∙ ap (λ (z : Bytes). emit_at z at (line_bytes w x)) p.bytes
          ∙ sym (lines_after w d at (line_bytes w x) m ls (omega (arith, k)))
          ∙ ap (λ (i : ℕ). emit_lines w (emit_at d at (line_bytes w x)) i ls) k
          ∙ sym (lines_cons w d at x ls);
      next = omega (arith, p.next, k, c);
    }

-- ---- all of them, or none

-- where all lines fit, all are written
pub emit-all : (w : ℕ) (d : Bytes) (at : ℕ) (ls : List Line) → at + length (print w ls) ≤ length d → emit_lines w d at ls ≡ put_at d at (print w ls)
unfolding emit_lines
emit-all w d at [] h = rw (print-none w) (sym (put-none d at))
emit-all w d at (x ∷ ls) h =
    let s = line_bytes w x in
    let l : length (print w (x ∷ ls)) ≡ length s + length (print w ls) = print-cons w x ls in
    let f : at + length s ≤ length d = omega arith in
    ap (λ (y : Bytes). emit_lines w y (at + length s) ls) (emit-fits d at s f)
    ∙ emit-all w (put_at d at s) (at + length s) ls (rw (put-length d at s f) (omega arith))
    ∙ put-append d at s (print w ls) (at + length s) refl f
    ∙ ap (put_at d at) (sym (print-more w x ls))
