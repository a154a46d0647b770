-- Laws of `Put`: parts one after another, a column from the right, and a line.
use Rattle.std.specs.Prelude.{ℕ, zero, suc, ◌+◌, ◌-◌, ◌*◌, ◌/◌, ◌%◌, ◌≤◌, ◌<◌, ◌≡◌, refl, cond, [], ◌∷◌, ◌++◌, eqb, take, drop, set}
use Rattle.std.proofs.Common.{add-one, replicate, sym, ◌∙◌, append_assoc, append-nil, arith, ne_eqb, length-drop, length-set, take-append-drop, drop-drop, drop_at, length-take-le}
use Rattle.std.proofs.Math.ListN.{length, length-append}
use Rattle.std.proofs.Math.Seq.{paste, take-length, take-append_seam, drop-append-add, append_snoc}
use Rattle.std.proofs.lemmas.List.{replicate_more, take-set-le, set_split}
use Rattle.rules.specs.Sheet.{Bytes, Line, line_size, leading, column, numbers, line_bytes}
use Rattle.rules.proofs.Laws.Sheet.{leading_length, column-length, numbers-length}
use Rattle.rules.specs.Derived.{put_at}

pub put-none : (d : Bytes) (at : ℕ) → put_at d at [] ≡ d
unfolding put_at
put-none d at = let e : at + 0 ≡ at = omega arith in rw (append-nil (take at d), e) (take-append-drop at d)

pub put-length : (d : Bytes) (at : ℕ) (s : Bytes) → at + length s ≤ length d → length (put_at d at s) ≡ length d
unfolding put_at
put-length d at s h =
    let t : length (take at d) ≡ at = length-take-le at d (omega arith) in
    length-append (take at d ++ s) (drop (at + length s) d) ∙ rw (length-append (take at d) s, t, length-drop (at + length s) d) (omega arith)

-- a whole part, as the copying loop leaves it
pub put-done : (d : Bytes) (at : ℕ) (s : Bytes) (n : ℕ) → n ≡ length s → paste d at s n ≡ put_at d at s
unfolding put_at
put-done d at s n e = rw (e, take-length s)

-- one part after another is one part
pub put-append : (d : Bytes) (at : ℕ) (s t : Bytes) (n : ℕ) → n ≡ at + length s → at + length s ≤ length d → put_at (put_at d at s) n t ≡ put_at d at (s ++ t)
unfolding put_at
put-append d at s t n e h =
    let p : Bytes = take at d ++ s in
    let r : Bytes = drop (at + length s) d in
    let l : length p ≡ n = length-append (take at d) s ∙ rw (length-take-le at d (omega arith)) (sym e) in
    let k : (at + length s) + length t ≡ at + length (s ++ t) = rw (length-append s t) (omega arith) in
    rw (← l, take-append_seam p r, drop-append-add p r (length t), append_assoc (take at d) s t, drop-drop (length t) (at + length s) d, k)

drop-set : (d : Bytes) (n b : ℕ) → n < length d → drop n (set d n b) ≡ b ∷ drop (suc n) d
drop-set d n b h = rw (set_split d n b h) (drop_at (take n d) (b ∷ drop (suc n) d) n (length-take-le n d (omega arith)))

-- the last byte of a part first, and then what stands before it
put_last : (d : Bytes) (at : ℕ) (s : Bytes) (b i : ℕ) → length s ≡ i → at + i < length d → put_at (set d (at + i) b) at s ≡ put_at d at (s ++ (b ∷ []))
unfolding put_at
put_last d at s b i e h =
    let k : at + length (s ++ (b ∷ [])) ≡ suc (at + i) = rw (length-append s (b ∷ []), e) (omega arith) in
    rw (k, e, take-set-le at d (at + i) b (omega arith), drop-set d (at + i) b h, ← append_assoc (take at d) s (b ∷ [])) (sym (append_snoc (take at d ++ s) b (drop (suc (at + i)) d)))

-- one byte
put_byte : (d : Bytes) (n b : ℕ) → n < length d → set d n b ≡ put_at d n (b ∷ [])
put_byte d n b h =
    let e : n + 0 ≡ n = omega arith in
    sym (put-none (set d n b) n) ∙ rw e at (put_last d n [] b 0 refl (omega arith))

-- a byte of a column before its last, with `v` left to write
abbrev leading_byte : ℕ → ℕ
leading_byte v = cond (eqb v 0) 32 (48 + v % 10)

-- ---- a column from the right: its last digit, then the bytes before it, down to none

pub column-last : (d : Bytes) (at w n : ℕ) → 1 ≤ w → at + w ≤ length d → put_at (set d (at + (w - 1)) (48 + n % 10)) at (leading (w - 1) (n / 10)) ≡ put_at d at (column w n)
unfolding column
column-last d at zero n g h = absurd (omega arith)
column-last d at (suc w) n g h =
    let e : suc w - 1 ≡ w = omega arith in
    rw e (put_last d at (leading w (n / 10)) (48 + n % 10) w (leading_length w (n / 10)) (omega arith))

pub column-on : (d : Bytes) (at i v : ℕ) → 0 < i → at + i ≤ length d → put_at (set d (at + (i - 1)) (leading_byte v)) at (leading (i - 1) (v / 10)) ≡ put_at d at (leading i v)
unfolding leading
column-on d at zero v g h = absurd (omega arith)
column-on d at (suc i) v g h =
    let e : suc i - 1 ≡ i = omega arith in
    rw e (put_last d at (leading i (v / 10)) (leading_byte v) i (leading_length i (v / 10)) (omega arith))

pub digit-on : (d : Bytes) (at i v : ℕ) → (v ≡ 0 → ⊥) → 0 < i → at + i ≤ length d → put_at (set d (at + (i - 1)) (48 + v % 10)) at (leading (i - 1) (v / 10)) ≡ put_at d at (leading i v)
digit-on d at i v f g h = rw (ne_eqb v 0 f) at (column-on d at i v g h)

pub column-done : (d : Bytes) (at i v : ℕ) → i ≤ 0 → put_at d at (leading i v) ≡ d
unfolding leading
column-done d at zero v h = put-none d at
column-done d at (suc i) v h = absurd (omega arith)

-- a column of nothing is spaces
pub leading-none : (w : ℕ) → leading w 0 ≡ replicate w 32
unfolding leading
leading-none zero = refl
leading-none (suc w) = rw (leading-none w, replicate_more {X = ℕ} w 32, add-one)

-- four spaces, from the right, and a fifth before them
pub spaces-four : (d : Bytes) (at : ℕ) → at + 4 ≤ length d → set (set (set (set d (at + 3) 32) (at + 2) 32) (at + 1) 32) at 32 ≡ put_at d at (leading 4 0)
spaces-four d at h =
    let e : at + 0 ≡ at = omega arith in
    let d₁ = set d (at + 3) 32 in
    let d₂ = set d₁ (at + 2) 32 in
    let d₃ = set d₂ (at + 1) 32 in
    sym (column-done (set d₃ at 32) at 0 0 (omega arith))
    ∙ rw e at (column-on d₃ at 1 0 (omega arith) (simp length-set (omega arith)))
    ∙ column-on d₂ at 2 0 (omega arith) (simp length-set (omega arith))
    ∙ column-on d₁ at 3 0 (omega arith) (simp length-set (omega arith))
    ∙ column-on d at 4 0 (omega arith) h

pub spaces-five : (d : Bytes) (at : ℕ) → at + 5 ≤ length d → put_at (set d (at + 4) 32) at (leading 4 0) ≡ put_at d at (leading 5 0)
spaces-five d at h = column-on d at 5 0 (omega arith) h

-- ---- a line: five columns, the bytes, byte 10

module _ (d : Bytes) (at w k a b c l : ℕ) {d₁ d₂ d₃ d₄ d₅ : Bytes} (h : at + 5 * w ≤ length d) where
  pub put-numbers : d₁ ≡ put_at d at (column w k) → d₂ ≡ put_at d₁ (at + w) (column w a) → d₃ ≡ put_at d₂ (at + 2 * w) (column w b)
      → d₄ ≡ put_at d₃ (at + 3 * w) (column w c) → d₅ ≡ put_at d₄ (at + 4 * w) (column w l) → d₅ ≡ put_at d at (numbers w k a b c l)
  unfolding numbers
  put-numbers e₁ e₂ e₃ e₄ e₅ =
      let x₂ = column w k ++ column w a in
      let x₃ = x₂ ++ column w b in
      let x₄ = x₃ ++ column w c in
      let l₁ : length (column w k) ≡ w = column-length w k in
      let l₂ : length x₂ ≡ 2 * w = simp (length-append, column-length) (omega arith) in
      let l₃ : length x₃ ≡ 3 * w = simp (length-append, column-length) (omega arith) in
      let l₄ : length x₄ ≡ 4 * w = simp (length-append, column-length) (omega arith) in
      rw (
        e₅,
        e₄,
        e₃,
        e₂,
        e₁,
        put-append d at (column w k) (column w a) (at + w) (omega arith) (omega arith),
        put-append d at x₂ (column w b) (at + 2 * w) (omega arith) (omega arith),
        put-append d at x₃ (column w c) (at + 3 * w) (omega arith) (omega arith),
        put-append d at x₄ (column w l) (at + 4 * w) (omega arith) (omega arith),
      )

module _ (d : Bytes) (at w : ℕ) (x : Line) {d₁ d₂ : Bytes} (h : at + line_size w (length x.bytes) ≤ length d) where
  pub put-line : (from : ℕ) → from ≡ at + 5 * w → d₁ ≡ put_at d at (numbers w x.kind x.a x.b x.c (length x.bytes)) → d₂ ≡ put_at d₁ from x.bytes
      → from + length x.bytes < length d₂ → set d₂ (from + length x.bytes) 10 ≡ put_at d at (line_bytes w x)
  unfolding line_bytes
  put-line from e e₁ e₂ g =
      let n = numbers w x.kind x.a x.b x.c (length x.bytes) in
      let l₁ : length n ≡ 5 * w = numbers-length w x.kind x.a x.b x.c (length x.bytes) in
      let l₂ : length (n ++ x.bytes) ≡ 5 * w + length x.bytes = length-append n x.bytes ∙ rw l₁ in
      put_byte d₂ (from + length x.bytes) 10 g
      ∙ rw (
        e₂,
        e₁,
        put-append d at n x.bytes from (omega arith) (omega arith),
        put-append d at (n ++ x.bytes) (10 ∷ []) (from + length x.bytes) (omega arith) (omega arith),
      )
