-- Laws of `column_put`: the loop that copies, the column that is put, what stands beside it, and its numbers.
use Rattle.std.specs.Prelude.{ℕ, zero, suc, ◌+◌, ◌*◌, ◌≤◌, ◌<◌, ◌≡◌, refl, length, get_or, set}
use Rattle.std.proofs.Math.Path.{sym, ap, ap₂}
use Rattle.std.proofs.Common.{◌∙◌, not-suc-le-zero, le_of_suc-le-suc, add-one, arith, length-append, length-drop, take-append-drop, drop-set-lt, length-take-le, drop_at, get_or-take, get_or-drop}
use mathlib.Core.List.{List, [], ◌∷◌, ◌++◌, append_assoc}
use Rattle.std.proofs.Math.ListN.{take, drop}
use Rattle.std.proofs.lemmas.List.{length-map, set-append_left, take-append-le, drop-append-le}
use Rattle.std.proofs.lemmas.Slice.{take-put_mid, drop-put_mid}
use borrow.Rule.Slice.PartMut.{put_mid}
use Rattle.std.proofs.Math.Seq.{take-set-lt, paste-zero, paste-suc, length-paste, take_at}
use Rattle.tables.specs.Book.{BOOK}
use Rattle.directory_book.specs.Filled.{column_put, places_of}

-- ---- the loop that copies

pub put-start : (b : List ℕ) (at : ℕ) (column : List ℕ) → b ≡ column_put b at column 0
unfolding column_put
put-start b at column = paste-zero b at column

pub put_on : (b : List ℕ) (at : ℕ) (column : List ℕ) (i : ℕ) {now : List ℕ} → now ≡ column_put b at column i → at + i < length b → i < length column
    → set now (at + i) (get_or column i 0) ≡ column_put b at column (i + 1)
unfolding column_put
put_on b at column i e h l = ap (λ (x : List ℕ). set x (at + i) (get_or column i 0)) e ∙ rw add-one (paste-suc b at column i 0 h l)

-- ---- the column copied

pub put-copied : (b : List ℕ) (at n k : ℕ) (column ys : List ℕ) → k ≡ n → at ≤ length b → n ≤ length column → ys ≡ take n column → put_mid at k b ys ≡ column_put b at column n
unfolding column_put
put-copied b at n k column ys z h l e =
    let size : length ys ≡ n = ap length e ∙ length-take-le n column l in
    sym (take-append-drop (at + n) (put_mid at k b ys))
    ∙ ap₂ ◌++◌ (take-put_mid at k b ys (at + n) (omega (arith, size)) h ∙ ap (λ (x : List ℕ). take at b ++ x) e) (drop-put_mid at k b ys (at + n) (omega (arith, z)) h (size ∙ sym z))

-- ---- a part of the table

part-front : (p q : List ℕ) (j m : ℕ) → j + m ≤ length p → take m (drop j (p ++ q)) ≡ take m (drop j p)
part-front p q j m h =
    ap (take m) (drop-append-le j p q (omega arith))
    ∙ take-append-le m (drop j p) q (simp length-drop (omega arith))

module _ (b : List ℕ) (at : ℕ) (column : List ℕ) (n : ℕ) (room : at + n ≤ length b) (enough : n ≤ length column) where
  pub put-length : length (column_put b at column n) ≡ length b
  unfolding column_put
  put-length = length-paste b at column n room enough

  front_length : length (take at b) ≡ at
  front_length = length-take-le at b (omega arith)

  -- the column
  pub put-here : take n (drop at (column_put b at column n)) ≡ take n column
  unfolding column_put
  put-here =
      ap (λ (x : List ℕ). take n (drop at x)) (append_assoc (take at b) (take n column) (drop (at + n) b))
      ∙ ap (take n) (drop_at (take at b) (take n column ++ drop (at + n) b) at front_length)
      ∙ take_at (take n column) (drop (at + n) b) n (length-take-le n column enough)

  -- a part before it
  pub put-before : (j m : ℕ) → j + m ≤ at → take m (drop j (column_put b at column n)) ≡ take m (drop j b)
  unfolding column_put
  put-before j m h =
      ap (λ (x : List ℕ). take m (drop j x)) (append_assoc (take at b) (take n column) (drop (at + n) b))
      ∙ part-front (take at b) (take n column ++ drop (at + n) b) j m (omega (arith, front_length))
      ∙ sym (part-front (take at b) (drop at b) j m (omega (arith, front_length)))
      ∙ ap (λ (x : List ℕ). take m (drop j x)) (take-append-drop at b)

-- ---- columns that are filled together, number by number

-- a store before a column
pub put-skip : (b : List ℕ) (at : ℕ) (column : List ℕ) (n j v : ℕ) → j < at → at ≤ length b → set (column_put b at column n) j v ≡ column_put (set b j v) at column n
unfolding column_put
put-skip b at column n j v h l =
    let front = length-take-le at b l in
    set-append_left (take at b ++ take n column) (drop (at + n) b) j v (simp length-append (omega (arith, front)))
    ∙ ap (λ (x : List ℕ). x ++ drop (at + n) b) (set-append_left (take at b) (take n column) j v (omega (arith, front)))
    ∙ ap (λ (x : List ℕ). (x ++ take n column) ++ drop (at + n) b) (sym (take-set-lt at b j v h))
    ∙ ap (λ (x : List ℕ). (take at (set b j v) ++ take n column) ++ x) (sym (drop-set-lt (at + n) b j v (omega arith)))

-- a column, with its place in the book
pub record BookColumn : Type 0 where
  pub place : ℕ
  pub numbers : List ℕ

-- the first `i` numbers of each column
abbrev pub entered : List BookColumn → ℕ → List ℕ → List ℕ
entered [] i b = b
entered (x ∷ xs) i b = entered xs i (column_put b x.place x.numbers i)

pub entered-start : (xs : List BookColumn) (b : List ℕ) → b ≡ entered xs 0 b
entered-start [] b = refl
entered-start (x ∷ xs) b = put-start b x.place x.numbers ∙ entered-start xs (column_put b x.place x.numbers 0)

-- number `i` of each column stored
abbrev pub stored_each : List BookColumn → ℕ → List ℕ → List ℕ
stored_each [] i b = b
stored_each (x ∷ xs) i b = stored_each xs i (set b (x.place + i) (get_or x.numbers i 0))

-- the first column is behind place `j`
abbrev pub Behind : ℕ → List BookColumn → Type 0
Behind j [] = Unit {0}
Behind j (x ∷ xs) = j < x.place

behind-less : (xs : List BookColumn) (i j : ℕ) → i ≤ j → Behind j xs → Behind i xs
behind-less [] i j h l = tt
behind-less (x ∷ xs) i j h l = omega (arith, h, l)

-- each column has a number `i`, with room for it before the column that follows
abbrev pub Apart : ℕ → List BookColumn → Type 0
Apart i [] = Unit {0}
Apart i (x ∷ xs) = ((x.place + i < BOOK) × (i < length x.numbers)) × Behind (x.place + i) xs × Apart i xs

entered-skip : (xs : List BookColumn) (i j v : ℕ) (b : List ℕ) → length b ≡ BOOK → Behind j xs → Apart i xs → set (entered xs i b) j v ≡ entered xs i (set b j v)
entered-skip [] i j v b size h a = refl
entered-skip (x ∷ xs) i j v b size h a =
    entered-skip xs i j v (column_put b x.place x.numbers i) (put-length b x.place x.numbers i (omega (arith, a.0, size)) (omega (arith, a.0)) ∙ size) (behind-less xs j (x.place + i) (omega (arith, h)) a.1) a.2
    ∙ ap (entered xs i) (put-skip b x.place x.numbers i j v h (omega (arith, a.0, size)))

pub entered_on : (xs : List BookColumn) (i : ℕ) (b : List ℕ) → length b ≡ BOOK → Apart i xs → stored_each xs i (entered xs i b) ≡ entered xs (i + 1) b
entered_on [] i b size a = refl
entered_on (x ∷ xs) i b size a =
    let at = x.place in
    let c = x.numbers in
    ap (stored_each xs i) (entered-skip xs i (at + i) (get_or c i 0) (column_put b at c i) (put-length b at c i (omega (arith, a.0, size)) (omega (arith, a.0)) ∙ size) a.1 a.2)
    ∙ ap (λ (y : List ℕ). stored_each xs i (entered xs i y)) (put_on b at c i refl (omega (arith, a.0, size)) a.0.1)
    ∙ entered_on xs i (column_put b at c (i + 1)) (put-length b at c (i + 1) (omega (arith, a.0, size)) (omega (arith, a.0)) ∙ size) a.2

-- one number as a part
pub number_at : (b : List ℕ) (k : ℕ) → get_or (take 1 (drop k b)) 0 0 ≡ get_or b k 0
number_at b k = let e : k + 0 ≡ k = omega arith in get_or-take 1 (drop k b) 0 0 (omega arith) ∙ rw e at (get_or-drop k b 0 0)

-- ---- numbers of a column

-- a number of a column that was put
pub number_of : (b column : List ℕ) (at n k : ℕ) → take n (drop at b) ≡ take n column → k < n → get_or b (at + k) 0 ≡ get_or column k 0
number_of b column at n k e l =
    sym (get_or-take n (drop at b) k 0 l ∙ get_or-drop at b k 0) ∙ ap (λ (x : List ℕ). get_or x k 0) e ∙ get_or-take n column k 0 l

pub places-length : (w : ℕ) (lines : List ℕ) → length (places_of w lines) ≡ length lines
unfolding places_of
places-length w lines = length-map lines (λ p. p + 5 * w)

pub place_of : (w : ℕ) (lines : List ℕ) (k : ℕ) → k < length lines → get_or (places_of w lines) k 0 ≡ get_or lines k 0 + 5 * w
unfolding places_of
place_of w [] k h = absurd (not-suc-le-zero h)
place_of w (p ∷ ps) zero h = refl
place_of w (p ∷ ps) (suc k) h = place_of w ps k (le_of_suc-le-suc h)
