-- Laws of a name written as K 9 lines: what a buffer holds once they are written, and that the name is read back from it.
use Prim.Native.Nat.{ℕ, zero, suc, ◌+◌, ◌-◌, ◌*◌, ◌^◌, ◌/◌, ◌%◌, ◌≤◌, ◌<◌}
use Rattle.std.specs.Prelude.{◌≡◌, Bool, true, false, cond, List, [], ◌∷◌, ◌++◌, leb, eqb, Some, None}
use Rattle.std.proofs.Math.Path.{refl, ap, ap₂, subst}
use Rattle.std.proofs.Common.{sym, ◌∙◌, arith, add-zero, lt_of_lt_of_le, pow-suc, length-drop, length-take-le, leb-true}
use Rattle.std.proofs.Math.Nat.{pow-le-pow_right}
use Rattle.std.proofs.Math.ListN.{length, drop, length-append}
use Rattle.rules.specs.Sheet.{Bytes, line, strip, digits, numeral, column_of, column_at, front_of, line_size, rest_of, by_front, Sheet, rows, lines, line_bytes, print}
use Rattle.rules.specs.Name.{Name}
use Rattle.rules.specs.Directory.{Stored}
use Rattle.rules.specs.Decision.{Setting}
use Rattle.rules.specs.Judge.{name_lines}
use Rattle.rules.specs.Places.{lines_at, parts_of}
use Rattle.rules.proofs.Laws.Each.{each_append}
use Rattle.rules.proofs.Laws.Loops.{gather_append}
use Rattle.rules.proofs.Laws.Sheet.{FitsColumns, AllFit, front-tells, taken-length, lines_step, line-length, printed-then}
use Rattle.rules.specs.declared.Front.{Front}
use Rattle.rules.specs.Derived.{put_at}
use Rattle.sheet_line.specs.Line.{taken_at, bytes_of}
use Rattle.sheet_line.specs.Laws.{taken-fits-line, bytes-length}
use Rattle.sheet_line.specs.declared.Line.{Line}
use Rattle.sheet_line.specs.declared.Taken.{Taken}
use Rattle.sheet_write.specs.Laws.Put.{put-length, put-append}
use Rattle.tables.specs.Book.{width, entry_count, target_at}
use Rattle.tables.specs.World.{Entries}
use Rattle.tables.specs.Laws.World.{entry_at}
use Rattle.directory_lookup.specs.Laws.Names.{parts-by}
use Rattle.answer_resolution.specs.Resolution.{Full, part_bytes, target_of, HoldsName}

-- ---- what was read fits the columns again

below_more : (v i n : ℕ) → v < 10 ^ i → i ≤ n → v < 10 ^ n
below_more v i n h e = lt_of_lt_of_le h (pow-le-pow_right (omega arith) e)

column-not : {A : Type 0} (n : ℕ) → None ≡ Some n → A
column-not n e = absurd (let z : ◌≡◌ {A = ℕ} 0 1 = cc in omega arith)

digits-below : (bs : Bytes) (v i n : ℕ) → v < 10 ^ i → digits v bs ≡ Some n → n < 10 ^ (i + length bs)
unfolding digits
digits-below [] v i n h e = let z : v ≡ n = cc in let y : i + 0 ≡ i = add-zero i in rw (y, ← z) h
digits-below (b ∷ bs) v i n h e = go (leb 48 b) (leb b 57) refl refl e (digits-below bs)
  where
    go : (p q : Bool) → leb 48 b ≡ p → leb b 57 ≡ q → cond p (cond q (digits (v * 10 + (b - 48)) bs) None) None ≡ Some n
        → ((v i n : ℕ) → v < 10 ^ i → digits v bs ≡ Some n → n < 10 ^ (i + length bs)) → n < 10 ^ (i + suc (length bs))
    go true true p q r ih =
        let y : b ≤ 57 = leb-true b 57 q in
        let z : i + suc (length bs) ≡ suc i + length bs = omega arith in
        rw z (ih (v * 10 + (b - 48)) (suc i) n (rw pow-suc (omega arith)) r)
    go true false p q r ih = column-not n r
    go false q p q' r ih = column-not n r

digits-first : (bs : Bytes) (n : ℕ) → digits 0 bs ≡ Some n → n < 10 ^ length bs
digits-first bs n e = let z : 0 + length bs ≡ length bs = omega arith in subst (λ (i : ℕ). n < 10 ^ i) z (digits-below bs 0 0 n (omega arith) e)

numeral-below : (bs : Bytes) (n : ℕ) → numeral bs ≡ Some n → n < 10 ^ length bs
unfolding numeral
numeral-below [] n e = column-not n e
numeral-below (b ∷ []) n e = digits-first (b ∷ []) n e
numeral-below (b ∷ (c ∷ bs)) n e = go (eqb b 48) e
  where
    go : (p : Bool) → cond p None (digits 0 (b ∷ (c ∷ bs))) ≡ Some n → n < 10 ^ length (b ∷ (c ∷ bs))
    go true r = column-not n r
    go false r = digits-first (b ∷ (c ∷ bs)) n r

strip-shorter : (bs : Bytes) → length (strip bs) ≤ length bs
unfolding strip
strip-shorter [] = omega arith
strip-shorter (b ∷ bs) = go (eqb b 32) (strip-shorter bs)
  where
    go : (p : Bool) → length (strip bs) ≤ length bs → length (cond p (strip bs) (b ∷ bs)) ≤ suc (length bs)
    go true h = omega arith
    go false h = omega arith

column-below : (w : ℕ) (bs : Bytes) (n : ℕ) → length bs ≤ w → column_of bs ≡ Some n → n < 10 ^ w
unfolding column_of
column-below w bs n l e = below_more n (length (strip bs)) w (numeral-below (strip bs) n e) (omega (arith, l, strip-shorter bs))

-- the parts of a name, of however many lines
parts-fit : (w : ℕ) → 2 ≤ w → (n : ℕ) (s : Bytes) → AllFit w (name_lines (parts_of n (lines w s)))
unfolding parts_of name_lines
parts-fit w h zero s = tt
parts-fit w h (suc n) s = subst (λ (x : Sheet). AllFit w (name_lines (parts_of (suc n) x))) (sym (lines_step w s)) (go (front_of w s) refl (parts-fit w h n))
  where
    go : (f : Front) → front_of w s ≡ f → ((r : Bytes) → AllFit w (name_lines (parts_of n (lines w r)))) → AllFit w (name_lines (parts_of (suc n) (by_front w s (lines w) f)))
    go (Front.Taken k a b c l) e ih =
        let t = front-tells w s (Front.Taken k a b c l) e in
        let v = taken-length w s 0 e in
        let m : 1 * w + w ≤ length s = omega (arith, t.fits) in
        let few : 64 < 10 ^ w = below_more 64 2 w (omega arith) h in
        let none : 0 < 10 ^ w = below_more 0 2 w (omega arith) h in (
          record {
            kind = below_more 9 2 w (omega arith) h;
            a = column-below w (column_at w 1 s) a (omega (arith, length-take-le w (drop (1 * w) s) (rw length-drop (omega (arith, m))))) t.col₁;
            b = none;
            c = none;
            count = omega (arith, v, t.short, few);
            bytes = omega (arith, v, t.short);
          },
          ih (rest_of w l s),
        )
    go Front.NotInForm e ih = tt
    go Front.End e ih = tt

-- ---- a name written is read back

lines-append : (m n : Name) → name_lines (m ++ n) ≡ name_lines m ++ name_lines n
unfolding name_lines
lines-append [] n = refl
lines-append (p ∷ m) n = ap (λ ls. line 9 p.type 0 0 p.value ∷ ls) (lines-append m n)

rows-parts : (m : Name) (t : Sheet) → parts_of (length m) (rows (name_lines m) t) ≡ m
unfolding parts_of name_lines
rows-parts [] t = refl
rows-parts (p ∷ m) t = ap (λ (n : Name). p ∷ n) (rows-parts m t)

read_back : (w : ℕ) → 1 ≤ w → (m : Name) (rest : Bytes) → AllFit w (name_lines m) → parts_of (length m) (lines w (print w (name_lines m) ++ rest)) ≡ m
read_back zero h m rest f = absurd (omega arith)
read_back (suc w) h m rest f = ap (parts_of (length m)) (printed-then w (name_lines m) rest f) ∙ rows-parts m (lines (suc w) rest)

-- ---- the bytes of a name's parts

print-append : (w : ℕ) (m n : Name) → print w (name_lines (m ++ n)) ≡ print w (name_lines m) ++ print w (name_lines n)
unfolding print
print-append w m n = ap (print w) (lines-append m n) ∙ gather_append (line_bytes w) (name_lines m) (name_lines n)

module _ (w : ℕ) (s : Bytes) (j : ℕ) where
  -- no part is left
  pub bytes-none : (left : ℕ) → left ≤ 0 → part_bytes w s j left ≡ []
  unfolding part_bytes parts_of name_lines print
  bytes-none zero h = refl
  bytes-none (suc n) h = absurd (omega arith)

  module _ (left : ℕ) (more : 0 < left) where
    pub bytes-broken : taken_at w s j ≡ Taken.NotInForm → part_bytes w s j left ≡ []
    unfolding part_bytes name_lines print
    bytes-broken e = ap (λ (n : Name). print w (name_lines n)) (parts-by w s j left more Taken.NotInForm e)

    pub bytes-end : taken_at w s j ≡ Taken.End → part_bytes w s j left ≡ []
    unfolding part_bytes name_lines print
    bytes-end e = ap (λ (n : Name). print w (name_lines n)) (parts-by w s j left more Taken.End e)

    -- a part, and those after it
    pub bytes_on : {x : Line} → taken_at w s j ≡ Taken.Line x → part_bytes w s j left ≡ line_bytes w (line 9 x.a 0 0 (bytes_of s x)) ++ part_bytes w s x.next (left - 1)
    unfolding part_bytes name_lines print
    bytes_on {x} e = ap (λ (n : Name). print w (name_lines n)) (parts-by w s j left more (Taken.Line x) e)

-- no part takes more than a line of 64 bytes in columns of 18
pub bytes-room : (w : ℕ) → w ≤ 18 → (s : Bytes) (n j : ℕ) → length (part_bytes w s j n) ≤ line_size 18 64 * n
bytes-room w h s zero j = let z : length (part_bytes w s j 0) ≡ 0 = ap length (bytes-none w s j 0 (omega arith)) in omega (arith, z)
bytes-room w h s (suc n) j = go (taken_at w s j) refl (bytes-room w h s n)
  where
    go : (t : Taken) → taken_at w s j ≡ t → ((j : ℕ) → length (part_bytes w s j n) ≤ line_size 18 64 * n) → length (part_bytes w s j (suc n)) ≤ line_size 18 64 * suc n
    go (Taken.Line x) e ih =
        let f = taken-fits-line w s j e in
        let y = line 9 x.a 0 0 (bytes_of s x) in
        let z : length (part_bytes w s j (suc n)) ≡ length (line_bytes w y) + length (part_bytes w s x.next n)
        = ap length (bytes_on w s j (suc n) (omega arith) e ∙ ap (λ (i : ℕ). line_bytes w y ++ part_bytes w s x.next i) (let o : suc n - 1 ≡ n = omega arith in o)) ∙ length-append (line_bytes w y) (part_bytes w s x.next n) in
        omega (arith, h, z, line-length w y, bytes-length w s j f, f.short, ih x.next)
    go Taken.NotInForm e ih = let z : length (part_bytes w s j (suc n)) ≡ 0 = ap length (bytes-broken w s j (suc n) (omega arith) e) in omega (arith, z)
    go Taken.End e ih = let z : length (part_bytes w s j (suc n)) ≡ 0 = ap length (bytes-end w s j (suc n) (omega arith) e) in omega (arith, z)

-- ---- the target, then the rest of the name

module _ (w : ℕ) (least : 6 ≤ w) (most : w ≤ 18) (d s : Bytes) (place parts next left : ℕ) (before after out : Bytes) (to : ℕ) (room : line_size 18 64 * (parts + left) ≤ length before) where
  pub replaced-size : to ≡ 0 + length (part_bytes w d place parts) → after ≡ put_at before 0 (part_bytes w d place parts) → out ≡ put_at after to (part_bytes w s next left) → length out ≡ length before
  replaced-size t a o =
      let f = bytes-room w most d parts place in
      let g = bytes-room w most s left next in
      let k : length after ≡ length before = ap length a ∙ put-length before 0 (part_bytes w d place parts) (omega (arith, room, f)) in
      ap length o ∙ put-length after to (part_bytes w s next left) (omega (arith, room, t, f, g, k)) ∙ k

  pub replaced-holds : to ≡ 0 + length (part_bytes w d place parts) → after ≡ put_at before 0 (part_bytes w d place parts) → out ≡ put_at after to (part_bytes w s next left)
      → Full w d place parts → Full w s next left → {target : Name} → parts_of parts (lines_at w d place) ≡ target → HoldsName w out (parts + left) (target ++ parts_of left (lines_at w s next))
  unfolding part_bytes put_at
  replaced-holds t a o l m is =
      let A = parts_of parts (lines_at w d place) in
      let B = parts_of left (lines_at w s next) in
      let count : length (A ++ B) ≡ parts + left = length-append A B ∙ ap₂ ◌+◌ l m in
      let rest = drop (0 + length (print w (name_lines A) ++ print w (name_lines B))) before in
      let few : 0 + length (print w (name_lines A)) ≤ length before = omega (arith, room, bytes-room w most d parts place) in
      let bytes : out ≡ print w (name_lines (A ++ B)) ++ rest
      = o
      ∙ ap (λ (x : Bytes). put_at x to (print w (name_lines B))) a
      ∙ put-append before 0 (print w (name_lines A)) (print w (name_lines B)) to t few
      ∙ ap (λ (x : Bytes). x ++ rest) (sym (print-append w A B)) in
      let fits : AllFit w (name_lines (A ++ B))
      = subst (AllFit w) (sym (lines-append A B)) (each_append (FitsColumns w) (name_lines A) (name_lines B) (parts-fit w (omega (arith, least)) parts (drop place d)) (parts-fit w (omega (arith, least)) left (drop next s))) in
      subst (λ (m : Name). HoldsName w out (parts + left) (m ++ B)) is
      (record {
        parts = ap₂ (λ (n : ℕ) (x : Bytes). parts_of n (lines w x)) (sym count) bytes ∙ read_back w (omega (arith, least)) (A ++ B) rest fits;
        count = count;
      })

-- the target's numbers in the book
module _ {σ : Setting} {es : List Stored} {d : Bytes} {book held : List ℕ} (E : Entries σ es d book held) (e : ℕ) (first : 1 ≤ e) (last : e ≤ entry_count book) where
  pub target-parts : parts_of (target_at book (e - 1) % 16) (lines_at (width book) d (target_at book (e - 1) / 16)) ≡ target_of es e
  target-parts = (entry_at E (e - 1) (omega (arith, first, last))).target.name

  pub target-count : length (parts_of (target_at book (e - 1) % 16) (lines_at (width book) d (target_at book (e - 1) / 16))) ≡ target_at book (e - 1) % 16
  target-count = ap length target-parts ∙ (entry_at E (e - 1) (omega (arith, first, last))).target.count

  pub target-few : target_at book (e - 1) % 16 ≤ 8
  target-few = (entry_at E (e - 1) (omega (arith, first, last))).target.few
