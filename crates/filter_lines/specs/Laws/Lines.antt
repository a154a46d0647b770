-- Laws of `LinesNoted`: a row's line, and the rows as they are noted one after the other.
use Rattle.std.specs.Prelude.{ℕ, suc, ◌+◌, ◌-◌, ◌*◌, ◌≤◌, ◌<◌, ◌≡◌, refl, Bool, cond, List, length, get_or, take, drop, set}
use Rattle.std.proofs.Common.{sym, ap, ap₂, ◌∙◌, subst, mul-le-mul_right, mul_comm, suc-mul, add-one, arith}
use Rattle.std.proofs.Math.Decide.{dec_lt}
use Rattle.std.proofs.Math.ListN.{length-set}
use Rattle.std.proofs.Math.Seq.{get_or-set_same, get_or-set_other}
use Rattle.rules.specs.Sheet.{Bytes, line, end, broken, row}
use Rattle.rules.specs.Places.{lines_at}
use Rattle.sheet_line.specs.Line.{taken_at}
use Rattle.sheet_line.specs.Laws.{LineFits, lines_by, taken-lines, taken-fits-line}
use Rattle.sheet_line.specs.declared.Line.{Line}
use Rattle.sheet_line.specs.declared.Taken.TheVariants as Taken
use Rattle.name.specs.Schema.{rank_in}
use Rattle.filter_lines.specs.Lines.{LINES, kind_at, column_a, column_b, position_at, value_place, type_rank, next_position, line_value, line_at, LineRow, LinesNoted, Beyond, noted}

-- ---- a row's line

-- the next line begins where the next row says
pub next-is : (rows : List ℕ) (k : ℕ) → next_position rows k ≡ position_at rows (k + 1)
next-is rows k = let e : k * 6 + 9 ≡ (k + 1) * 6 + 3 = omega arith in ap (λ (i : ℕ). get_or rows i 0) e

module _ {w : ℕ} {q : Bytes} {rows : List ℕ} {k : ℕ} (r : LineRow w q rows k) where
  row_fits : LineFits w q (position_at rows k) (line_at rows k r.third r.size)
  row_fits = taken-fits-line w q (position_at rows k) r.taken

  -- its bytes lie on the sheet
  row-begins : value_place rows k < next_position rows k
  row-begins = omega (arith, row_fits.next)

  row_ends : next_position rows k ≤ length q
  row_ends = row_fits.within

  row-short : next_position rows k ≤ value_place rows k + 65
  row-short = omega (arith, row_fits.next, row_fits.short)

  pub row-lines : lines_at w q (position_at rows k) ≡ row (line (kind_at rows k) (column_a rows k) (column_b rows k) r.third (line_value q rows k)) (lines_at w q (position_at rows (k + 1)))
  row-lines =
      let n : r.size ≡ next_position rows k - 1 - value_place rows k = omega (arith, row_fits.next) in
      taken-lines w q (position_at rows k)
      ∙ ap (lines_by w q) r.taken
      ∙ ap₂ (λ (m i : ℕ). row (line (kind_at rows k) (column_a rows k) (column_b rows k) r.third (take m (drop (value_place rows k) q))) (lines_at w q i)) n (next-is rows k)

-- ---- one line more

module _ (rows : List ℕ) (at kind a b place rank next : ℕ) where
  abbrev one : List ℕ
  one = set rows at kind

  abbrev two : List ℕ
  two = set one (at + 1) a

  abbrev three : List ℕ
  three = set two (at + 2) b

  abbrev four : List ℕ
  four = set three (at + 4) place

  abbrev five : List ℕ
  five = set four (at + 5) rank

  pub noted-length : length (noted rows at kind a b place rank next) ≡ length rows
  unfolding noted
  noted-length = length-set five (at + 9) next ∙ length-set four (at + 5) rank ∙ length-set three (at + 4) place ∙ length-set two (at + 2) b ∙ length-set one (at + 1) a ∙ length-set rows at kind

  -- what stands elsewhere stays
  pub noted_other : (i : ℕ) → (i ≡ at → ⊥) → (i ≡ at + 1 → ⊥) → (i ≡ at + 2 → ⊥) → (i ≡ at + 4 → ⊥) → (i ≡ at + 5 → ⊥) → (i ≡ at + 9 → ⊥)
      → get_or (noted rows at kind a b place rank next) i 0 ≡ get_or rows i 0
  unfolding noted
  noted_other i n₀ n₁ n₂ n₄ n₅ n₉ =
      get_or-set_other five (at + 9) i next 0 n₉
      ∙ get_or-set_other four (at + 5) i rank 0 n₅
      ∙ get_or-set_other three (at + 4) i place 0 n₄
      ∙ get_or-set_other two (at + 2) i b 0 n₂
      ∙ get_or-set_other one (at + 1) i a 0 n₁
      ∙ get_or-set_other rows at i kind 0 n₀

  module _ (room : at + 12 ≤ length rows) where
    pub noted-kind : get_or (noted rows at kind a b place rank next) at 0 ≡ kind
    unfolding noted
    noted-kind =
        get_or-set_other five (at + 9) at next 0 (λ e. omega (arith, e))
        ∙ get_or-set_other four (at + 5) at rank 0 (λ e. omega (arith, e))
        ∙ get_or-set_other three (at + 4) at place 0 (λ e. omega (arith, e))
        ∙ get_or-set_other two (at + 2) at b 0 (λ e. omega (arith, e))
        ∙ get_or-set_other one (at + 1) at a 0 (λ e. omega (arith, e))
        ∙ get_or-set_same rows at kind 0 (omega (arith, room))

    pub noted-first : get_or (noted rows at kind a b place rank next) (at + 1) 0 ≡ a
    unfolding noted
    noted-first =
        get_or-set_other five (at + 9) (at + 1) next 0 (λ e. omega (arith, e))
        ∙ get_or-set_other four (at + 5) (at + 1) rank 0 (λ e. omega (arith, e))
        ∙ get_or-set_other three (at + 4) (at + 1) place 0 (λ e. omega (arith, e))
        ∙ get_or-set_other two (at + 2) (at + 1) b 0 (λ e. omega (arith, e))
        ∙ get_or-set_same one (at + 1) a 0 (omega (arith, room, length-set rows at kind))

    pub noted-second : get_or (noted rows at kind a b place rank next) (at + 2) 0 ≡ b
    unfolding noted
    noted-second =
        get_or-set_other five (at + 9) (at + 2) next 0 (λ e. omega (arith, e))
        ∙ get_or-set_other four (at + 5) (at + 2) rank 0 (λ e. omega (arith, e))
        ∙ get_or-set_other three (at + 4) (at + 2) place 0 (λ e. omega (arith, e))
        ∙ get_or-set_same two (at + 2) b 0 (omega (arith, room, length-set one (at + 1) a, length-set rows at kind))

    pub noted-place : get_or (noted rows at kind a b place rank next) (at + 4) 0 ≡ place
    unfolding noted
    noted-place =
        get_or-set_other five (at + 9) (at + 4) next 0 (λ e. omega (arith, e))
        ∙ get_or-set_other four (at + 5) (at + 4) rank 0 (λ e. omega (arith, e))
        ∙ get_or-set_same three (at + 4) place 0 (omega (arith, room, length-set two (at + 2) b, length-set one (at + 1) a, length-set rows at kind))

    pub noted-rank : get_or (noted rows at kind a b place rank next) (at + 5) 0 ≡ rank
    unfolding noted
    noted-rank =
        get_or-set_other five (at + 9) (at + 5) next 0 (λ e. omega (arith, e))
        ∙ get_or-set_same four (at + 5) rank 0 (omega (arith, room, length-set three (at + 4) place, length-set two (at + 2) b, length-set one (at + 1) a, length-set rows at kind))

    pub noted-next : get_or (noted rows at kind a b place rank next) (at + 9) 0 ≡ next
    unfolding noted
    noted-next =
        get_or-set_same five (at + 9) next 0
        (omega (arith, room, length-set four (at + 5) rank, length-set three (at + 4) place, length-set two (at + 2) b, length-set one (at + 1) a, length-set rows at kind))

-- the first `n` rows are the lines from position `at` to position `j`
pub record Noting (schema : List ℕ) (w : ℕ) (q : Bytes) (rows : List ℕ) (at n j : ℕ) : Type 0 where
  pub first : position_at rows 0 ≡ at
  pub last : position_at rows n ≡ j
  pub line : (k : ℕ) → k < n → LineRow w q rows k
  pub rank : (k : ℕ) → k < n → type_rank rows k ≡ rank_in schema (column_a rows k)

pub noting-start : (schema : List ℕ) (w : ℕ) (q : Bytes) (rows : List ℕ) (at : ℕ) → 6 ≤ length rows → Noting schema w q (set rows 3 at) at 0 at
noting-start schema w q rows at room = record {
  first = get_or-set_same rows 3 at 0 (omega (arith, room));
  last = get_or-set_same rows 3 at 0 (omega (arith, room));
  line = λ k l. absurd (omega (arith, l));
  rank = λ k l. absurd (omega (arith, l));
}

module _ (schema : List ℕ) (w : ℕ) (q : Bytes) (rows : List ℕ) (at n j : ℕ) (o : Noting schema w q rows at n j) (room : n * 6 + 12 ≤ length rows) where
  module _ (x : Line) (e : taken_at w q j ≡ Taken.Line x) (rank : ℕ) (p : rank ≡ rank_in schema x.a) where
    abbrev more : List ℕ
    more = noted rows (n * 6) x.kind x.a x.b x.place rank x.next

    -- rows before keep their numbers, and positions up to this row's too
    kept : (i : ℕ) → i < n * 6 → get_or more i 0 ≡ get_or rows i 0
    kept i h =
        noted_other rows (n * 6) x.kind x.a x.b x.place rank x.next i
        (λ z. omega (arith, h, z)) (λ z. omega (arith, h, z)) (λ z. omega (arith, h, z)) (λ z. omega (arith, h, z)) (λ z. omega (arith, h, z)) (λ z. omega (arith, h, z))

    kept-position : (i : ℕ) → i ≤ n * 6 + 3 → (i ≡ n * 6 → ⊥) → (i ≡ n * 6 + 1 → ⊥) → (i ≡ n * 6 + 2 → ⊥) → get_or more i 0 ≡ get_or rows i 0
    kept-position i h a b c =
        noted_other rows (n * 6) x.kind x.a x.b x.place rank x.next i a b c (λ z. omega (arith, h, z)) (λ z. omega (arith, h, z)) (λ z. omega (arith, h, z))

    position : (k : ℕ) → k ≤ n → position_at more k ≡ position_at rows k
    position k h = kept-position (k * 6 + 3) (omega (arith, h)) (λ z. omega (arith, h, z)) (λ z. omega (arith, h, z)) (λ z. omega (arith, h, z))

    old-line : (k third size : ℕ) → k < n → line_at more k third size ≡ line_at rows k third size
    old-line k third size h =
        rw (
          kept (k * 6) (omega (arith, h)),
          kept (k * 6 + 1) (omega (arith, h)),
          kept (k * 6 + 2) (omega (arith, h)),
          kept (k * 6 + 4) (omega (arith, h)),
          kept-position (k * 6 + 9) (omega (arith, h)) (λ z. omega (arith, h, z)) (λ z. omega (arith, h, z)) (λ z. omega (arith, h, z)),
        ) refl

    old : (k : ℕ) → k < n → LineRow w q more k
    old k h =
        let r = o.line k h in
        record { third = r.third; size = r.size; taken = rw (position k (omega (arith, h)), old-line k r.third r.size h) r.taken }

    this-line : line_at more n x.c x.length ≡ x
    this-line =
        let m : n * 6 + 12 ≤ length rows = room in
        rw (
          noted-kind rows (n * 6) x.kind x.a x.b x.place rank x.next m,
          noted-first rows (n * 6) x.kind x.a x.b x.place rank x.next m,
          noted-second rows (n * 6) x.kind x.a x.b x.place rank x.next m,
          noted-place rows (n * 6) x.kind x.a x.b x.place rank x.next m,
          noted-next rows (n * 6) x.kind x.a x.b x.place rank x.next m,
        ) refl

    this : LineRow w q more n
    this = record { third = x.c; size = x.length; taken = rw (position n (omega arith), o.last, this-line) e }

    pub noting-on : Noting schema w q more at (n + 1) x.next
    noting-on = record {
      first = position 0 (omega arith) ∙ o.first;
      last = sym (next-is more n) ∙ noted-next rows (n * 6) x.kind x.a x.b x.place rank x.next room;
      line = λ k h. each (LineRow w q more) old this k h (dec_lt k n);
      rank = λ k h. each (λ k. type_rank more k ≡ rank_in schema (column_a more k)) old-rank this-rank k h (dec_lt k n);
    }
      where
        each : (P : ℕ → Type 0) → ((k : ℕ) → k < n → P k) → P n → (k : ℕ) → k < n + 1 → Dec (k < n) → P k
        each P before last k h (yes m) = before k m
        each P before last k h (no m) = let z : n ≡ k = omega (arith, h, m) in subst P z last

        old-rank : (k : ℕ) → k < n → type_rank more k ≡ rank_in schema (column_a more k)
        old-rank k h = rw (kept (k * 6 + 1) (omega (arith, h)), kept (k * 6 + 5) (omega (arith, h))) (o.rank k h)

        this-rank : type_rank more n ≡ rank_in schema (column_a more n)
        this-rank = rw (
          noted-first rows (n * 6) x.kind x.a x.b x.place rank x.next room,
          noted-rank rows (n * 6) x.kind x.a x.b x.place rank x.next room,
        ) p

-- what stands beyond the rows: at the start, and with one line more
pub beyond-start : (rows₀ rows : List ℕ) (at n : ℕ) → Beyond n (set rows₀ 3 at) rows → Beyond n rows₀ rows
beyond-start rows₀ rows at n h i l d = h i l d ∙ get_or-set_other rows₀ 3 i at 0 (λ z. d (omega (arith, l, z)))

pub beyond-on : (rows₀ rows more : List ℕ) (n kind a b place rank next : ℕ) → more ≡ noted rows (n * 6) kind a b place rank next → Beyond n rows₀ rows → Beyond (n + 1) rows₀ more
beyond-on rows₀ rows more n kind a b place rank next e h i l d =
    ap (λ (x : List ℕ). get_or x i 0) e
    ∙ noted_other rows (n * 6) kind a b place rank next i
    (λ z. omega (arith, l, z)) (λ z. omega (arith, l, z)) (λ z. omega (arith, l, z)) (λ z. omega (arith, l, z)) (λ z. omega (arith, l, z)) (λ z. d (omega (arith, z)))
    ∙ h i (omega (arith, l)) (λ z. omega (arith, l, z))

-- no line follows
pub lines_noted : (schema : List ℕ) (w : ℕ) (q : Bytes) (rows : List ℕ) (at n j : ℕ) → Noting schema w q rows at n j → n * 6 + 6 ≤ length rows → n ≤ LINES
    → (unread : Bool) → lines_at w q j ≡ cond unread broken end → LinesNoted w q rows n
lines_noted schema w q rows at n j o room few unread e = record {
  placed = record { room = room; few = few; begins = λ k l. row-begins (o.line k l); within = λ k l. row_ends (o.line k l); short = λ k l. row-short (o.line k l) };
  line = o.line;
  unread = unread;
  ends = ap (lines_at w q) o.last ∙ e;
}

-- ---- the room

-- `n` lines of at least `k` bytes stand before position `j`, and one more fits the sheet: there is room for it
pub room-left : (k n m j l s : ℕ) → 0 < k → n * k ≤ j → j + (k + l) ≤ s → s ≤ k * m → n < m
room-left k n m j l s pos h f r = go (dec_lt n m)
  where
    go : Dec (n < m) → n < m
    go (yes x) = x
    go (no x) = let e : m * k ≤ n * k = mul-le-mul_right k (omega (arith, x)) in let c : k * m ≡ m * k = mul_comm k m in absurd (omega (arith, pos, h, f, r, e, c))

pub room-on : (k n j l : ℕ) → n * k ≤ j → (n + 1) * k ≤ j + (k + l)
room-on k n j l h = let e : suc n * k ≡ n * k + k = suc-mul n k in rw (add-one n) (omega (arith, e, h))
