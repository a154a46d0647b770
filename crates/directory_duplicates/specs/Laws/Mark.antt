-- Laws of `Mark`: one mark more, and the way through a bucket.
use Rattle.std.specs.Prelude.{ℕ, suc, ◌+◌, ◌-◌, ◌*◌, ◌/◌, ◌%◌, ◌^◌, ◌≤◌, ◌<◌, ◌≡◌, Bool, ◌&&◌, ◌||◌, length, get_or, set}
use Rattle.std.proofs.Math.Path.{refl, sym, ap}
use Rattle.std.proofs.Common.{ap₂, ◌∙◌, subst}
use Rattle.std.proofs.Math.Bool.{true, false, cond, or-true}
use Rattle.std.proofs.lemmas.Bool.{false≢true}
use mathlib.Core.List.{List, [], ◌∷◌}
use native.Mathlib.Omega.{arith}
use Rattle.std.proofs.Math.Decide.{ℕ_discrete}
use Rattle.std.proofs.Math.Dec.{eqb}
use Rattle.std.specs.Int.Bits.{bit_or}
use Rattle.std.proofs.Math.ListN.{length-set}
use Rattle.std.proofs.Math.Seq.{get_or-set_same, get_or-set_other}
use borrow.Author.Tests.{eq-eqb, ne_eqb, eqb-true}
use Rattle.rules.specs.Lists.{any}
use Rattle.rules.specs.Sheet.{Bytes}
use Rattle.rules.specs.Value.{same}
use Rattle.rules.proofs.Laws.Tests.{and_left, and_right, both, bool-ext, contra}
use Rattle.value_syntax.specs.Laws.Digest.{digest-same}
use Rattle.access_set.specs.Member.{bit_of}
use Rattle.access_set.specs.Laws.Bit.{bit-or, bit-pow}
use Rattle.directory_duplicates.specs.Noted.{RulingNoted}
use Rattle.directory_duplicates.specs.Mark.{Mark, marked_bytes, bucket_at, bucket_of, label_at, label_of, slot_at, slot_of, packed, head_at, slot_in, with_mark, table_of, Room, last_in, MarkWithin, Chained, Slotted, Chain, twin, bears, Walk, label_in, place_in, size_in, before_in, heads, slots, table_length}

-- ---- buckets, labels and slots

pub bucket-bound : (key : ℕ) (v : Bytes) → bucket_at key v < 2048
bucket-bound key v = omega arith

pub slot-bound : (key : ℕ) (v : Bytes) → slot_at key v < 65536
slot-bound key v = omega arith

-- equal values have one bucket, one label and one slot
module _ (key s : ℕ) (u v : Bytes) (e : same s u v ≡ true) where
  bucket-same : bucket_at key u ≡ bucket_at key v
  bucket-same = ap (λ (d : ℕ). d % 2048) (digest-same key s u v e)

  label_same : label_at key u ≡ label_at key v
  label_same = ap (λ (d : ℕ). d / 2048 % 2048 * 65536 + key) (digest-same key s u v e)

  slot_same : slot_at key u ≡ slot_at key v
  slot_same = ap (λ (d : ℕ). d / 65536 % 65536) (digest-same key s u v e)

-- a label tells its key
label-key : (j k : ℕ) (u v : Bytes) → j < 65536 → k < 65536 → label_at j u ≡ label_at k v → j ≡ k
label-key j k u v p q e = omega arith

-- ---- a mark as a number, with its label and the number of the mark before it in its bucket

module _ (label : ℕ) (m : Mark) (head : ℕ) (hp : m.place < 65536) (hs : m.size < 128) (hh : head < 16384) where
  pub packed-label : label_in (packed label m head) ≡ label
  unfolding packed
  packed-label = omega arith

  pub packed-place : place_in (packed label m head) ≡ m.place
  unfolding packed
  packed-place = omega arith

  pub packed-size : size_in (packed label m head) ≡ m.size
  unfolding packed
  packed-size = omega arith

  pub packed-head : before_in (packed label m head) ≡ head
  unfolding packed
  packed-head = omega arith

-- ---- the table of the marks: the marks, the newest mark of each bucket, and a bit for each slot

module _ {t : List ℕ} {n : ℕ} {r : RulingNoted} (room : Room t n r) where
  abbrev one : List ℕ
  one = set t n r.mark

  abbrev two : List ℕ
  two = set one (heads + r.bucket) (n + 1)

  -- the place and the word of its slot
  abbrev at : ℕ
  at = slots + r.slot / 64

  abbrev word : ℕ
  word = bit_or (get_or two at 0) (2 ^ (r.slot % 64))

  pub marked-length : length (with_mark t n r) ≡ table_length
  unfolding with_mark
  marked-length = simp length-set room.table

  mark-new : get_or (with_mark t n r) n 0 ≡ r.mark
  unfolding with_mark
  mark-new =
      get_or-set_other two at n word 0 (λ q. omega (arith, room.number))
      ∙ get_or-set_other one (heads + r.bucket) n (n + 1) 0 (λ q. omega (arith, room.number))
      ∙ get_or-set_same t n r.mark 0 (omega (arith, room.number, room.table))

  mark-old : (k : ℕ) → k < n → get_or (with_mark t n r) k 0 ≡ get_or t k 0
  unfolding with_mark
  mark-old k h =
      get_or-set_other two at k word 0 (λ q. omega (arith, room.number))
      ∙ get_or-set_other one (heads + r.bucket) k (n + 1) 0 (λ q. omega (arith, room.number))
      ∙ get_or-set_other t n k r.mark 0 (λ q. omega arith)

  head-new : head_at (with_mark t n r) r.bucket ≡ n + 1
  unfolding with_mark
  head-new =
      get_or-set_other two at (heads + r.bucket) word 0 (λ q. omega (arith, room.bucket))
      ∙ get_or-set_same one (heads + r.bucket) (n + 1) 0 (simp length-set (omega (arith, room.bucket, room.table)))

  head-old : (b : ℕ) → b < 2048 → (b ≡ r.bucket → ⊥) → head_at (with_mark t n r) b ≡ head_at t b
  unfolding with_mark
  head-old b h e =
      get_or-set_other two at (heads + b) word 0 (λ q. omega arith)
      ∙ get_or-set_other one (heads + r.bucket) (heads + b) (n + 1) 0 (λ q. e (omega arith))
      ∙ get_or-set_other t n (heads + b) r.mark 0 (λ q. omega (arith, room.number))

  word-old : (i : ℕ) → get_or two (slots + i) 0 ≡ get_or t (slots + i) 0
  word-old i =
      get_or-set_other one (heads + r.bucket) (slots + i) (n + 1) 0 (λ q. omega (arith, room.bucket))
      ∙ get_or-set_other t n (slots + i) r.mark 0 (λ q. omega (arith, room.number))

  word-new : get_or (with_mark t n r) at 0 ≡ word
  unfolding with_mark
  word-new = get_or-set_same two at word 0 (simp length-set (omega (arith, room.slot, room.table)))

  slot-new : slot_in (with_mark t n r) r.slot ≡ true
  slot-new =
      ap (λ (x : ℕ). bit_of x (r.slot % 64)) word-new
      ∙ bit-or (get_or two at 0) (2 ^ (r.slot % 64)) (r.slot % 64)
      ∙ rw (bit-pow (r.slot % 64) (r.slot % 64), eq-eqb (r.slot % 64) (r.slot % 64) refl) (or-true (bit_of (get_or two at 0) (r.slot % 64)))

  slot-old : (j : ℕ) → slot_in t j ≡ true → slot_in (with_mark t n r) j ≡ true
  unfolding with_mark
  slot-old j h = go (ℕ_discrete (j / 64) (r.slot / 64))
    where
      go : Dec (j / 64 ≡ r.slot / 64) → slot_in (with_mark t n r) j ≡ true
      go (yes e) =
          ap (λ (i : ℕ). bit_of (get_or (with_mark t n r) (slots + i) 0) (j % 64)) e
          ∙ ap (λ (x : ℕ). bit_of x (j % 64)) word-new
          ∙ bit-or (get_or two at 0) (2 ^ (r.slot % 64)) (j % 64)
          ∙ rw (← e, word-old (j / 64), h)
      go (no e) =
          ap (λ (x : ℕ). bit_of x (j % 64)) (get_or-set_other two at (slots + j / 64) word 0 (λ q. e (omega arith)) ∙ word-old (j / 64))
          ∙ h

-- ---- buckets as chains

pub last-most : (s : Bytes) (b : ℕ) (ms : List Mark) → last_in s b ms ≤ length ms
unfolding last_in
last-most s b [] = omega arith
last-most s b (m ∷ ms) = go (eqb (bucket_of s m) b) (last-most s b ms)
  where
    go : (t : Bool) → last_in s b ms ≤ length ms → cond t (suc (length ms)) (last_in s b ms) ≤ suc (length ms)
    go true h = omega arith
    go false h = omega arith

-- ---- one mark more

module _ {t : List ℕ} {n : ℕ} {r : RulingNoted} (room : Room t n r) where
  chained-on : (s : Bytes) (ms : List Mark) → length ms ≤ n → Chained s t ms → Chained s (with_mark t n r) ms
  chained-on s [] l h = tt
  chained-on s (m ∷ ms) l h = (mark-old room (length ms) l ∙ h.0, h.1, chained-on s ms (omega arith) h.2)

  slotted-on : (s : Bytes) (ms : List Mark) → Slotted s t ms → Slotted s (with_mark t n r) ms
  slotted-on s [] h = tt
  slotted-on s (m ∷ ms) h = (slot-old room (slot_of s m) h.0, slotted-on s ms h.1)

-- the ruling is that on the value of mark `m`
pub record Marks (s : Bytes) (t : List ℕ) (m : Mark) (r : RulingNoted) : Type 0 where
  pub bucket : r.bucket ≡ bucket_of s m
  pub slot : r.slot ≡ slot_of s m
  pub number : r.mark ≡ packed (label_of s m) m (head_at t (bucket_of s m))

module _ {s : Bytes} {t : List ℕ} {ms : List Mark} (c : Chain s t ms) (m : Mark) (within : MarkWithin s m) (n : ℕ) (count : length ms ≡ n) (few : n < heads)
    (r : RulingNoted) (is : Marks s t m r) where
  pub mark-room : Room t n r
  mark-room = record {
    table = c.table;
    number = few;
    bucket = rw is.bucket (bucket-bound m.key (marked_bytes s m));
    slot = rw is.slot (slot-bound m.key (marked_bytes s m));
  }

  newest-on : (b : ℕ) → b < 2048 → head_at (with_mark t n r) b ≡ last_in s b (m ∷ ms)
  unfolding last_in
  newest-on b l = go (ℕ_discrete b r.bucket)
    where
      go : Dec (b ≡ r.bucket) → head_at (with_mark t n r) b ≡ cond (eqb (bucket_of s m) b) (suc (length ms)) (last_in s b ms)
      go (yes e) = ap (head_at (with_mark t n r)) e ∙ head-new mark-room ∙ rw (eq-eqb (bucket_of s m) b (sym is.bucket ∙ sym e)) (omega arith)
      go (no e) = head-old mark-room b l e ∙ rw (ne_eqb (bucket_of s m) b (λ q. e (sym (is.bucket ∙ q)))) (c.newest b l)

  whole-on : with_mark t n r ≡ table_of s (m ∷ ms)
  unfolding with_mark table_of
  whole-on = rw (is.bucket, is.slot, is.number, ← count, c.whole)

  pub chain_more : Chain s (with_mark t n r) (m ∷ ms)
  chain_more = record {
    whole = whole-on;
    table = marked-length mark-room;
    chained = (
      ap (λ (k : ℕ). get_or (with_mark t n r) k 0) count ∙ mark-new mark-room ∙ is.number
          ∙ ap (packed (label_of s m) m) (c.newest (bucket_of s m) (bucket-bound m.key (marked_bytes s m))),
      within,
      chained-on mark-room s ms (omega arith) c.chained,
    );
    newest = newest-on;
    slots = (ap (slot_in (with_mark t n r)) (sym is.slot) ∙ slot-new mark-room, slotted-on mark-room s ms c.slots);
  }

-- ---- going through a bucket

-- the same by the label instead of the key
twin-label : (s : Bytes) (syntax key : ℕ) (v : Bytes) (m : Mark) → m.key < 65536 → key < 65536
    → (eqb (label_of s m) (label_at key v) && same syntax (marked_bytes s m) v) ≡ twin s syntax key v m
twin-label s syntax key v m p q = bool-ext _ _ there back
  where
    there : (eqb (label_of s m) (label_at key v) && same syntax (marked_bytes s m) v) ≡ true → twin s syntax key v m ≡ true
    there e =
        both (eqb m.key key) _
        (eq-eqb m.key key (label-key m.key key (marked_bytes s m) v p q (eqb-true (label_of s m) (label_at key v) (and_left (eqb (label_of s m) (label_at key v)) _ e))))
        (and_right (eqb (label_of s m) (label_at key v)) _ e)

    back : twin s syntax key v m ≡ true → (eqb (label_of s m) (label_at key v) && same syntax (marked_bytes s m) v) ≡ true
    back e =
        let alike = and_right (eqb m.key key) _ e in
        both (eqb (label_of s m) (label_at key v)) _
        (eq-eqb (label_of s m) (label_at key v) (ap (λ (k : ℕ). label_at k (marked_bytes s m)) (eqb-true m.key key (and_left (eqb m.key key) _ e)) ∙ label_same key syntax (marked_bytes s m) v alike))
        alike

twin-bucket : (s : Bytes) (syntax key : ℕ) (v : Bytes) (m : Mark) → twin s syntax key v m ≡ true → bucket_of s m ≡ bucket_at key v
twin-bucket s syntax key v m e =
    ap (λ (k : ℕ). bucket_at k (marked_bytes s m)) (eqb-true m.key key (and_left (eqb m.key key) _ e))
    ∙ bucket-same key syntax (marked_bytes s m) v (and_right (eqb m.key key) _ e)

twin-slot : (s : Bytes) (syntax key : ℕ) (v : Bytes) (m : Mark) → twin s syntax key v m ≡ true → slot_of s m ≡ slot_at key v
twin-slot s syntax key v m e =
    ap (λ (k : ℕ). slot_at k (marked_bytes s m)) (eqb-true m.key key (and_left (eqb m.key key) _ e))
    ∙ slot_same key syntax (marked_bytes s m) v (and_right (eqb m.key key) _ e)

-- no mark in the slot, no twin
pub no-twin : (s : Bytes) (t : List ℕ) (syntax key : ℕ) (v : Bytes) (ms : List Mark) → Slotted s t ms
    → slot_in t (slot_at key v) ≡ false → any (twin s syntax key v) ms ≡ false
no-twin s t syntax key v [] h z = refl
no-twin s t syntax key v (m ∷ ms) h z =
    let off : eqb (slot_of s m) (slot_at key v) ≡ false = ne_eqb _ _ (λ q. false≢true (sym z ∙ ap (slot_in t) (sym q) ∙ h.0)) in
    let other : twin s syntax key v m ≡ false = contra _ (eqb (slot_of s m) (slot_at key v)) (λ q. eq-eqb _ _ (twin-slot s syntax key v m q)) off in
    rw other (no-twin s t syntax key v ms h.1 z)

-- the newest of `ms` is in bucket `b`
abbrev pub Top : Bytes → ℕ → List Mark → Type 0
Top s b [] = Unit {0}
Top s b (m ∷ ms) = bucket_of s m ≡ b

-- the marks up to number `k`, in whose bucket all the twins among `all` are that are not ruled out yet
pub record WalkLeft (s : Bytes) (marks : List ℕ) (syntax key : ℕ) (v : Bytes) (k : ℕ) (all ms : List Mark) : Type 0 where
  pub count : length ms ≡ k
  pub most : length ms ≤ length all
  pub chained : Chained s marks ms
  pub top : Top s (bucket_at key v) ms
  pub twins : any (twin s syntax key v) ms ≡ any (twin s syntax key v) all

module _ (s : Bytes) (marks : List ℕ) (syntax key : ℕ) (v : Bytes) where
  -- down to the newest mark in the bucket
  pub down : (ms : List Mark) → Chained s marks ms → (rest : List Mark) × WalkLeft s marks syntax key v (last_in s (bucket_at key v) ms) ms rest
  unfolding last_in
  down [] h = ([], record { count = refl; most = omega arith; chained = tt; top = tt; twins = refl })
  down (m ∷ ms) h = go (eqb (bucket_of s m) (bucket_at key v)) refl (down ms h.2)
    where
      go : (t : Bool) → eqb (bucket_of s m) (bucket_at key v) ≡ t
          → (rest : List Mark) × WalkLeft s marks syntax key v (last_in s (bucket_at key v) ms) ms rest
          → (rest : List Mark) × WalkLeft s marks syntax key v (cond t (suc (length ms)) (last_in s (bucket_at key v) ms)) (m ∷ ms) rest
      go true e r = (m ∷ ms, record { count = refl; most = omega arith; chained = h; top = eqb-true _ _ e; twins = refl })
      go false e r =
          let l = r.1 in
          let off : twin s syntax key v m ≡ false = contra _ (eqb (bucket_of s m) (bucket_at key v)) (λ q. eq-eqb _ _ (twin-bucket s syntax key v m q)) e in
          (r.0, record { count = l.count; most = omega (arith, l.most); chained = l.chained; top = l.top; twins = l.twins ∙ ap (λ (b : Bool). b || any (twin s syntax key v) ms) (sym off) })

-- the number `x` is that of mark `m`, of which `rest` are older
pub record Here (s : Bytes) (marks : List ℕ) (syntax key : ℕ) (v : Bytes) (k : ℕ) (all : List Mark) (x : ℕ) (m : Mark) (rest : List Mark) : Type 0 where
  pub count : suc (length rest) ≡ k
  pub below : suc (length rest) ≤ length all
  pub chained : Chained s marks rest
  pub within : MarkWithin s m
  pub number : x ≡ packed (label_of s m) m (last_in s (bucket_at key v) rest)
  pub twins : (twin s syntax key v m || any (twin s syntax key v) rest) ≡ any (twin s syntax key v) all

module _ {s : Bytes} {marks : List ℕ} {syntax key : ℕ} {v : Bytes} {may : Bool} {head label : ℕ} {all : List Mark} (walk : Walk s marks may head label key v all) where
  pub start : (rest : List Mark) × WalkLeft s marks syntax key v head all rest
  start = subst (λ (k : ℕ). (rest : List Mark) × WalkLeft s marks syntax key v k all rest) (sym walk.newest) (down s marks syntax key v all walk.chained)

  module _ {k : ℕ} where
    pub here : (ms : List Mark) → WalkLeft s marks syntax key v k all ms → (k ≡ 0 → ⊥) → (m : Mark) × (rest : List Mark) × Here s marks syntax key v k all (get_or marks (k - 1) 0) m rest
    here [] l z = absurd (z (sym l.count))
    here (m ∷ rest) l z =
        let e : k - 1 ≡ length rest = omega (arith, l.count) in (
          m,
          rest,
          record {
            count = l.count;
            below = l.most;
            chained = l.chained.2;
            within = l.chained.1;
            number = ap (λ (i : ℕ). get_or marks i 0) e ∙ l.chained.0 ∙ ap (λ (b : ℕ). packed (label_of s m) m (last_in s b rest)) l.top;
            twins = l.twins;
          },
        )

    pub index : (ms : List Mark) → WalkLeft s marks syntax key v k all ms → (k ≡ 0 → ⊥) → k - 1 < length marks
    index ms l z = omega (arith, l.count, l.most, walk.room)

    pub gone : (ms : List Mark) → WalkLeft s marks syntax key v k all ms → k ≡ 0 → false ≡ any (twin s syntax key v) all
    gone [] l z = l.twins
    gone (m ∷ rest) l z = absurd (omega (arith, l.count))

    module _ {x : ℕ} {m : Mark} {rest : List Mark} (h : Here s marks syntax key v k all x m rest) where
      bound : (m.place < 65536) × (m.size < 128) × (last_in s (bucket_at key v) rest < 16384)
      bound = omega (arith, h.within.size, h.within.bytes, walk.sheet, walk.most, h.below, last-most s (bucket_at key v) rest)

      pub label_is : label_in x ≡ label_of s m
      label_is = ap label_in h.number ∙ packed-label _ m _ bound.0 bound.1 bound.2

      pub place_is : place_in x ≡ m.place
      place_is = ap place_in h.number ∙ packed-place _ m _ bound.0 bound.1 bound.2

      pub size_is : size_in x ≡ m.size
      size_is = ap size_in h.number ∙ packed-size _ m _ bound.0 bound.1 bound.2

      pub next-is : before_in x ≡ last_in s (bucket_at key v) rest
      next-is = ap before_in h.number ∙ packed-head _ m _ bound.0 bound.1 bound.2

      -- its bytes may be read
      pub readable : place_in x + size_in x ≤ length s
      readable = rw (place_is, size_is) (omega (arith, h.within.bytes))

      -- the next is older
      pub older : before_in x < k
      older = omega (arith, next-is, last-most s (bucket_at key v) rest, h.count)

      bears-is : bears s syntax label v x ≡ twin s syntax key v m
      bears-is =
          ap₂ (λ (l : ℕ) (u : Bytes). eqb l label && same syntax u v) label_is (rw (place_is, size_is))
          ∙ ap (λ (l : ℕ). eqb (label_of s m) l && same syntax (marked_bytes s m) v) walk.labelled
          ∙ twin-label s syntax key v m h.within.key walk.small

      -- an equal value of the same key
      pub found : bears s syntax label v x ≡ true → true ≡ any (twin s syntax key v) all
      found e = sym (ap (λ (b : Bool). b || any (twin s syntax key v) rest) (sym bears-is ∙ e)) ∙ h.twins

      -- another value: on to the next
      pub onward : bears s syntax label v x ≡ false → (older : List Mark) × WalkLeft s marks syntax key v (before_in x) all older
      onward e =
          let d = down s marks syntax key v rest h.chained in
          let l = d.1 in (
            d.0,
            record {
              count = l.count ∙ sym next-is;
              most = omega (arith, l.most, h.below);
              chained = l.chained;
              top = l.top;
              twins = l.twins ∙ ap (λ (b : Bool). b || any (twin s syntax key v) rest) (sym (sym bears-is ∙ e)) ∙ h.twins;
            },
          )
