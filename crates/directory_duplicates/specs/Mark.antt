-- Marks: each entry line and value line taken leaves one, and an equal value is looked for among those of its bucket alone, and only where
-- a mark has its slot. The marks are given newest first; in the table mark number k (from 1) stands at k - 1, with the number of the mark
-- before it in its bucket.
use Rattle.std.specs.Prelude.{ℕ, suc, ◌+◌, ◌*◌, ◌/◌, ◌%◌, ◌^◌, ◌≤◌, ◌<◌, ◌≡◌, Bool, true, false, ◌&&◌, cond, List, [], ◌∷◌, eqb, length, get_or, take, drop, set, replicate}
use Rattle.std.specs.Int.Bits.{bit_or}
use Rattle.rules.specs.Lists.{any}
use Rattle.rules.specs.Sheet.{Bytes}
use Rattle.rules.specs.Value.{same}
use Rattle.value_syntax.specs.Digest.{digest}
use Rattle.access_set.specs.Member.{bit_of}
use Rattle.directory_duplicates.specs.Noted.{RulingNoted}

-- the owner and type of a value as one number, where its bytes begin, and how many they are
pub record Mark : Type 0 where
  pub key : ℕ
  pub place : ℕ
  pub size : ℕ

-- a mark by its three numbers
abbrev pub mark : ℕ → ℕ → ℕ → Mark
mark key place size = record { key = key; place = place; size = size }

-- the bytes of its value
abbrev pub marked_bytes : Bytes → Mark → Bytes
marked_bytes s m = take m.size (drop m.place s)

-- ---- buckets, labels and slots

-- the bucket of a value under a key
abbrev pub bucket_at : ℕ → Bytes → ℕ
bucket_at key v = digest key v % 2048

-- and that of a mark's value
abbrev pub bucket_of : Bytes → Mark → ℕ
bucket_of s m = bucket_at m.key (marked_bytes s m)

-- the key with a tag above it, 11 further bits of the digest
abbrev pub label_at : ℕ → Bytes → ℕ
label_at key v = digest key v / 2048 % 2048 * 65536 + key

-- and that of a mark's value
abbrev pub label_of : Bytes → Mark → ℕ
label_of s m = label_at m.key (marked_bytes s m)

-- the slot of a value under a key: the digest's 16 high bits, none of them the bucket's
abbrev pub slot_at : ℕ → Bytes → ℕ
slot_at key v = digest key v / 65536 % 65536

-- and that of a mark's value
abbrev pub slot_of : Bytes → Mark → ℕ
slot_of s m = slot_at m.key (marked_bytes s m)

-- ---- a mark as a number, with its label and the number of the mark before it in its bucket

-- the label, the place in 16 bits, the size in 7, and the mark before it in 14
unfoldable pub packed : ℕ → Mark → ℕ → ℕ
packed label m head = ((label * 65536 + m.place) * 128 + m.size) * 16384 + head

-- the label in a mark's number, above the other 37 bits
abbrev pub label_in : ℕ → ℕ
label_in x = x / 137438953472

-- the place in it, above 21 bits
abbrev pub place_in : ℕ → ℕ
place_in x = x / 2097152 % 65536

-- the size in it, above 14 bits
abbrev pub size_in : ℕ → ℕ
size_in x = x / 16384 % 128

-- the number of the mark before it
abbrev pub before_in : ℕ → ℕ
before_in x = x % 16384

-- ---- the table of the marks: the marks, the newest mark of each bucket, and a bit for each slot

-- where the buckets begin, after the marks: a sheet of 65,536 bytes has at most 2,114 lines of 31 bytes or more
abbrev pub heads : ℕ
heads = 2115

-- where the slots begin, after 2,048 buckets
abbrev pub slots : ℕ
slots = 4163

-- and where they end, after 1,024 words of 64 slots
abbrev pub table_length : ℕ
table_length = 5187

-- the newest mark of bucket `b` by its number, 0 where there is none
abbrev pub head_at : List ℕ → ℕ → ℕ
head_at t b = get_or t (heads + b) 0

-- a mark has slot `j`
abbrev pub slot_in : List ℕ → ℕ → Bool
slot_in t j = bit_of (get_or t (slots + j / 64) 0) (j % 64)

-- the table with slot `j`
abbrev pub with_slot : List ℕ → ℕ → List ℕ
with_slot t j = set t (slots + j / 64) (bit_or (get_or t (slots + j / 64) 0) (2 ^ (j % 64)))

-- the table with mark `n`, counted from 0, that a ruling made
unfoldable pub with_mark : List ℕ → ℕ → RulingNoted → List ℕ
with_mark t n r = with_slot (set (set t n r.mark) (heads + r.bucket) (n + 1)) r.slot

-- there is room for it
pub record Room (t : List ℕ) (n : ℕ) (r : RulingNoted) : Type 0 where
  pub table : length t ≡ table_length
  pub number : n < heads
  pub bucket : r.bucket < 2048
  pub slot : r.slot < 65536

-- the table of the marks `ms`, and nothing else in it
unfoldable pub table_of : Bytes → List Mark → List ℕ
table_of s [] = replicate table_length 0
table_of s (m ∷ ms) =
    let t = table_of s ms in
    with_mark t (length ms) (record { refusal = 0; rank = 0; bucket = bucket_of s m; slot = slot_of s m; mark = packed (label_of s m) m (head_at t (bucket_of s m)) })

-- ---- buckets as chains

-- the number of the newest mark in bucket `b`, 0 where there is none
unfoldable pub last_in : Bytes → ℕ → List Mark → ℕ
last_in s b [] = 0
last_in s b (m ∷ ms) = cond (eqb (bucket_of s m) b) (suc (length ms)) (last_in s b ms)

-- a mark's key has 16 bits, and its value lies within the sheet, before a line's end
pub record MarkWithin (s : Bytes) (m : Mark) : Type 0 where
  pub key : m.key < 65536
  pub size : m.size ≤ 64
  pub bytes : m.place + m.size < length s

-- the table has the marks `ms`, each with the number of the mark before it in its bucket
abbrev pub Chained : Bytes → List ℕ → List Mark → Type 0
Chained s t [] = Unit {0}
Chained s t (m ∷ ms) = (get_or t (length ms) 0 ≡ packed (label_of s m) m (last_in s (bucket_of s m) ms)) × MarkWithin s m × Chained s t ms

-- and the slot of each
abbrev pub Slotted : Bytes → List ℕ → List Mark → Type 0
Slotted s t [] = Unit {0}
Slotted s t (m ∷ ms) = (slot_in t (slot_of s m) ≡ true) × Slotted s t ms

-- and the newest of each bucket
pub record Chain (s : Bytes) (t : List ℕ) (ms : List Mark) : Type 0 where
  pub whole : t ≡ table_of s ms
  pub table : length t ≡ table_length
  pub chained : Chained s t ms
  pub newest : (b : ℕ) → b < 2048 → head_at t b ≡ last_in s b ms
  pub slots : Slotted s t ms

-- ---- going through a bucket

-- the mark has this key and an equal value
abbrev pub twin : Bytes → ℕ → ℕ → Bytes → Mark → Bool
twin s syntax key v m = eqb m.key key && same syntax (marked_bytes s m) v

-- the mark of number `x` has this label and an equal value
abbrev pub bears : Bytes → ℕ → ℕ → Bytes → ℕ → Bool
bears s syntax label v x = eqb (label_in x) label && same syntax (take (size_in x) (drop (place_in x) s)) v

-- a walk through the bucket of `v` under `key`, from its newest mark; where `may` is false there is no twin to find
pub record Walk (s : Bytes) (marks : List ℕ) (may : Bool) (head label key : ℕ) (v : Bytes) (all : List Mark) : Type 0 where
  pub chained : Chained s marks all
  pub newest : head ≡ last_in s (bucket_at key v) all
  pub without : may ≡ false → (syntax : ℕ) → any (twin s syntax key v) all ≡ false
  pub labelled : label ≡ label_at key v
  pub small : key < 65536
  pub most : length all < heads
  pub room : length all ≤ length marks
  pub sheet : length s ≤ 65536

-- there is such a walk
abbrev pub Walkable : Bytes → List ℕ → Bool → ℕ → ℕ → Bytes → Type 0
Walkable s marks may head label v = (key : ℕ) × (all : List Mark) × Walk s marks may head label key v all

-- whether one of the marks has the label's key and an equal value
abbrev pub Answers : Bytes → List ℕ → Bool → ℕ → ℕ → ℕ → Bytes → Bool → Type 0
Answers s marks may head label syntax v found = (key : ℕ) (all : List Mark) → Walk s marks may head label key v all → found ≡ any (twin s syntax key v) all
