-- Laws of `Rulings`: the ways through the code, and the table with a mark more.
use Rattle.std.specs.Prelude.{ℕ, ◌+◌, ◌*◌, ◌/◌, ◌%◌, ◌≤◌, ◌<◌, ◌≡◌, Bool, true, false, List, ◌∷◌, length, get_or, take, drop}
use Rattle.std.proofs.Math.Path.{sym}
use Rattle.std.proofs.Common.{ap, ◌∙◌, arith}
use Rattle.rules.specs.Sheet.{Bytes}
use Rattle.rules.specs.Sheet as Rules
use Rattle.rules.specs.Judge.{refuse}
use Rattle.rules.specs.Directory.{Reading, step}
use Rattle.value_syntax.specs.Digest.{digest}
use Rattle.sheet_line.specs.declared.Line.{Line}
use Rattle.sheet_line.specs.Laws.{LineFits}
use Rattle.name.specs.Schema.{allowed_at}
use Rattle.name.specs.Laws.Schema.{allowed-known}
use Rattle.directory_duplicates.specs.Mark.{Mark, mark, bucket_at, packed, head_at, slot_in, Room, with_mark, MarkWithin, last_in, Walk, Answers, heads}
use Rattle.directory_duplicates.specs.Laws.Mark.{Marks, mark-room, chain_more, no-twin, last-most}
use Rattle.directory_duplicates.specs.Twins.{last_owner, key_of, twins}
use Rattle.directory_duplicates.specs.Noted.{RulingNoted}
use Rattle.directory_duplicates.specs.declared.Claim.{Claim}
use Rattle.directory_duplicates.specs.Rulings.{refusing, mark_of, marking, ruled_of, Ready, Claimed}

-- ---- one mark more

-- a line that was taken lies within the sheet
pub line-within : {w : ℕ} {s : Bytes} {i : ℕ} {x : Line} → LineFits w s i x → MarkWithin s (mark 0 x.place x.length)
line-within f = record { key = omega arith; size = f.short; bytes = omega (arith, f.next, f.within) }

module _ {s : Bytes} {ks table : List ℕ} {ms : List Mark} (ready : Ready s ks table ms) (owner rank : ℕ) (low : owner ≤ last_owner) (known : rank < length ks) (place size : ℕ) (within : MarkWithin s (mark 0 place size))
    (n : ℕ) (count : length ms ≡ n) {r : RulingNoted} (is : r ≡ marking s table owner rank place size) where
  marks : Marks s table (mark_of owner rank place size) r
  marks = record { bucket = ap (λ (q : RulingNoted). q.bucket) is; slot = ap (λ (q : RulingNoted). q.slot) is; number = ap (λ (q : RulingNoted). q.mark) is }

  there : MarkWithin s (mark_of owner rank place size)
  there = record { key = omega (arith, ready.few); size = within.size; bytes = within.bytes }

  pub ready-room : Room table n r
  ready-room = mark-room ready.chain (mark_of owner rank place size) there n count (omega (arith, ready.room)) r marks

  pub ready-more : n + 1 < heads → Ready s ks (with_mark table n r) (mark_of owner rank place size ∷ ms)
  ready-more room = record {
    sheet = ready.sheet;
    few = ready.few;
    chain = chain_more ready.chain (mark_of owner rank place size) there n count (omega (arith, ready.room)) r marks;
    room = omega arith;
  }

-- ---- the ways through the code

-- a value `u` that is claimed and that the schema does not allow
pub ruled-unfit : (s : Bytes) (ks table : List ℕ) (c : Claim) {u : Bytes} → u ≡ take c.length (drop c.place s) → allowed_at ks c.rank u ≡ false
    → (ms : List Mark) → refusing 4 ≡ ruled_of c.owner c.rank c.place c.length s ks table ms
unfolding ruled_of
ruled-unfit s ks table c here a ms = let f = ap (allowed_at ks c.rank) (sym here) ∙ a in rw f

-- and one that it allows
module _ {s : Bytes} {ks table : List ℕ} {c : Claim} (claim : Claimed s ks table c) {u : Bytes} (here : u ≡ take c.length (drop c.place s)) (a : allowed_at ks c.rank u ≡ true) where
  abbrev owner : ℕ
  owner = c.owner

  abbrev rank : ℕ
  rank = c.rank

  -- its key
  abbrev key : ℕ
  key = key_of owner rank

  pub rank-within : rank < length ks
  rank-within = (allowed-known ks rank u a).0

  pub key-small : key < 65536
  key-small = omega (arith, rank-within, claim.ready.few, claim.low)

  -- its digest, of which the bucket, the slot and the tag are parts, and whether a mark has the slot
  module _ {d : ℕ} (digest-is : d ≡ digest key u) {may : Bool} (may-is : may ≡ slot_in table (d / 65536 % 65536)) where
    abbrev label : ℕ
    label = d / 2048 % 2048 * 65536 + key

    abbrev head : ℕ
    head = head_at table (d % 2048)

    pub walking : {ms : List Mark} → Ready s ks table ms → Walk s table may head label key u ms
    walking {ms} ready = record {
      chained = ready.chain.chained;
      newest = ready.chain.newest (d % 2048) (omega arith) ∙ ap (λ (n : ℕ). last_in s (n % 2048) ms) digest-is;
      without = λ z syntax. no-twin s table syntax key u ms ready.chain.slots (ap (λ (n : ℕ). slot_in table (n / 65536 % 65536)) (sym digest-is) ∙ sym may-is ∙ z);
      labelled = ap (λ (n : ℕ). n / 2048 % 2048 * 65536 + key) digest-is;
      small = key-small;
      most = ready.room;
      room = omega (arith, ready.room, ready.chain.table);
      sheet = ready.sheet;
    }

    head_small : head < heads
    head_small = omega (arith, (walking claim.ready).newest, last-most s (bucket_at key u) claim.all, claim.ready.room)

    -- its numbers make one number
    pub mark-small : (label < 134217728) × (c.place < 65536) × (c.length ≤ 64) × (head < heads)
    mark-small = (omega (arith, key-small), omega (arith, claim.within.bytes, claim.ready.sheet), claim.within.size, head_small)

    module _ {found : Bool} (answers : Answers s table may head label (get_or ks rank 0 % 4) u found) (ms : List Mark) (ready : Ready s ks table ms) where
      fit : allowed_at ks rank (take c.length (drop c.place s)) ≡ true
      fit = ap (allowed_at ks rank) (sym here) ∙ a

      twins-are : found ≡ twins s ks owner rank (take c.length (drop c.place s)) ms
      twins-are = answers key ms (walking ready) ∙ ap (λ (v : Bytes). twins s ks owner rank v ms) here

      pub ruled-twice : found ≡ true → refusing 5 ≡ ruled_of owner rank c.place c.length s ks table ms
      unfolding ruled_of
      ruled-twice f = let z = sym twins-are ∙ f in rw (fit, z)

      pub ruled-marked : found ≡ false
          → record { refusal = 0; rank = rank; bucket = d % 2048; slot = d / 65536 % 65536; mark = ((label * 65536 + c.place) * 128 + c.length) * 16384 + head } ≡ ruled_of owner rank c.place c.length s ks table ms
      unfolding ruled_of packed
      ruled-marked f = let z = sym twins-are ∙ f in rw (fit, z, digest-is, here)

-- ---- what the rules decide

-- a line refused with the ruling's number, where `top` is the highest type
pub record Refused (top : ℕ) (st : Reading) (x : Rules.Line) (r : RulingNoted) : Type 0 where
  pub not : r.refusal ≡ 0 → ⊥
  pub is : step top st x ≡ refuse r.refusal
