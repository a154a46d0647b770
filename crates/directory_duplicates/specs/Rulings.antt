-- What the code decides on a value, and what it needs to know of the marks.
use Rattle.std.specs.Prelude.{ℕ, ◌≤◌, ◌<◌, ◌≡◌, cond, Result, Ok, Err, List, length, take, drop}
use Rattle.std.proofs.Math.Option.{Option}
use Rattle.rules.specs.Sheet.{Bytes}
use Rattle.rules.specs.Directory.{Stored, Reading}
use Rattle.rules.specs.Places.{schema_of}
use Rattle.sheet_line.specs.declared.Line.{Line}
use Rattle.name.specs.Schema.{allowed_at}
use Rattle.directory_duplicates.specs.Mark.{Mark, mark, bucket_of, label_of, slot_of, packed, head_at, MarkWithin, Chain, heads}
use Rattle.directory_duplicates.specs.Twins.{last_owner, key_of, twins}
use Rattle.directory_duplicates.specs.Noted.{RulingNoted, unrefused}
use Rattle.rules.specs.Refusals.{refusal_number}
use Rattle.rules.specs.declared.refusals.Refusal.{Refusal}
use Rattle.directory_duplicates.specs.declared.Ruling.{Ruling}
use Rattle.directory_duplicates.specs.declared.Claim.{Claim}

-- a line refused
abbrev pub refusing : ℕ → RulingNoted
refusing n = record { refusal = n; rank = 0; bucket = 0; slot = 0; mark = 0 }

-- a ruling, or a refusal
abbrev pub ruling_noted : Result Ruling Refusal → RulingNoted
ruling_noted (Ok r) = unrefused r
ruling_noted (Err e) = refusing (refusal_number e)

-- the mark of a value of this owner and of the type of this rank, by where its bytes begin and how many they are
abbrev pub mark_of : ℕ → ℕ → ℕ → ℕ → Mark
mark_of owner rank place size = mark (key_of owner rank) place size

-- a value that the schema allows and its owner does not have yet
abbrev pub marking : Bytes → List ℕ → ℕ → ℕ → ℕ → ℕ → RulingNoted
marking s table owner rank place size =
    let m = mark_of owner rank place size in
    record { refusal = 0; rank = rank; bucket = bucket_of s m; slot = slot_of s m; mark = packed (label_of s m) m (head_at table (bucket_of s m)) }

-- a value, of the type of this rank, that a line brings its owner
unfoldable pub ruled_of : ℕ → ℕ → ℕ → ℕ → Bytes → List ℕ → List ℕ → List Mark → RulingNoted
ruled_of owner rank place size s ks table ms =
    let v = take size (drop place s) in
    cond (allowed_at ks rank v) (cond (twins s ks owner rank v ms) (refusing 5) (marking s table owner rank place size)) (refusing 4)

-- what deciding needs
pub record Ready (s : Bytes) (ks table : List ℕ) (ms : List Mark) : Type 0 where
  pub sheet : length s ≤ 65536
  pub few : length ks ≤ 64
  pub chain : Chain s table ms
  pub room : length ms < heads

-- the ruling is what `f` makes of the marks, whatever they are
abbrev pub Decides : Bytes → List ℕ → List ℕ → (Bytes → List ℕ → List ℕ → List Mark → RulingNoted) → RulingNoted → Type 0
Decides s ks table f r = (ms : List Mark) → Ready s ks table ms → r ≡ f s ks table ms

-- the line's value may be read, and looked for among the marks
pub record ValueSought (s : Bytes) (ks table : List ℕ) (x : Line) : Type 0 where
  pub all : List Mark
  pub ready : Ready s ks table all
  pub within : MarkWithin s (mark 0 x.place x.length)

-- and so may a value that is claimed
pub record Claimed (s : Bytes) (ks table : List ℕ) (c : Claim) : Type 0 where
  pub all : List Mark
  pub ready : Ready s ks table all
  pub within : MarkWithin s (mark 0 c.place c.length)
  pub low : c.owner ≤ last_owner

-- what was read: the schema as numbers, the entries before the last, and the last
abbrev pub reading : List ℕ → List Stored → Option Stored → Reading
reading ks complete current = record { schema = schema_of ks; complete = complete; current = current }
