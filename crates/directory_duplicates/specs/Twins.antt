-- What the marks tell: an entry line's mark has its parent for an owner, a value's mark its entry, so that siblings of one name and
-- one value twice in a type are marks of one key with equal values.
use Rattle.std.specs.Prelude.{ℕ, ◌+◌, ◌*◌, ◌%◌, ◌≤◌, ◌<◌, ◌≡◌, Bool, true, false, List, length, get_or}
use Rattle.rules.specs.Lists.{any}
use Rattle.rules.specs.Sheet.{Bytes}
use Rattle.rules.specs.Name.{Part, part, allowed, same_part}
use Rattle.rules.specs.Directory.{Stored, clashes}
use Rattle.rules.specs.Places.{schema_of}
use Rattle.name.specs.Schema.{rank_in}
use Rattle.directory_duplicates.specs.Mark.{Mark, twin}

-- the first owner of values; those before it are the owners of entry lines, which are their parents' numbers: 0, the root, to 256
abbrev pub value_owners : ℕ
value_owners = 257

-- the owner of an entry's values, by the entry's number
abbrev pub owner_of : ℕ → ℕ
owner_of number = value_owners + number

-- the last owner, as there are at most 256 entries
abbrev pub last_owner : ℕ
last_owner = owner_of 256

-- the owner and the rank of a type as one number, of which the rank has 6 bits
abbrev pub key_of : ℕ → ℕ → ℕ
key_of owner rank = owner * 64 + rank

-- a mark of this owner and of the type of this rank has an equal value
abbrev pub twins : Bytes → List ℕ → ℕ → ℕ → Bytes → List Mark → Bool
twins s ks owner rank v ms = any (twin s (get_or ks rank 0 % 4) (key_of owner rank) v) ms

-- the marks of the entries `es`, and none of a later entry's values
pub record Named (s : Bytes) (ks : List ℕ) (es : List Stored) (ms : List Mark) : Type 0 where
  pub siblings : (p t : ℕ) (v : Bytes) → p ≤ 256 → allowed (schema_of ks) t v ≡ true → twins s ks p (rank_in ks t) v ms ≡ clashes (schema_of ks) es p (part t v)
  pub later : (o t : ℕ) (v : Bytes) → owner_of (length es) < o → allowed (schema_of ks) t v ≡ true → twins s ks o (rank_in ks t) v ms ≡ false

-- the marks of one owner's values `vs`
pub record Valued (s : Bytes) (ks : List ℕ) (owner : ℕ) (vs : List Part) (ms : List Mark) : Type 0 where
  pub repeated : (t : ℕ) (v : Bytes) → allowed (schema_of ks) t v ≡ true → twins s ks owner (rank_in ks t) v ms ≡ any (same_part (schema_of ks) (part t v)) vs
