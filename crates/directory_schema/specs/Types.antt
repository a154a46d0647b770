-- The K 1 lines: what is known of the sheet after some of them, and where they end.
use Rattle.std.specs.Prelude.{ℕ, ◌≤◌, ◌≡◌, Bool, cond, Result, Ok, Err, List, [], leb, length, take, replicate}
use Rattle.std.proofs.Math.Option.{none}
use Rattle.rules.specs.Sheet.{Bytes, lines}
use Rattle.rules.specs.declared.Format.{Format}
use Rattle.rules.specs.Judge.{refuse, fold}
use Rattle.rules.specs.Directory.{Reading, last_type, step, finish, nothing}
use Rattle.rules.specs.Places.{schema_of}
use Rattle.sheet_line.specs.declared.Line.{Line}
use Rattle.sheet_line.specs.declared.Taken.{Taken}
use Rattle.sheet_line.specs.Line.{taken_at}
use Rattle.name.specs.Schema.{Rising}
use Rattle.directory_schema.specs.Lines.{Passes, columns_fit, Other}
use Rattle.directory_schema.specs.Zeros.{ZerosFrom}
use Rattle.rules.specs.Refusals.{refusal_number}
use Rattle.rules.specs.declared.refusals.Refusal.{Refusal}
use Rattle.directory_schema.specs.declared.TypeLines.{TypeLines}

-- the types read so far, as numbers, and no entry
abbrev pub typed : List ℕ → Reading
typed ks = record { schema = schema_of ks; complete = []; current = none }

-- a line's refusal, by its form, its number and the count before it
abbrev pub type_number : Bool → Bool → Bool → ℕ
type_number form low full = cond form (cond low 3 (cond full 3 0)) 2

-- the refusal of a K 1 line after `n` types, of which the last has number `last`, where `top` is the highest type; 0 where there is none
unfoldable pub type_refusal : ℕ → Line → ℕ → ℕ → ℕ
type_refusal top x last n = type_number (columns_fit top x) (leb x.a last) (leb 64 n)

-- how the K 1 lines ended: the refusal number or 0, how many there are, their numbers, and what stands after them, with its position
pub record TypesNoted : Type 0 where
  pub refusal : ℕ
  pub count : ℕ
  pub schema : List ℕ
  pub at : ℕ
  pub taken : Taken

-- the K 1 lines refused: the number, and nothing else
abbrev pub types_refused : ℕ → TypesNoted
types_refused n = record { refusal = n; count = 0; schema = replicate 64 0; at = 0; taken = Taken.End }

-- the lines that were read, or a refusal
abbrev pub types_noted : Result TypeLines Refusal → TypesNoted
types_noted (Ok t) = record { refusal = 0; count = t.count; schema = t.schema; at = t.at; taken = t.taken }
types_noted (Err r) = types_refused (refusal_number r)

-- `n` types have been read, up to position `i`
pub record TypesRead (f : Format) (s : Bytes) (schema : List ℕ) (n last i : ℕ) : Type 0 where
  pub room : length schema ≡ 64
  pub most : n ≤ 64
  pub rest : ZerosFrom n schema
  pub within : i ≤ length s
  pub rising : Rising 0 (take n schema)
  pub newest : last ≡ last_type (schema_of (take n schema))
  pub passed : Passes f s nothing 0 (typed (take n schema)) i

-- the K 1 lines that were read, up to another line
pub record TypesEnded (f : Format) (s : Bytes) (r : TypesNoted) : Type 0 where
  pub last : ℕ
  pub read : TypesRead f s r.schema r.count last r.at
  pub stands : r.taken ≡ taken_at f.width s r.at
  pub other : Other 1 r.taken

-- the K 1 lines that were read, up to one that is refused, and the sheet with it
pub record TypesStopped (f : Format) (s : Bytes) (r : TypesNoted) : Type 0 where
  pub schema : List ℕ
  pub count : ℕ
  pub last : ℕ
  pub at : ℕ
  pub line : Line
  pub read : TypesRead f s schema count last at
  pub stands : taken_at f.width s at ≡ Taken.Line line
  pub kind : line.kind ≡ 1
  pub number : r.refusal ≡ type_refusal f.top line last count
  pub sheet : fold (step f.top) finish 2 nothing (lines f.width s) ≡ refuse r.refusal
  pub only : r ≡ types_refused r.refusal

-- the K 1 lines of a sheet
pub record TypesJudged (f : Format) (s : Bytes) (r : TypesNoted) : Type 0 where
  pub ended : r.refusal ≡ 0 → TypesEnded f s r
  pub refused : (r.refusal ≡ 0 → ⊥) → TypesStopped f s r
