-- A ruling as one record: the refusal number, or 0 with what is noted of the value.
use Rattle.std.specs.Prelude.{ℕ}
use Rattle.directory_duplicates.specs.declared.Ruling.{Ruling}

-- a line's refusal number; where that is 0 its type's rank, and the bucket, slot and mark of its value
pub record RulingNoted : Type 0 where
  pub refusal : ℕ
  pub rank : ℕ
  pub bucket : ℕ
  pub slot : ℕ
  pub mark : ℕ

-- a line that is not refused
abbrev pub unrefused : Ruling → RulingNoted
unrefused r = record { refusal = 0; rank = r.rank; bucket = r.bucket; slot = r.slot; mark = r.mark }
