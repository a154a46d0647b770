-- What is returned of an entry, by the rows of its values: runs of rows of one type, and values written as K 35 lines that are counted.
use Rattle.std.specs.Prelude.{ℕ, zero, suc, ◌+◌, ◌-◌, ◌≤◌, ◌<◌, ◌≡◌, Bool, ◌&&◌, List, [], ◌∷◌, map, length}
use Rattle.rules.specs.Lists.{given, keep}
use Rattle.rules.specs.Sheet.{Bytes, Line, line}
use Rattle.rules.specs.Name.{Name}
use Rattle.rules.specs.Directory.{Held}
use Rattle.rules.specs.Permission.{Read}
use Rattle.rules.specs.Decision.{Setting, of_type, of_value, granted}
use Rattle.rules.specs.Request.{Selection}
use Rattle.rules.specs.Answer.{selected, type_lines}
use Rattle.tables.specs.Book.{type_count, entry_count, first_at, schema}
use Rattle.tables.specs.Held.{rank_at, bytes_at, type_at}
use Rattle.answer_line.specs.Emit.{Emits}
use Rattle.answer_information.specs.declared.Run.{Run}
use Rattle.answer_information.specs.declared.values.Written.{Written}

-- ---- rows

-- `r` is a row after those from row `i` on that have one rank, none of them beyond `end`
pub record OneRank (held : List ℕ) (i end r : ℕ) : Type 0 where
  pub after : i < r
  pub within : r ≤ end
  pub same : (j : ℕ) → i ≤ j → j < r → rank_at held j ≡ rank_at held i

-- .. and it is the first with another rank, or the end
pub record EndsAt (held : List ℕ) (i end r : ℕ) : Type 0 where
  pub alike : OneRank held i end r
  pub ends : r < end → rank_at held r ≡ rank_at held i → ⊥

-- the rows of a run are rows of entry number `e`, and its rank is that of a type
pub record RunOf (book : List ℕ) (e : ℕ) (run : Run) : Type 0 where
  pub some : 1 ≤ e
  pub entry : e ≤ entry_count book
  pub rank : run.rank < type_count book
  pub from : first_at book (e - 1) ≤ run.first
  pub rising : run.first ≤ run.end
  pub until : run.end ≤ first_at book e

-- the bytes of the `n` rows from row `i` on
unfoldable pub row_values : Bytes → List ℕ → ℕ → ℕ → List Bytes
row_values d held i zero = []
row_values d held i (suc n) = bytes_at d held i ∷ row_values d held (suc i) n

-- a run as a type that is held, with its values
abbrev pub held_by : Bytes → List ℕ → List ℕ → Run → Held
held_by d book held run = record { type = type_at (schema book) run.rank; values = row_values d held run.first (run.end - run.first) }

-- ---- what is returned

-- the values of a type that may be read
abbrev pub readable : Setting → Name → ℕ → List Bytes → List Bytes
readable σ n t vs = keep (λ v. granted σ n (of_value t v) Read) vs

-- the type is selected, and may be read
abbrev pub shown_type : Setting → Selection → Name → ℕ → Bool
shown_type σ s n t = selected s t && granted σ n (of_type t) Read

-- what is returned of a type that the entry with the full name `n` holds
abbrev pub returned : Setting → Selection → Name → Held → List Line
returned σ s n h = given (shown_type σ s n h.type) (type_lines σ s n h)

-- the values `vs` as K 35 lines, from the one place and count to the other
pub record Counted (w : ℕ) (out : Bytes) (from : Written) (vs : List Bytes) (out' : Bytes) (to : Written) : Type 0 where
  pub lines : Emits w out from.next (map (line 35 0 0 0) vs) out' to.next
  pub counted : to.count ≡ from.count + length vs
