-- Laws of `Choice`: what is known of the sets alone, with a choice.
use Rattle.std.specs.Prelude.{ℕ, suc, ◌≤◌, ◌<◌, List}
use Rattle.std.proofs.Common.{arith}
use Rattle.rules.specs.Sheet.{Bytes}
use Rattle.tables.specs.Book.{entry_count, type_count, schema}
use Rattle.tables.specs.World.{Known, KnownTypes}
use Rattle.tables.specs.Laws.Book.{schema-length}
use Rattle.tables.specs.Choice.{KnownChoice, KnownChoiceAt}
use Rattle.tables.specs.declared.plan.Choice.{Choice}

pub known-choice : {d p : Bytes} {book held sets : List ℕ} → Known d p book held sets → (e : ℕ) → e ≤ entry_count book → (rank : ℕ) → rank < type_count book
    → {c : Choice} → KnownChoice (schema book) c → KnownChoiceAt sets e rank c
known-choice {d} {p} {book} {held} h e l rank m k =
    (h.0, h.1, d, p, book, held, h.2, omega (arith, l, h.2.entries.count), omega (arith, m, schema-length h.2.entries.fits), k)

pub choice-types : {sets : List ℕ} {e rank : ℕ} {c : Choice} → KnownChoiceAt sets e rank c → KnownTypes sets e (suc rank)
choice-types (σ, es, d, p, book, held, w, l, m, k) = (σ, es, d, p, book, held, w, l, m)
