-- Each entry that was passed has its key at its index.
use mathlib.Core.Path.{◌≡◌}
use lib.ListN.{length, get_or, take}
use Rattle.rules.specs.Derived.{Each}
use Rattle.tables.specs.Book.{schema}
use Rattle.tables.specs.Held.{type_at}
use Rattle.answer_key.specs.Keys.{KeyOf}
use Rattle.answer_key.proofs.key.note_keys.Given as goal

abbrev pub invariant-loop-k : goal.invariant-loop-k
invariant-loop-k l =
    (length l.keys ≡ 256) × Each (λ k. KeyOf l.d l.p l.book l.held l.sets (type_at (schema l.book) l.rank) k (get_or l.keys k 0)) (take l.k-index l.found)
