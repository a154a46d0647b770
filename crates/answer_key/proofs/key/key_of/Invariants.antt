-- The best row so far is the key of the values from row `i` on.
use Prim.Native.Nat.{suc, ◌≤◌, ◌<◌}
use mathlib.Core.Path.{◌≡◌}
use mathlib.Core.List.{List}
use Rattle.rules.specs.Directory.{Stored}
use Rattle.rules.specs.Decision.{Setting}
use Rattle.tables.specs.Book.{type_count, entry_count, first_at}
use Rattle.tables.specs.World.{World}
use Rattle.answer_key.specs.Keys.{key_in, RowFits}
use Rattle.answer_key.specs.Laws.Keys.{key_from}
use Rattle.answer_key.proofs.key.key_of.Given as goal

abbrev pub invariant-loop-i : goal.invariant-loop-i
invariant-loop-i l =
    (first_at l.book l.k ≤ l.i) × (l.i ≤ first_at l.book (suc l.k)) × RowFits l.d l.held l.best
    × ((σ : Setting) (es : List Stored) (w : World σ es l.d l.p l.book l.held l.sets) (r : l.rank < type_count l.book) (e : l.k < entry_count l.book) → key_in l.d l.held l.best ≡ key_from w.entries l.rank r l.k e l.i)
