-- The ranks so far, with those of the lines that are left, are those of all lines.
use Rattle.std.proofs.Common.{◌≡◌, ℕ, ◌-◌, ◌<◌, ◌||◌, eqb, length}
use Rattle.rules.specs.Lists.{any}
use Rattle.rules.specs.Places.{lines_at, types_of}
use Rattle.access_set.specs.Member.{bit_of}
use Rattle.tables.specs.Book.{width, schema}
use Rattle.tables.specs.Held.{type_at}
use Rattle.answer_choice.proofs.ranks_listed.Given as goal

abbrev pub invariant-loop : goal.invariant-loop
invariant-loop l = (k : ℕ) → k < length (schema l.book)
    → (bit_of l.ranks k || any (eqb (type_at (schema l.book) k)) (types_of (l.n - l.counter) (lines_at (width l.book) l.q l.at))) ≡ any (eqb (type_at (schema l.book) k)) (types_of l.n (lines_at (width l.book) l.q l.i))
