-- The lines that are left, from here, end where all of them end.
use mathlib.Core.Path.{◌≡◌}
use Prim.Native.Nat.{◌-◌}
use Rattle.rules.specs.Places.{schema_of}
use Rattle.sheet_kind.specs.Kinds.{number_of}
use Rattle.sheet_due.specs.Grammars.{grammar_of}
use Rattle.sheet_due.specs.Lines.{reached_at, reached_in, lines_due}
use Rattle.sheet_due.proofs.lines_due.Given as goal

abbrev pub invariant-loop : goal.invariant-loop
invariant-loop l =
    let G = grammar_of l.f.top (schema_of l.schema) l.g in
    lines_due G l.f.width l.s (number_of l.kind) (l.count - l.counter) (reached_at l.pos) ≡ lines_due G l.f.width l.s (number_of l.kind) l.count (reached_in l.fn.from)
