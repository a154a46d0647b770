use borrow.Author.Tests.{eq-eqb, ne_eqb}
use Rattle.rules.specs.Value.{same}
use Rattle.rules.specs.Sheet.{Bytes}
use lib.ListN.{get_or}
use mathlib.Core.Path.{ap₂, ◌∙◌}
use Prim.Native.Nat.{◌%◌}
use Rattle.directory_values.proofs.holding.Goals as goal

pub returns-then-found : goal.returns-then-found
returns-then-found c = rw c.if-found.true

pub returns-then-naming-line : goal.returns-then-naming-line
returns-then-naming-line c = rw (c.if-found.false, ne_eqb _ _ c.if-naming-line.true)

pub returns : goal.returns
returns c = rw (c.if-found.false, eq-eqb _ _ c.if-naming-line.false) (c.same.ensures ∙ ap₂ (λ (u v : Bytes). same (get_or c.args.schema.now c.args.rank 0 % 4) u v) c.bytes.ensures c.bytes-2.ensures)
