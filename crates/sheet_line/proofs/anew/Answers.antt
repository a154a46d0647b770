-- The number computed is the line's own.
use mathlib.Core.Path.{sym, ap, ◌∙◌}
use Prim.Native.Nat.{ℕ}
use Rattle.sheet_line.specs.declared.Line.{Line}
use Rattle.sheet_line.proofs.anew.Goals as goal

pub returns : goal.returns
returns c =
    let x = c.args.line in
    ap {B = Line} (λ (n : ℕ). record { kind = x.kind; a = x.a; b = x.b; c = x.c; place = x.place; length = x.length; next = n }) (c.after.ensures ∙ sym c.requires)
