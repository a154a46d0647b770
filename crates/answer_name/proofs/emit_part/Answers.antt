-- The naming part lies within the directory, and so it is short.
use mathlib.Core.Path.{ap}
use Prim.Native.Nat.{◌≤◌}
use lib.ListN.{length}
use native.Mathlib.Omega.{arith}
use Rattle.tables.specs.Laws.World.{entry_at}
use Rattle.answer_name.specs.Laws.Name.{part-short, part-emits}
use Rattle.answer_line.specs.Laws.Emit.{emits-length}
use Rattle.answer_name.proofs.emit_part.Goals as goal

pub naming_value-requires : goal.naming_value-requires
naming_value-requires c =
    let P = c.requires in
    let E = P.0.3 in
    (omega (arith, P.2, E.fits.few-entries), omega (arith, (entry_at E c.args.k P.2).within))

pub emit-requires : goal.emit-requires
emit-requires c =
    let P = c.requires in
    let short : length c.naming_value.result.now ≤ 65536 = omega (arith, ap length c.naming_value.ensures, part-short P.0.3 c.args.k P.2) in
    (omega (arith, P.0.3.fits.narrow), P.0.3.fits.wide, omega (arith, P.1, P.0.3.fits.wide, short))

pub returns : goal.returns
returns c =
    let P = c.requires in
    let p = c.emit.ensures in
    let short : length c.naming_value.result.now ≤ 65536 = omega (arith, ap length c.naming_value.ensures, part-short P.0.3 c.args.k P.2) in
    (omega (arith, emits-length _ _ _ _ p, P.0.3.fits.wide, short), λ σ es held E. part-emits E c.args.k P.2 c.naming_value.ensures p)
