-- The stores, one after the other, are the row in its place.
use Prim.Native.Nat.{◌*◌, ◌≤◌}
use native.Mathlib.Omega.{arith}
use Rattle.permission_sheet.specs.Rows.{rights_row}
use Rattle.permission_sheet.specs.Laws.Rows.{put-stored}
use Rattle.permission_weight.specs.Laws.{weight-small}
use Rattle.permission_sheet.proofs.row.store_rights.Goals as goal

pub score-requires : goal.score-requires
score-requires c = let l = c.args.lines in let h : l.head.a ≤ 255 = c.requires.2 in let s = weight-small l.head.a l.user.a l.target.a h in omega (arith, s, c.weight.ensures)

pub returns : goal.returns
unfolding rights_row
returns c =
    let A = c.args in
    let P = c.requires in
    rw (c.score.ensures, c.weight.ensures, c.digest.ensures, c.bytes.ensures)
    (put-stored A.rights.now (A.k * 8) (rights_row A.p.now A.lines) (omega (arith, P.0, P.1)))
