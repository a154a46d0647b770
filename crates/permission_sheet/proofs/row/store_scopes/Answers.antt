-- The stores, one after the other, are the row in its place.
use Prim.Native.Nat.{◌*◌}
use native.Mathlib.Omega.{arith}
use Rattle.permission_sheet.specs.Rows.{scopes_row}
use Rattle.permission_sheet.specs.Laws.Rows.{put-stored}
use Rattle.permission_sheet.proofs.row.store_scopes.Goals as goal

pub returns : goal.returns
unfolding scopes_row
returns c = let A = c.args in put-stored A.scopes.now (A.k * 7) (scopes_row A.lines) (omega (arith, c.requires))
