-- The columns, the bytes after them, and byte 10 after those.
use Prim.Native.Nat.{◌+◌}
use native.Mathlib.Omega.{arith}
use lib.ListN.{length, length-set}
use Rattle.rules.specs.Sheet.{line}
use Rattle.sheet_write.specs.Laws.Put.{put-line}
use Rattle.sheet_write.proofs.put_numbered.Goals as goal

pub shape_of-out : goal.shape_of-out
shape_of-out c = omega (arith, length-set c.put.new.out (c.put_numbers-from.result + length c.args.bytes.now) 10)

pub returns-clause-written : goal.returns-clause-written
returns-clause-written c =
    let A = c.args in
    let from = c.put_numbers-from.result in
    let r = c.put_numbers-from.ensures in
    put-line A.out.now A.at A.w (line A.k A.a A.b A.c A.bytes.now) c.requires.1 from r.0 r.1 c.put.ensures (omega arith)
