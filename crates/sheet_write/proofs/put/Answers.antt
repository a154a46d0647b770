-- One byte more is written.
use Prim.Native.Nat.{ℕ, ◌+◌, ◌<◌}
use mathlib.Core.Path.{ap, ◌∙◌}
use mathlib.Core.List.{List}
use native.Mathlib.Omega.{arith}
use native.Mathlib.Numerals.{add-one}
use lib.ListN.{length, set, get_or}
use lib.Seq.{paste-zero, paste-suc}
use Rattle.sheet_write.specs.Laws.Put.{put-done}
use Rattle.sheet_write.proofs.put.Goals as goal

pub loop-i-init : goal.loop-i-init
loop-i-init c = paste-zero c.args.out.now c.args.at c.args.src.now

pub loop-i-preserved : goal.loop-i-preserved
loop-i-preserved c =
    let A = c.args in
    let L = c.loop-i in
    let h : A.at + L.i < length A.out.now = omega arith in
    ap (λ (x : List ℕ). set x (A.at + L.i) (get_or A.src.now L.i 0)) L.invariant ∙ rw add-one (paste-suc A.out.now A.at A.src.now L.i 0 h c.loop-i-test.true)

pub returns : goal.returns
returns c =
    let A = c.args in
    let L = c.loop-i in
    L.invariant ∙ put-done A.out.now A.at A.src.now L.i (omega arith)
