-- Letters lose their case in each byte apart.
use Prim.Native.Nat.{◌<◌}
use native.Mathlib.Omega.{arith}
use Rattle.value_syntax.specs.Laws.Digest.{word-at-once, word_bound}
use Rattle.value_syntax.proofs.digest.word.Goals as goal

pub returns : goal.returns
returns c =
    let A = c.args in
    let h : (A.a < 256) × ((A.b < 256) × (A.c < 256)) = (omega arith, (omega arith, omega arith)) in
    let e = word-at-once A.a A.b A.c A.d h in
    (e, omega (arith, e, word_bound A.a A.b A.c A.d h (omega arith)))
