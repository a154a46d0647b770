-- The answer is that of the K 1 lines where they are refused, and that of `entries` after them.
use Prim.Native.Nat.{◌-◌}
use Rattle.std.proofs.lemmas.Result.{err_from_is_err_and}
use Rattle.rules.proofs.Laws.Refusals.{refusal-some}
use Rattle.directory_sheet.specs.Laws.Entries.{answer-long, answer-refused, emptied, opened}
use mathlib.Core.Path.{◌≡◌, refl, sym, ◌∙◌}
use Rattle.std.specs.Prelude.{Ok}
use Rattle.directory_schema.specs.Types.{types_noted}
use native.Mathlib.Omega.{arith}
use Rattle.directory_sheet.proofs.judge.Goals as goal

pub returns-then-s-gt65536 : goal.returns-then-s-gt65536
returns-then-s-gt65536 c = answer-long _ _ _ c.requires.1 c.if-s-gt65536.true

pub returns-in_err-t : goal.returns-in_err-t
returns-in_err-t c =
    let p = err_from_is_err_and c.from_residual.result c.from_residual.ensures.1 in
    rw (p.1, p.2) (answer-refused _ _ c.if-s-gt65536.false _ _ c.requires.1 (c.in_err-t.ensures.refused (refusal-some _)).sheet)

pub slice_bounds-entries-end : goal.slice_bounds-entries-end
slice_bounds-entries-end c = let t = c.in_ok-t.ensures.ended refl in omega (arith, t.read.most, t.read.room)

pub entries-requires : goal.entries-requires
entries-requires c =
    let t = c.in_ok-t.t in
    let e : t.count - 0 ≡ t.count = omega arith in
    rw e (opened _ _ _ (types_noted (Ok t)) _ c.if-s-gt65536.false c.requires c.blank-notes.ensures (c.in_ok-t.ensures.ended refl))

pub returns-in-Ok : goal.returns-in-Ok
returns-in-Ok c = c.in-Ok.ensures

pub returns-in-Err : goal.returns-in-Err
returns-in-Err c = c.in-Err.ensures
