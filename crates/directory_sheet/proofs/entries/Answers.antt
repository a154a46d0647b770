use Rattle.std.proofs.lemmas.Result.{err_from_is_err_and}
use Rattle.rules.proofs.Laws.Refusals.{refusal-some}
use Rattle.directory_sheet.specs.Laws.Entries.{answer-refused, standing-start, standing-short, standing-ended}
use Rattle.directory_sheet.specs.Laws.Entry.{standing-refused, standing-room, standing-asked, standing-lost, standing-owed, standing-cut, standing_on, standing-further}
use Rattle.directory_duplicates.specs.Laws.Rulings.{line-within}
use Rattle.sheet_line.specs.Laws.{taken-fits-line}
use Rattle.rules.specs.Judge.{refuse}
use mathlib.Core.Option.{none}
use mathlib.Core.List.{[]}
use mathlib.Core.Path.{refl, sym, ap, ◌∙◌}
use native.Mathlib.Omega.{arith}
use Prim.Native.Nat.{ℕ, ◌+◌, ◌*◌, ◌<◌}
use mir.Syntax.{w64}
use mir.Val.{Fits}
use Rattle.directory_sheet.proofs.entries.Goals as goal

-- numbers made of a place below 256
module _ {n : ℕ} (h : n < 256) where
  within-next : n < 257
  within-next = omega arith

  next-within : n + 1 < 257
  next-within = omega arith

  next_fits : Fits w64 (n + 1)
  next_fits = omega arith

  place-fits : Fits w64 (n * 8)
  place-fits = omega arith

  next-place-fits : Fits w64 ((n + 1) * 8)
  next-place-fits = omega arith

pub loop-taken-init : goal.loop-taken-init
loop-taken-init c = ([], none, [], standing-start c.requires)

pub returns-in_err-ended : goal.returns-in_err-ended
returns-in_err-ended c = let st = c.loop-taken.invariant.3 in let e = c.in_err-ended.ensures in
    let p = err_from_is_err_and c.from_residual.result c.from_residual.ensures.1 in
    rw (p.1, p.2) (answer-refused _ _ st.ready.sheet _ _ refl (standing-short st (c.in_default.not-Line) (λ q. refusal-some _ (e ∙ q)) ∙ ap refuse (sym e)))

pub returns-in_default : goal.returns-in_default
returns-in_default c = standing-ended c.loop-taken.invariant.3 (c.in_default.not-Line) (sym c.in_ok-ended.ensures)

pub entry_line-requires : goal.entry_line-requires
entry_line-requires c = let st = c.loop-taken.invariant.3 in
    let f = taken-fits-line _ c.args.s.now c.loop-taken.at (sym st.stands ∙ c.in-Line.is) in
    (record { all = c.loop-taken.invariant.2; ready = st.ready; within = line-within f }, st.counted.most, st.sized.levels)

pub returns-in_err-x : goal.returns-in_err-x
returns-in_err-x c = let L = c.loop-taken in
    let p = err_from_is_err_and c.from_residual-in_err-x.result c.from_residual-in_err-x.ensures.1 in
    rw (p.1, p.2) (answer-refused _ _ L.invariant.3.ready.sheet _ _ refl (standing-refused L.invariant.3 c.in-Line.is c.in_err-x.ensures (refusal-some _)))

pub note-requires : goal.note-requires
note-requires c = ((standing-room c.loop-taken.invariant.3 c.in-Line.is c.in_ok-x.ensures refl)).4

pub overflow_add-e : goal.overflow_add-e
overflow_add-e c = next_fits ((standing-room c.loop-taken.invariant.3 c.in-Line.is c.in_ok-x.ensures refl)).0

pub offset_bounds-notes-count : goal.offset_bounds-notes-count
offset_bounds-notes-count c = place-fits ((standing-room c.loop-taken.invariant.3 c.in-Line.is c.in_ok-x.ensures refl)).0

pub bounds-notes-count : goal.bounds-notes-count
bounds-notes-count c = within-next ((standing-room c.loop-taken.invariant.3 c.in-Line.is c.in_ok-x.ensures refl)).0

pub overflow_add-n : goal.overflow_add-n
overflow_add-n c = omega (arith, ((standing-room c.loop-taken.invariant.3 c.in-Line.is c.in_ok-x.ensures refl)).3)

pub values-requires : goal.values-requires
values-requires c = standing-asked c.loop-taken.invariant.3 c.in-Line.is c.in_ok-x.ensures refl c.note.ensures

pub returns-in_err-run : goal.returns-in_err-run
returns-in_err-run c =
    let p = err_from_is_err_and c.from_residual-in_err-run.result c.from_residual-in_err-run.ensures.1 in
    rw (p.1, p.2) (answer-refused _ _ c.loop-taken.invariant.3.ready.sheet _ _ refl (standing-lost c.loop-taken.invariant.3 c.in-Line.is c.in_ok-x.ensures refl c.note.ensures c.in_err-run.ensures (refusal-some _)))

pub overflow_add-last : goal.overflow_add-last
overflow_add-last c = next_fits ((standing-room c.loop-taken.invariant.3 c.in-Line.is c.in_ok-x.ensures refl)).0

pub target-requires : goal.target-requires
target-requires c = standing-owed c.loop-taken.invariant.3 c.in-Line.is c.in_ok-x.ensures refl c.note.ensures c.in_ok-run.ensures refl

pub returns-in_err-t : goal.returns-in_err-t
returns-in_err-t c =
    let p = err_from_is_err_and c.from_residual-in_err-t.result c.from_residual-in_err-t.ensures.1 in
    rw (p.1, p.2) (answer-refused _ _ c.loop-taken.invariant.3.ready.sheet _ _ refl (standing-cut c.loop-taken.invariant.3 c.in-Line.is c.in_ok-x.ensures refl c.note.ensures c.in_ok-run.ensures refl c.in_err-t.ensures (refusal-some _)))

pub offset_bounds-notes-count-in-loop-taken : goal.offset_bounds-notes-count-in-loop-taken
offset_bounds-notes-count-in-loop-taken c = place-fits ((standing-room c.loop-taken.invariant.3 c.in-Line.is c.in_ok-x.ensures refl)).0

pub bounds-notes-count-in-loop-taken : goal.bounds-notes-count-in-loop-taken
bounds-notes-count-in-loop-taken c = ((standing-room c.loop-taken.invariant.3 c.in-Line.is c.in_ok-x.ensures refl)).0

pub offset_bounds-notes-count-in-loop-taken-2 : goal.offset_bounds-notes-count-in-loop-taken-2
offset_bounds-notes-count-in-loop-taken-2 c = place-fits ((standing-room c.loop-taken.invariant.3 c.in-Line.is c.in_ok-x.ensures refl)).0

pub bounds-notes-count-in-loop-taken-2 : goal.bounds-notes-count-in-loop-taken-2
bounds-notes-count-in-loop-taken-2 c = ((standing-room c.loop-taken.invariant.3 c.in-Line.is c.in_ok-x.ensures refl)).0

pub offset_bounds-notes-count-in-loop-taken-3 : goal.offset_bounds-notes-count-in-loop-taken-3
offset_bounds-notes-count-in-loop-taken-3 c = place-fits ((standing-room c.loop-taken.invariant.3 c.in-Line.is c.in_ok-x.ensures refl)).0

pub bounds-notes-count-in-loop-taken-3 : goal.bounds-notes-count-in-loop-taken-3
bounds-notes-count-in-loop-taken-3 c = ((standing-room c.loop-taken.invariant.3 c.in-Line.is c.in_ok-x.ensures refl)).0

pub offset_bounds-notes-count-in-loop-taken-4 : goal.offset_bounds-notes-count-in-loop-taken-4
offset_bounds-notes-count-in-loop-taken-4 c = place-fits ((standing-room c.loop-taken.invariant.3 c.in-Line.is c.in_ok-x.ensures refl)).0

pub bounds-notes-count-in-loop-taken-4 : goal.bounds-notes-count-in-loop-taken-4
bounds-notes-count-in-loop-taken-4 c = ((standing-room c.loop-taken.invariant.3 c.in-Line.is c.in_ok-x.ensures refl)).0

pub overflow_add-notes : goal.overflow_add-notes
overflow_add-notes c = next_fits ((standing-room c.loop-taken.invariant.3 c.in-Line.is c.in_ok-x.ensures refl)).0

pub offset_bounds-notes-count-in-loop-taken-5 : goal.offset_bounds-notes-count-in-loop-taken-5
offset_bounds-notes-count-in-loop-taken-5 c = next-place-fits ((standing-room c.loop-taken.invariant.3 c.in-Line.is c.in_ok-x.ensures refl)).0

pub bounds-notes-count-in-loop-taken-5 : goal.bounds-notes-count-in-loop-taken-5
bounds-notes-count-in-loop-taken-5 c = next-within ((standing-room c.loop-taken.invariant.3 c.in-Line.is c.in_ok-x.ensures refl)).0

pub offset_bounds-notes-count-in-loop-taken-6 : goal.offset_bounds-notes-count-in-loop-taken-6
offset_bounds-notes-count-in-loop-taken-6 c = place-fits ((standing-room c.loop-taken.invariant.3 c.in-Line.is c.in_ok-x.ensures refl)).0

pub bounds-notes-count-in-loop-taken-6 : goal.bounds-notes-count-in-loop-taken-6
bounds-notes-count-in-loop-taken-6 c = ((standing-room c.loop-taken.invariant.3 c.in-Line.is c.in_ok-x.ensures refl)).0

pub overflow_add-notes-in-loop-taken : goal.overflow_add-notes-in-loop-taken
overflow_add-notes-in-loop-taken c = next_fits ((standing-room c.loop-taken.invariant.3 c.in-Line.is c.in_ok-x.ensures refl)).0

pub offset_bounds-depths-p : goal.offset_bounds-depths-p
offset_bounds-depths-p c = omega (arith, ((standing-room c.loop-taken.invariant.3 c.in-Line.is c.in_ok-x.ensures refl)).0, ((standing-room c.loop-taken.invariant.3 c.in-Line.is c.in_ok-x.ensures refl)).1)

pub bounds-depths-p : goal.bounds-depths-p
bounds-depths-p c = omega (arith, ((standing-room c.loop-taken.invariant.3 c.in-Line.is c.in_ok-x.ensures refl)).0, ((standing-room c.loop-taken.invariant.3 c.in-Line.is c.in_ok-x.ensures refl)).1, c.loop-taken.invariant.3.sized.levels)

pub level-requires : goal.level-requires
level-requires c = ((standing-room c.loop-taken.invariant.3 c.in-Line.is c.in_ok-x.ensures refl)).2

pub overflow_add-depths : goal.overflow_add-depths
overflow_add-depths c = next_fits ((standing-room c.loop-taken.invariant.3 c.in-Line.is c.in_ok-x.ensures refl)).0

pub offset_bounds-depths-count : goal.offset_bounds-depths-count
offset_bounds-depths-count c = next-place-fits ((standing-room c.loop-taken.invariant.3 c.in-Line.is c.in_ok-x.ensures refl)).0

pub bounds-depths-count : goal.bounds-depths-count
bounds-depths-count c = next-within ((standing-room c.loop-taken.invariant.3 c.in-Line.is c.in_ok-x.ensures refl)).0

pub loop-taken-smaller : goal.loop-taken-smaller
loop-taken-smaller c = standing-further c.loop-taken.invariant.3 c.in-Line.is c.in_ok-x.ensures refl c.note.ensures c.in_ok-run.ensures refl c.in_ok-t.ensures refl

pub loop-taken-preserved : goal.loop-taken-preserved
loop-taken-preserved c = standing_on c.loop-taken.invariant.3 c.in-Line.is c.in_ok-x.ensures refl c.note.ensures c.in_ok-run.ensures refl c.in_ok-t.ensures refl c.level.ensures
