use Prim.Native.Nat.{ℕ, ◌+◌, ◌*◌, ◌≤◌}
use mathlib.Core.Path.{◌≡◌, refl, sym, ap, ◌∙◌, subst}
use mathlib.Core.Bool.{true, false}
use mathlib.Core.List.{List}
use native.Mathlib.Omega.{arith}
use lib.ListN.{length, set, length-set}
use Rattle.sheet_line.specs.Laws.{lines_by, taken-lines, taken-fits-line}
use Rattle.filter_lines.specs.Lines.{LINES}
use Rattle.filter_lines.specs.Laws.Lines.{Noting, noting-start, noting-on, beyond-start, beyond-on, lines_noted, noted-length, room-left, room-on}
use Rattle.filter_lines.proofs.lines.note.Goals as goal

pub loop-x-init : goal.loop-x-init
loop-x-init c =
    let a = c.args in
    let size = c.requires.2 in
    (length-set a.rows.now 3 a.at ∙ size, omega arith, omega arith, noting-start a.schema.now a.w a.q.now a.rows.now a.at (omega (arith, size)), λ i l d. refl)

pub note_line-requires : goal.note_line-requires
note_line-requires c = omega (arith, (let a = c.args in let L = c.loop-x in let f = (taken-fits-line c.args.w c.args.q.now c.loop-x.j ((sym c.take.ensures ∙ c.in-Line.is))) in room-left (5 * a.w + 1) L.n LINES L.j c.in-Line.x.length (length a.q.now) (omega arith) L.invariant.2 (omega (arith, f.place, f.next, f.within)) c.requires.1))

pub loop-x-smaller : goal.loop-x-smaller
loop-x-smaller c = let f = (taken-fits-line c.args.w c.args.q.now c.loop-x.j ((sym c.take.ensures ∙ c.in-Line.is))) in omega (arith, f.place, f.next, f.within)

pub loop-x-preserved : goal.loop-x-preserved
loop-x-preserved c =
    let a = c.args in
    let L = c.loop-x in
    let x = c.in-Line.x in
    let f = (taken-fits-line c.args.w c.args.q.now c.loop-x.j ((sym c.take.ensures ∙ c.in-Line.is))) in
    let r = (let a = c.args in let L = c.loop-x in let x = c.in-Line.x in let f = (taken-fits-line c.args.w c.args.q.now c.loop-x.j ((sym c.take.ensures ∙ c.in-Line.is))) in room-left (5 * a.w + 1) L.n LINES L.j c.in-Line.x.length (length a.q.now) (omega arith) L.invariant.2 (omega (arith, f.place, f.next, f.within)) c.requires.1) in
    let m : L.n * 6 + 12 ≤ length L.rows = omega (arith, r, L.invariant.0) in
    let k = c.note_line.ensures in
    let n : c.in-Line.x.next ≡ L.j + (5 * a.w + 1 + c.in-Line.x.length) = omega (arith, f.place, f.next) in (
      ap length k ∙ noted-length L.rows (L.n * 6) _ _ _ _ _ _ ∙ L.invariant.0,
      omega (arith, r),
      omega (arith, n, room-on (5 * a.w + 1) L.n L.j c.in-Line.x.length L.invariant.2),
      subst (λ (y : List ℕ). Noting a.schema.now a.w a.q.now y a.at (L.n + 1) c.in-Line.x.next) (sym k) (noting-on a.schema.now a.w a.q.now L.rows a.at L.n L.j L.invariant.3 m x ((sym c.take.ensures ∙ c.in-Line.is)) _ c.rank.ensures),
      beyond-on (set a.rows.now 3 a.at) L.rows _ L.n c.in-Line.x.kind c.in-Line.x.a c.in-Line.x.b c.in-Line.x.place _ c.in-Line.x.next k L.invariant.4,
    )

pub returns-in-NotInForm : goal.returns-in-NotInForm
returns-in-NotInForm c =
    let a = c.args in
    let L = c.loop-x in
    let e = taken-lines a.w a.q.now L.j ∙ ap (lines_by a.w a.q.now) (sym c.take.ensures ∙ c.in-NotInForm.is) in
    (lines_noted a.schema.now a.w a.q.now L.rows a.at L.n L.j L.invariant.3 (omega (arith, L.invariant.0, L.invariant.1)) L.invariant.1 true e, record { rank = L.invariant.3.rank }, L.invariant.3.first, beyond-start a.rows.now L.rows a.at L.n L.invariant.4)

pub returns-in-End : goal.returns-in-End
returns-in-End c =
    let a = c.args in
    let L = c.loop-x in
    let e = taken-lines a.w a.q.now L.j ∙ ap (lines_by a.w a.q.now) (sym c.take.ensures ∙ c.in-End.is) in
    (lines_noted a.schema.now a.w a.q.now L.rows a.at L.n L.j L.invariant.3 (omega (arith, L.invariant.0, L.invariant.1)) L.invariant.1 false e, record { rank = L.invariant.3.rank }, L.invariant.3.first, beyond-start a.rows.now L.rows a.at L.n L.invariant.4)
