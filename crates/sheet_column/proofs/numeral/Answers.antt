-- The three ways of a numeral: nothing after the spaces, a zero with more after it, or digits.
use Rattle.std.proofs.Common.{sym, ap, arith, ◌≡◌, ◌-◌, length, take, drop}
use Rattle.std.proofs.lemmas.Grind.{common_steps}
use Rattle.rules.specs.Sheet.{digits}
use Rattle.sheet_column.specs.Laws.{column-empty, column-zero, column-one, column-many, coded_none, coded-same}
use Rattle.sheet_column.proofs.numeral.Goals as goal
use Rattle.sheet_column.proofs.numeral.Goals.{then-s-at-eq48+else-at-s-2, else-s-at-eq48}

pub returns-then-at-s : goal.returns-then-at-s
returns-then-at-s c = coded_none (column-empty c.args.s.now c.spaces-at.result c.spaces-at.ensures.1 (omega arith))

pub returns-then-at-s-2 : goal.returns-then-at-s-2
returns-then-at-s-2 c = coded_none (column-zero _ _ c.spaces-at.ensures.1 c.if-s-at-eq48.true c.if-at-s-2.true)

pub returns : goal.returns
returns c =
    let l = c.args.s.now in
    let k = c.spaces-at.result in
    let e = c.spaces-at.ensures.1 in
    let n : take (length l - k) (drop k l) ≡ drop k l = grind (arith, common_steps) in
    let r = coded-same (ap (digits 0) n) c.number.ensures in
    elim c.if-s-at-eq48.branch [
      | then-s-at-eq48+else-at-s-2 w ↦ coded-same (sym (column-one l k e (omega arith) w.if-at-s-2.false)) r
      | else-s-at-eq48 w ↦ coded-same (sym (column-many l k e (omega arith) w.if-s-at-eq48.false)) r
    ]
