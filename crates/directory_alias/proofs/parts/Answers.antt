use mathlib.Core.Path.{◌≡◌, refl, sym, ap, subst, ◌∙◌}
use mathlib.Core.List.{[], ◌∷◌, ◌++◌}
use Rattle.std.proofs.lemmas.Result.{err_from_is_err_and}
use Rattle.rules.proofs.Laws.Refusals.{refusal-some}
use Prim.Native.Nat.{ℕ, ◌+◌, ◌-◌}
use native.Mathlib.Omega.{arith}
use Rattle.rules.specs.Name.{part}
use Rattle.sheet_line.specs.Line.{bytes_of}
use Rattle.sheet_line.specs.Laws.{taken-fits-line}
use Rattle.directory_alias.specs.Target.{PartsRead, target_refused}
use Rattle.directory_alias.specs.Laws.Target.{parts-start, parts-bounds, parts-ended, parts-absent, parts-refused, parts_more}
use Rattle.directory_alias.proofs.parts.Goals as goal

pub loop-k-init : goal.loop-k-init
loop-k-init c complete d o =
    let z : c.args.line.b ≡ c.args.line.b - 0 = omega arith in
    ([], subst (λ (k : ℕ). PartsRead c.args.f c.args.s.now c.args.schema.now c.args.e c.args.line k c.args.line.next complete d []) z (parts-start c.requires o))

pub take-taken-requires : goal.take-taken-requires
take-taken-requires c = c.requires.asked.owed.usable.most

pub overflow_mul-result : goal.overflow_mul-result
overflow_mul-result c = omega (arith, parts-bounds c.requires)

pub overflow_add-result : goal.overflow_add-result
overflow_add-result c = omega (arith, parts-bounds c.requires)

pub take-requires : goal.take-requires
take-requires c = c.requires.asked.owed.usable.most

pub returns : goal.returns
returns c complete d o = parts-ended c.requires o (c.loop-k.invariant complete d o).1 (omega (arith, c.loop-k-test.false)) c.take.ensures

pub returns-in_default : goal.returns-in_default
returns-in_default c complete d o = parts-absent c.requires o (c.loop-k.invariant complete d o).1 (λ z. omega (arith, c.loop-k-test.true, z)) c.take-taken.ensures (ap target_refused c.absent.ensures) (c.in_default.not-Line)

pub part_line-requires : goal.part_line-requires
part_line-requires c =
    let A = c.args in
    let h = taken-fits-line _ A.s.now c.loop-k.at (sym c.take-taken.ensures ∙ c.in-Line.is) in
    omega (arith, h.next, h.within)

pub returns-in_err-part_line : goal.returns-in_err-part_line
returns-in_err-part_line c complete d o =
    let p = err_from_is_err_and c.from_residual.result c.from_residual.ensures.1 in
    rw (p.1, p.2) (parts-refused c.requires o (c.loop-k.invariant complete d o).1 (λ z. omega (arith, c.loop-k-test.true, z)) (sym c.take-taken.ensures ∙ c.in-Line.is) c.in_err-part_line.ensures (refusal-some _) refl)

pub loop-k-preserved : goal.loop-k-preserved
loop-k-preserved c complete d o =
    let A = c.args in
    let y = c.in-Line.part in
    let g = c.loop-k.invariant complete d o in
    let z : A.line.b - c.loop-k._k - 1 ≡ A.line.b - (c.loop-k._k + 1) = omega arith in (
      _,
      subst (λ (k : ℕ). PartsRead A.f A.s.now A.schema.now A.e A.line k y.next complete d (g.0 ++ (part y.a (bytes_of A.s.now y) ∷ []))) z
          (parts_more c.requires o g.1 (λ z. omega (arith, c.loop-k-test.true, z)) (sym c.take-taken.ensures ∙ c.in-Line.is) c.in_ok-part_line.ensures refl),
    )
