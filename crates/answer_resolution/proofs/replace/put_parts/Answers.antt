use Rattle.std.proofs.Common.{arith, ◌≡◌, ℕ, ◌+◌, ◌-◌, ◌<◌, [], refl, sym, ◌∙◌}
use Rattle.rules.specs.Sheet.{Bytes}
use Rattle.sheet_line.specs.Line.{taken_at}
use Rattle.sheet_line.specs.Laws.{taken-fits-line}
use Rattle.sheet_line.specs.declared.Line.{Line}
use Rattle.sheet_line.specs.declared.Taken.{Taken}
use Rattle.sheet_write.specs.Laws.Writing.{writing_start, writing-room, writing-on, writing-done}
use Rattle.answer_resolution.specs.Resolution.{part_bytes}
use Rattle.answer_resolution.specs.Laws.Replace.{bytes-none, bytes-broken, bytes-end, bytes_on}
use Rattle.answer_resolution.proofs.replace.put_parts.Goals as goal

-- where no line is taken, no part is left
bytes-lost : (w : ℕ) (s : Bytes) (j left : ℕ) → 0 < left → ((x : Line) → taken_at w s j ≡ Taken.Line x → ⊥) → part_bytes w s j left ≡ []
bytes-lost w s j left more lost = go (taken_at w s j) refl
  where
    go : (t : Taken) → taken_at w s j ≡ t → part_bytes w s j left ≡ []
    go (Taken.Line x) e = absurd (lost x e)
    go Taken.NotInForm e = bytes-broken w s j left more e
    go Taken.End e = bytes-end w s j left more e

pub loop-init : goal.loop-init
loop-init c = let all : c.args.n - 0 ≡ c.args.n = omega arith in rw all (writing_start _ _ _ c.requires.2)

pub bytes-requires : goal.bytes-requires
bytes-requires c = let f = taken-fits-line c.args.w c.args.s.now c.loop.j (sym c.take.ensures ∙ c.in-Line.is) in omega (arith, f.next, f.within)

pub put_line-to-requires : goal.put_line-to-requires
put_line-to-requires c = let L = c.loop in let on = bytes_on _ _ L.j (c.args.n - L.counter) (omega arith) (sym c.take.ensures ∙ c.in-Line.is) in (c.requires.0, rw c.bytes.ensures (writing-room L.invariant _ _ _ on))

pub loop-preserved : goal.loop-preserved
loop-preserved c = let L = c.loop in let b = c.bytes.ensures in
    let one : c.args.n - (L.counter + 1) ≡ c.args.n - L.counter - 1 = omega arith in
    let on = bytes_on _ _ L.j (c.args.n - L.counter) (omega arith) (sym c.take.ensures ∙ c.in-Line.is) in
    rw one (writing-on L.invariant _ _ _ on (rw (← b) c.put_line-to.ensures.next) (rw (← b) c.put_line-to.ensures.written))

pub returns-in_default : goal.returns-in_default
returns-in_default c = let L = c.loop in let d = writing-done L.invariant (bytes-lost _ _ _ (c.args.n - L.counter) (omega arith) (λ x e. c.in_default.not-Line x (c.take.ensures ∙ e))) in record { next = d.0; written = d.1 }

pub returns : goal.returns
returns c = let L = c.loop in let d = writing-done L.invariant (bytes-none _ _ _ (c.args.n - L.counter) (omega arith)) in record { next = d.0; written = d.1 }
