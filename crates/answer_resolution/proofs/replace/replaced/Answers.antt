use Prim.Native.Nat.{◌-◌, ◌/◌, ◌%◌}
use mathlib.Core.Path.{ap, ◌∙◌}
use lib.ListN.{length}
use native.Mathlib.Omega.{arith}
use Rattle.tables.specs.Book.{width, target_at}
use Rattle.answer_resolution.specs.Resolution.{part_bytes}
use Rattle.answer_resolution.specs.Laws.Replace.{bytes-room, target-few, target-parts, target-count, replaced-size, replaced-holds}
use Rattle.sheet_write.specs.Laws.Put.{put-length}
use Rattle.answer_resolution.proofs.replace.replaced.Goals as goal

pub put_parts-at-requires : goal.put_parts-at-requires
put_parts-at-requires c = let P = c.requires in let A = c.args in let E = P.0.3 in let x = target_at A.book.now (A.e - 1) in (omega (arith, E.fits.narrow), E.fits.wide, omega (arith, bytes-room (width A.book.now) E.fits.wide A.d.now (x % 16) (x / 16), P.5))

pub put_parts-requires : goal.put_parts-requires
put_parts-requires c = let P = c.requires in let E = P.0.3 in let A = c.args in let x = target_at A.book.now (A.e - 1) in let r = bytes-room (width A.book.now) E.fits.wide A.d.now (x % 16) (x / 16) in let t = target-few E A.e P.1 P.2 in let k = ap length c.put_parts-at.ensures.written ∙ put-length _ 0 (part_bytes (width A.book.now) A.d.now (x / 16) (x % 16)) (omega (arith, r, t, P.5)) in (omega (arith, E.fits.narrow), E.fits.wide, omega (arith, c.put_parts-at.ensures.next, r, bytes-room (width A.book.now) E.fits.wide A.s.now A.left A.next, t, P.3, P.5, k))

pub returns : goal.returns
returns c = let A = c.args in let b = A.book.now in let x = target_at b (A.e - 1) in (let E = c.requires.0.3 in replaced-size (width b) E.fits.narrow E.fits.wide A.d.now A.s.now (x / 16) (x % 16) A.next A.left _ _ _ _ (omega (arith, c.requires.5, c.requires.3, target-few E A.e c.requires.1 c.requires.2)) c.put_parts-at.ensures.next c.put_parts-at.ensures.written c.put_parts.ensures.written ∙ c.requires.5, λ σ es held E. replaced-holds (width b) E.fits.narrow E.fits.wide A.d.now A.s.now (x / 16) (x % 16) A.next A.left _ _ _ _ (omega (arith, c.requires.5, c.requires.3, target-few E A.e c.requires.1 c.requires.2)) c.put_parts-at.ensures.next c.put_parts-at.ensures.written c.put_parts.ensures.written (target-count E A.e c.requires.1 c.requires.2) c.requires.4 (target-parts E A.e c.requires.1 c.requires.2))
