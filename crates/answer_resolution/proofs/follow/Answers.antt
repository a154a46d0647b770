use Rattle.std.proofs.Common.{rules, arith, subst}
use Rattle.tables.specs.Book.{entry_count, width}
use Rattle.answer_resolution.specs.Resolution.{EndsWithin}
use Rattle.answer_resolution.specs.Laws.Resolved.{told-few, following-start, following-end, following-none, following-on}
use Rattle.answer_resolution.proofs.follow.Goals as goal

pub loop-more-init : goal.loop-more-init
loop-more-init c = (c.replaced-parts.ensures.0, omega arith, following-start _ _ _ c.requires.0 _ _ _ _ _ _ c.replaced-parts.ensures.1)

pub returns-in-End : goal.returns-in-End
returns-in-End c = let b = c.args.book.now in let L = c.loop-more in following-end _ _ _ L.invariant.2 c.way_down.ensures.1 c.in-End.is (subst (EndsWithin (entry_count b) (width b) L.name L.parts) c.in-End.is c.way_down.ensures.0)

pub returns-then-more-eq0 : goal.returns-then-more-eq0
returns-then-more-eq0 c = let b = c.args.book.now in let L = c.loop-more in let W = subst (EndsWithin (entry_count b) (width b) L.name L.parts) c.in-Alias.is c.way_down.ensures.0 in following-none _ _ _ L.invariant.2 c.way_down.ensures.1 c.in-Alias.is W.0 c.if-more-eq0.true

pub replaced-parts-requires-in-Alias : goal.replaced-parts-requires-in-Alias
replaced-parts-requires-in-Alias c = let b = c.args.book.now in let L = c.loop-more in let W = subst (EndsWithin (entry_count b) (width b) L.name L.parts) c.in-Alias.is c.way_down.ensures.0 in let P = c.requires.0 in ((P.2.0, P.2.1, P.1, P.2.2.entries), W.0, W.1, told-few _ _ _ P L.name 0 L.parts c.way_down.ensures.1 L.invariant.2.full c.in-Alias.is W.2, W.3, search rules)

pub loop-more-preserved : goal.loop-more-preserved
loop-more-preserved c = let b = c.args.book.now in let L = c.loop-more in let W = subst (EndsWithin (entry_count b) (width b) L.name L.parts) c.in-Alias.is c.way_down.ensures.0 in (c.replaced-parts-in-Alias.ensures.0, omega (arith, c.if-more-eq0.false), following-on _ _ _ L.invariant.2 c.way_down.ensures.1 c.in-Alias.is W.0 c.requires.0 c.if-more-eq0.false _ _ c.replaced-parts-in-Alias.ensures.1)

pub returns-after-loop-more : goal.returns-after-loop-more
returns-after-loop-more c = absurd (omega (arith, c.loop-more.invariant.1, c.loop-more-test.false))
