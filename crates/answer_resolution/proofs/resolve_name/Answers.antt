use mathlib.Core.Path.{sym, subst}
use mathlib.Core.Option.{Option}
use Rattle.rules.specs.Name.{Name}
use Rattle.tables.specs.Book.{entry_count, width}
use Rattle.answer_resolution.specs.Resolution.{EndsWithin, Resolves}
use Rattle.answer_resolution.specs.Laws.Resolved.{told-few, told-end, told-on}
use Rattle.answer_resolution.proofs.resolve_name.Goals as goal

pub follow-requires : goal.follow-requires
follow-requires c = let A = c.args in let b = A.book.now in let W = subst (EndsWithin (entry_count b) (width b) A.q.now A.parts) c.in-Alias.is c.way_down.ensures.0 in (c.requires.0, W.0, W.1, told-few _ _ _ c.requires.0 A.q.now A.place A.parts c.way_down.ensures.1 c.requires.1 c.in-Alias.is W.2, W.3)

pub returns-in-End : goal.returns-in-End
returns-in-End c = let A = c.args in let b = A.book.now in λ σ es p held M. told-end _ _ _ A.q.now A.place A.parts c.way_down.ensures.1 c.requires.1 c.in-End.is (subst (EndsWithin (entry_count b) (width b) A.q.now A.parts) c.in-End.is c.way_down.ensures.0) 8 σ es p held M

pub returns-in-Alias : goal.returns-in-Alias
returns-in-Alias c = let A = c.args in let b = A.book.now in let W = subst (EndsWithin (entry_count b) (width b) A.q.now A.parts) c.in-Alias.is c.way_down.ensures.0 in λ σ es p held M. subst (λ (o : Option Name). Resolves σ es o c.follow.result) (sym (told-on _ _ _ A.q.now A.place A.parts c.way_down.ensures.1 c.requires.1 c.in-Alias.is W.0 8 σ es p held M)) (c.follow.ensures σ es p held M)
