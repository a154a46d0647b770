use Rattle.std.specs.Prelude.{Some}
use Prim.Native.Nat.{ℕ, ◌≤◌}
use native.Mathlib.Omega.{arith}
use mathlib.Core.List.{List}
use mathlib.Core.Path.{sym, ap, ◌∙◌, subst}
use Rattle.rules.specs.Places.{ordering_by}
use Rattle.rules.specs.Value.{Found}
use Rattle.tables.specs.Book.{width, entry_count}
use Rattle.tables.specs.Laws.World.{known-entry}
use Rattle.tables.specs.Laws.Sound.{base-known, base-numbered}
use Rattle.answer_entry.specs.Passing.{over}
use Rattle.answer_entry.specs.Laws.Passing.{over-found}
use Rattle.answer_entry.specs.Laws.Whole.{none-sound, some-sound}
use Rattle.filter_lines.specs.Lines.{Typed}
use Rattle.answer_search.specs.Hits.{search_found}
use Rattle.answer_search.specs.Laws.Whole.{read_at_lem, search-none, search-some, search-unfound, found-by, found_below, arranged-indices, arranged-front}
use borrow.Author.Rules.{rules}
use Rattle.answer_search.proofs.search.Goals as goal

pub returns-in_default : goal.returns-in_default
returns-in_default c = let A = c.args in let P = c.requires in let b = A.book.now in (
  none-sound (entry_count b) A.sought.base A.sought.missing (base-numbered P.0) _ _ 4 c.absent.ensures,
  λ σ es g n s w q h. search-none σ es w.entries.accepted n A.sought.base A.sought.missing q _ _ c.in_default.is s c.absent.ensures,
  λ σ es g s w h. search-unfound σ es s A.sought.base _ c.in_default.is,
)

pub schema-requires : goal.schema-requires
schema-requires c = c.requires.0.3.entries.fits

pub bounds-book-0 : goal.bounds-book-0
bounds-book-0 c = omega (arith, c.requires.0.3.entries.fits.size)

pub note-lines-requires : goal.note-lines-requires
note-lines-requires c = let P = c.requires in (P.0.3.entries.fits.wide, P.2, search rules)

pub mask-requires : goal.mask-requires
mask-requires c = c.note-lines.ensures.0.placed.few

pub found-count-requires : goal.found-count-requires
found-count-requires c = let A = c.args in let P = c.requires in let b = A.book.now in let S = P.0 in let N = c.note-lines in let Q = P.3 in (
  record { setting = S.0; stored = S.1; world = S.3; base = S.2; walked = S.4.walked ∙ c.in-Some.is },
  P.1,
  N.ensures.0,
  subst (λ (x : List ℕ). Typed x N.new.rows N.result) c.schema.ensures N.ensures.1,
  c.mask.ensures,
  (Q.0, Q.1.filter, read_at_lem Q.0 (width b) A.q.now Q.1.filter N.ensures.2 Q.2.reads),
)

pub in_order-requires : goal.in_order-requires
in_order-requires c = let A = c.args in let P = c.requires in let b = A.book.now in let F = c.found-count in (base-known P.0, F.ensures.0.room, found_below (entry_count b) F.result _ _ F.ensures.0)

pub may_entry-open-requires : goal.may_entry-open-requires
may_entry-open-requires c = let P = c.requires in (omega arith, known-entry (base-known P.0) _ ((base-numbered P.0).found _ c.in-Some.is))

pub returns : goal.returns
returns c = let A = c.args in let P = c.requires in let b = A.book.now in let N = c.note-lines in let F = c.found-count in let O = c.in_order in
    let order = ordering_by A.query.order_type A.query.falling in
    let within : c.in-Some.b ≤ entry_count b = (base-numbered P.0).found c.in-Some.b c.in-Some.is in
    let I = arranged-indices P.0.0 P.0.1 order (entry_count b) F.result _ _ F.ensures.0 (O.ensures P.0.0 P.0.1 P.0.3) in (
      some-sound (entry_count b) A.sought.base A.sought.missing (base-numbered P.0) _ _ 4 _ _ I _ A.query.limit c.returned.ensures,
      λ σ es g n s w q h.
          search-some σ es w.entries.accepted n A.sought.base A.sought.missing q _ _ c.in-Some.b c.in-Some.is _
          (c.may_entry-open.ensures σ es A.d.now A.p.now b A.held.now w (omega (arith, within, w.entries.count)))
          _ I.room s A.query.limit h.limit
          (arranged-front σ es order (entry_count b) F.result _ _ F.ensures.0 (O.ensures σ es w)
          ∙ found-by σ es s c.in-Some.b A.query _ h (F.ensures.1 σ es g s.filter w (read_at_lem g (width b) A.q.now s.filter N.ensures.2 h.reads)))
          c.returned.ensures,
      λ σ es g s w h.
          over-found (entry_count b) F.result _ _ (search_found σ es s (Some c.in-Some.b)) I
          (arranged-front σ es order (entry_count b) F.result _ _ F.ensures.0 (O.ensures σ es w)
          ∙ found-by σ es s c.in-Some.b A.query _ h (F.ensures.1 σ es g s.filter w (read_at_lem g (width b) A.q.now s.filter N.ensures.2 h.reads)))
          ∙ ap (λ (f : Found). over (search_found σ es s f) A.hits.now) (sym c.in-Some.is),
    )
