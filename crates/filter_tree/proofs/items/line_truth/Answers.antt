use mathlib.Core.Path.{sym, ◌∙◌}
use native.Mathlib.Omega.{arith}
use mathlib.Core.Bool.{true≢false}
use Rattle.sheet_kind.specs.Laws.Kinds.{is-kind, not-kind}
use Rattle.filter_lines.specs.Lines.{type_rank}
use Rattle.filter_matchable.specs.Laws.Mask.{occurs-own, operator-none}
use Rattle.filter_tree.proofs.items.line_truth.Goals as goal

pub returns-then-joins : goal.returns-then-joins
returns-then-joins c = λ σ es asked e s m. record { told = λ ne g. absurd (true≢false (sym (sym c.joins.ensures ∙ c.if-joins.true) ∙ g)) }

pub returns-then-is : goal.returns-then-is
returns-then-is c = λ σ es asked e s m. record { told = λ ne g. absurd (ne (is-kind c.is.ensures c.if-is.true)) }

pub item-requires : goal.item-requires
item-requires c = let P = c.requires in let A = c.args in let E = P.0.candidate.search.world.entries in
    (P.0, (λ l. P.1.rank (type_rank A.rows.now A.line) (omega (arith, l, E.fits.few-types)) ∙ occurs-own A.rows.now A.extent.lines A.line P.4 (operator-none A.rows.now A.line (sym c.joins.ensures ∙ c.if-joins.false) (not-kind c.is.ensures c.if-is.false))), P.2, P.3, P.4)

pub returns : goal.returns
returns c = λ σ es asked e s m. record { told = λ ne g. c.item.ensures σ es asked e s (λ l. m.rank (type_rank c.args.rows.now c.args.line) (omega (arith, l, e.fits.few-types)) ∙ occurs-own c.args.rows.now c.args.extent.lines c.args.line c.requires.4 (operator-none c.args.rows.now c.args.line g ne)) }
