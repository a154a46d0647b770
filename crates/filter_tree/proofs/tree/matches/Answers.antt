use mathlib.Core.Path.{ap, ◌∙◌}
use native.Mathlib.Omega.{arith}
use lib.ListN.{get_or}
use Rattle.rules.specs.Directory.{blank, entry_of}
use Rattle.rules.specs.Filter.{is_true}
use Rattle.rules.specs.FilterItem.{item_truth}
use Rattle.rules.specs.Places.{lines_at}
use Rattle.tables.specs.FilterLines.{Evaluated}
use Rattle.tables.specs.Book.{width}
use Rattle.filter_lines.specs.Lines.{position_at}
use Rattle.filter_tree.specs.Tree.{matches_at}
use Rattle.filter_tree.specs.Laws.Tree.{whole-read}
use Rattle.filter_tree.proofs.tree.matches.Goals as goal

pub ask-open-requires : goal.ask-open-requires
ask-open-requires c = c.requires.0

pub note_truths-truths-requires : goal.note_truths-truths-requires
note_truths-truths-requires c =
    let P = c.requires in
    let A = c.args in
    let S = P.0.search in (
      record {
        permissions = A.p.now;
        sets = A.sets.now;
        candidate = P.0;
        matchable = c.ask-open.ensures S.setting S.stored S.world;
      },
      P.3,
      P.1.placed,
      P.2,
    )

pub evaluate-whole-requires : goal.evaluate-whole-requires
evaluate-whole-requires c = let A = c.args in let P = c.requires in let S = P.0.search in
    ((width A.book.now, A.q.now, item_truth S.setting (entry_of (get_or S.stored A.k blank)), P.1, c.note_truths-truths.ensures S.setting S.stored A.extent.ranks S.world.entries (c.ask-open.ensures S.setting S.stored S.world) P.3), omega arith)

pub returns : goal.returns
unfolding matches_at
returns c = λ σ es g f w read. c.is_true.ensures ∙ ap is_true (ap (λ (r : Evaluated). r.truth) (c.evaluate-whole.ensures.1 (width c.args.book.now) c.args.q.now (item_truth σ (entry_of (get_or es c.args.k blank))) c.requires.1 (c.note_truths-truths.ensures σ es c.args.extent.ranks w.entries (c.ask-open.ensures σ es w) c.requires.3)) ∙ whole-read g c.args.extent.edition (item_truth σ (entry_of (get_or es c.args.k blank))) (lines_at (width c.args.book.now) c.args.q.now (position_at c.args.rows.now 0)) f read)
