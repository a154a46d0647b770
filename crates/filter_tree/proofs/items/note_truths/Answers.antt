use mathlib.Core.Path.{◌≡◌, ◌∙◌, subst}
use native.Mathlib.Omega.{arith}
use Prim.Native.Nat.{ℕ}
use lib.ListN.{get_or, length-set, length-replicate}
use Rattle.rules.specs.Directory.{blank, entry_of}
use Rattle.rules.specs.FilterItem.{item_truth}
use Rattle.rules.specs.declared.Truth.{Truth}
use Rattle.rules.specs.declared.Truth.TheVariants.{Undefined}
use Rattle.filter_lines.specs.Lines.{LINES}
use Rattle.filter_tree.specs.Truths.{Truths}
use Rattle.filter_tree.specs.Laws.Truths.{truths-none, truths-on}
use Rattle.filter_tree.proofs.items.note_truths.Goals as goal

pub loop-line-init : goal.loop-line-init
loop-line-init c = (length-replicate {A = Truth} LINES Undefined, λ σ es asked e s m. truths-none (item_truth σ (entry_of (get_or es c.args.k blank))) c.args.q.now c.args.rows.now c.args.extent.lines _)

pub line_truth-requires : goal.line_truth-requires
line_truth-requires c = (c.requires.0, c.requires.1, c.requires.2, c.requires.3, c.loop-line-test.true)

pub loop-line-preserved : goal.loop-line-preserved
loop-line-preserved c = (length-set c.loop-line.truths _ _ ∙ c.loop-line.invariant.0, λ σ es asked e s m. truths-on (item_truth σ (entry_of (get_or es c.args.k blank))) c.args.q.now c.args.rows.now c.args.extent.lines c.loop-line.line c.line_truth.result c.loop-line.truths (omega (arith, c.loop-line-test.true, c.requires.2.few, c.loop-line.invariant.0)) (c.line_truth.ensures σ es asked e s m) (c.loop-line.invariant.1 σ es asked e s m))

pub returns : goal.returns
returns c = λ σ es asked e s m. let z : c.loop-line.line ≡ c.args.extent.lines = omega (arith, c.loop-line-test.false) in subst (λ (n : ℕ). Truths (item_truth σ (entry_of (get_or es c.args.k blank))) c.args.q.now c.args.rows.now c.args.extent.lines n c.loop-line.truths) z (c.loop-line.invariant.1 σ es asked e s m)
