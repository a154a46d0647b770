use mathlib.Core.Path.{◌≡◌}
use Prim.Native.Nat.{ℕ}
use mathlib.Core.List.{List}
use lib.ListN.{length, get_or}
use Rattle.rules.specs.Directory.{Stored, blank, entry_of}
use Rattle.rules.specs.Decision.{Setting}
use Rattle.rules.specs.FilterItem.{item_truth}
use Rattle.tables.specs.World.{Entries}
use Rattle.filter_lines.specs.Lines.{LINES}
use Rattle.filter_matchable.specs.Mask.{Masks}
use Rattle.filter_matchable.specs.Matchable.{MatchableAt}
use Rattle.filter_tree.specs.Truths.{Truths}
use Rattle.filter_tree.proofs.items.note_truths.Given as goal

abbrev pub invariant-loop-line : goal.invariant-loop-line
invariant-loop-line l = (length l.truths ≡ LINES) × ((σ : Setting) (es : List Stored) (asked : ℕ) → Entries σ es l.d l.book l.held → MatchableAt σ es l.d l.book l.held l.k asked l.types l.values → Masks l.rows l.extent.lines asked → Truths (item_truth σ (entry_of (get_or es l.k blank))) l.q l.rows l.extent.lines l.line l.truths)
