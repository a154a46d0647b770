use Rattle.std.proofs.Common.{rules, ◌≡◌, ℕ, Bool, List, ap, ◌∙◌}
use Rattle.rules.specs.Directory.{Stored}
use Rattle.rules.specs.Decision.{Setting}
use Rattle.rules.specs.Filter.{Filter}
use Rattle.rules.specs.Judge.{Grammar}
use Rattle.tables.specs.Book.{width}
use Rattle.tables.specs.World.{World}
use Rattle.filter_lines.specs.Lines.{position_at}
use Rattle.filter_tree.specs.Tree.{FilterAt}
use Rattle.answer_entry.specs.Passing.{passing}
use Rattle.answer_search.specs.Hits.{found_at}
use Rattle.answer_search.proofs.found.Goals as goal

pub returns : goal.returns
returns c = let A = c.args in let N = c.note_passing.ensures in (
  N.indices,
  λ σ es g f w at.
      let t = found_at σ es A.extent.base A.extent.subset A.extent.edition f in
      let told : (k : ℕ) (x : Bool) → ((σ : Setting) (es : List Stored) (g : Grammar) (f : Filter) → World σ es A.d.now A.p.now A.book.now A.held.now A.sets.now → FilterAt g (width A.book.now) A.q.now (position_at A.rows.now 0) f → x ≡ found_at σ es A.extent.base A.extent.subset A.extent.edition f k) → x ≡ t k = λ k x h. h σ es g f w at in
      N.passing t (λ k b l r. search (rules, told k)) ∙ ap (passing t) w.entries.count,
)
