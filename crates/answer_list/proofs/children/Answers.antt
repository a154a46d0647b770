use Rattle.std.proofs.Common.{rules, ◌≡◌, ℕ, Bool, List, ap, ◌∙◌}
use Rattle.rules.specs.Sheet.{Bytes}
use Rattle.rules.specs.Directory.{Stored}
use Rattle.rules.specs.Decision.{Setting}
use Rattle.tables.specs.World.{World}
use Rattle.answer_entry.specs.Passing.{passing}
use Rattle.answer_list.specs.Hits.{listed_at}
use Rattle.answer_list.proofs.children.Goals as goal

pub returns : goal.returns
returns c = let N = c.note_passing.ensures in (
  N.indices,
  λ σ es d p held w.
      let told : (k : ℕ) (x : Bool) → ((σ : Setting) (es : List Stored) (d p : Bytes) (held : List ℕ) → World σ es d p c.args.book.now held c.args.sets.now → x ≡ listed_at σ es c.args.b k) → x ≡ listed_at σ es c.args.b k = λ k x h. h σ es d p held w in
      N.passing (listed_at σ es c.args.b) (λ k b l r. search (rules, told k)) ∙ ap (passing (listed_at σ es c.args.b)) w.entries.count,
)
