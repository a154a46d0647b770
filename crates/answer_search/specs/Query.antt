-- What a search asks, as the code takes it.
use Rattle.std.specs.Prelude.{ℕ, ◌≡◌}
use Rattle.rules.specs.Sheet.{Bytes}
use Rattle.rules.specs.Judge.{Grammar}
use Rattle.rules.specs.Request.{Search}
use Rattle.rules.specs.Places.{ordering_by}
use Rattle.filter_tree.specs.Tree.{FilterAt}
use Rattle.answer_search.specs.declared.Query.{Query}

-- the search `s`, its filter read from the request sheet `q`
pub record Seeks (g : Grammar) (w : ℕ) (q : Bytes) (s : Search) (a : Query) : Type 0 where
  pub limit : s.limit ≡ a.limit
  pub ordering : s.ordering ≡ ordering_by a.order_type a.falling
  pub subset : s.subset ≡ a.subset
  pub reads : FilterAt g w q a.filter s.filter
  pub edition : s.edition ≡ a.edition

-- some search is asked
abbrev pub KnownQuery : ℕ → Bytes → Query → Type 0
KnownQuery w q a = (g : Grammar) × (s : Search) × Seeks g w q s a
