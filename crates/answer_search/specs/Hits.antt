-- The entries that search returns, by number and index.
use Rattle.std.specs.Prelude.{ℕ, suc, Bool, ◌&&◌, List, [], eqb, length, Some, None}
use Rattle.rules.specs.Directory.{Stored}
use Rattle.rules.specs.Decision.{Setting}
use Rattle.rules.specs.Filter.{Filter}
use Rattle.rules.specs.Request.{Search}
use Rattle.tables.specs.Numbers.{within_number}
use Rattle.rules.specs.declared.Edition.{Edition}
use Rattle.rules.specs.Value.{Found}
use Rattle.answer_entry.specs.Passing.{passing}
use Rattle.answer_entry.specs.Returned.{returnable_at}
use Rattle.filter_tree.specs.Tree.{matches_at}
use Rattle.answer_arrange.specs.Arrange.{arranged_at}

-- search returns the entry of index `k`, of base number `b`, in the edition
unfoldable pub found_at : Setting → List Stored → ℕ → ℕ → Edition → Filter → ℕ → Bool
found_at σ es b subset ed f k = within_number es subset b (suc k) && (returnable_at σ es (suc k) (eqb (suc k) b) && matches_at σ es ed f k)

-- the indices of those that the search returns, of the base, in the order that it asks for; none of an absent one
unfoldable pub search_found : Setting → List Stored → Search → Found → List ℕ
search_found σ es s (Some b) = arranged_at σ es s.ordering (passing (found_at σ es b s.subset s.edition s.filter) (length es))
search_found σ es s None = []
