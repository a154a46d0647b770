-- The entries found, by operation: read and compare find none.
use Rattle.std.specs.Prelude.{List, [], ℕ}
use Rattle.std.proofs.Math.Option.{Option, none, some}
use Rattle.rules.specs.Name.{Name}
use Rattle.rules.specs.Directory.{Stored}
use Rattle.rules.specs.Decision.{Setting}
use Rattle.rules.specs.Request.{Operation, read, compare, list, search}
use Rattle.tables.specs.Numbers.{walk}
use Rattle.rules.specs.Value.{Found}
use Rattle.answer_list.specs.Hits.{list_found}
use Rattle.answer_search.specs.Hits.{search_found}

-- their indices, of the base
abbrev pub found_by : Setting → List Stored → Found → Operation → List ℕ
found_by σ es base (read s) = []
found_by σ es base (compare t v) = []
found_by σ es base (list limit) = list_found σ es base
found_by σ es base (search s) = search_found σ es s base

-- of the name that is asked for in the end, if there is one
abbrev pub found_for : Setting → List Stored → Option Name → Operation → List ℕ
found_for σ es none o = []
found_for σ es (some n) o = found_by σ es (walk σ.schema es 0 n) o
