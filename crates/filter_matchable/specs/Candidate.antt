-- #103: "search looks at Browse (for the base Browse or Read) and ReturnDN before it looks at the filter": what is known of an entry whose filter is judged.
use Rattle.std.specs.Prelude.{ℕ, ◌<◌, ◌≡◌, true, List, get_or, Some}
use Rattle.rules.specs.Sheet.{Bytes}
use Rattle.rules.specs.Name.{Name}
use Rattle.rules.specs.Directory.{Stored, blank, entry_of}
use Rattle.rules.specs.Decision.{Setting}
use Rattle.rules.specs.Answer as Answer
use Rattle.tables.specs.Numbers.{walk}
use Rattle.tables.specs.Book.{entry_count}
use Rattle.tables.specs.World.{World}
use Rattle.filter_matchable.specs.Matchable.{MatchableAt}
use Rattle.filter_matchable.specs.declared.extent.Extent.{Extent}

-- the world that is searched, and the name of the search's base, which leads to its number
pub record Searched (d p : Bytes) (book held sets : List ℕ) (x : Extent) : Type 0 where
  pub setting : Setting
  pub stored : List Stored
  pub world : World setting stored d p book held sets
  pub base : Name
  pub walked : walk setting.schema stored 0 base ≡ Some x.base

-- the entry of index `k` is a candidate of the search
pub record Candidate (d p : Bytes) (book held sets : List ℕ) (x : Extent) (k : ℕ) : Type 0 where
  pub search : Searched d p book held sets x
  pub within : k < entry_count book
  pub granted : Answer.candidate search.setting search.base x.subset (entry_of (get_or search.stored k blank)) ≡ true

-- .. and the bits are FilterMatch on its types and values, for the same requester
pub record Admitted (d : Bytes) (book held : List ℕ) (x : Extent) (k types : ℕ) (values : List ℕ) : Type 0 where
  pub permissions : Bytes
  pub sets : List ℕ
  pub candidate : Candidate d permissions book held sets x k
  pub matchable : MatchableAt candidate.search.setting candidate.search.stored d book held k x.ranks types values
