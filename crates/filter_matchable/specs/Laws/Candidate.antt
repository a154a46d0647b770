-- Laws of `Candidate`.
use Rattle.std.specs.Prelude.{List, ℕ}
use Rattle.rules.specs.Sheet.{Bytes}
use Rattle.tables.specs.World.{Known}
use Rattle.filter_matchable.specs.Candidate.{Searched}
use Rattle.filter_matchable.specs.declared.extent.Extent.{Extent}

pub searched-known : {d p : Bytes} {book held sets : List ℕ} {x : Extent} → Searched d p book held sets x → Known d p book held sets
searched-known s = (s.setting, s.stored, s.world)
