-- "and" and "or" by one name.
use Rattle.std.specs.Prelude.{Bool, true, false}
use Rattle.tables.specs.FilterLines.{both_in, either_in}
use Rattle.rules.specs.declared.Edition.{Edition}
use Rattle.rules.specs.declared.Truth.{Truth}

-- "and" (a conjunction) or "or"
abbrev pub join_by : Edition → Bool → Truth → Truth → Truth
join_by ed true = both_in ed
join_by ed false = either_in ed
