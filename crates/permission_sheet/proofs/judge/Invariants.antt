-- The invariant is `ItemsRead`: the items so far are noted, and the rules from here give what they give from the start.
use Rattle.rules.specs.Places.{schema_of}
use Rattle.permission_sheet.specs.Laws.ItemsRead.{ItemsRead}
use Rattle.permission_sheet.proofs.judge.Given as goal

abbrev pub invariant-loop-count : goal.invariant-loop-count
invariant-loop-count l = ItemsRead l.f l.p (schema_of l.schema) l.count l.at l.rights l.scopes
