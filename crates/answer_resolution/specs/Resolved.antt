-- What a name leads to: the entry that it names, or none where a ninth replacement is due.
use Rattle.std.specs.Prelude.{Option}
use Rattle.answer_entry.specs.declared.Sought.{Sought}

abbrev pub Resolved : Type 0
Resolved = Option Sought
