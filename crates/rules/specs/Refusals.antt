-- The refusals by their numbers.
use Rattle.std.specs.Prelude.{ℕ, Result, Ok, Err}
use Rattle.rules.specs.declared.refusals.Refusal.{Refusal}
use Rattle.rules.specs.declared.refusals.Refusal.TheVariants.{TooLong, NotAllowed, OutOfOrder, OutsideSchema, Twice, NamingValueNotHeld, PermissionsTooLong, PermissionsNotAllowed, PermissionsOutOfOrder, PermissionsOutsideSchema, RequestTooLong, RequestNotAllowed, RequestOutOfOrder, TypeWithoutOrder, BufferTooShort, PanelBufferTooLong, TypeTooHigh, MovedTooLong}

-- the number of a refusal
abbrev pub refusal_number : Refusal → ℕ
refusal_number TooLong = 1
refusal_number NotAllowed = 2
refusal_number OutOfOrder = 3
refusal_number OutsideSchema = 4
refusal_number Twice = 5
refusal_number NamingValueNotHeld = 6
refusal_number PermissionsTooLong = 11
refusal_number PermissionsNotAllowed = 12
refusal_number PermissionsOutOfOrder = 13
refusal_number PermissionsOutsideSchema = 14
refusal_number RequestTooLong = 21
refusal_number RequestNotAllowed = 22
refusal_number RequestOutOfOrder = 23
refusal_number TypeWithoutOrder = 24
refusal_number BufferTooShort = 31
refusal_number PanelBufferTooLong = 33
refusal_number TypeTooHigh = 35
refusal_number MovedTooLong = 36

-- the refusal number of what was judged; 0 where it was accepted
abbrev pub refusal_in : {A : Type 0} → Result A Refusal → ℕ
refusal_in (Ok x) = 0
refusal_in (Err r) = refusal_number r
