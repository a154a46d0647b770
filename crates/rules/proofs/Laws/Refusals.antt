-- A refusal is not 0, the number of none.
use Rattle.std.specs.Prelude.{◌≡◌}
use Rattle.std.proofs.Common.{arith}
use Rattle.rules.specs.Refusals.{refusal_number}
use Rattle.rules.specs.declared.refusals.Refusal.{Refusal}
use Rattle.rules.specs.declared.refusals.Refusal.TheVariants.{TooLong, NotAllowed, OutOfOrder, OutsideSchema, Twice, NamingValueNotHeld, PermissionsTooLong, PermissionsNotAllowed, PermissionsOutOfOrder, PermissionsOutsideSchema, RequestTooLong, RequestNotAllowed, RequestOutOfOrder, TypeWithoutOrder, BufferTooShort, PanelBufferTooLong, TypeTooHigh, MovedTooLong}

pub refusal-some : (r : Refusal) → refusal_number r ≡ 0 → ⊥
refusal-some TooLong z = omega arith
refusal-some NotAllowed z = omega arith
refusal-some OutOfOrder z = omega arith
refusal-some OutsideSchema z = omega arith
refusal-some Twice z = omega arith
refusal-some NamingValueNotHeld z = omega arith
refusal-some PermissionsTooLong z = omega arith
refusal-some PermissionsNotAllowed z = omega arith
refusal-some PermissionsOutOfOrder z = omega arith
refusal-some PermissionsOutsideSchema z = omega arith
refusal-some RequestTooLong z = omega arith
refusal-some RequestNotAllowed z = omega arith
refusal-some RequestOutOfOrder z = omega arith
refusal-some TypeWithoutOrder z = omega arith
refusal-some BufferTooShort z = omega arith
refusal-some PanelBufferTooLong z = omega arith
refusal-some TypeTooHigh z = omega arith
refusal-some MovedTooLong z = omega arith
