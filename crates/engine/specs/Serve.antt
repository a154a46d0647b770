-- The sheets judged in their order: the verdict over a ground, and over a directory.
use Rattle.std.specs.Prelude.{ℕ}
use Rattle.rules.specs.Sheet.{Bytes}
use Rattle.rules.specs.declared.Format.{Format}
use Rattle.rules.specs.Judge.{Verdict, then}
use Rattle.rules.specs.Directory.{Directory}
use Rattle.rules.specs.Permission.{permissions_of}
use Rattle.rules.specs.Request.{request_of}
use Rattle.rules.specs.Serve.{Ground, within, respond}
use Rattle.rules.specs.declared.Limits.{Limits}

-- once directory and permissions are judged
abbrev pub from_ground : Format → Limits → Ground → Bytes → ℕ → Verdict Bytes
from_ground f k g q room = then (request_of f g.directory.schema q) (λ r. respond f g (within k r) room)

-- once the directory is judged
abbrev pub from_directory : Format → Limits → Directory → Bytes → Bytes → ℕ → Verdict Bytes
from_directory f k x p q room = then (permissions_of f x.schema p) (λ is. from_ground f k (record { directory = x; items = is }) q room)
