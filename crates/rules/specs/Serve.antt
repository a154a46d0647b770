-- Document 01, "Who is refused, and why": "directory comes first, then permissions, request, answer"; #107: for the exchange and for panels; #109: in either
-- form.
use Rattle.std.specs.Prelude.{ℕ, Bool, ◌&&◌, not, cond, List, ltb, eqb, length}
use Rattle.rules.specs.Sheet.{Bytes, print}
use Rattle.rules.specs.declared.Format.{Format}
use Rattle.rules.specs.Judge.{Verdict, accept, refuse_if, then}
use Rattle.rules.specs.Directory.{Directory, directory_of, entries_in, aliases}
use Rattle.rules.specs.Permission.{Item, permissions_of}
use Rattle.rules.specs.Decision.{Setting, Requester}
use Rattle.rules.specs.Request.{Operation, read, compare, list, search, Request, request_of}
use Rattle.rules.specs.Answer.{answer_to}
use Rattle.rules.specs.declared.Limits.{Limits}

-- ---- the directory and the permissions, judged apart from any request

-- what they give where both are accepted
pub record Ground : Type 0 where
  pub directory : Directory
  pub items : List Item

unfoldable pub ground : Format → Bytes → Bytes → Verdict Ground
ground f d p = then (directory_of f d) λ x. then (permissions_of f x.schema p) λ is. accept (record { directory = x; items = is })

-- ---- what a calling program is limited to, before the answer is asked for

-- the exchange has no limits
abbrev pub exchange : Limits
exchange = record { entries = 0; bytes = 0 }

-- #107: "at most five entries from a list or search and lends at most 1,024 bytes"
abbrev pub panel : Limits
panel = record { entries = 5; bytes = 1024 }

-- more bytes are lent than the program may lend; 0 is no limit
unfoldable pub above : Limits → ℕ → Bool
above k room = not (eqb k.bytes 0) && ltb k.bytes room

-- #107: "a request's own limit counts if it is smaller and not 0": the smaller of two size limits, of which 0 is none
unfoldable pub tighter : ℕ → ℕ → ℕ
tighter a b = cond (eqb a 0) b (cond (eqb b 0) a (cond (ltb b a) b a))

-- the operation, with at most `most` entries from a list or search
unfoldable pub capped : ℕ → Operation → Operation
capped most (read s) = read s
capped most (compare t v) = compare t v
capped most (list limit) = list (tighter most limit)
capped most (search s) = search (record { limit = tighter most s.limit; selection = s.selection; ordering = s.ordering; subset = s.subset; filter = s.filter; edition = s.edition })

-- the request as it is asked for a program of these limits; for the exchange it is the request itself (`within-exchange`)
unfoldable pub within : Limits → Request → Request
within k r = record { requester = r.requester; base = r.base; operation = capped k.entries r.operation }

-- ---- the answer

abbrev pub setting_of : Directory → List Item → Requester → Setting
setting_of d is u = record { schema = d.schema; items = is; requester = u }

-- "31, the answer is longer than the lent buffer"
unfoldable pub fitting : ℕ → Bytes → Verdict Bytes
fitting room bs = refuse_if (ltb room (length bs)) 31 (accept bs)

-- an accepted request's answer, in a buffer of `room` bytes
unfoldable pub respond : Format → Ground → Request → ℕ → Verdict Bytes
respond f g r room =
    let d = g.directory in
    fitting room (print f.width (answer_to (setting_of d g.items r.requester) (entries_in d) (aliases d) r.base r.operation))

-- the answer's bytes to the sheets `d`, `p` and `q`, or the refusal, for a program of the limits `k`
unfoldable pub judged_at : Format → Limits → Bytes → Bytes → Bytes → ℕ → Verdict Bytes
judged_at f k d p q room = then (ground f d p) λ g. then (request_of f g.directory.schema q) λ r. respond f g (within k r) room

-- #107: "33, a panel's answer buffer above 1,024 bytes, before any sheet is judged"
unfoldable pub serve_at : Format → Limits → Bytes → Bytes → Bytes → ℕ → Verdict Bytes
serve_at f k d p q room = refuse_if (above k room) 33 (judged_at f k d p q room)
