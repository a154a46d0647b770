-- The indices below `k` that pass are noted.
use Rattle.std.proofs.Common.{◌≡◌, ℕ, ◌<◌, Bool, length, take}
use Rattle.answer_entry.specs.Passing.{Indices, passing}
use Rattle.answer_entry.proofs.note_passing.Given as goal

abbrev pub invariant-loop-k : goal.invariant-loop-k
invariant-loop-k g l =
    (length l.hits ≡ 256) × Indices l.k l.n l.initial.hits l.hits
    × ((t : ℕ → Bool) → ((k : ℕ) (b : Bool) → k < l.count → goal.F-post g l.test k b → b ≡ t k) → take l.n l.hits ≡ passing t l.k)
