-- The covers of all entries in directory order, and with the sets of the items all that the requester may.
use Rattle.std.specs.Prelude.{ℕ, zero, suc, ◌+◌, List, length, get_or}
use Rattle.access_items.specs.Note.{items_noted}
use Rattle.access_covers.specs.Enter.{all_entered}
use Rattle.access_covers.specs.Row.{entry_inherited}

-- the first `k` entries have inherited
unfoldable pub covers_to : List ℕ → ℕ → List ℕ → List ℕ
covers_to parents zero t = t
covers_to parents (suc k) t = entry_inherited (k + 1) (get_or parents k 0) (covers_to parents k t)

-- the items entered where their reach says, and then inherited
unfoldable pub covers_noted : List ℕ → List ℕ → List ℕ → List ℕ → List ℕ
covers_noted reach order parents sets = covers_to parents (length parents) (all_entered reach order (length order) sets)

-- the sets of the items, and the covers
unfoldable pub rights_noted : List ℕ → List ℕ → List ℕ → List ℕ → List ℕ → List ℕ → List ℕ
rights_noted rights schema order reach parents sets = covers_noted reach order parents (items_noted rights schema order (length order) sets)
