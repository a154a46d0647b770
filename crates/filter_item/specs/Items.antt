-- An item by its numbers: kind, type, value and pieces, and the syntax of its type.
use Rattle.std.specs.Prelude.{ℕ, Bool, true, ◌&&◌, not, cond, List, eqb}
use Rattle.rules.specs.Lists.{all}
use Rattle.rules.specs.Sheet.{Bytes}
use Rattle.rules.specs.Value.{Piece, text, fits, ordered, order, searchable, contains}
use Rattle.rules.specs.Filter.{Assertion, equality, at_least, at_most, present, substrings}
use Rattle.rules.specs.FilterItem.{is_less}
use Rattle.name.specs.Schema.{equal_by}
use Rattle.filter_item.specs.Rows.{held_row, some_row}

-- the item of a line K 23 to 27
abbrev pub assertion_by : ℕ → ℕ → Bytes → List Piece → Assertion
assertion_by k t v ps =
    cond (eqb k 23) (equality t v)
    (cond (eqb k 24) (at_least t v)
    (cond (eqb k 25) (at_most t v)
    (cond (eqb k 26) (present t)
    (substrings t ps))))

-- the item is defined, given its type's syntax
unfoldable pub defined_by : ℕ → ℕ → List Piece → Bytes → Bool
defined_by s k ps v =
    cond (eqb k 23) (fits s v)
    (cond (eqb k 24) (ordered s && fits s v)
    (cond (eqb k 25) (ordered s && fits s v)
    (cond (eqb k 26) true
    (searchable s && all (λ (p : Piece). fits s p.bytes) ps))))

-- the test of one value `u`
unfoldable pub passes_by : ℕ → ℕ → List Piece → Bytes → Bytes → Bool
passes_by s k ps v u =
    cond (eqb k 23) (equal_by s v u)
    (cond (eqb k 24) (not (is_less (order s u v)))
    (cond (eqb k 25) (not (is_less (order s v u)))
    (contains text ps u)))

-- the item is satisfied, by the rows of an entry
unfoldable pub satisfied_in : Bytes → List ℕ → List ℕ → ℕ → ℕ → ℕ → ℕ → ℕ → List Piece → Bytes → Bool
satisfied_in d held values first end rank s k ps v =
    cond (eqb k 26) (held_row held first end rank) (some_row d held values first end rank (passes_by s k ps v))
