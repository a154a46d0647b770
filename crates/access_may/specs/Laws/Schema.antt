-- A schema whose types are distinct: the syntax of a type by its rank.
use Rattle.std.specs.Prelude.{ℕ, ◌%◌, ◌<◌, ◌≡◌, refl, List, length, get_or, Some}
use Rattle.std.proofs.Common.{ap, ◌∙◌, arith}
use Rattle.name.specs.Schema.{rank_in, syntax_in}
use Rattle.name.specs.Laws.Schema.{rank-type, rank-first, syntax-known}
use Rattle.tables.specs.Held.{type_at, Distinct}

pub syntax-ranked : (ks : List ℕ) → Distinct ks → (r : ℕ) → r < length ks → syntax_in ks (type_at ks r) ≡ Some (get_or ks r 0 % 4)
syntax-ranked ks distinct r l =
    let h : rank_in ks (type_at ks r) < length ks = omega (arith, l, rank-first ks (type_at ks r) r l refl) in
    syntax-known ks (type_at ks r) h ∙ ap (λ (i : ℕ). Some (get_or ks i 0 % 4)) (distinct (rank_in ks (type_at ks r)) r h l (rank-type ks (type_at ks r) h))
