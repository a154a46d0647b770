use Prim.Native.Nat.{ℕ, ◌-◌, ◌<◌}
use mathlib.Core.Path.{◌≡◌, sym, ap, ◌∙◌, subst}
use mathlib.Core.List.{List, ◌++◌}
use native.Mathlib.Omega.{arith}
use lib.ListN.{take, drop}
use Rattle.rules.specs.Places.{ordering_by}
use Rattle.rules.specs.Derived.{Each}
use Rattle.tables.specs.Book.{entry_count}
use Rattle.answer_arrange.specs.Arrange.{arranged_at}
use Rattle.answer_search.proofs.in_order.Goals as goal

from_zero : (n : ℕ) → n - 0 ≡ n
from_zero n = omega arith

pub arrange-requires : goal.arrange-requires
arrange-requires c = let A = c.args in let P = c.requires in
    (P.0, subst (λ (m : ℕ). Each (λ k. k < entry_count A.book.now) (take m A.hits.now)) (sym (from_zero A.n)) P.2)

pub returns : goal.returns
returns c = let A = c.args in λ σ es w.
    ap (λ (r : List ℕ). r ++ drop (A.n - 0) A.hits.now) (c.arrange.ensures σ es w)
    ∙ ap (λ (m : ℕ). arranged_at σ es (ordering_by A.query.order_type A.query.falling) (take m A.hits.now) ++ drop m A.hits.now) (from_zero A.n)
