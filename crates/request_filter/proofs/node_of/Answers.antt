-- By the kind; any other one is none of a filter's.
use Prim.Native.Nat.{ℕ}
use mathlib.Core.Path.{◌≡◌, refl, sym, ap, ◌∙◌}
use mathlib.Core.Bool.{false}
use lib.Dec.{eqb}
use borrow.Author.Tests.{ne_eqb}
use Rattle.std.proofs.lemmas.Result.{err_from_is_err_and}
use Rattle.sheet_kind.specs.declared.Kind.{Kind}
use Rattle.sheet_kind.specs.Kinds.{kind_of}
use Rattle.sheet_kind.specs.Laws.Kinds.{kind-is}
use Rattle.request_filter.specs.Filters.{node_of}
use Rattle.request_filter.proofs.node_of.Goals as goal

-- a number of another kind
other : (k n : ℕ) (v : Kind) → kind_of n ≡ v → (kind_of k ≡ v → ⊥) → eqb k n ≡ false
other k n v e ne = ne_eqb _ n (λ q. ne (ap kind_of q ∙ e))

pub returns-in-And : goal.returns-in-And
unfolding node_of
returns-in-And c = rw (kind-is c.args.line.kind refl (sym c.kind_of.ensures ∙ c.in-And.is))

pub returns-in-Or : goal.returns-in-Or
unfolding node_of
returns-in-Or c = rw (kind-is c.args.line.kind refl (sym c.kind_of.ensures ∙ c.in-Or.is))

pub returns-in-Not : goal.returns-in-Not
unfolding node_of
returns-in-Not c = rw (kind-is c.args.line.kind refl (sym c.kind_of.ensures ∙ c.in-Not.is))

pub returns-in-Equality : goal.returns-in-Equality
unfolding node_of
returns-in-Equality c = rw (kind-is c.args.line.kind refl (sym c.kind_of.ensures ∙ c.in-Equality.is))

pub returns-in-AtLeast : goal.returns-in-AtLeast
unfolding node_of
returns-in-AtLeast c = rw (kind-is c.args.line.kind refl (sym c.kind_of.ensures ∙ c.in-AtLeast.is))

pub returns-in-AtMost : goal.returns-in-AtMost
unfolding node_of
returns-in-AtMost c = rw (kind-is c.args.line.kind refl (sym c.kind_of.ensures ∙ c.in-AtMost.is))

pub returns-in-Present : goal.returns-in-Present
unfolding node_of
returns-in-Present c = rw (kind-is c.args.line.kind refl (sym c.kind_of.ensures ∙ c.in-Present.is))

pub returns-in_err-pieces-in-Substrings : goal.returns-in_err-pieces-in-Substrings
unfolding node_of
returns-in_err-pieces-in-Substrings c =
    let p = err_from_is_err_and c.from_residual.result c.from_residual.ensures.1 in
    rw (p.1, p.2, kind-is c.args.line.kind refl (sym c.kind_of.ensures ∙ c.in-Substrings.is), ← c.in_err-pieces-in-Substrings.ensures)

pub returns-in_ok-pieces-in-Substrings : goal.returns-in_ok-pieces-in-Substrings
unfolding node_of
returns-in_ok-pieces-in-Substrings c = rw (kind-is c.args.line.kind refl (sym c.kind_of.ensures ∙ c.in-Substrings.is), ← c.in_ok-pieces-in-Substrings.ensures)

pub returns-in_default : goal.returns-in_default
unfolding node_of kind_of
returns-in_default c =
    let k = c.args.line.kind in
    let d = c.in_default in
    let e = c.kind_of.ensures in
    rw (
      other k 20 Kind.And refl (λ q. d.not-And (e ∙ q)),
      other k 21 Kind.Or refl (λ q. d.not-Or (e ∙ q)),
      other k 22 Kind.Not refl (λ q. d.not-Not (e ∙ q)),
      other k 23 Kind.Equality refl (λ q. d.not-Equality (e ∙ q)),
      other k 24 Kind.AtLeast refl (λ q. d.not-AtLeast (e ∙ q)),
      other k 25 Kind.AtMost refl (λ q. d.not-AtMost (e ∙ q)),
      other k 26 Kind.Present refl (λ q. d.not-Present (e ∙ q)),
      other k 27 Kind.Substrings refl (λ q. d.not-Substrings (e ∙ q)),
    )
