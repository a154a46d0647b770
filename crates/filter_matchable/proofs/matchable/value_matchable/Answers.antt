use mathlib.Core.Path.{sym, ap, ap₂, ◌∙◌}
use native.Mathlib.Omega.{arith}
use Prim.Native.Nat.{ℕ, suc}
use native.Mathlib.Numerals.{add-one}
use mathlib.Core.Bool.{Bool, ◌&&◌}
use Rattle.rules.specs.Sheet.{Bytes}
use Rattle.rules.specs.Permission.{FilterMatch}
use Rattle.rules.specs.Decision.{of_value}
use Rattle.tables.specs.Book.{schema}
use Rattle.tables.specs.Held.{rank_at, bytes_at, type_at}
use Rattle.tables.specs.Sets.{granted_at}
use Rattle.tables.specs.Laws.World.{rows-within, rank-within, bytes-within}
use Rattle.filter_matchable.proofs.matchable.value_matchable.Goals as goal

pub offset_bounds-held-i : goal.offset_bounds-held-i
offset_bounds-held-i c = let P = c.requires in omega (arith, P.3, (rows-within P.0.2.entries c.args.k P.1).1)

pub bounds-held-i : goal.bounds-held-i
bounds-held-i c = let P = c.requires in omega (arith, P.3, (rows-within P.0.2.entries c.args.k P.1).1)

pub in_word-requires : goal.in_word-requires
in_word-requires c = let P = c.requires in let A = c.args in omega (arith, rank-within P.0.2.entries A.k P.1 A.i P.2 P.3, P.0.2.entries.fits.few-types)

pub bytes-requires : goal.bytes-requires
bytes-requires c =
    let P = c.requires in
    let A = c.args in
    let E = P.0.2.entries in
    (omega (arith, P.3, (rows-within E A.k P.1).1), bytes-within E A.k P.1 A.i P.2 P.3)

pub may_value-requires : goal.may_value-requires
may_value-requires c =
    let P = c.requires in
    let A = c.args in
    let E = P.0.2.entries in
    (omega (arith, P.1), rank-within E A.k P.1 A.i P.2 P.3, omega arith, (A.d.now, A.held.now, P.0))

pub returns-then-in_word : goal.returns-then-in_word
returns-then-in_word c =
    let P = c.requires in
    let A = c.args in
    let t = type_at (schema A.book.now) (rank_at A.held.now A.i) in
    λ σ es w.
    c.may_value.ensures σ es A.d.now A.held.now w
    ∙ ap₂ (λ (e : ℕ) (v : Bytes). granted_at σ es e (of_value t v) FilterMatch) (add-one A.k) c.bytes.ensures
    ∙ ap (λ (b : Bool). b && granted_at σ es (suc A.k) (of_value t (bytes_at A.d.now A.held.now A.i)) FilterMatch) (sym c.if-in_word.true ∙ c.in_word.ensures)

pub returns : goal.returns
returns c =
    let A = c.args in
    let t = type_at (schema A.book.now) (rank_at A.held.now A.i) in
    λ σ es w. ap (λ (b : Bool). b && granted_at σ es (suc A.k) (of_value t (bytes_at A.d.now A.held.now A.i)) FilterMatch) (sym c.if-in_word.false ∙ c.in_word.ensures)
