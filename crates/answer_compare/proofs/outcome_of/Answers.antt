use Prim.Native.Nat.{◌+◌, ◌≤◌, ◌<◌}
use mathlib.Core.Path.{sym, ◌∙◌}
use native.Mathlib.Omega.{arith}
use lib.ListN.{length, get_or}
use Rattle.rules.specs.Directory.{blank}
use Rattle.rules.specs.Permission.{Compare, DiscloseOnError}
use Rattle.rules.specs.Decision.{of_type}
use Rattle.tables.specs.Book.{schema}
use Rattle.tables.specs.Held.{type_at}
use Rattle.tables.specs.Laws.Book.{schema-length}
use Rattle.tables.specs.Laws.World.{granted-next, known-types, inside}
use Rattle.answer_compare.specs.Laws.Compare.{outcome-inside, outcome-outside, outcome-told, outcome-untold, allowed-rank}
use Rattle.answer_compare.proofs.outcome_of.Goals as goal

pub overflow_add-k : goal.overflow_add-k
overflow_add-k c = let E = c.requires.0.3.2.entries in omega (arith, c.requires.1, E.fits.few-entries)

pub may_type-requires : goal.may_type-requires
may_type-requires c = (omega arith, known-types c.requires.0.3 _ (omega (arith, c.requires.1)) _ c.requires.2)

pub overflow_add-rank : goal.overflow_add-rank
overflow_add-rank c = let E = c.requires.0.3.2.entries in omega (arith, c.requires.2, E.fits.few-types)

pub offset_bounds-book-rank : goal.offset_bounds-book-rank
offset_bounds-book-rank c = let E = c.requires.0.3.2.entries in omega (arith, c.requires.2, E.fits.few-types)

pub bounds-book-rank : goal.bounds-book-rank
bounds-book-rank c = let E = c.requires.0.3.2.entries in omega (arith, c.requires.2, E.fits.few-types, E.fits.size)

pub returns-then-fits : goal.returns-then-fits
returns-then-fits c = let A = c.args in let b = A.book.now in let k = A.k in λ σ es d p held w. let t = type_at (schema b) A.rank in let l : k + 1 ≤ length es = omega (arith, inside w.entries k c.requires.1) in let rl : A.rank < length (schema b) = omega (arith, c.requires.2, schema-length w.entries.fits) in outcome-inside σ t A.v.now (get_or es k blank).name (sym (granted-next σ es k (of_type t) Compare) ∙ sym (c.may_type.ensures σ es d p b held w l rl) ∙ c.if-may_type.true) (allowed-rank w.entries A.rank c.requires.2 A.v.now ∙ sym c.fits.ensures ∙ c.if-fits.true)

pub returns-then-may_type : goal.returns-then-may_type
returns-then-may_type c = let A = c.args in let b = A.book.now in let k = A.k in λ σ es d p held w. let t = type_at (schema b) A.rank in let l : k + 1 ≤ length es = omega (arith, inside w.entries k c.requires.1) in let rl : A.rank < length (schema b) = omega (arith, c.requires.2, schema-length w.entries.fits) in outcome-outside σ t A.v.now (get_or es k blank).name (sym (granted-next σ es k (of_type t) Compare) ∙ sym (c.may_type.ensures σ es d p b held w l rl) ∙ c.if-may_type.true) (allowed-rank w.entries A.rank c.requires.2 A.v.now ∙ sym c.fits.ensures ∙ c.if-fits.false)

pub overflow_add-k-2 : goal.overflow_add-k-2
overflow_add-k-2 c = let E = c.requires.0.3.2.entries in omega (arith, c.requires.1, E.fits.few-entries)

pub may_type-requires-2 : goal.may_type-requires-2
may_type-requires-2 c = (omega arith, known-types c.requires.0.3 _ (omega (arith, c.requires.1)) _ c.requires.2)

pub returns-then-may_type-2 : goal.returns-then-may_type-2
returns-then-may_type-2 c = let A = c.args in let b = A.book.now in let k = A.k in λ σ es d p held w. let t = type_at (schema b) A.rank in let l : k + 1 ≤ length es = omega (arith, inside w.entries k c.requires.1) in let rl : A.rank < length (schema b) = omega (arith, c.requires.2, schema-length w.entries.fits) in outcome-told σ t A.v.now (get_or es k blank).name (sym (granted-next σ es k (of_type t) Compare) ∙ sym (c.may_type.ensures σ es d p b held w l rl) ∙ c.if-may_type.false) (sym (granted-next σ es k (of_type t) DiscloseOnError) ∙ sym (c.may_type-2.ensures σ es d p b held w l rl) ∙ c.if-may_type-2.true)

pub returns : goal.returns
returns c = let A = c.args in let b = A.book.now in let k = A.k in λ σ es d p held w. let t = type_at (schema b) A.rank in let l : k + 1 ≤ length es = omega (arith, inside w.entries k c.requires.1) in let rl : A.rank < length (schema b) = omega (arith, c.requires.2, schema-length w.entries.fits) in outcome-untold σ t A.v.now (get_or es k blank).name (sym (granted-next σ es k (of_type t) Compare) ∙ sym (c.may_type.ensures σ es d p b held w l rl) ∙ c.if-may_type.false) (sym (granted-next σ es k (of_type t) DiscloseOnError) ∙ sym (c.may_type-2.ensures σ es d p b held w l rl) ∙ c.if-may_type-2.false)
