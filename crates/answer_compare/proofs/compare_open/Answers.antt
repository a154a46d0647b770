use Prim.Native.Nat.{ℕ, suc, ◌<◌}
use mathlib.Core.Path.{refl, sym, ap, ◌∙◌}
use native.Mathlib.Omega.{arith}
use lib.ListN.{get_or}
use Rattle.rules.specs.Directory.{blank}
use mathlib.Core.Path.{subst}
use borrow.Author.Tests.{lt-ltb, le-ltb, not-true, not-false}
use Rattle.rules.specs.Name.{equal}
use Rattle.rules.specs.Directory.{entry_of}
use Rattle.rules.specs.Permission.{Compare}
use Rattle.rules.specs.FilterItem.{holds, some_value}
use Rattle.tables.specs.Book.{entry_count, first_at}
use Rattle.tables.specs.Laws.Book.{end_is}
use Rattle.tables.specs.Laws.World.{inside, rank-within}
use Rattle.tables.specs.declared.plan.Plan.{Plan}
use Rattle.rules.specs.declared.Outcome.TheVariants.{NoSuchAttributeOrValue}
use Rattle.tables.specs.Outcome.{is_result}
use Rattle.tables.specs.Plan.{planned}
use Rattle.tables.specs.Sound.{SoundPlan}
use Rattle.tables.specs.Laws.Outcome.{refused-sound}
use Rattle.answer_compare.specs.Compare.{compare_outcome}
use Rattle.answer_compare.specs.Laws.Compare.{outcome-unheld, outcome-held, compare-sound, compared-planned, refused-compare}
use Rattle.answer_compare.proofs.compare_open.Goals as goal

pub row_of-i-requires : goal.row_of-i-requires
row_of-i-requires c = let A = c.args in ((A.d.now, A.p.now, A.sets.now, c.requires.0), c.requires.1)

pub overflow_add-t-12 : goal.overflow_add-t-12
overflow_add-t-12 c = let X = c.requires.0.2.entries in omega (arith, X.fits.size, X.fits.few-entries, c.requires.1)

pub overflow_add-k : goal.overflow_add-k
overflow_add-k c = let X = c.requires.0.2.entries in omega (arith, X.fits.size, X.fits.few-entries, c.requires.1)

pub offset_bounds-book-k : goal.offset_bounds-book-k
offset_bounds-book-k c = let X = c.requires.0.2.entries in omega (arith, X.fits.size, X.fits.few-entries, c.requires.1)

pub bounds-book-k : goal.bounds-book-k
bounds-book-k c = let X = c.requires.0.2.entries in omega (arith, X.fits.size, X.fits.few-entries, c.requires.1)

pub returns-then-book-k : goal.returns-then-book-k
returns-then-book-k c = let A = c.args in let b = A.book.now in let E = entry_count b in let k = A.k in let i = c.row_of-i.result in let R = c.row_of-i.ensures in (λ hits. subst (λ (r : Plan). SoundPlan E r hits) (sym c.refused.ensures) (refused-sound E hits 2 NoSuchAttributeOrValue), λ σ es s hits w. ap (λ (r : Plan). planned σ es s r hits) c.refused.ensures ∙ refused-compare σ es s hits A.t A.v.now k NoSuchAttributeOrValue (outcome-unheld σ A.t A.v.now (entry_of (get_or es k blank)) (R.2 σ es A.d.now A.p.now A.sets.now w ∙ le-ltb i (first_at b (suc k)) (omega (arith, c.if-book-k.true, end_is b k)))) refl)

pub offset_bounds-held-i : goal.offset_bounds-held-i
offset_bounds-held-i c = let A = c.args in let b = A.book.now in let k = A.k in let X = c.requires.0.2.entries in let i = c.row_of-i.result in let T : i < first_at b (suc k) = omega (arith, c.if-book-k.false, end_is b k) in omega (arith, (X.values k (inside X k c.requires.1)).room, T)

pub bounds-held-i : goal.bounds-held-i
bounds-held-i c = let A = c.args in let b = A.book.now in let k = A.k in let X = c.requires.0.2.entries in let i = c.row_of-i.result in let T : i < first_at b (suc k) = omega (arith, c.if-book-k.false, end_is b k) in omega (arith, (X.values k (inside X k c.requires.1)).room, T)

pub outcome_of-outcome-requires : goal.outcome_of-outcome-requires
outcome_of-outcome-requires c = let A = c.args in let b = A.book.now in let k = A.k in let X = c.requires.0.2.entries in let i = c.row_of-i.result in let R = c.row_of-i.ensures in let T : i < first_at b (suc k) = omega (arith, c.if-book-k.false, end_is b k) in let rk = rank-within X k c.requires.1 i R.0 T in ((A.d.now, A.p.now, A.held.now, c.requires.0), c.requires.1, rk)

pub returns-then-not-is_result : goal.returns-then-not-is_result
unfolding entry_of
returns-then-not-is_result c = let A = c.args in let b = A.book.now in let E = entry_count b in let k = A.k in let i = c.row_of-i.result in let R = c.row_of-i.ensures in let T : i < first_at b (suc k) = omega (arith, c.if-book-k.false, end_is b k) in let te = R.1 T in (λ hits. subst (λ (r : Plan). SoundPlan E r hits) (sym c.refused-then-not-is_result.ensures) (refused-sound E hits 2 _), λ σ es s hits w. ap (λ (r : Plan). planned σ es s r hits) c.refused-then-not-is_result.ensures ∙ refused-compare σ es s hits A.t A.v.now k _ (c.outcome_of-outcome.ensures σ es A.d.now A.p.now A.held.now w ∙ outcome-held σ _ A.v.now (entry_of (get_or es k blank)) (ap (holds (entry_of (get_or es k blank))) te ∙ R.2 σ es A.d.now A.p.now A.sets.now w ∙ lt-ltb i (first_at b (suc k)) T) ∙ ap (λ (x : ℕ). compare_outcome σ x A.v.now (entry_of (get_or es k blank))) te) (sym c.is_result.ensures ∙ not-true _ c.if-not-is_result.true-raw))

pub equal_any-requires : goal.equal_any-requires
equal_any-requires c = let A = c.args in let b = A.book.now in let k = A.k in let X = c.requires.0.2.entries in let i = c.row_of-i.result in let R = c.row_of-i.ensures in let T : i < first_at b (suc k) = omega (arith, c.if-book-k.false, end_is b k) in let rk = rank-within X k c.requires.1 i R.0 T in (c.requires.0, c.requires.1, rk)

pub returns : goal.returns
unfolding entry_of
returns c = let A = c.args in let b = A.book.now in let E = entry_count b in let k = A.k in let i = c.row_of-i.result in let R = c.row_of-i.ensures in let T : i < first_at b (suc k) = omega (arith, c.if-book-k.false, end_is b k) in let te = R.1 T in (λ hits. subst (λ (r : Plan). SoundPlan E r hits) (sym c.compared.ensures) (compare-sound E c.equal_any.result hits), λ σ es s hits w. ap (λ (r : Plan). planned σ es s r hits) c.compared.ensures ∙ compared-planned σ es s hits A.t A.v.now k c.equal_any.result (ap is_result (sym (c.outcome_of-outcome.ensures σ es A.d.now A.p.now A.held.now w ∙ outcome-held σ _ A.v.now (entry_of (get_or es k blank)) (ap (holds (entry_of (get_or es k blank))) te ∙ R.2 σ es A.d.now A.p.now A.sets.now w ∙ lt-ltb i (first_at b (suc k)) T) ∙ ap (λ (x : ℕ). compare_outcome σ x A.v.now (entry_of (get_or es k blank))) te)) ∙ sym c.is_result.ensures ∙ not-false _ c.if-not-is_result.false-raw) (c.equal_any.ensures σ es w ∙ ap (λ (x : ℕ). some_value σ (entry_of (get_or es k blank)) x Compare (equal σ.schema x A.v.now)) te))
