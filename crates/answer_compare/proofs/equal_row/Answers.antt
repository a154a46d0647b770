use Prim.Native.Nat.{ℕ, ◌+◌, ◌≤◌}
use mathlib.Core.Path.{sym, ap, ◌∙◌}
use native.Mathlib.Omega.{arith}
use lib.ListN.{length, get_or}
use Rattle.rules.specs.Directory.{blank}
use mathlib.Core.List.{List}
use Rattle.rules.specs.Name.{part, equal}
use Rattle.rules.specs.Permission.{Compare}
use Rattle.rules.specs.Decision.{of_value}
use Rattle.tables.specs.Book.{schema}
use Rattle.tables.specs.Held.{rank_at, bytes_at, type_at}
use Rattle.tables.specs.Laws.Book.{schema-length}
use Rattle.tables.specs.Laws.World.{granted-next, inside, rows-within, rank-within, bytes-within}
use Rattle.answer_compare.specs.Compare.{counts}
use Rattle.answer_compare.specs.Laws.Compare.{counts-other, counts-apart, counts-equal, equal-rank}
use Rattle.answer_compare.proofs.equal_row.Goals as goal

pub offset_bounds-held-i : goal.offset_bounds-held-i
offset_bounds-held-i c = let A = c.args in let k = A.k in let E = c.requires.0.2.entries in let r = rows-within E k c.requires.1 in omega (arith, r.1, c.requires.4)

pub bounds-held-i : goal.bounds-held-i
bounds-held-i c = let A = c.args in let k = A.k in let E = c.requires.0.2.entries in let r = rows-within E k c.requires.1 in omega (arith, r.1, c.requires.4)

pub returns-then-held-i : goal.returns-then-held-i
returns-then-held-i c = let A = c.args in let b = A.book.now in let h = A.held.now in let k = A.k in let E = c.requires.0.2.entries in let R = rank-within E k c.requires.1 A.i c.requires.3 c.requires.4 in λ σ es w. let n = (get_or es k blank).name in let t = type_at (schema b) A.rank in let of = type_at (schema b) (rank_at h A.i) in let B = bytes_at A.d.now h A.i in counts-other σ n t A.v.now of B (λ e. c.if-held-i.true (w.entries.distinct (rank_at h A.i) A.rank (omega (arith, R, schema-length w.entries.fits)) (omega (arith, c.requires.2, schema-length w.entries.fits)) e))

pub bytes-u-requires : goal.bytes-u-requires
bytes-u-requires c = let A = c.args in let k = A.k in let E = c.requires.0.2.entries in let r = rows-within E k c.requires.1 in (omega (arith, r.1, c.requires.4), bytes-within E k c.requires.1 A.i c.requires.3 c.requires.4)

pub overflow_add-rank : goal.overflow_add-rank
overflow_add-rank c = let E = c.requires.0.2.entries in omega (arith, c.requires.2, E.fits.few-types)

pub offset_bounds-book-rank : goal.offset_bounds-book-rank
offset_bounds-book-rank c = let E = c.requires.0.2.entries in omega (arith, c.requires.2, E.fits.few-types)

pub bounds-book-rank : goal.bounds-book-rank
bounds-book-rank c = let E = c.requires.0.2.entries in omega (arith, c.requires.2, E.fits.few-types, E.fits.size)

pub overflow_add-k : goal.overflow_add-k
overflow_add-k c = let E = c.requires.0.2.entries in omega (arith, c.requires.1, E.fits.few-entries)

pub may_value-requires : goal.may_value-requires
may_value-requires c = let A = c.args in let h = A.held.now in (omega (arith, c.requires.1), c.requires.2, omega arith, (A.d.now, h, c.requires.0))

pub returns-then-equal_by : goal.returns-then-equal_by
returns-then-equal_by c = let A = c.args in let b = A.book.now in let h = A.held.now in let k = A.k in λ σ es w. let n = (get_or es k blank).name in let t = type_at (schema b) A.rank in let of = type_at (schema b) (rank_at h A.i) in let B = bytes_at A.d.now h A.i in let l : k + 1 ≤ length es = omega (arith, inside w.entries k c.requires.1) in c.may_value.ensures σ es A.d.now h w ∙ granted-next σ es k (of_value t c.bytes-u.result.now) Compare ∙ counts-equal σ n t A.v.now of c.bytes-u.result.now (ap (type_at (schema b)) c.if-held-i.false) (equal-rank w.entries A.rank c.requires.2 A.v.now c.bytes-u.result.now ∙ sym c.equal_by.ensures ∙ c.if-equal_by.true) ∙ ap (λ (x : List ℕ). counts σ n t A.v.now (part of x)) c.bytes-u.ensures

pub returns : goal.returns
returns c = let A = c.args in let b = A.book.now in let h = A.held.now in let k = A.k in λ σ es w. let n = (get_or es k blank).name in let t = type_at (schema b) A.rank in let of = type_at (schema b) (rank_at h A.i) in let B = bytes_at A.d.now h A.i in counts-apart σ n t A.v.now of B (ap (equal σ.schema t A.v.now) (sym c.bytes-u.ensures) ∙ equal-rank w.entries A.rank c.requires.2 A.v.now c.bytes-u.result.now ∙ sym c.equal_by.ensures ∙ c.if-equal_by.false)
