use mathlib.Core.Path.{sym, ap, ◌∙◌}
use native.Mathlib.Omega.{arith}
use lib.ListN.{get_or}
use Rattle.rules.specs.Sheet.{Bytes}
use Rattle.rules.specs.Directory.{blank}
use Rattle.rules.specs.Permission.{Read}
use Rattle.rules.specs.Decision.{of_type, of_value, granted}
use Rattle.tables.specs.Book.{schema}
use Rattle.tables.specs.Held.{rank_at, bytes_at, type_at}
use Rattle.tables.specs.Laws.Book.{schema-length}
use Rattle.tables.specs.Laws.World.{granted-next, inside, rows-within, rank-within, bytes-within, known-types}
use Rattle.answer_key.specs.Laws.Keys.{other-type, type-hidden, type-shown}
use Rattle.answer_key.proofs.key.readable.Goals as goal

pub offset_bounds-held-i : goal.offset_bounds-held-i
offset_bounds-held-i c = let A = c.args in let P = c.requires in let E = P.0.2.entries in let rows = rows-within E A.k P.1 in omega (arith, rows.1, P.4)

pub bounds-held-i : goal.bounds-held-i
bounds-held-i c = let A = c.args in let P = c.requires in let E = P.0.2.entries in let rows = rows-within E A.k P.1 in omega (arith, rows.1, P.4)

pub returns-then-held-i : goal.returns-then-held-i
returns-then-held-i c = let A = c.args in let P = c.requires in let E = P.0.2.entries in let b = A.book.now in let t = type_at (schema b) A.rank in let of = type_at (schema b) (rank_at A.held.now A.i) in let v = bytes_at A.d.now A.held.now A.i in λ σ es w. let n = (get_or es A.k blank).name in other-type σ n t of v (λ e. c.if-held-i.true (w.entries.distinct (rank_at A.held.now A.i) A.rank (omega (arith, rank-within E A.k P.1 A.i P.3 P.4, schema-length w.entries.fits)) (omega (arith, P.2, schema-length w.entries.fits)) e))

pub overflow_add-k : goal.overflow_add-k
overflow_add-k c = let P = c.requires in let E = P.0.2.entries in omega (arith, P.1, E.fits.few-entries)

pub may_type-requires : goal.may_type-requires
may_type-requires c = let P = c.requires in (omega arith, known-types P.0 _ (omega (arith, P.1)) _ (omega (arith, P.2)))

pub overflow_add-k-then-may_type : goal.overflow_add-k-then-may_type
overflow_add-k-then-may_type c = let P = c.requires in let E = P.0.2.entries in omega (arith, P.1, E.fits.few-entries)

pub bytes-requires : goal.bytes-requires
bytes-requires c = let A = c.args in let P = c.requires in let E = P.0.2.entries in let rows = rows-within E A.k P.1 in (omega (arith, rows.1, P.4), bytes-within E A.k P.1 A.i P.3 P.4)

pub may_value-requires : goal.may_value-requires
may_value-requires c = let A = c.args in let P = c.requires in (omega (arith, P.1), P.2, omega arith, (A.d.now, A.held.now, P.0))

pub returns-then-may_type : goal.returns-then-may_type
returns-then-may_type c = let A = c.args in let P = c.requires in let b = A.book.now in let t = type_at (schema b) A.rank in let of = type_at (schema b) (rank_at A.held.now A.i) in let v = bytes_at A.d.now A.held.now A.i in λ σ es w. let n = (get_or es A.k blank).name in
    c.may_value.ensures σ es A.d.now A.held.now w ∙ granted-next σ es A.k (of_value t c.bytes.result.now) Read ∙ ap (λ (u : Bytes). granted σ n (of_value t u) Read) c.bytes.ensures
    ∙ type-shown σ n t of v (ap (type_at (schema b)) c.if-held-i.false)
    (sym (c.may_type.ensures σ es A.d.now A.p.now b A.held.now w (omega (arith, inside w.entries A.k P.1)) (omega (arith, P.2, schema-length w.entries.fits)) ∙ granted-next σ es A.k (of_type t) Read) ∙ c.if-may_type.true)

pub returns : goal.returns
returns c = let A = c.args in let P = c.requires in let b = A.book.now in let t = type_at (schema b) A.rank in let of = type_at (schema b) (rank_at A.held.now A.i) in let v = bytes_at A.d.now A.held.now A.i in λ σ es w. let n = (get_or es A.k blank).name in
    type-hidden σ n t of v (ap (type_at (schema b)) c.if-held-i.false)
    (sym (c.may_type.ensures σ es A.d.now A.p.now b A.held.now w (omega (arith, inside w.entries A.k P.1)) (omega (arith, P.2, schema-length w.entries.fits)) ∙ granted-next σ es A.k (of_type t) Read) ∙ c.if-may_type.false)
