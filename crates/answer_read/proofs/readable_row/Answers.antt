use Rattle.tables.specs.Sets.{granted_at}
use Prim.Native.Nat.{ℕ, ◌+◌, ◌≤◌, ◌<◌}
use mathlib.Core.Path.{sym, ap, ◌∙◌}
use native.Mathlib.Omega.{arith}
use lib.ListN.{length, get_or}
use Rattle.rules.specs.Directory.{blank}
use mathlib.Core.List.{List}
use Rattle.rules.specs.Decision.{of_type, of_value}
use Rattle.rules.specs.Permission.{Read}
use Rattle.tables.specs.Book.{schema}
use Rattle.tables.specs.Held.{rank_at, bytes_at, type_at}
use Rattle.tables.specs.Laws.Book.{schema-length}
use Rattle.tables.specs.Laws.World.{known-types, inside, rows-within, rank-within, bytes-within}
use Rattle.answer_read.specs.Laws.Read.{granted-next, unselected, type-hidden, type-enough, value-asked}
use Rattle.answer_read.proofs.readable_row.Goals as goal

pub offset_bounds-held-i : goal.offset_bounds-held-i
offset_bounds-held-i c = let A = c.args in let E = c.requires.0.2.entries in let r = rows-within E A.k c.requires.1 in omega (arith, r.1, c.requires.3)

pub bounds-held-i : goal.bounds-held-i
bounds-held-i c = let A = c.args in let E = c.requires.0.2.entries in let r = rows-within E A.k c.requires.1 in omega (arith, r.1, c.requires.3)

pub chosen-requires : goal.chosen-requires
chosen-requires c = let A = c.args in let E = c.requires.0.2.entries in let R = rank-within E A.k c.requires.1 A.i c.requires.2 c.requires.3 in omega (arith, R, E.fits.few-types)

pub may_type-requires : goal.may_type-requires
may_type-requires c = let A = c.args in let E = c.requires.0.2.entries in let R = rank-within E A.k c.requires.1 A.i c.requires.2 c.requires.3 in (omega arith, known-types c.requires.0 _ (omega (arith, c.requires.1)) _ R)

pub bytes-requires : goal.bytes-requires
bytes-requires c = let A = c.args in let E = c.requires.0.2.entries in (omega (arith, (rows-within E A.k c.requires.1).1, c.requires.3), bytes-within E A.k c.requires.1 A.i c.requires.2 c.requires.3)

pub may_value-requires : goal.may_value-requires
may_value-requires c = let A = c.args in let E = c.requires.0.2.entries in let R = rank-within E A.k c.requires.1 A.i c.requires.2 c.requires.3 in (omega (arith, c.requires.1), R, omega arith, (c.args.d.now, c.args.held.now, c.requires.0))

pub returns-then-choice : goal.returns-then-choice
returns-then-choice c = let A = c.args in let b = A.book.now in let h = A.held.now in let E = c.requires.0.2.entries in let R = rank-within E A.k c.requires.1 A.i c.requires.2 c.requires.3 in λ σ es s w ch. let k = A.k in let n = (get_or es k blank).name in let t = type_at (schema b) (rank_at h A.i) in let v = bytes_at A.d.now h A.i in let l : k + 1 ≤ length es = omega (arith, inside w.entries k c.requires.1) in let rl : rank_at h A.i < length (schema b) = omega (arith, R, schema-length w.entries.fits) in c.may_value.ensures σ es A.d.now h w ∙ (ap (λ (x : List ℕ). granted_at σ es (k + 1) (of_value t x) Read) c.bytes.ensures) ∙ granted-next σ es k (of_value t v) Read ∙ sym (value-asked σ s n t v (sym (ch.ranks (rank_at h A.i) rl) ∙ sym c.chosen.ensures ∙ c.if-chosen.true) (sym (granted-next σ es k (of_type t) Read) ∙ sym (c.may_type.ensures σ es A.d.now A.p.now b h w l rl) ∙ c.if-may_type.true) (sym ch.values ∙ c.if-choice.true))

pub returns-then-may_type : goal.returns-then-may_type
returns-then-may_type c = let A = c.args in let b = A.book.now in let h = A.held.now in let E = c.requires.0.2.entries in let R = rank-within E A.k c.requires.1 A.i c.requires.2 c.requires.3 in λ σ es s w ch. let k = A.k in let n = (get_or es k blank).name in let t = type_at (schema b) (rank_at h A.i) in let v = bytes_at A.d.now h A.i in let l : k + 1 ≤ length es = omega (arith, inside w.entries k c.requires.1) in let rl : rank_at h A.i < length (schema b) = omega (arith, R, schema-length w.entries.fits) in sym (type-enough σ s n t v (sym (ch.ranks (rank_at h A.i) rl) ∙ sym c.chosen.ensures ∙ c.if-chosen.true) (sym (granted-next σ es k (of_type t) Read) ∙ sym (c.may_type.ensures σ es A.d.now A.p.now b h w l rl) ∙ c.if-may_type.true) (sym ch.values ∙ c.if-choice.false))

pub returns-then-chosen : goal.returns-then-chosen
returns-then-chosen c = let A = c.args in let b = A.book.now in let h = A.held.now in let E = c.requires.0.2.entries in let R = rank-within E A.k c.requires.1 A.i c.requires.2 c.requires.3 in λ σ es s w ch. let k = A.k in let n = (get_or es k blank).name in let t = type_at (schema b) (rank_at h A.i) in let v = bytes_at A.d.now h A.i in let l : k + 1 ≤ length es = omega (arith, inside w.entries k c.requires.1) in let rl : rank_at h A.i < length (schema b) = omega (arith, R, schema-length w.entries.fits) in sym (type-hidden σ s n t v (sym (ch.ranks (rank_at h A.i) rl) ∙ sym c.chosen.ensures ∙ c.if-chosen.true) (sym (granted-next σ es k (of_type t) Read) ∙ sym (c.may_type.ensures σ es A.d.now A.p.now b h w l rl) ∙ c.if-may_type.false))

pub returns : goal.returns
returns c = let A = c.args in let b = A.book.now in let h = A.held.now in let E = c.requires.0.2.entries in let R = rank-within E A.k c.requires.1 A.i c.requires.2 c.requires.3 in λ σ es s w ch. let k = A.k in let n = (get_or es k blank).name in let t = type_at (schema b) (rank_at h A.i) in let v = bytes_at A.d.now h A.i in let l : k + 1 ≤ length es = omega (arith, inside w.entries k c.requires.1) in let rl : rank_at h A.i < length (schema b) = omega (arith, R, schema-length w.entries.fits) in sym (unselected σ s n t v (sym (ch.ranks (rank_at h A.i) rl) ∙ sym c.chosen.ensures ∙ c.if-chosen.false))
