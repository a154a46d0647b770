use Prim.Native.Nat.{ℕ, ◌+◌, ◌-◌, ◌<◌}
use mathlib.Core.List.{List}
use mathlib.Core.Path.{◌≡◌, sym, ap, ap₂, ◌∙◌}
use native.Mathlib.Omega.{arith}
use borrow.Author.Tests.{not-true, not-false}
use Rattle.rules.specs.Sheet.{Bytes}
use Rattle.rules.specs.Name.{part, same_part, covers}
use Rattle.rules.specs.Places.{schema_of, lines_at, parts_of}
use Rattle.sheet_line.specs.Laws.{taken-fits-line}
use Rattle.tables.specs.Book.{width}
use Rattle.directory_lookup.specs.Laws.Names.{parts-by, covers-all, covers-none, covers-short, covers-apart, covers-on, covers-done}
use Rattle.directory_lookup.proofs.Untaken.{no-parts-else}
use Rattle.directory_lookup.proofs.names.covers.Goals as goal

pub loop-a-init : goal.loop-a-init
loop-a-init c =
    let a = c.args in
    let w = width a.book.now in
    let z : a.n - 0 ≡ a.n = omega arith in
    let y : a.m - 0 ≡ a.m = omega arith in
    rw (z, y) (ap (λ (ks : List ℕ). covers (schema_of ks) (parts_of a.n (lines_at w a.s.now a.i)) (parts_of a.m (lines_at w a.t.now a.j))) c.schema-types.ensures)

pub returns-in_default : goal.returns-in_default
returns-in_default c =
    let a = c.args in
    let L = c.loop-a in
    let w = width a.book.now in
    let more : 0 < a.n - L.a = omega (arith, c.loop-a-test.true) in
    sym (covers-all (schema_of c.schema-types.result.now) _ (parts_of (a.m - L.a) (lines_at w a.t.now L.l)) (no-parts-else w a.s.now L.k (a.n - L.a) more _ (sym c.take.ensures) c.in_default.not-Line)) ∙ L.invariant

pub returns-then-m-a : goal.returns-then-m-a
returns-then-m-a c =
    let a = c.args in
    let L = c.loop-a in
    let w = width a.book.now in
    let more : 0 < a.n - L.a = omega (arith, c.loop-a-test.true) in
    let e = parts-by w a.s.now L.k (a.n - L.a) more _ ((sym c.take.ensures ∙ c.in-Line.is)) in
    sym (covers-none (schema_of c.schema-types.result.now) _ _ _ (lines_at w a.t.now L.l) (a.m - L.a) e (omega (arith, c.if-m-a.true))) ∙ L.invariant

pub returns-in_default-take : goal.returns-in_default-take
returns-in_default-take c =
    let a = c.args in
    let L = c.loop-a in
    let w = width a.book.now in
    let more : 0 < a.n - L.a = omega (arith, c.loop-a-test.true) in
    let e = parts-by w a.s.now L.k (a.n - L.a) more _ ((sym c.take.ensures ∙ c.in-Line.is)) in
    sym (covers-short (schema_of c.schema-types.result.now) _ _ _ _ e (no-parts-else w a.t.now L.l (a.m - L.a) (omega (arith, c.if-m-a.false)) _ (sym c.take-in-loop-a.ensures) c.in_default-take.not-Line)) ∙ L.invariant

pub bytes-requires : goal.bytes-requires
bytes-requires c =
    let a = c.args in
    let f = taken-fits-line (width a.book.now) a.s.now c.loop-a.k ((sym c.take.ensures ∙ c.in-Line.is)) in
    omega (arith, f.next, f.within)

pub bytes-requires-in-loop-a : goal.bytes-requires-in-loop-a
bytes-requires-in-loop-a c =
    let a = c.args in
    let f = taken-fits-line (width a.book.now) a.t.now c.loop-a.l ((sym c.take-in-loop-a.ensures ∙ c.in-Line-take.is)) in
    omega (arith, f.next, f.within)

pub returns-then-not-same_part : goal.returns-then-not-same_part
returns-then-not-same_part c =
    let a = c.args in
    let L = c.loop-a in
    let w = width a.book.now in
    let more : 0 < a.n - L.a = omega (arith, c.loop-a-test.true) in
    let e = parts-by w a.s.now L.k (a.n - L.a) more _ ((sym c.take.ensures ∙ c.in-Line.is)) in
    let f = parts-by w a.t.now L.l (a.m - L.a) (omega (arith, c.if-m-a.false)) _ ((sym c.take-in-loop-a.ensures ∙ c.in-Line-take.is)) in
    sym (covers-apart (schema_of c.schema-types.result.now) _ _ _ _ e _ _ f (sym ((c.same_part.ensures ∙ ap₂ (λ (v u : Bytes). same_part (schema_of c.schema-types.result.now) (part c.in-Line.x.a v) (part c.in-Line-take.y.a u)) c.bytes.ensures c.bytes-in-loop-a.ensures)) ∙ not-true _ c.if-not-same_part.true-raw)) ∙ L.invariant

pub loop-a-preserved : goal.loop-a-preserved
loop-a-preserved c =
    let a = c.args in
    let L = c.loop-a in
    let w = width a.book.now in
    let more : 0 < a.n - L.a = omega (arith, c.loop-a-test.true) in
    let e = parts-by w a.s.now L.k (a.n - L.a) more _ ((sym c.take.ensures ∙ c.in-Line.is)) in
    let f = parts-by w a.t.now L.l (a.m - L.a) (omega (arith, c.if-m-a.false)) _ ((sym c.take-in-loop-a.ensures ∙ c.in-Line-take.is)) in
    let z : a.n - (L.a + 1) ≡ a.n - L.a - 1 = omega arith in
    let y : a.m - (L.a + 1) ≡ a.m - L.a - 1 = omega arith in
    rw (z, y) (sym (covers-on (schema_of c.schema-types.result.now) _ _ _ _ e _ _ f (sym ((c.same_part.ensures ∙ ap₂ (λ (v u : Bytes). same_part (schema_of c.schema-types.result.now) (part c.in-Line.x.a v) (part c.in-Line-take.y.a u)) c.bytes.ensures c.bytes-in-loop-a.ensures)) ∙ not-false _ c.if-not-same_part.false-raw)) ∙ L.invariant)

pub returns : goal.returns
returns c =
    let a = c.args in
    let L = c.loop-a in
    let w = width a.book.now in
    sym (covers-done (schema_of c.schema-types.result.now) (lines_at w a.s.now L.k) (a.n - L.a) (parts_of (a.m - L.a) (lines_at w a.t.now L.l)) (omega (arith, c.loop-a-test.false))) ∙ L.invariant
