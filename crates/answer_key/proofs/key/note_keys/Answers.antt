use Prim.Native.Nat.{ℕ, ◌<◌}
use mathlib.Core.Path.{sym, ap, ◌∙◌, subst}
use native.Mathlib.Omega.{arith}
use native.Mathlib.Numerals.{add-one}
use lib.ListN.{length, get_or, take, set, length-set}
use lib.Seq.{take-suc, take_all}
use Rattle.rules.specs.Derived.{Each}
use Rattle.rules.proofs.Laws.Each.{each_at}
use Rattle.tables.specs.Book.{entry_count, schema}
use Rattle.tables.specs.Held.{type_at}
use Rattle.answer_key.specs.Keys.{KeyOf}
use Rattle.answer_key.specs.Laws.Keys.{key-noted}
use Rattle.answer_key.proofs.key.note_keys.Goals as goal

pub loop-k-init : goal.loop-k-init
loop-k-init c = (c.requires.3, tt)

pub loop-k-preserved : goal.loop-k-preserved
loop-k-preserved c = let A = c.args in let P = c.requires in let L = c.loop-k in let l = c.loop-k-test.true in
    let k = get_or A.found.now L.k-index 0 in
    let inside : k < length L.keys = omega (arith, L.invariant.0, P.0.2.entries.fits.few-entries, each_at (λ k. k < entry_count A.book.now) 0 A.found.now P.2 L.k-index l) in
    let Q = KeyOf A.d.now A.p.now A.book.now A.held.now A.sets.now (type_at (schema A.book.now) A.rank) in (
      length-set L.keys k c.key_of.result ∙ L.invariant.0,
      subst (Each (λ k'. Q k' (get_or (set L.keys k c.key_of.result) k' 0))) (sym (ap (λ (m : ℕ). take m A.found.now) (add-one L.k-index) ∙ take-suc A.found.now L.k-index 0 l))
          (key-noted Q L.keys k c.key_of.result inside c.key_of.ensures (take L.k-index A.found.now) L.invariant.1),
    )

pub returns : goal.returns
returns c = let A = c.args in let L = c.loop-k in
    (L.invariant.0, subst (Each (λ k. KeyOf A.d.now A.p.now A.book.now A.held.now A.sets.now (type_at (schema A.book.now) A.rank) k (get_or L.keys k 0))) (take_all L.k-index A.found.now (omega arith)) L.invariant.1)
