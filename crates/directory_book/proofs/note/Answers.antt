use Prim.Native.Nat.{ℕ, ◌+◌, ◌-◌}
use mathlib.Core.Path.{◌≡◌, ap, ◌∙◌}
use native.Mathlib.Omega.{arith}
use mathlib.Core.List.{List}
use lib.ListN.{length, take, set}
use borrow.Author.Rules.{rules}
use borrow.Rule.Slice.PartMut.{put_mid}
use Rattle.tables.specs.Book.{schema_column, BOOK}
use Rattle.directory_sheet.specs.declared.Notes.{Notes}
use Rattle.directory_book.specs.Filled.{column_put}
use Rattle.directory_book.specs.Laws.Put.{put-copied, entered, entered-start}
use Rattle.directory_book.specs.Laws.Filled.{Fit, book_columns, entry-on, last_on, size₀, size₁}
use Rattle.directory_book.specs.Laws.Entries.{fit_of, lines-within, filled-stands}
use Rattle.directory_book.proofs.note.Goals as goal

-- the book after the types
types-put : (w : ℕ) (r : Notes) (b ys : List ℕ) (k : ℕ) → Fit r → length b ≡ BOOK → k ≡ r.types → ys ≡ take r.types r.schema
    → put_mid schema_column k (set (set (set b 0 w) 1 r.types) 2 r.count) ys ≡ column_put (set (set (set b 0 w) 1 r.types) 2 r.count) schema_column r.schema r.types
types-put w r b ys k f size z e = put-copied _ schema_column r.types k r.schema ys z (omega (arith, size₀ w r b f size)) (omega (arith, f)) e

-- the book after the entries
all_entered : (w : ℕ) (r : Notes) (x y now : List ℕ) (k : ℕ) → k ≡ r.count → x ≡ y → now ≡ entered (book_columns w r) k x → now ≡ entered (book_columns w r) r.count y
all_entered w r x y now k e q p = p ∙ ap (λ (k : ℕ). entered (book_columns w r) k x) e ∙ ap (entered (book_columns w r) r.count) q

pub loop-k-init : goal.loop-k-init
loop-k-init c = let f = fit_of c.requires.1.4 in (f.count, entered-start (book_columns c.args.f.width c.args.notes) _)

pub place-requires : goal.place-requires
place-requires c = omega (arith, c.requires.0.most, lines-within c.args.f c.requires.1.3 c.requires.1.4 c.loop-k.k c.loop-k-test.true)

pub loop-k-preserved : goal.loop-k-preserved
loop-k-preserved c =
    let A = c.args in
    let f = fit_of c.requires.1.4 in
    let L = c.loop-k in
    let more = c.loop-k-test.true in
    let z : 8 + A.notes.types - 8 ≡ A.notes.types = omega arith in
    let e : c.copy_from_slice.new.self ≡ take A.notes.types A.notes.schema = search rules in
    let put = types-put A.f.width A.notes A.book.now _ _ f c.requires.2 z e in
    let size = ap length put ∙ size₁ A.f.width A.notes A.book.now f c.requires.2 in
    (L.invariant.0, rw c.place.ensures (entry-on A.f.width A.notes _ f size L.k more L.invariant.1))

pub returns : goal.returns
returns c =
    let A = c.args in
    let r = A.notes in
    let f = fit_of c.requires.1.4 in
    let L = c.loop-k in
    let e : L.k ≡ r.count = omega (arith, c.loop-k-test.false) in
    let z : 8 + r.types - 8 ≡ r.types = omega arith in
    let s : c.copy_from_slice.new.self ≡ take r.types r.schema = search rules in
    let put = types-put A.f.width r A.book.now _ _ f c.requires.2 z s in
    let all = all_entered A.f.width r _ _ _ _ e put L.invariant.1 in
    let is = last_on A.f.width r A.book.now f c.requires.2 all in
    (is, rw is (filled-stands A.f r A.book.now c.requires.0 c.requires.2))
