use Rattle.std.proofs.Common.{rules, arith, ◌≡◌, ℕ, suc, ◌+◌, ◌≤◌, ◌<◌, true, false, Option, None, Some, eqb, ltb, get_or, sym, ◌∙◌, subst}
use Rattle.std.specs.Bool.{MatchBool}
use Rattle.std.specs.Option.{MatchOption, unwrap_or}
use Rattle.std.proofs.lemmas.Iterator.{first_from_Range}
use borrow.Author.Tests.{lt-ltb, le-ltb, eqb-true}
use Rattle.tables.specs.Book.{schema, first_column, first_at}
use Rattle.tables.specs.Held.{rank_at, type_at}
use Rattle.tables.specs.Laws.Book.{end_is}
use Rattle.tables.specs.Laws.World.{rows_of, rows-within}
use Rattle.answer_entry.specs.Laws.Rows.{any_of_rows}
use Rattle.answer_compare.specs.Laws.Compare.{holds-values}
use Rattle.answer_compare.proofs.row_of.Goals as goal

-- what is told of the first row up to `end` that has the type, or of `end`, which is `last`
module _ (first end last t : ℕ) (type : ℕ → ℕ) (le : first ≤ last) (same : end ≡ last) where
  abbrev Told : ℕ → Type 0
  Told r = (first ≤ r) × (r < last → type r ≡ t) × MatchBool (ltb r last) ((i : ℕ) × (first ≤ i) × (i < end) × (eqb (type i) t ≡ true)) ((i : ℕ) → first ≤ i → i < end → eqb (type i) t ≡ false)

  told : (o : Option ℕ) → MatchOption o ((i : ℕ) → first ≤ i → i < end → eqb (type i) t ≡ false) (λ i. (first ≤ i) × (i < end) × (eqb (type i) t ≡ true) × ((k : ℕ) → first ≤ k → k < i → eqb (type k) t ≡ false)) → Told (unwrap_or o end)
  told None f = (omega arith, λ l. absurd (omega arith), rw (le-ltb end last (omega arith)) f)
  told (Some i) f = (f.0, λ l. eqb-true (type i) t f.2, rw (lt-ltb i last (omega (arith, f.1))) (i, f.0, f.1, f.2))

pub returns : goal.returns
returns c = let A = c.args in let b = A.book.now in
    let type = λ (i : ℕ). type_at (schema b) (rank_at A.held.now i) in
    let le = (rows-within c.requires.0.3.2.entries A.k c.requires.1).0 in
    let end = get_or b (first_column + 1 + A.k) 0 in
    let P = Told (first_at b A.k) end (first_at b (suc A.k)) A.t type le (end_is b A.k) in
    let found = first_from_Range _ _ _ _ (λ i. eqb (type i) A.t ≡ true) (λ i. eqb (type i) A.t ≡ false) c.find.ensures.ran (λ i q m. search rules) (λ i q m. (search rules, search rules)) in
    let h : P c.unwrap_or.result = subst P (sym c.unwrap_or.ensures) (told (first_at b A.k) end (first_at b (suc A.k)) A.t type le (end_is b A.k) c.find.result found) in
    (h.0, h.1, λ σ es d p sets w. holds-values σ es A.k A.t ∙ sym (any_of_rows (rows_of w.entries A.k c.requires.1) (end_is b A.k) (λ u. eqb u.type A.t) _ h.2))
