use Rattle.std.proofs.Common.{rules, ◌≡◌, ℕ, Bool, true, false, List, get_or, sym}
use Rattle.rules.specs.Sheet.{Bytes}
use Rattle.rules.specs.Directory.{Stored, blank}
use Rattle.rules.specs.Decision.{Setting}
use Rattle.rules.specs.Request.{Selection}
use Rattle.tables.specs.Book.{schema}
use Rattle.tables.specs.Held.{rank_at, type_at}
use Rattle.tables.specs.World.{World}
use Rattle.tables.specs.Choice.{Chooses}
use Rattle.tables.specs.Laws.Book.{end_is}
use Rattle.tables.specs.Laws.World.{rows_of}
use Rattle.answer_entry.specs.Laws.Rows.{any-from_Range, any_of_rows}
use Rattle.answer_read.specs.Read.{disclosing}
use Rattle.answer_read.proofs.discloses.Goals as goal

pub returns : goal.returns
returns c = let A = c.args in let b = A.book.now in λ σ es s d p w ch.
    let test = λ (i : ℕ). disclosing σ s (get_or es A.k blank).name (type_at (schema b) (rank_at A.held.now i)) in
    let told : (i : ℕ) (x : Bool) → ((σ : Setting) (es : List Stored) (s : Selection) (d p : Bytes) → World σ es d p b A.held.now A.sets.now → Chooses (schema b) s A.choice → x ≡ disclosing σ s (get_or es A.k blank).name (type_at (schema b) (rank_at A.held.now i))) → test i ≡ x
    = λ i x h. sym (h σ es s d p w ch) in
    any_of_rows (rows_of w.entries A.k c.requires.1) (end_is b A.k) (λ v. disclosing σ s (get_or es A.k blank).name v.type) _
    (any-from_Range _ _ _ _ (λ i. test i ≡ true) (λ i. test i ≡ false) c.any.ensures.ran (λ i q m. search (rules, told i)) (λ i q m. (search rules, search (rules, told i))))
