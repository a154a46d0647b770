-- Laws of `Hits`: the tests of the rules at an index, and the hits as indices that pass.
use Rattle.std.specs.Prelude.{ℕ, suc, ◌<◌, ◌≡◌, Bool, true, false, ◌&&◌, List, [], ◌∷◌, map, length, get_or, Some}
use Rattle.std.proofs.Common.{sym, ◌∙◌, eq-eqb, ne_eqb}
use Rattle.std.proofs.Math.Path.{ap}
use Rattle.std.proofs.Math.Bool.{or-false}
use Rattle.std.proofs.Math.Dec.{eqb}
use Rattle.rules.specs.Sheet.{line, bit}
use Rattle.rules.specs.Name.{Name}
use Rattle.rules.specs.Directory.{Stored, blank, entry_of}
use Rattle.rules.specs.Permission.{Browse, ReturnDN}
use Rattle.rules.specs.Decision.{Setting, entry, granted}
use Rattle.rules.specs.Answer as Answer
use Rattle.rules.specs.Derived.{Accepted}
use Rattle.rules.proofs.Laws.Tests.{and_left}
use Rattle.tables.specs.Laws.Hits.{listed-number, child-hit}
use Rattle.tables.specs.Laws.Targets.{aliased-number}
use Rattle.tables.specs.Numbers.{walk}
use Rattle.tables.specs.Sets.{granted_at}
use Rattle.tables.specs.Plan.{aliases_of, child_lines}
use Rattle.answer_entry.specs.Returned.{browsable_at, returnable_at}
use Rattle.answer_entry.specs.Passing.{passing}
use Rattle.answer_entry.specs.Laws.Passing.{hits-passing}
use Rattle.answer_list.specs.Hits.{listed_at}

-- ---- what the code finds of an entry

module _ (σ : Setting) (es : List Stored) (b k : ℕ) where
  pub listed-other : ((get_or es k blank).parent ≡ b → ⊥) → false ≡ listed_at σ es b k
  unfolding listed_at
  listed-other h = rw (ne_eqb (get_or es k blank).parent b h)

  pub listed-child : (get_or es k blank).parent ≡ b → returnable_at σ es (suc k) false ≡ listed_at σ es b k
  unfolding listed_at
  listed-child h = rw (eq-eqb (get_or es k blank).parent b h)

-- ---- it is the test of the rules

module _ (σ : Setting) (es : List Stored) (ok : Accepted σ.schema es) (n : Name) (b : ℕ) (walked : walk σ.schema es 0 n ≡ Some b) where
  listed-at : (k : ℕ) → k < length es → Answer.listed σ n (entry_of (get_or es k blank)) ≡ listed_at σ es b k
  unfolding listed_at returnable_at browsable_at granted_at
  listed-at k l =
      listed-number σ es ok n b walked k l
      ∙ ap (λ (x : Bool). eqb (get_or es k blank).parent b && (x && granted σ (get_or es k blank).name entry ReturnDN)) (sym (or-false (granted σ (get_or es k blank).name entry Browse)))

  listed-lines : (k : ℕ) → k < length es → listed_at σ es b k ≡ true → Answer.list_hit σ (aliases_of σ es) n (entry_of (get_or es k blank)) ≡ child_lines es k
  unfolding listed_at child_lines
  listed-lines k l e =
      child-hit σ es ok n b walked k l (aliases_of σ es) (and_left (eqb (get_or es k blank).parent b) _ e)
      ∙ ap (λ (c : Bool). line 32 (get_or es k blank).naming.type 0 (bit c) (get_or es k blank).naming.value ∷ []) (aliased-number (record { schema = σ.schema; entries = es }) ok k l)

  -- the hits, by their indices
  pub list-hits : Answer.list_hits σ (map entry_of es) (aliases_of σ es) n ≡ map (child_lines es) (passing (listed_at σ es b) (length es))
  unfolding Answer.list_hits
  list-hits = hits-passing es (Answer.listed σ n) (listed_at σ es b) listed-at (Answer.list_hit σ (aliases_of σ es) n) (child_lines es) listed-lines
