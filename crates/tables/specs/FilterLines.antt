-- A filter evaluated while its lines are read, an operator before its parts: for the contracts of a program that builds no tree. `serve` does not
-- rest on these.
use Rattle.std.specs.Prelude.{ℕ, zero, suc, ◌||◌, cond, List, [], ◌∷◌, eqb}
use Rattle.rules.specs.Sheet.{Line, Sheet, end, broken, row}
use Rattle.rules.specs.Value.{Piece}
use Rattle.rules.specs.Filter.{Assertion, equality, at_least, at_most, present, substrings, negation}
use Rattle.rules.specs.declared.Edition.{Edition}
use Rattle.rules.specs.declared.Edition.TheVariants.{LaterLogic, FirstEdition}
use Rattle.rules.specs.declared.Truth.{Truth}
use Rattle.rules.specs.declared.Truth.TheVariants.{True, False, Undefined}

-- ---- and, or: one part at a time

abbrev pub both : Truth → Truth → Truth
both False u = False
both True u = u
both Undefined False = False
both Undefined True = Undefined
both Undefined Undefined = Undefined

abbrev pub either : Truth → Truth → Truth
either True u = True
either False u = u
either Undefined True = True
either Undefined False = Undefined
either Undefined Undefined = Undefined

-- in the first edition, where undefined is neutral
abbrev pub both_first : Truth → Truth → Truth
both_first Undefined u = u
both_first False u = False
both_first True False = False
both_first True True = True
both_first True Undefined = True

abbrev pub either_first : Truth → Truth → Truth
either_first Undefined u = u
either_first True u = True
either_first False True = True
either_first False False = False
either_first False Undefined = False

abbrev pub both_in : Edition → Truth → Truth → Truth
both_in LaterLogic t u = both t u
both_in FirstEdition t u = both_first t u

abbrev pub either_in : Edition → Truth → Truth → Truth
either_in LaterLogic t u = either t u
either_in FirstEdition t u = either_first t u

-- what the joining of `n` parts starts from, where `t` is the truth of no parts
abbrev pub start_in : Edition → Truth → ℕ → Truth
start_in LaterLogic t n = t
start_in FirstEdition t zero = t
start_in FirstEdition t (suc n) = Undefined

-- ---- lines

-- the first `n` lines as pieces, and what follows them
unfoldable pub pieces_of : ℕ → Sheet → List Piece
pieces_of zero s = []
pieces_of (suc n) end = []
pieces_of (suc n) broken = []
pieces_of (suc n) (row x rest) = record { place = x.a; bytes = x.bytes } ∷ pieces_of n rest

unfoldable pub after_lines : ℕ → Sheet → Sheet
after_lines zero s = s
after_lines (suc n) end = end
after_lines (suc n) broken = broken
after_lines (suc n) (row x rest) = after_lines n rest

-- the item of a line K 23 to 27, and what follows it
unfoldable pub assertion_of : Line → Sheet → Assertion
assertion_of x rest =
    cond (eqb x.kind 23) (equality x.a x.bytes)
    (cond (eqb x.kind 24) (at_least x.a x.bytes)
    (cond (eqb x.kind 25) (at_most x.a x.bytes)
    (cond (eqb x.kind 26) (present x.a)
    (substrings x.a (pieces_of x.b rest)))))

unfoldable pub after_item : Line → Sheet → Sheet
after_item x rest = cond (eqb x.kind 23 || (eqb x.kind 24 || (eqb x.kind 25 || eqb x.kind 26))) rest (after_lines x.b rest)

pub record Evaluated : Type 0 where
  pub truth : Truth
  pub rest : Sheet

abbrev pub evaluated : Truth → Sheet → Evaluated
evaluated t s = record { truth = t; rest = s }

-- `n` parts joined to what came before
unfoldable pub parts_from : (Truth → Truth → Truth) → (Sheet → Evaluated) → ℕ → Truth → Sheet → Evaluated
parts_from join one zero t s = evaluated t s
parts_from join one (suc n) t s = parts_from join one n (join t (one s).truth) (one s).rest

module _ (ed : Edition) (m : Assertion → Truth) where
  unfoldable pub evaluate_line : (Sheet → Evaluated) → Line → Sheet → Evaluated
  evaluate_line one x rest =
      cond (eqb x.kind 20) (parts_from (both_in ed) one x.a (start_in ed True x.a) rest)
      (cond (eqb x.kind 21) (parts_from (either_in ed) one x.a (start_in ed False x.a) rest)
      (cond (eqb x.kind 22) (evaluated (negation (one rest).truth) (one rest).rest)
      (evaluated (m (assertion_of x rest)) (after_item x rest))))

  unfoldable pub evaluate_sheet : (Line → Sheet → Evaluated) → Sheet → Evaluated
  evaluate_sheet f end = evaluated Undefined end
  evaluate_sheet f broken = evaluated Undefined broken
  evaluate_sheet f (row x rest) = f x rest

  -- the filter at the front of a sheet, at most `depth` levels deep
  unfoldable pub evaluate_lines : ℕ → Sheet → Evaluated
  evaluate_lines zero s = evaluated Undefined s
  evaluate_lines (suc depth) s = evaluate_sheet (evaluate_line (evaluate_lines depth)) s
