-- Document 01, "Sheets" and "Who is refused, and why": the request sheet. Refusals 21 to 23, and 24 of #106.
use Rattle.std.specs.Prelude.{ℕ, zero, suc, ◌+◌, Bool, true, false, ◌&&◌, ◌||◌, not, cond, List, [], ◌∷◌, map, ltb, eqb, length}
use Rattle.std.proofs.Math.Option.{Option, none, some}
use Rattle.rules.specs.Sheet.{Bytes, Line, Sheet, end, broken, row, lines}
use Rattle.rules.specs.declared.Format.{Format}
use Rattle.rules.specs.Columns.{request_forms, in_form}
use Rattle.rules.specs.Value.{Piece, ordered}
use Rattle.rules.specs.Name.{Schema, Name, of_syntax}
use Rattle.rules.specs.Judge.{Verdict, accept, refuse, refuse_if, then, Grammar, misplaced, at_end, due, due_lines, follows, name_of}
use Rattle.rules.specs.Decision.{Requester}
use Rattle.rules.specs.declared.Edition.{Edition}
use Rattle.rules.specs.declared.Edition.TheVariants.{LaterLogic, FirstEdition}
use Rattle.rules.specs.Filter.{equality, at_least, at_most, present, substrings, Filter, and, or, not', item, Filters, more}
use Rattle.rules.specs.Filter

-- ---- what a request asks

-- K 12: all types or those listed, and whether values are wanted
pub record Selection : Type 0 where
  pub listed : Bool
  pub types : List ℕ
  pub values : Bool

-- #106, K 16: "A type, B 0 rising, 1 falling"
pub record Ordering : Type 0 where
  pub type : ℕ
  pub falling : Bool

pub record Search : Type 0 where
  -- the size limit; 0 is none
  pub limit : ℕ
  pub selection : Selection
  pub ordering : Option Ordering
  -- K 15: 0 base, 1 one level, 2 subtree
  pub subset : ℕ
  pub filter : Filter
  pub edition : Edition

pub data Operation : Type 0 where
  read : Selection → Operation
  compare : ℕ → Bytes → Operation
  list : ℕ → Operation
  search : Search → Operation

pub record Request : Type 0 where
  pub requester : Requester
  -- the name asked for
  pub base : Name
  pub operation : Operation

-- #104: "line 10 gets C: 0 later logic, 1 first edition"
unfoldable pub edition_of : ℕ → Edition
edition_of c = cond (eqb c 1) FirstEdition LaterLogic

-- ---- the judge: the lines that are due, in their order

abbrev pub request_grammar : ℕ → Grammar
request_grammar top = record { forms = request_forms top; sound = λ x. true; refusals = 20 }

module _ {A : Type 0} where
  -- `n` filters, each read by `one`
  unfoldable pub filters : (ℕ → Sheet → (Filter → ℕ → Sheet → Verdict A) → Verdict A) → ℕ → ℕ → Sheet → (Filters → ℕ → Sheet → Verdict A) → Verdict A
  filters one zero left s next = next Filter.none left s
  filters one (suc n) left s next = one left s λ f left s. filters one n left s λ fs. next (more f fs)

module _ {A : Type 0} (g : Grammar) where
  -- a line of a filter, "at most 128 lines of K 20 to 28": `left` more are allowed
  unfoldable pub filter_line : ℕ → Sheet → (ℕ → Line → Sheet → Verdict A) → Verdict A
  filter_line zero s next = misplaced g s
  filter_line (suc left) end next = misplaced g end
  filter_line (suc left) broken next = misplaced g broken
  filter_line (suc left) (row x rest) next = refuse_if (not (in_form g.forms x)) (g.refusals + 2) (next left x rest)

  -- K 28: "initial only first, final only last"; `n` pieces are due, of which the first is the item's first
  unfoldable pub pieces : Bool → ℕ → ℕ → Sheet → (List Piece → ℕ → Sheet → Verdict A) → Verdict A
  pieces first zero left s next = next [] left s
  pieces first (suc n) left s next =
      filter_line left s λ left x rest.
      refuse_if (not (eqb x.kind 28) || (eqb x.a 0 && not first || eqb x.a 2 && not (eqb n 0))) (g.refusals + 3)
      (pieces false n left rest λ ps. next (record { place = x.a; bytes = x.bytes } ∷ ps))

  -- "one filter, an operator before its parts", by the kind of its line; `one` reads a filter one level deeper
  unfoldable pub filter_of : (ℕ → Sheet → (Filter → ℕ → Sheet → Verdict A) → Verdict A) → (Filter → ℕ → Sheet → Verdict A) → ℕ → Line → Sheet → Verdict A
  filter_of one next left x s =
      let k = x.kind in
      cond (eqb k 20) (filters one x.a left s λ fs. next (and fs))
      (cond (eqb k 21) (filters one x.a left s λ fs. next (or fs))
      (cond (eqb k 22) (one left s λ f. next (not' f))
      (cond (eqb k 23) (next (item (equality x.a x.bytes)) left s)
      (cond (eqb k 24) (next (item (at_least x.a x.bytes)) left s)
      (cond (eqb k 25) (next (item (at_most x.a x.bytes)) left s)
      (cond (eqb k 26) (next (item (present x.a)) left s)
      (cond (eqb k 27) (pieces true x.b left s λ ps. next (item (substrings x.a ps)))
      (refuse (g.refusals + 3)))))))))

  -- "filters nest up to depth 16": `depth` more levels are allowed
  unfoldable pub filter : ℕ → ℕ → Sheet → (Filter → ℕ → Sheet → Verdict A) → Verdict A
  filter zero left s next = misplaced g s
  filter (suc depth) left s next = filter_line left s (filter_of (filter depth) next)

  -- K 12 and its K 13
  unfoldable pub selection : Sheet → (Selection → Sheet → Verdict A) → Verdict A
  selection s next =
      due g 12 s λ x s. due_lines g 13 x.b s λ ts s.
      next (record { listed = eqb x.a 1; types = map (λ t. t.a) ts; values = eqb x.c 1 }) s

  -- #106: "a search may carry K 16 just before K 15"
  unfoldable pub ordering : Sheet → (Option Ordering → Sheet → Verdict A) → Verdict A
  ordering s next = cond (follows 16 s) (due g 16 s λ x. next (some (record { type = x.a; falling = eqb x.b 1 }))) (next none s)

  -- the lines after K 11, `x`, by its operation; a search is asked in the edition of K 10
  unfoldable pub operation : Edition → Line → Sheet → (Operation → Sheet → Verdict A) → Verdict A
  operation ed x s next =
      cond (eqb x.a 1) (selection s λ r. next (read r))
      (cond (eqb x.a 2) (due g 14 s λ y. next (compare y.a y.bytes))
      (cond (eqb x.a 3) (next (list x.c) s)
      (selection s λ r s. ordering s λ o s. due g 15 s λ y s. filter 16 128 s λ f left s.
      next (search (record { limit = x.c; selection = r; ordering = o; subset = y.a; filter = f; edition = ed })) s)))

-- the whole; a surplus line after it is out of order
unfoldable pub request : Grammar → Sheet → Verdict Request
request g s =
    due g 10 s λ x s. due_lines g 9 x.b s λ name s. due g 11 s λ y s. due_lines g 9 y.b s λ base s.
    operation g (edition_of x.c) y s λ o s.
    at_end (record { requester = record { level = x.a; name = name_of name }; base = name_of base; operation = o }) s (misplaced g s)

abbrev pub ordering_of : Operation → Option Ordering
ordering_of (read s) = none
ordering_of (compare t v) = none
ordering_of (list limit) = none
ordering_of (search r) = r.ordering

-- #106: "24, the type is unknown or has no order"
abbrev pub has_order : Schema → Option Ordering → Bool
has_order S none = true
has_order S (some o) = of_syntax S ordered o.type

-- the request, "at most 8,192 bytes", or the refusal; 24 "once 21 to 23 are clear"
unfoldable pub request_of : Format → Schema → Bytes → Verdict Request
request_of f S s =
    then (refuse_if (ltb 8192 (length s)) 21 (request (request_grammar f.top) (lines f.width s))) λ r.
    refuse_if (not (has_order S (ordering_of r.operation))) 24 (accept r)
