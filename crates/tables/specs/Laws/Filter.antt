-- Laws of `FilterLines`: a filter evaluated while its lines are read has the truth of the filter that is read.
use Prim.Native.Nat.{ℕ, zero, suc, ◌+◌}
use Rattle.std.specs.Prelude.{◌≡◌, true, ◌&&◌, ◌||◌, List, [], ◌∷◌}
use Rattle.std.proofs.Math.Path.{refl, ap, subst}
use Rattle.std.proofs.Common.{sym, ◌∙◌, true≢false, arith}
use Rattle.std.proofs.Math.Bool.{Bool, false, not, cond}
use Rattle.std.proofs.Math.Dec.{eqb}
use Rattle.rules.specs.Lists.{any, all}
use Rattle.rules.specs.Sheet.{Line, Sheet, end, broken, row}
use Rattle.rules.specs.Columns.{in_form}
use Rattle.rules.specs.Value.{Piece}
use Rattle.rules.specs.Judge.{Grammar, Verdict, accept, refuse}
use Rattle.rules.specs.Filter.{Assertion, equality, at_least, at_most, present, substrings, Filter, and, or, not', item, Filters, none, more, truth, is_true, is_false, is_undefined, all_undefined, conjunction, disjunction, negation, evaluate, evaluate_all}
use Rattle.rules.specs.Request.{filter_line, pieces, filters, filter_of, filter}
use Rattle.tables.specs.FilterLines.{both, either, both_first, either_first, both_in, either_in, start_in, pieces_of, after_lines, assertion_of, after_item, Evaluated, evaluated, parts_from, evaluate_line, evaluate_sheet, evaluate_lines}
use Rattle.rules.proofs.Laws.Judge.{refused-not, not-refused, misplaced-not}
use Rattle.rules.specs.declared.Edition.{Edition}
use Rattle.rules.specs.declared.Edition.TheVariants.{LaterLogic, FirstEdition}
use Rattle.rules.specs.declared.Truth.{Truth}
use Rattle.rules.specs.declared.Truth.TheVariants.{True, False, Undefined}

-- ---- and, or: one part at a time

-- all parts joined, undefined where the first edition has none
conjoined : Edition → List Truth → Truth
conjoined LaterLogic ts = conjunction LaterLogic ts
conjoined FirstEdition ts = cond (all is_undefined ts) Undefined (truth (not (any is_false ts)))

disjoined : Edition → List Truth → Truth
disjoined LaterLogic ts = disjunction LaterLogic ts
disjoined FirstEdition ts = cond (all is_undefined ts) Undefined (truth (any is_true ts))

-- no part is known to be true or false, so none is false
none-false : (ts : List Truth) → any (λ t. not (is_undefined t)) ts ≡ false → any is_false ts ≡ false
none-false [] e = refl
none-false (True ∷ ts) e = absurd (true≢false e)
none-false (False ∷ ts) e = absurd (true≢false e)
none-false (Undefined ∷ ts) e = none-false ts e

none_true : (ts : List Truth) → any (λ t. not (is_undefined t)) ts ≡ false → any is_true ts ≡ false
none_true [] e = refl
none_true (True ∷ ts) e = absurd (true≢false e)
none_true (False ∷ ts) e = absurd (true≢false e)
none_true (Undefined ∷ ts) e = none_true ts e

conj-more : (ed : Edition) (t : Truth) (ts : List Truth) → conjoined ed (t ∷ ts) ≡ both_in ed t (conjoined ed ts)
unfolding conjoined conjunction
conj-more LaterLogic False ts = refl
conj-more LaterLogic True ts = refl
conj-more LaterLogic Undefined ts = go (any is_false ts) (any (λ t. not (is_true t)) ts)
  where
    go : (a b : Bool) → cond a False (cond true Undefined True) ≡ both Undefined (cond a False (cond b Undefined True))
    go true b = refl
    go false true = refl
    go false false = refl
conj-more FirstEdition False ts = refl
conj-more FirstEdition Undefined ts = refl
conj-more FirstEdition True ts = go (any (λ t. not (is_undefined t)) ts) (any is_false ts) (none-false ts)
  where
    go : (a b : Bool) → (a ≡ false → b ≡ false) → truth (not b) ≡ both_first True (cond (not a) Undefined (truth (not b)))
    go true true h = refl
    go true false h = refl
    go false true h = absurd (true≢false (h refl))
    go false false h = refl

disj-more : (ed : Edition) (t : Truth) (ts : List Truth) → disjoined ed (t ∷ ts) ≡ either_in ed t (disjoined ed ts)
unfolding disjoined disjunction
disj-more LaterLogic True ts = refl
disj-more LaterLogic False ts = refl
disj-more LaterLogic Undefined ts = go (any is_true ts) (any (λ t. not (is_false t)) ts)
  where
    go : (a b : Bool) → cond a True (cond true Undefined False) ≡ either Undefined (cond a True (cond b Undefined False))
    go true b = refl
    go false true = refl
    go false false = refl
disj-more FirstEdition True ts = refl
disj-more FirstEdition Undefined ts = refl
disj-more FirstEdition False ts = go (any (λ t. not (is_undefined t)) ts) (any is_true ts) (none_true ts)
  where
    go : (a b : Bool) → (a ≡ false → b ≡ false) → truth b ≡ either_first False (cond (not a) Undefined (truth b))
    go true true h = refl
    go true false h = refl
    go false true h = absurd (true≢false (h refl))
    go false false h = refl

conj-none : (ed : Edition) (t : Truth) → t ≡ both_in ed t (conjoined ed [])
unfolding conjoined conjunction
conj-none LaterLogic True = refl
conj-none LaterLogic False = refl
conj-none LaterLogic Undefined = refl
conj-none FirstEdition True = refl
conj-none FirstEdition False = refl
conj-none FirstEdition Undefined = refl

disj-none : (ed : Edition) (t : Truth) → t ≡ either_in ed t (disjoined ed [])
unfolding disjoined disjunction
disj-none LaterLogic True = refl
disj-none LaterLogic False = refl
disj-none LaterLogic Undefined = refl
disj-none FirstEdition True = refl
disj-none FirstEdition False = refl
disj-none FirstEdition Undefined = refl

-- ---- it is the truth of the filter that was read

both-assoc : (a b c : Truth) → both (both a b) c ≡ both a (both b c)
both-assoc False b c = refl
both-assoc True b c = refl
both-assoc Undefined False c = refl
both-assoc Undefined True c = refl
both-assoc Undefined Undefined False = refl
both-assoc Undefined Undefined True = refl
both-assoc Undefined Undefined Undefined = refl

either-assoc : (a b c : Truth) → either (either a b) c ≡ either a (either b c)
either-assoc True b c = refl
either-assoc False b c = refl
either-assoc Undefined True c = refl
either-assoc Undefined False c = refl
either-assoc Undefined Undefined True = refl
either-assoc Undefined Undefined False = refl
either-assoc Undefined Undefined Undefined = refl

both_first-assoc : (a b c : Truth) → both_first (both_first a b) c ≡ both_first a (both_first b c)
both_first-assoc Undefined b c = refl
both_first-assoc False b c = refl
both_first-assoc True False c = refl
both_first-assoc True Undefined c = refl
both_first-assoc True True False = refl
both_first-assoc True True True = refl
both_first-assoc True True Undefined = refl

either_first-assoc : (a b c : Truth) → either_first (either_first a b) c ≡ either_first a (either_first b c)
either_first-assoc Undefined b c = refl
either_first-assoc True b c = refl
either_first-assoc False True c = refl
either_first-assoc False Undefined c = refl
either_first-assoc False False True = refl
either_first-assoc False False False = refl
either_first-assoc False False Undefined = refl

both_in-assoc : (ed : Edition) (a b c : Truth) → both_in ed (both_in ed a b) c ≡ both_in ed a (both_in ed b c)
both_in-assoc LaterLogic a b c = both-assoc a b c
both_in-assoc FirstEdition a b c = both_first-assoc a b c

either_in-assoc : (ed : Edition) (a b c : Truth) → either_in ed (either_in ed a b) c ≡ either_in ed a (either_in ed b c)
either_in-assoc LaterLogic a b c = either-assoc a b c
either_in-assoc FirstEdition a b c = either_first-assoc a b c

-- the joining from its start is the operator
abbrev size : Filters → ℕ
size none = 0
size (more f fs) = suc (size fs)

conj-whole : (ed : Edition) (m : Assertion → Truth) (n : ℕ) (fs : Filters) → size fs ≡ n
    → both_in ed (start_in ed True n) (conjoined ed (evaluate_all ed m fs)) ≡ conjunction ed (evaluate_all ed m fs)
unfolding conjoined conjunction all_undefined evaluate_all
conj-whole LaterLogic m n fs e = refl
conj-whole FirstEdition m zero none e = refl
conj-whole FirstEdition m zero (more f fs) e = absurd (omega arith)
conj-whole FirstEdition m (suc n) none e = absurd (omega arith)
conj-whole FirstEdition m (suc n) (more f fs) e = refl

disj-whole : (ed : Edition) (m : Assertion → Truth) (n : ℕ) (fs : Filters) → size fs ≡ n
    → either_in ed (start_in ed False n) (disjoined ed (evaluate_all ed m fs)) ≡ disjunction ed (evaluate_all ed m fs)
unfolding disjoined disjunction all_undefined evaluate_all
disj-whole LaterLogic m n fs e = refl
disj-whole FirstEdition m zero none e = refl
disj-whole FirstEdition m zero (more f fs) e = absurd (omega arith)
disj-whole FirstEdition m (suc n) none e = absurd (omega arith)
disj-whole FirstEdition m (suc n) (more f fs) e = refl

module _ {A : Type 0} (g : Grammar) (a : A) where
  -- a filter line that was taken
  line_taken : (left : ℕ) (s : Sheet) (next : ℕ → Line → Sheet → Verdict A) → filter_line g left s next ≡ accept a
      → (l : ℕ) × (x : Line) × (rest : Sheet) × (s ≡ row x rest) × (next l x rest ≡ accept a)
  unfolding filter_line
  line_taken zero s next e = absurd (misplaced-not g s a e)
  line_taken (suc left) end next e = absurd (misplaced-not g end a e)
  line_taken (suc left) broken next e = absurd (misplaced-not g broken a e)
  line_taken (suc left) (row x rest) next e = (left, x, rest, refl, (not-refused (not (in_form g.forms x)) (g.refusals + 2) _ a e).1)

  pieces-read : (n : ℕ) (first : Bool) (left : ℕ) (s : Sheet) (next : List Piece → ℕ → Sheet → Verdict A) → pieces g first n left s next ≡ accept a
      → (l : ℕ) × (next (pieces_of n s) l (after_lines n s) ≡ accept a)
  unfolding pieces pieces_of after_lines
  pieces-read zero first left s next e = (left, e)
  pieces-read (suc n) first left s next e =
      let t = line_taken left s _ e in
      let x : Line = t.1 in
      let h = (not-refused (not (eqb x.kind 28) || (eqb x.a 0 && not first || eqb x.a 2 && not (eqb n 0))) (g.refusals + 3) _ a t.4).1 in
      let r = pieces-read n false t.0 t.2 (λ ps. next (record { place = x.a; bytes = x.bytes } ∷ ps)) h in
      (r.0, subst (λ (z : Sheet). next (pieces_of (suc n) z) r.0 (after_lines (suc n) z) ≡ accept a) (sym t.3) r.1)

  -- `one` reads a filter whose truth is told by `tell`
  abbrev ReadsTruth : (ℕ → Sheet → (Filter → ℕ → Sheet → Verdict A) → Verdict A) → Edition → (Assertion → Truth) → (Sheet → Evaluated) → Type 0
  ReadsTruth one ed m tell = (left : ℕ) (s : Sheet) (next : Filter → ℕ → Sheet → Verdict A) → one left s next ≡ accept a
      → (f : Filter) × (l : ℕ) × (next f l (tell s).rest ≡ accept a) × ((tell s).truth ≡ evaluate ed m f)

  module _ (ed : Edition) (m : Assertion → Truth) (one : ℕ → Sheet → (Filter → ℕ → Sheet → Verdict A) → Verdict A) (tell : Sheet → Evaluated) (tells : ReadsTruth one ed m tell) where
    -- parts read one after the other, by any joining
    module _ (join : Truth → Truth → Truth) (joined : List Truth → Truth) (unit : (t : Truth) → t ≡ join t (joined []))
        (step : (t : Truth) (ts : List Truth) → joined (t ∷ ts) ≡ join t (joined ts)) (assoc : (t u v : Truth) → join (join t u) v ≡ join t (join u v)) where
      parts-read : (n left : ℕ) (s : Sheet) (t : Truth) (next : Filters → ℕ → Sheet → Verdict A) → filters one n left s next ≡ accept a
          → (fs : Filters) × (l : ℕ) × (next fs l (parts_from join tell n t s).rest ≡ accept a)
          × ((parts_from join tell n t s).truth ≡ join t (joined (evaluate_all ed m fs))) × (size fs ≡ n)
      unfolding filters parts_from evaluate_all
      parts-read zero left s t next e = (none, left, e, unit t, refl)
      parts-read (suc n) left s t next e =
          let r = tells left s (λ f left s. filters one n left s (λ fs. next (more f fs))) e in
          let q = parts-read n r.1 (tell s).rest (join t (tell s).truth) (λ fs. next (more r.0 fs)) r.2 in (
            more r.0 q.0,
            q.1,
            q.2,
            q.3 ∙ assoc t (tell s).truth (joined (evaluate_all ed m q.0))
                ∙ ap (λ (x : Truth). join t (join x (joined (evaluate_all ed m q.0)))) r.3
                ∙ ap (join t) (sym (step (evaluate ed m r.0) (evaluate_all ed m q.0))),
            ap suc q.4,
          )

    -- one line and its parts
    line_read : (left : ℕ) (x : Line) (s : Sheet) (next : Filter → ℕ → Sheet → Verdict A) → filter_of g one next left x s ≡ accept a
        → (f : Filter) × (l : ℕ) × (next f l (evaluate_line ed m tell x s).rest ≡ accept a) × ((evaluate_line ed m tell x s).truth ≡ evaluate ed m f)
    unfolding filter_of evaluate_line assertion_of after_item evaluate
    line_read left x s next e = go (eqb x.kind 20) (eqb x.kind 21) (eqb x.kind 22) (eqb x.kind 23) (eqb x.kind 24) (eqb x.kind 25) (eqb x.kind 26) (eqb x.kind 27) e
      where
        items : Bool → Bool → Bool → Bool → Assertion
        items b₂₃ b₂₄ b₂₅ b₂₆ =
            cond b₂₃ (equality x.a x.bytes) (cond b₂₄ (at_least x.a x.bytes) (cond b₂₅ (at_most x.a x.bytes) (cond b₂₆ (present x.a) (substrings x.a (pieces_of x.b s)))))

        result : Bool → Bool → Bool → Bool → Bool → Bool → Bool → Evaluated
        result b₂₀ b₂₁ b₂₂ b₂₃ b₂₄ b₂₅ b₂₆ =
            cond b₂₀ (parts_from (both_in ed) tell x.a (start_in ed True x.a) s)
            (cond b₂₁ (parts_from (either_in ed) tell x.a (start_in ed False x.a) s)
            (cond b₂₂ (evaluated (negation (tell s).truth) (tell s).rest)
            (evaluated (m (items b₂₃ b₂₄ b₂₅ b₂₆)) (cond (b₂₃ || (b₂₄ || (b₂₅ || b₂₆))) s (after_lines x.b s)))))

        go : (b₂₀ b₂₁ b₂₂ b₂₃ b₂₄ b₂₅ b₂₆ b₂₇ : Bool)
            → cond b₂₀ (filters one x.a left s (λ fs. next (and fs)))
            (cond b₂₁ (filters one x.a left s (λ fs. next (or fs)))
            (cond b₂₂ (one left s (λ f. next (not' f)))
            (cond b₂₃ (next (item (equality x.a x.bytes)) left s)
            (cond b₂₄ (next (item (at_least x.a x.bytes)) left s)
            (cond b₂₅ (next (item (at_most x.a x.bytes)) left s)
            (cond b₂₆ (next (item (present x.a)) left s)
            (cond b₂₇ (pieces g true x.b left s (λ ps. next (item (substrings x.a ps)))) (refuse (g.refusals + 3))))))))) ≡ accept a
            → (f : Filter) × (l : ℕ) × (next f l (result b₂₀ b₂₁ b₂₂ b₂₃ b₂₄ b₂₅ b₂₆).rest ≡ accept a) × ((result b₂₀ b₂₁ b₂₂ b₂₃ b₂₄ b₂₅ b₂₆).truth ≡ evaluate ed m f)
        go true b₂₁ b₂₂ b₂₃ b₂₄ b₂₅ b₂₆ b₂₇ e =
            let r = parts-read (both_in ed) (conjoined ed) (conj-none ed) (conj-more ed) (both_in-assoc ed) x.a left s (start_in ed True x.a) (λ fs. next (and fs)) e in
            (and r.0, r.1, r.2, r.3 ∙ conj-whole ed m x.a r.0 r.4)
        go false true b₂₂ b₂₃ b₂₄ b₂₅ b₂₆ b₂₇ e =
            let r = parts-read (either_in ed) (disjoined ed) (disj-none ed) (disj-more ed) (either_in-assoc ed) x.a left s (start_in ed False x.a) (λ fs. next (or fs)) e in
            (or r.0, r.1, r.2, r.3 ∙ disj-whole ed m x.a r.0 r.4)
        go false false true b₂₃ b₂₄ b₂₅ b₂₆ b₂₇ e = let r = tells left s (λ f. next (not' f)) e in (not' r.0, r.1, r.2, ap negation r.3)
        go false false false true b₂₄ b₂₅ b₂₆ b₂₇ e = (item (equality x.a x.bytes), left, e, refl)
        go false false false false true b₂₅ b₂₆ b₂₇ e = (item (at_least x.a x.bytes), left, e, refl)
        go false false false false false true b₂₆ b₂₇ e = (item (at_most x.a x.bytes), left, e, refl)
        go false false false false false false true b₂₇ e = (item (present x.a), left, e, refl)
        go false false false false false false false true e =
            let r = pieces-read x.b true left s (λ ps. next (item (substrings x.a ps))) e in
            (item (substrings x.a (pieces_of x.b s)), r.0, r.1, refl)
        go false false false false false false false false e = absurd (refused-not (g.refusals + 3) a e)

  -- a filter that was read has the truth that its lines evaluate to
  pub filter-read : (ed : Edition) (m : Assertion → Truth) (depth : ℕ) → ReadsTruth (filter g depth) ed m (evaluate_lines ed m depth)
  unfolding filter evaluate_lines evaluate_sheet
  filter-read ed m zero left s next e = absurd (misplaced-not g s a e)
  filter-read ed m (suc depth) left s next e =
      let t = line_taken left s (filter_of g (filter g depth) next) e in
      let r = line_read ed m (filter g depth) (evaluate_lines ed m depth) (filter-read ed m depth) t.0 t.1 t.2 next t.4 in
      subst (λ (z : Sheet). (f : Filter) × (l : ℕ) × (next f l (evaluate_lines ed m (suc depth) z).rest ≡ accept a) × ((evaluate_lines ed m (suc depth) z).truth ≡ evaluate ed m f)) (sym t.3) r
