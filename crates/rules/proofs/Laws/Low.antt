-- #109: lines of low numbers fit their columns; an accepted directory's lines are low, if its types are.
use Rattle.std.specs.Prelude.{ℕ, ◌≤◌, ◌<◌, ◌^◌, ◌≡◌, Bool, true, false, ◌||◌, cond, List, [], ◌∷◌, ◌++◌, ltb, eqb, length}
use Rattle.std.proofs.Common.{arith, sym, ◌∙◌, subst, eqb-true, ltb-false, le-ltb}
use Rattle.std.proofs.Math.Path.{refl}
use Rattle.std.proofs.lemmas.Bool.{false≢true}
use Rattle.rules.specs.Lists.{any, first, first_or}
use Rattle.rules.specs.Sheet.{Bytes, Line, Sheet, end, broken, row, lines}
use Rattle.rules.specs.declared.Format.{Format}
use Rattle.rules.specs.Value.{fits}
use Rattle.rules.specs.Name.{AttributeType, Schema, by_syntax, of_syntax, allowed}
use Rattle.rules.specs.Judge.{accept}
use Rattle.rules.specs.Directory
use Rattle.rules.specs.Directory.{Reading, step, finish, nothing, directory_of, directory_lines}
use Rattle.rules.specs.Move.{beyond}
use Rattle.rules.specs.Theorems.{type_of}
use Rattle.rules.proofs.Laws.Tests.{or-none}
use Rattle.rules.specs.Derived.{Each}
use Rattle.rules.proofs.Laws.Each.{each_map}
use Rattle.rules.proofs.Laws.Judge.{Run}
use Rattle.rules.proofs.Laws.Sheet.{FitsColumns, AllFit, AllRows, rows-each}
use Rattle.rules.proofs.Laws.Columns.{PairLine}
use Rattle.rules.proofs.Laws.Step.{Taken, of_type, of_entry, of_value, of_target, of_part, step-taken, finished, accepted-run}
use Rattle.rules.proofs.Laws.DirectoryLines.{accepted-lines}

-- each number is at most `m`, and there are at most 64 bytes
pub record Low (m : ℕ) (x : Line) : Type 0 where
  pub kind : x.kind ≤ m
  pub a : x.a ≤ m
  pub b : x.b ≤ m
  pub c : x.c ≤ m
  pub short : length x.bytes ≤ 64

pub low-fit : (m w : ℕ) → 64 ≤ m → m < 10 ^ w → (ls : List Line) → Each (Low m) ls → AllFit w ls
low-fit m w some fits =
    each_map (Low m) (FitsColumns w)
    (λ x l. record { kind = omega (arith, l.kind); a = omega (arith, l.a); b = omega (arith, l.b); c = omega (arith, l.c); count = omega (arith, l.short); bytes = l.short })

pub low-more : (m n : ℕ) → m ≤ n → (ls : List Line) → Each (Low m) ls → Each (Low n) ls
low-more m n more =
    each_map (Low m) (Low n)
    (λ x l. record { kind = omega (arith, l.kind); a = omega (arith, l.a); b = omega (arith, l.b); c = omega (arith, l.c); short = l.short })

-- a line's type is one of its numbers
pub low-type : (m : ℕ) (x : Line) → Low m x → type_of x ≤ m
low-type m x l = go (any (eqb x.kind) (2 ∷ 7 ∷ [])) (any (eqb x.kind) (1 ∷ 3 ∷ 9 ∷ 13 ∷ 14 ∷ 16 ∷ 23 ∷ 24 ∷ 25 ∷ 26 ∷ 27 ∷ []))
  where
    go : (s t : Bool) → cond s x.b (cond t x.a 0) ≤ m
    go true t = l.b
    go false true = l.a
    go false false = omega arith

-- ---- types

-- one type more
beyond-more : (m : ℕ) (S : Schema) (k : AttributeType) → beyond m (S ++ (k ∷ [])) ≡ (beyond m S || ltb m k.number)
unfolding beyond
beyond-more m [] k = go (ltb m k.number)
  where
    go : (b : Bool) → (b || false) ≡ b
    go true = refl
    go false = refl
beyond-more m (j ∷ S) k = go (ltb m j.number) (beyond-more m S k)
  where
    go : (b : Bool) → beyond m (S ++ (k ∷ [])) ≡ (beyond m S || ltb m k.number) → (b || beyond m (S ++ (k ∷ []))) ≡ ((b || beyond m S) || ltb m k.number)
    go true e = refl
    go false e = e

-- "every type on the sheet is one of the schema"
allowed-low : (m : ℕ) (S : Schema) (t : ℕ) (v : Bytes) → beyond m S ≡ false → allowed S t v ≡ true → t ≤ m
unfolding beyond allowed of_syntax
allowed-low m [] t v h e = absurd (false≢true e)
allowed-low m (k ∷ S) t v h e =
    let n = or-none (ltb m k.number) (any (λ k. ltb m k.number) S) h in
    go (eqb k.number t) refl e n.0 (allowed-low m S t v n.1)
  where
    go : (b : Bool) → eqb k.number t ≡ b → by_syntax (λ s. fits s v) (first_or b k (first (λ k. eqb k.number t) S)) ≡ true → ltb m k.number ≡ false
        → (by_syntax (λ s. fits s v) (first (λ k. eqb k.number t) S) ≡ true → t ≤ m) → t ≤ m
    go true p e n ih = omega (arith, eqb-true k.number t p, ltb-false m k.number n)
    go false p e n ih = ih e

-- ---- an accepted directory

module _ (top : ℕ) (d : Directory.Directory) where
  -- no type is above the form's highest
  run-types : (s : Sheet) (st : Reading) → Run (step top) finish st s d → beyond top st.schema ≡ false → beyond top d.schema ≡ false
  run-types end st r h = subst (λ (c : Directory.Directory). beyond top c.schema ≡ false) (finished st d r).1 h
  run-types broken st r h = absurd r
  run-types (row x rest) st (next, e, r) h = run-types rest next r (go (step-taken st x next top e))
    where
      go : Taken st x next top → beyond top next.schema ≡ false
      go (of_type f t) =
          subst (λ (n : Reading). beyond top n.schema ≡ false) t.is (beyond-more top st.schema (record { number = x.a; syntax = x.b }) ∙ rw (h, le-ltb top x.a f.type))
      go (of_entry f t) = subst (λ (n : Reading). beyond top n.schema ≡ false) t.is h
      go (of_value f t) = subst (λ (n : Reading). beyond top n.schema ≡ false) t.is h
      go (of_target f t) = subst (λ (n : Reading). beyond top n.schema ≡ false) t.is h
      go (of_part f t) = subst (λ (n : Reading). beyond top n.schema ≡ false) t.is h

  module _ (m : ℕ) (some : 256 ≤ m) where
    abbrev Below : Reading → Type 0
    Below st = beyond m st.schema ≡ false

    pair-low : (st : Reading) (x : Line) (k : ℕ) → PairLine k x → k ≤ m → Below st → allowed st.schema x.a x.bytes ≡ true → Low m x
    pair-low st x k f l b a =
        record { kind = omega (arith, f.kind, l); a = allowed-low m st.schema x.a x.bytes b a; b = omega (arith, f.b); c = omega (arith, f.c); short = f.short }

    step-low : (st : Reading) (x : Line) (next : Reading) → Taken st x next top → Below next → Low m x × Below st
    step-low st x next (of_type f t) h =
        let b = or-none (beyond m st.schema) (ltb m x.a) (sym (beyond-more m st.schema (record { number = x.a; syntax = x.b })) ∙ subst Below (sym t.is) h) in
        (record { kind = omega (arith, f.kind); a = ltb-false m x.a b.1; b = omega (arith, f.syntax); c = omega (arith, f.c); short = omega (arith, f.none) }, b.0)
    step-low st x next (of_entry f t) h =
        let b : Below st = subst Below (sym t.is) h in
        (record { kind = omega (arith, f.kind); a = omega (arith, t.parent, t.room); b = allowed-low m st.schema x.b x.bytes b t.allowed; c = omega (arith, f.mark); short = f.short }, b)
    step-low st x next (of_value f t) h =
        let b : Below st = subst Below (sym t.is) h in
        (pair-low st x 3 f (omega arith) b t.allowed, b)
    step-low st x next (of_target f t) h =
        (record { kind = omega (arith, f.kind); a = omega (arith, f.a); b = omega (arith, f.few); c = omega (arith, f.c); short = omega (arith, f.none) }, subst Below (sym t.is) h)
    step-low st x next (of_part f t) h =
        let b : Below st = subst Below (sym t.is) h in
        (pair-low st x 9 f (omega arith) b t.allowed, b)

    run-low : (s : Sheet) (st : Reading) → Run (step top) finish st s d → beyond m d.schema ≡ false → AllRows (Low m) s × Below st
    run-low end st r h = (tt, subst (λ (c : Directory.Directory). beyond m c.schema ≡ false) (sym (finished st d r).1) h)
    run-low broken st r h = absurd r
    run-low (row x rest) st (next, e, r) h =
        let k = run-low rest next r h in
        let l = step-low st x next (step-taken st x next top e) k.1 in
        ((l.0, k.0), l.1)

module _ (f : Format) (s : Bytes) (d : Directory.Directory) (e : directory_of f s ≡ accept d) where
  pub accepted-types : beyond f.top d.schema ≡ false
  unfolding beyond
  accepted-types = run-types f.top d (lines f.width s) nothing (accepted-run f s d e) refl

  pub accepted-low : (m : ℕ) → 256 ≤ m → beyond m d.schema ≡ false → Each (Low m) (directory_lines d)
  accepted-low m some h =
      rows-each (Low m) (directory_lines d) (subst (AllRows (Low m)) (accepted-lines f s d e) (run-low f.top d m some (lines f.width s) nothing (accepted-run f s d e) h).0)
