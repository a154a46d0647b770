-- Names looked up from the root down, child by child: for a program that goes by entry numbers.
use Rattle.std.specs.Prelude.{◌≡◌, ◌⊎◌, Bool, ◌&&◌, ◌||◌, get_or, take, eqb, Some, None}
use Rattle.std.proofs.Math.Path.{refl, ap, subst}
use Rattle.std.proofs.Common.{sym, ◌∙◌, inl, inr, le_of_suc-le-suc, take-suc}
use Prim.Native.Nat.{ℕ, zero, suc, ◌+◌, ◌≤◌, ◌<◌, suc-le-suc, zero-le}
use Rattle.std.proofs.Math.Nat.{not-suc-le-zero}
use native.Mathlib.Omega.{arith}
use Rattle.std.proofs.Math.Bool.{true, false, cond, true≢false}
use Rattle.std.proofs.lemmas.Bool.{false≢true}
use Rattle.std.proofs.Math.Option.{Option, none, some}
use mathlib.Core.List.{List, [], ◌∷◌, ◌++◌, map, append-nil}
use Rattle.std.proofs.Math.ListN.{length, get_or-map}
use Rattle.std.proofs.lemmas.List.{length-map}
use Rattle.std.proofs.Math.Seq.{append_snoc}
use borrow.Author.Tests.{eqb-true, eq-eqb}
use Rattle.rules.specs.Lists.{any, first, first_or}
use Rattle.rules.specs.Name.{Schema, Part, Name, same_part, same_name, covers}
use Rattle.rules.specs.Directory.{Stored, blank, name_at, Entry, entry_of}
use Rattle.rules.specs.Permission.{DiscloseOnError}
use Rattle.rules.specs.Decision.{Setting, entry, granted}
use Rattle.rules.specs.Answer.{or_name, disclosed, matched_name, named}
use Rattle.rules.proofs.Laws.Tests.{and_left, and_right, both}
use Rattle.rules.proofs.Laws.Lists.{Once, any_at, any_none, first-none, any-weaken}
use Rattle.rules.proofs.Laws.Name.{same_name-join, snoc-snoc}
use Rattle.rules.specs.Derived.{Accepted}
use Rattle.rules.proofs.Laws.Directory.{one_number, once-named}
use Rattle.rules.proofs.Laws.Absent.{present', above}
use Rattle.tables.specs.Numbers.{on_found, child_from, walk}
use Rattle.rules.specs.Value.{Found}

-- ---- children

found-not : (i : ℕ) → None ≡ Some i → ⊥
found-not i e = let z : ◌≡◌ {A = ℕ} 0 1 = cc in omega arith

at-is : {i j : ℕ} → Some i ≡ Some j → i ≡ j
at-is e = cc

module _ (S : Schema) (parent : ℕ) (p : Part) where
  wanted : Stored → Bool
  wanted e = eqb e.parent parent && same_part S p e.naming

  child-found : (es : List Stored) (i j : ℕ) → child_from S parent p es i ≡ Some j
      → (k : ℕ) × (k < length es) × (j ≡ suc (i + k)) × (wanted (get_or es k blank) ≡ true)
  unfolding child_from wanted
  child-found [] i j e = absurd (found-not j e)
  child-found (x ∷ es) i j e = go (wanted x) refl e (child-found es (suc i) j)
    where
      go : (b : Bool) → wanted x ≡ b → cond b (Some (suc i)) (child_from S parent p es (suc i)) ≡ Some j
          → (child_from S parent p es (suc i) ≡ Some j → (k : ℕ) × (k < length es) × (j ≡ suc (suc i + k)) × (wanted (get_or es k blank) ≡ true))
          → (k : ℕ) × (k < length (x ∷ es)) × (j ≡ suc (i + k)) × (wanted (get_or (x ∷ es) k blank) ≡ true)
      go true w h ih = let q : suc i ≡ j = at-is h in (0, suc-le-suc zero-le, omega arith, w)
      go false w h ih = let r = ih h in let q : j ≡ suc (suc i + r.0) = r.2 in (suc r.0, suc-le-suc r.1, omega arith, r.3)

  child-missing : (es : List Stored) (i : ℕ) → child_from S parent p es i ≡ None → (k : ℕ) → k < length es → wanted (get_or es k blank) ≡ true → ⊥
  unfolding child_from wanted
  child-missing [] i e k l w = not-suc-le-zero l
  child-missing (x ∷ es) i e k l w = go (wanted x) refl e k l w (child-missing es (suc i))
    where
      go : (b : Bool) → wanted x ≡ b → cond b (Some (suc i)) (child_from S parent p es (suc i)) ≡ None
          → (k : ℕ) → k < length (x ∷ es) → wanted (get_or (x ∷ es) k blank) ≡ true
          → (child_from S parent p es (suc i) ≡ None → (k : ℕ) → k < length es → wanted (get_or es k blank) ≡ true → ⊥) → ⊥
      go true b h k l w ih = found-not (suc i) (sym h)
      go false b h zero l w ih = true≢false (sym w ∙ b)
      go false b h (suc k) l w ih = ih h k (le_of_suc-le-suc l) w

-- ---- the entry that a name names

module _ (S : Schema) (es : List Stored) (ok : Accepted S es) where
  snoc-same : (n m : Name) (a b : Part) → same_name S n m ≡ true → same_part S a b ≡ true → same_name S (n ++ (a ∷ [])) (m ++ (b ∷ [])) ≡ true
  unfolding same_name
  snoc-same [] [] a b e h = both (same_part S a b) true h refl
  snoc-same [] (y ∷ ys) a b e h = absurd (false≢true e)
  snoc-same (x ∷ xs) [] a b e h = absurd (false≢true e)
  snoc-same (x ∷ xs) (y ∷ ys) a b e h = both (same_part S x y) _ (and_left (same_part S x y) _ e) (snoc-same xs ys a b (and_right (same_part S x y) _ e) h)

  -- a child found has its parent's name with the part
  child-named : (n : Name) (k : ℕ) (p : Part) (j : ℕ) → child_from S k p es 0 ≡ Some j → same_name S n (name_at es k) ≡ true
      → (j ≤ length es) × (same_name S (n ++ (p ∷ [])) (name_at es j) ≡ true)
  unfolding name_at wanted
  child-named n k p j e h =
      let r = child-found S k p es 0 j e in
      let m : ℕ = r.0 in
      let q : j ≡ suc m = let z : j ≡ suc (0 + m) = r.2 in omega arith in
      let parent : (get_or es m blank).parent ≡ k = eqb-true _ _ (and_left (eqb (get_or es m blank).parent k) _ r.3) in
      let at : same_name S (n ++ (p ∷ [])) (name_at es (get_or es m blank).parent ++ ((get_or es m blank).naming ∷ [])) ≡ true
      = snoc-same n (name_at es (get_or es m blank).parent) p (get_or es m blank).naming (subst (λ (x : ℕ). same_name S n (name_at es x) ≡ true) (sym parent) h) (and_right (eqb (get_or es m blank).parent k) _ r.3) in
      (subst (λ (x : ℕ). x ≤ length es) (sym q) r.1, subst (λ (x : ℕ). same_name S (n ++ (p ∷ [])) (name_at es x) ≡ true) (sym q) (rw (ok.names m r.1) at))

  pub walk-found : (ps n : Name) (k b : ℕ) → k ≤ length es → same_name S n (name_at es k) ≡ true → walk S es k ps ≡ Some b
      → (b ≤ length es) × (same_name S (n ++ ps) (name_at es b) ≡ true)
  unfolding walk
  walk-found [] n k b l h e =
      let q : k ≡ b = at-is e in
      (subst (λ (x : ℕ). x ≤ length es) q l, rw (append-nil n) (subst (λ (x : ℕ). same_name S n (name_at es x) ≡ true) q h))
  walk-found (p ∷ ps) n k b l h e = go (child_from S k p es 0) refl e (λ j lj hj. walk-found ps (n ++ (p ∷ [])) j b lj hj)
    where
      go : (f : Found) → child_from S k p es 0 ≡ f → on_found f (λ j. walk S es j ps) ≡ Some b
          → ((j : ℕ) → j ≤ length es → same_name S (n ++ (p ∷ [])) (name_at es j) ≡ true → walk S es j ps ≡ Some b → (b ≤ length es) × (same_name S ((n ++ (p ∷ [])) ++ ps) (name_at es b) ≡ true))
          → (b ≤ length es) × (same_name S (n ++ (p ∷ ps)) (name_at es b) ≡ true)
      go (Some j) q w ih = let c = child-named n k p j q h in let r = ih j c.0 c.1 w in (r.0, rw append_snoc at r.1)
      go None q w ih = absurd (found-not b w)

  -- a base that the walk reaches: its number is in range, and it has the name
  pub base-found : (n : Name) (b : ℕ) → walk S es 0 n ≡ Some b → (b ≤ length es) × (same_name S n (name_at es b) ≡ true)
  unfolding name_at same_name
  base-found n b e = walk-found n [] 0 b zero-le refl e

  -- a name begins with a name's beginning
  beginning : (n ps m : Name) (p : Part) → same_name S (n ++ (p ∷ ps)) m ≡ true → covers S (n ++ (p ∷ [])) m ≡ true
  unfolding same_name covers
  beginning [] ps [] p e = e
  beginning [] ps (y ∷ ys) p e = both (same_part S p y) true (and_left (same_part S p y) _ e) refl
  beginning (x ∷ xs) ps [] p e = e
  beginning (x ∷ xs) ps (y ∷ ys) p e = both (same_part S x y) _ (and_left (same_part S x y) _ e) (beginning xs ps ys p (and_right (same_part S x y) _ e))

  not-empty : (n : Name) (p : Part) → n ++ (p ∷ []) ≡ [] → ⊥
  not-empty [] p e = let z : ◌≡◌ {A = ℕ} 0 1 = cc in omega arith
  not-empty (x ∷ xs) p e = let z : ◌≡◌ {A = ℕ} 0 1 = cc in omega arith

  any-index : (n : Name) (xs : List Stored) → any (λ e. same_name S n e.name) (map entry_of xs) ≡ true → (k : ℕ) × (k < length xs) × (same_name S n (get_or xs k blank).name ≡ true)
  unfolding entry_of
  any-index n [] e = absurd (false≢true e)
  any-index n (x ∷ xs) e = go (same_name S n x.name) refl e (any-index n xs)
    where
      go : (b : Bool) → same_name S n x.name ≡ b → (b || any (λ e. same_name S n e.name) (map entry_of xs)) ≡ true
          → (any (λ e. same_name S n e.name) (map entry_of xs) ≡ true → (k : ℕ) × (k < length xs) × (same_name S n (get_or xs k blank).name ≡ true))
          → (k : ℕ) × (k < length (x ∷ xs)) × (same_name S n (get_or (x ∷ xs) k blank).name ≡ true)
      go true h q ih = (0, suc-le-suc zero-le, h)
      go false h q ih = let r = ih q in (suc r.0, suc-le-suc r.1, r.2)

  -- a name with an entry below it is a child's name, of the entry that its beginning names
  child-there : (n : Name) (k : ℕ) (p : Part) (b : ℕ) → k ≤ length es → b ≤ length es → same_name S n (name_at es k) ≡ true → covers S (n ++ (p ∷ [])) (name_at es b) ≡ true
      → child_from S k p es 0 ≡ None → ⊥
  unfolding name_at wanted
  child-there n k p b lk lb h c e = go (above S es ok b b (n ++ (p ∷ [])) (omega arith) lb c)
    where
      go : (n ++ (p ∷ []) ≡ []) ⊎ (present' S es (n ++ (p ∷ [])) ≡ true) → ⊥
      go (inl q) = not-empty n p q
      go (inr q) =
          let r = any-index (n ++ (p ∷ [])) es q in
          let m : ℕ = r.0 in
          let s = snoc-snoc S n (name_at es (get_or es m blank).parent) p (get_or es m blank).naming (rw (ok.names m r.1) at r.2) in
          let pm : (get_or es m blank).parent ≤ m = ok.parents m r.1 in
          let lm : m < length es = r.1 in
          let parent : (get_or es m blank).parent ≡ k = one_number S es ok (get_or es m blank).parent (get_or es m blank).parent k (omega arith) (omega arith) lk (same_name-join S n _ _ s.0 h) in
          child-missing S k p es 0 e m r.1 (both (eqb (get_or es m blank).parent k) _ (eq-eqb _ _ parent) s.1)

  pub walk-missing : (ps n : Name) (k : ℕ) → k ≤ length es → same_name S n (name_at es k) ≡ true → walk S es k ps ≡ None
      → (b : ℕ) → b ≤ length es → same_name S (n ++ ps) (name_at es b) ≡ true → ⊥
  unfolding walk
  walk-missing [] n k l h e b lb s = found-not k (sym e)
  walk-missing (p ∷ ps) n k l h e b lb s = go (child_from S k p es 0) refl e (λ j lj hj w. walk-missing ps (n ++ (p ∷ [])) j lj hj w b lb (rw (append_snoc n p ps) s))
    where
      go : (f : Found) → child_from S k p es 0 ≡ f → on_found f (λ j. walk S es j ps) ≡ None
          → ((j : ℕ) → j ≤ length es → same_name S (n ++ (p ∷ [])) (name_at es j) ≡ true → walk S es j ps ≡ None → ⊥) → ⊥
      go (Some j) q w ih = let c = child-named n k p j q h in ih j c.0 c.1 w
      go None q w ih = child-there n k p b l lb h (beginning n ps (name_at es b) p s) q

-- ---- what the operations ask of a name

first-at : {A : Type 0} (p : A → Bool) (z : A) (xs : List A) (k : ℕ) → k < length xs → p (get_or xs k z) ≡ true → Once p xs → first p xs ≡ some (get_or xs k z)
first-at p z [] k l e o = absurd (not-suc-le-zero l)
first-at p z (x ∷ xs) zero l e o = ap (λ (b : Bool). first_or b x (first p xs)) e
first-at p z (x ∷ xs) (suc k) l e o = go (p x) refl (first-at p z xs k (le_of_suc-le-suc l) e o.1)
  where
    go : (b : Bool) → p x ≡ b → first p xs ≡ some (get_or xs k z) → first_or b x (first p xs) ≡ some (get_or xs k z)
    go true q ih = absurd (true≢false (sym (any_at p z xs k (le_of_suc-le-suc l) e) ∙ o.0 q))
    go false q ih = ih

-- at most one passes `p`: whether one passes `g` too
abbrev pub test : {A : Type 0} → (A → Bool) → Option A → Bool
test g none = false
test g (some x) = g x

abbrev pub filtered : {A : Type 0} → (A → Bool) → Option A → Option A
filtered g none = none
filtered g (some x) = first_or (g x) x none

module _ {A : Type 0} (p g : A → Bool) where
  no_more : (xs : List A) → any p xs ≡ false → any (λ x. p x && g x) xs ≡ false
  no_more xs e = any-weaken (λ x. p x && g x) p (λ x. and_left (p x) (g x)) xs e

  any-once : (xs : List A) → Once p xs → any (λ x. p x && g x) xs ≡ test g (first p xs)
  any-once [] o = refl
  any-once (x ∷ xs) o = go (p x) o.0 (any-once xs o.1)
    where
      last : (b c : Bool) → c ≡ false → (b || c) ≡ b
      last true c e = refl
      last false c e = e

      go : (b : Bool) → (b ≡ true → any p xs ≡ false) → any (λ x. p x && g x) xs ≡ test g (first p xs) → (b && g x || any (λ x. p x && g x) xs) ≡ test g (first_or b x (first p xs))
      go true h ih = last (g x) (any (λ x. p x && g x) xs) (no_more xs (h refl))
      go false h ih = ih

  first-once : (xs : List A) → Once p xs → first (λ x. p x && g x) xs ≡ filtered g (first p xs)
  first-once [] o = refl
  first-once (x ∷ xs) o = go (p x) o.0 (first-once xs o.1)
    where
      last : (b : Bool) → first (λ x. p x && g x) xs ≡ none → first_or b x (first (λ x. p x && g x) xs) ≡ first_or b x none
      last true e = refl
      last false e = e

      go : (b : Bool) → (b ≡ true → any p xs ≡ false) → first (λ x. p x && g x) xs ≡ filtered g (first p xs)
          → first_or (b && g x) x (first (λ x. p x && g x) xs) ≡ filtered g (first_or b x (first p xs))
      go true h ih = last (g x) (first-none (λ x. p x && g x) xs (no_more xs (h refl)))
      go false h ih = ih

-- what a number names: the root, 0, is no entry
unfoldable pub numbered : List Stored → ℕ → Option Entry
numbered es zero = none
numbered es (suc k) = some (entry_of (get_or es k blank))

abbrev pub entry_by : List Stored → Found → Option Entry
entry_by es None = none
entry_by es (Some b) = numbered es b

module _ (σ : Setting) (es : List Stored) (ok : Accepted σ.schema es) where
  -- whoever has the name has the number
  only : (n : Name) (b k : ℕ) → b ≤ length es → k < length es → same_name σ.schema n (name_at es b) ≡ true → same_name σ.schema n (get_or es k blank).name ≡ true → suc k ≡ b
  unfolding name_at
  only n b k lb lk h e = one_number σ.schema es ok (suc k) (suc k) b (omega arith) lk lb (same_name-join σ.schema n (get_or es k blank).name (name_at es b) e h)

  nobody : (n : Name) → ((k : ℕ) → k < length es → same_name σ.schema n (get_or es k blank).name ≡ true → ⊥) → named σ (map entry_of es) n ≡ none
  unfolding named entry_of
  nobody n h =
      first-none (λ e. same_name σ.schema n e.name) (map entry_of es)
      (any_none (λ e. same_name σ.schema n e.name) (entry_of blank) (map entry_of es)
      (λ i l e. h i (subst (λ (m : ℕ). i < m) (length-map es entry_of) l) (subst (λ (x : Entry). same_name σ.schema n x.name ≡ true) (get_or-map entry_of es i blank) e)))

  -- the entry that is named is the one that the walk reaches
  pub named-walk : (n : Name) → named σ (map entry_of es) n ≡ entry_by es (walk σ.schema es 0 n)
  unfolding named numbered entry_of name_at same_name
  named-walk n = go (walk σ.schema es 0 n) refl
    where
      go : (f : Found) → walk σ.schema es 0 n ≡ f → named σ (map entry_of es) n ≡ entry_by es f
      go None q = nobody n (λ k l e. walk-missing σ.schema es ok n [] 0 zero-le refl q (suc k) l e)
      go (Some zero) q =
          let r = base-found σ.schema es ok n 0 q in
          nobody n (λ k l e. let z : suc k ≡ 0 = only n 0 k r.0 l r.1 e in omega arith)
      go (Some (suc k)) q =
          let r = base-found σ.schema es ok n (suc k) q in
          first-at (λ e. same_name σ.schema n e.name) (entry_of blank) (map entry_of es) k
          (subst (λ (m : ℕ). k < m) (sym (length-map es entry_of)) r.0)
          (subst (λ (x : Entry). same_name σ.schema n x.name ≡ true) (sym (get_or-map entry_of es k blank)) r.1)
          (once-named σ.schema es ok n)
          ∙ ap some (get_or-map entry_of es k blank)

  -- DiscloseOnError is granted on the entry that is named
  pub disclosed-walk : (n : Name) → any (disclosed σ n) (map entry_of es) ≡ test (λ e. granted σ e.name entry DiscloseOnError) (entry_by es (walk σ.schema es 0 n))
  unfolding disclosed named
  disclosed-walk n =
      any-once (λ e. same_name σ.schema n e.name) (λ e. granted σ e.name entry DiscloseOnError) (map entry_of es) (once-named σ.schema es ok n)
      ∙ ap (test (λ e. granted σ e.name entry DiscloseOnError)) (named-walk n)

  -- the matched name, by one part more
  pub matched-step : (n : Name) (i : ℕ)
      → matched_name σ (map entry_of es) n (suc i)
      ≡ or_name (matched_name σ (map entry_of es) n i) (filtered (λ e. granted σ e.name entry DiscloseOnError) (entry_by es (walk σ.schema es 0 (take (suc i) n))))
  unfolding matched_name disclosed named
  matched-step n i =
      ap (or_name (matched_name σ (map entry_of es) n i))
      (first-once (λ e. same_name σ.schema (take (suc i) n) e.name) (λ e. granted σ e.name entry DiscloseOnError) (map entry_of es) (once-named σ.schema es ok (take (suc i) n))
      ∙ ap (filtered (λ e. granted σ e.name entry DiscloseOnError)) (named-walk (take (suc i) n)))

-- ---- the walk, by one part more

pub walk-append : (S : Schema) (es : List Stored) (k : ℕ) (xs ys : Name) → walk S es k (xs ++ ys) ≡ on_found (walk S es k xs) (λ j. walk S es j ys)
unfolding walk
walk-append S es k [] ys = refl
walk-append S es k (x ∷ xs) ys = go (child_from S k x es 0) (λ j. walk-append S es j xs ys)
  where
    go : (f : Found) → ((j : ℕ) → walk S es j (xs ++ ys) ≡ on_found (walk S es j xs) (λ j. walk S es j ys))
        → on_found f (λ j. walk S es j (xs ++ ys)) ≡ on_found (on_found f (λ j. walk S es j xs)) (λ j. walk S es j ys)
    go (Some j) ih = ih j
    go None ih = refl

pub walk_more : (S : Schema) (es : List Stored) (n : Name) (i : ℕ) (z : Part) → i < length n
    → walk S es 0 (take (suc i) n) ≡ on_found (walk S es 0 (take i n)) (λ j. child_from S j (get_or n i z) es 0)
unfolding walk
walk_more S es n i z l = ap (walk S es 0) (take-suc n i z l) ∙ walk-append S es 0 (take i n) (get_or n i z ∷ []) ∙ go (walk S es 0 (take i n))
  where
    one : (f : Found) → on_found f (λ j. Some j) ≡ f
    one (Some j) = refl
    one None = refl

    go : (f : Found) → on_found f (λ j. on_found (child_from S j (get_or n i z) es 0) (λ k. Some k)) ≡ on_found f (λ j. child_from S j (get_or n i z) es 0)
    go (Some j) = one (child_from S j (get_or n i z) es 0)
    go None = refl
