-- Aliases by entry numbers (#105): every alias of an accepted directory has its whole target, of 8 parts at most; the mark of list is that of its K 2 line, and the alias
-- that leads a name is met on the way from the root down. For a program that builds no list of aliases.
use Prim.Native.Nat.{ℕ, zero, suc, ◌+◌, ◌≤◌, ◌<◌, zero-le}
use Rattle.std.proofs.Common.{not-suc-le-zero, sym, ◌∙◌, length-append, length-drop, take-append-drop}
use native.Mathlib.Omega.{arith}
use Rattle.std.specs.Prelude.{◌≡◌, Bool, length, get_or, take, drop, Some, None}
use Rattle.std.proofs.Math.Path.{refl, ap, subst}
use Rattle.std.proofs.Math.Bool.{true, false, cond}
use Rattle.std.proofs.lemmas.Bool.{false≢true}
use Rattle.std.proofs.Math.Option.{none, some}
use mathlib.Core.List.{List, [], ◌∷◌, ◌++◌, map}
use Rattle.rules.specs.Lists.{gather}
use Rattle.rules.specs.Sheet.{Bytes, Line, line}
use Rattle.rules.specs.declared.Format.{Format}
use Rattle.rules.specs.Columns.{in_form, directory_forms}
use Rattle.rules.specs.Name.{Schema, Part, Name, same_part, same_name, covers}
use Rattle.rules.specs.Judge.{accept}
use Rattle.rules.specs.Directory.{Target, nowhere, missing, parts, Stored, blank, name_at, Directory, is_alias, is_whole, under_alias, directory_of, schema_lines, target_lines, stored_lines, directory_lines, Alias, leads_to, alias_of, aliases}
use Rattle.rules.specs.Aliases.{replaced, leading, aliased}
use Rattle.tables.specs.Numbers.{on_found, child_from, walk, lead, alias_by}
use Rattle.rules.specs.Value.{Found}
use Rattle.rules.proofs.Laws.Tests.{and_left, and_right, both, bool-ext}
use Rattle.rules.specs.Derived.{Each, NamingAllowed, Accepted}
use Rattle.rules.proofs.Laws.Each.{each_after, each_at, gathered-each}
use Rattle.rules.proofs.Laws.Name.{same_part-sym, part-self, same_name-join, same_length}
use Rattle.rules.proofs.Laws.Columns.{DirectoryLine, is_type, is_entry, is_value, is_target, is_part, directory-line}
use Rattle.rules.proofs.Laws.DirectoryLines.{accepted-forms}
use Rattle.rules.proofs.Laws.Directory.{accepted-means, one_number}
use Rattle.rules.proofs.Laws.Members.{any-member, member-of-any, first_one, first-nothing}
use Rattle.rules.proofs.Laws.Aliases.{alias-at, alias-member, one-leads}
use Rattle.tables.specs.Laws.Resolve.{base-found, walk-missing}

-- ---- every target is whole

abbrev Whole : Stored → Type 0
Whole e = is_whole e.target ≡ true

-- ---- every target has 8 parts at most

target-few : (top : ℕ) (t : Target) → Each (λ x. in_form (directory_forms top) x ≡ true) (target_lines t) → length (leads_to t) ≤ 8
target-few top nowhere k = zero-le
target-few top missing k = zero-le
target-few top (parts n m) k = go (directory-line top (line 36 0 (n + length m) 0 []) k.0)
  where
    go : DirectoryLine top (line 36 0 (n + length m) 0 []) → length m ≤ 8
    go (is_type f) = absurd (omega (arith, f.kind))
    go (is_entry f) = absurd (omega (arith, f.kind))
    go (is_value f) = absurd (omega (arith, f.kind))
    go (is_target f) = omega (arith, f.few)
    go (is_part f) = absurd (omega (arith, f.kind))

pub targets-few : (f : Format) (s : Bytes) (d : Directory) → directory_of f s ≡ accept d → (k : ℕ) → k < length d.entries → length (leads_to (get_or d.entries k blank).target) ≤ 8
unfolding directory_lines stored_lines
targets-few f s d e k l =
    let P : Line → Type 0 = λ x. in_form (directory_forms f.top) x ≡ true in
    let ls = each_after P (schema_lines d.schema) (gather stored_lines d.entries) (accepted-forms f s d e) in
    let x : Stored = get_or d.entries k blank in
    target-few f.top x.target
    (each_after P (map (λ v. line 3 v.type 0 0 v.value) x.values) (target_lines x.target)
    (each_at (λ c. Each P (stored_lines c)) blank d.entries (gathered-each P stored_lines d.entries ls) k l).1)

-- "names can reach 15 parts"
pub replaced-short : (f : Format) (s : Bytes) (d : Directory) → directory_of f s ≡ accept d → (k : ℕ) → k < length d.entries → (n : Name) → length n ≤ 8
    → length (replaced n (alias_of (get_or d.entries k blank))) ≤ 15
unfolding replaced
replaced-short f s d e k l n h =
    let x : Stored = get_or d.entries k blank in
    let base : Name = name_at d.entries x.parent in
    let t : length (leads_to x.target) ≤ 8 = targets-few f s d e k l in
    let c : length x.name ≡ length base + 1 = ap length ((accepted-means f s d e).names k l) ∙ length-append base (x.naming ∷ []) in
    omega (arith, t, c, h, length-append (leads_to x.target) (drop (length x.name) n), length-drop (length x.name) n)

-- ---- a stored name is its own

self-snoc : (S : Schema) (n : Name) (p : Part) → same_name S n n ≡ true → same_part S p p ≡ true → same_name S (n ++ (p ∷ [])) (n ++ (p ∷ [])) ≡ true
unfolding same_name
self-snoc S [] p e h = both (same_part S p p) true h refl
self-snoc S (a ∷ as') p e h = both (same_part S a a) _ (and_left (same_part S a a) _ e) (self-snoc S as' p (and_right (same_part S a a) _ e) h)

module _ (S : Schema) (es : List Stored) (ok : Accepted S es) where
  name-self : (f k : ℕ) → k ≤ f → k ≤ length es → same_name S (name_at es k) (name_at es k) ≡ true
  unfolding name_at same_name
  name-self zero zero h l = refl
  name-self zero (suc k) h l = absurd (not-suc-le-zero h)
  name-self (suc f) zero h l = refl
  name-self (suc f) (suc k) h l =
      let p : (get_or es k blank).parent ≤ k = ok.parents k l in
      rw (ok.names k l) (self-snoc S (name_at es (get_or es k blank).parent) (get_or es k blank).naming
      (name-self f (get_or es k blank).parent (omega arith) (omega arith)) (part-self S (get_or es k blank).naming (each_at (NamingAllowed S) blank es ok.namings k l)))

-- ---- aliases by number

module _ (d : Directory) (ok : Accepted d.schema d.entries) where
  -- list's mark is that of the K 2 line
  pub aliased-number : (k : ℕ) → k < length d.entries → aliased d.schema (aliases d) (get_or d.entries k blank).name ≡ is_alias (get_or d.entries k blank).target
  unfolding aliased name_at
  aliased-number k l =
      bool-ext (aliased S (aliases d) n) (is_alias (get_or d.entries k blank).target)
      (λ e.
      let (a, m, s) = member-of-any (λ a. same_name S a.name n) (aliases d) e in
      let (i, li, p, q) = alias-at d a m in
      let j : suc i ≡ suc k = one_number S d.entries ok (suc i) (suc i) (suc k) (omega arith) li l (subst (λ (x : Alias). same_name S x.name n ≡ true) q s) in
      let j' : i ≡ k = omega arith in
      subst (λ (x : ℕ). is_alias (get_or d.entries x blank).target ≡ true) j' p)
      (λ e. any-member (λ a. same_name S a.name n) (aliases d) (alias_of (get_or d.entries k blank)) (alias-member d k l e) (name-self S d.entries ok (suc k) (suc k) (omega arith) l))
    where
      S : Schema
      S = d.schema

      n : Name
      n = (get_or d.entries k blank).name

  -- the alias at the beginning of a name leads it
  pub leading-number : (n : Name) (k : ℕ) → k < length d.entries → is_alias (get_or d.entries k blank).target ≡ true
      → covers d.schema (get_or d.entries k blank).name n ≡ true → leading d.schema (aliases d) n ≡ some (alias_of (get_or d.entries k blank))
  unfolding leading
  leading-number n k l e c =
      let m = alias-member d k l e in
      first_one (λ a. covers d.schema a.name n) (aliases d) (alias_of (get_or d.entries k blank)) m c (λ a p q. one-leads d ok n a (alias_of (get_or d.entries k blank)) p m q c)

  -- with no alias at its beginning, none leads it
  pub leading-none : (n : Name)
      → ((k : ℕ) → k < length d.entries → is_alias (get_or d.entries k blank).target ≡ true → covers d.schema (get_or d.entries k blank).name n ≡ true → ⊥)
      → leading d.schema (aliases d) n ≡ none
  unfolding leading
  leading-none n h =
      first-nothing (λ a. covers d.schema a.name n) (aliases d)
      (λ a m c. let (k, l, p, q) = alias-at d a m in h k l p (subst (λ (x : Alias). covers d.schema x.name n ≡ true) q c))

-- ---- aliases on the way down

at-not : (i : ℕ) → Some i ≡ None → ⊥
at-not i e = let z : ◌≡◌ {A = ℕ} 0 1 = cc in omega arith

module _ (S : Schema) (es : List Stored) where
  -- what is met is an alias, at a beginning of the name
  lead-met : (ps : Name) (k j : ℕ) → lead S es k ps ≡ Some j → (i : ℕ) × (walk S es k (take i ps) ≡ Some j) × (under_alias es j ≡ true)
  unfolding lead walk
  lead-met [] k j e = go (under_alias es k) refl e
    where
      go : (b : Bool) → under_alias es k ≡ b → cond b (Some k) None ≡ Some j → (i : ℕ) × (walk S es k (take i []) ≡ Some j) × (under_alias es j ≡ true)
      go true h q = let r : k ≡ j = cc in (0, q, rw (← r) h)
      go false h q = absurd (at-not j (sym q))
  lead-met (p ∷ ps) k j e = go (under_alias es k) refl (child_from S k p es 0) refl e (lead-met ps)
    where
      Met : Type 0
      Met = (i : ℕ) × (walk S es k (take i (p ∷ ps)) ≡ Some j) × (under_alias es j ≡ true)

      go : (b : Bool) → under_alias es k ≡ b → (f : Found) → child_from S k p es 0 ≡ f → cond b (Some k) (on_found f (λ c. lead S es c ps)) ≡ Some j
          → ((c j : ℕ) → lead S es c ps ≡ Some j → (i : ℕ) × (walk S es c (take i ps) ≡ Some j) × (under_alias es j ≡ true)) → Met
      go true h f g q ih = let r : k ≡ j = cc in (0, q, rw (← r) h)
      go false h (Some c) g q ih = let (i, w, u) = ih c j q in (suc i, rw g w, u)
      go false h None g q ih = absurd (at-not j (sym q))

  -- an alias that is passed is met, or one before it
  lead-meets : (xs ys : Name) (k j : ℕ) → walk S es k xs ≡ Some j → under_alias es j ≡ true → lead S es k (xs ++ ys) ≡ None → ⊥
  unfolding lead walk
  lead-meets [] [] k j w u e = let r : k ≡ j = cc in let a : under_alias es k ≡ true = rw r u in at-not k (rw a at e)
  lead-meets [] (y ∷ ys) k j w u e = let r : k ≡ j = cc in let a : under_alias es k ≡ true = rw r u in at-not k (rw a at e)
  lead-meets (x ∷ xs) ys k j w u e = go (under_alias es k) (child_from S k x es 0) w e (lead-meets xs ys)
    where
      go : (b : Bool) (f : Found) → on_found f (λ c. walk S es c xs) ≡ Some j → cond b (Some k) (on_found f (λ c. lead S es c (xs ++ ys))) ≡ None
          → ((c j : ℕ) → walk S es c xs ≡ Some j → under_alias es j ≡ true → lead S es c (xs ++ ys) ≡ None → ⊥) → ⊥
      go true f v q ih = at-not k q
      go false (Some c) v q ih = ih c j v u q
      go false None v q ih = at-not j (sym v)

-- a name begins with what its beginning is the same as
covers-take : (S : Schema) (i : ℕ) (n m : Name) → same_name S (take i n) m ≡ true → covers S m n ≡ true
unfolding same_name covers
covers-take S i n [] e = refl
covers-take S zero n (b ∷ bs) e = absurd (false≢true e)
covers-take S (suc i) [] (b ∷ bs) e = absurd (false≢true e)
covers-take S (suc i) (a ∷ as') (b ∷ bs) e =
    both (same_part S b a) _ (same_part-sym S a b (and_left (same_part S a b) _ e)) (covers-take S i as' bs (and_right (same_part S a b) _ e))

take-covers : (S : Schema) (n m : Name) → covers S m n ≡ true → same_name S (take (length m) n) m ≡ true
unfolding same_name covers
take-covers S n [] e = refl
take-covers S [] (b ∷ bs) e = absurd (false≢true e)
take-covers S (a ∷ as') (b ∷ bs) e =
    both (same_part S a b) _ (same_part-sym S b a (and_left (same_part S b a) _ e)) (take-covers S as' bs (and_right (same_part S b a) _ e))

module _ (d : Directory) (ok : Accepted d.schema d.entries) where
  -- the walk finds whom a name names
  walk-to : (n : Name) (k : ℕ) → k < length d.entries → same_name d.schema n (get_or d.entries k blank).name ≡ true → walk d.schema d.entries 0 n ≡ Some (suc k)
  unfolding name_at same_name
  walk-to n k l s = go (walk d.schema d.entries 0 n) refl
    where
      go : (f : Found) → walk d.schema d.entries 0 n ≡ f → f ≡ Some (suc k)
      go None q = absurd (walk-missing d.schema d.entries ok n [] 0 zero-le refl q (suc k) l s)
      go (Some b) q =
          let r = base-found d.schema d.entries ok n b q in
          ap Some (one_number d.schema d.entries ok b b (suc k) (omega arith) r.0 l (same_name-join d.schema n (name_at d.entries b) (get_or d.entries k blank).name r.1 s))

  -- who is found has as many parts as were taken: what is left of the name stays behind the target
  pub walk-depth : (n : Name) (k : ℕ) → walk d.schema d.entries 0 n ≡ Some k → length (name_at d.entries k) ≡ length n
  walk-depth n k w = sym (same_length d.schema n (name_at d.entries k) (base-found d.schema d.entries ok n k w).1)

  -- the alias that leads a name is the one that is met on the way down
  pub leading-walk : (n : Name) → leading d.schema (aliases d) n ≡ alias_by d.entries (lead d.schema d.entries 0 n)
  unfolding name_at under_alias
  leading-walk n = go (lead d.schema d.entries 0 n) refl
    where
      go : (f : Found) → lead d.schema d.entries 0 n ≡ f → leading d.schema (aliases d) n ≡ alias_by d.entries f
      go None q =
          leading-none d ok n (λ k l e c.
          let m : Name = (get_or d.entries k blank).name in
          lead-meets d.schema d.entries (take (length m) n) (drop (length m) n) 0 (suc k) (walk-to (take (length m) n) k l (take-covers d.schema n m c)) e
          (rw (take-append-drop (length m) n) q))
      go (Some zero) q = let (i, w, u) = lead-met d.schema d.entries n 0 0 q in absurd (false≢true u)
      go (Some (suc k)) q =
          let (i, w, u) = lead-met d.schema d.entries n 0 (suc k) q in
          let r = base-found d.schema d.entries ok (take i n) (suc k) w in
          leading-number d ok n k r.0 u (covers-take d.schema i n (get_or d.entries k blank).name r.1)
