-- Laws of `Aliases` (#105): no alias is below another, so that at most one leads a name, and a name is replaced alike wherever the same
-- aliases are held, in whatever order.
use Prim.Native.Nat.{ℕ, zero, suc, ◌≤◌, ◌<◌}
use Rattle.std.proofs.Common.{not-suc-le-zero, arith, sym, ◌∙◌, subst, inl, inr, true≢false}
use Rattle.std.specs.Prelude.{◌≡◌, ◌⊎◌, Bool, true, false, ◌&&◌, ◌||◌, length, get_or, ltb}
use Rattle.std.proofs.Math.Path.{refl, ap}
use Rattle.std.proofs.Math.Bool.{cond}
use Rattle.std.proofs.lemmas.Bool.{false≢true}
use Rattle.std.proofs.Math.Option.{Option, none, some}
use mathlib.Core.List.Memᴰ
use mathlib.Core.List.{List, [], ◌∷◌, Memᴰ}
use Rattle.rules.specs.Lists.{given, SameMembers}
use Rattle.rules.specs.Name.{Schema, Name, same_part, same_name, covers}
use Rattle.rules.specs.Directory.{Stored, blank, name_at, Directory, is_alias, under_alias, Alias, alias_of, aliases}
use Rattle.rules.specs.Aliases.{through, leading, followed, resolved, aliased}
use Rattle.rules.specs.Theorems.{ResolvedAlike}
use Rattle.rules.proofs.Laws.Tests.{and_left, and_right, both}
use Rattle.rules.proofs.Laws.Name.{same_part-join, same_part-sym, covers-nil, covers_snoc, snoc-nil}
use Rattle.rules.specs.Derived.{Accepted}
use Rattle.rules.proofs.Laws.Directory.{accepted-means, one_number}
use Rattle.rules.proofs.Laws.Members.{any-members, first-members, gathered-at, gathers-at}

-- ---- aliases by their entries

given-member : {A : Type 0} (b : Bool) (x y : A) → Memᴰ y (given b (x ∷ [])) → (b ≡ true) × (y ≡ x)
given-member true x y m = (refl, Memᴰ.eq_of_singleton m)
given-member false x y m = absurd (Memᴰ.not-nil m)

member-given : {A : Type 0} (b : Bool) (x : A) → b ≡ true → Memᴰ x (given b (x ∷ []))
member-given true x e = Memᴰ.head refl
member-given false x e = absurd (false≢true e)

module _ (d : Directory) where
  abbrev at : ℕ → Stored
  at k = get_or d.entries k blank

  -- each alias is an entry's
  pub alias-at : (a : Alias) → Memᴰ a (aliases d) → (k : ℕ) × (k < length d.entries) × (is_alias (at k).target ≡ true) × (a ≡ alias_of (at k))
  unfolding aliases
  alias-at a m =
      let (k, l, n) = gathered-at (λ e. given (is_alias e.target) (alias_of e ∷ [])) blank a d.entries m in
      let (b, e) = given-member (is_alias (at k).target) (alias_of (at k)) a n in
      (k, l, b, e)

  -- and each entry that is marked has its own
  pub alias-member : (k : ℕ) → k < length d.entries → is_alias (at k).target ≡ true → Memᴰ (alias_of (at k)) (aliases d)
  unfolding aliases
  alias-member k l e =
      gathers-at (λ e. given (is_alias e.target) (alias_of e ∷ [])) blank (alias_of (at k)) d.entries k l (member-given (is_alias (at k).target) (alias_of (at k)) e)

-- ---- no alias is below another

-- of two beginnings of a name one begins the other
comparable : (S : Schema) (a b n : Name) → covers S a n ≡ true → covers S b n ≡ true → (covers S a b ≡ true) ⊎ (covers S b a ≡ true)
unfolding covers
comparable S [] b n e h = inl refl
comparable S (a ∷ as') [] n e h = inr refl
comparable S (a ∷ as') (b ∷ bs) [] e h = absurd (false≢true e)
comparable S (a ∷ as') (b ∷ bs) (c ∷ cs) e h =
    go (comparable S as' bs cs (and_right (same_part S a c) _ e) (and_right (same_part S b c) _ h))
  where
    ac : same_part S c a ≡ true
    ac = same_part-sym S a c (and_left (same_part S a c) _ e)

    bc : same_part S c b ≡ true
    bc = same_part-sym S b c (and_left (same_part S b c) _ h)

    go : (covers S as' bs ≡ true) ⊎ (covers S bs as' ≡ true)
        → ((same_part S a b && covers S as' bs) ≡ true) ⊎ ((same_part S b a && covers S bs as') ≡ true)
    go (inl q) = inl (both _ _ (same_part-join S c a b ac bc) q)
    go (inr q) = inr (both _ _ (same_part-join S c b a bc ac) q)

module _ (S : Schema) (es : List Stored) (ok : Accepted S es) (i : ℕ) (li : i < length es) where
  not-above-root : covers S (get_or es i blank).name [] ≡ true → ⊥
  not-above-root e =
      false≢true (sym (ap (λ (m : Name). same_name S m []) (ok.names i li) ∙ snoc-nil S (name_at es (get_or es i blank).parent) (get_or es i blank).naming)
      ∙ sym (covers-nil S (get_or es i blank).name) ∙ e)

  -- an alias is above itself only
  alone-above : is_alias (get_or es i blank).target ≡ true → (f j : ℕ) → j ≤ f → j ≤ length es → covers S (get_or es i blank).name (name_at es j) ≡ true → suc i ≡ j
  unfolding name_at under_alias
  alone-above alias zero zero hj lj e = absurd (not-above-root e)
  alone-above alias zero (suc j) hj lj e = absurd (not-suc-le-zero hj)
  alone-above alias (suc f) zero hj lj e = absurd (not-above-root e)
  alone-above alias (suc f) (suc j) hj lj e =
      let h : (get_or es j blank).parent ≤ j = ok.parents j lj in
      go (same_name S (get_or es i blank).name (get_or es j blank).name) refl (alone-above alias f (get_or es j blank).parent (omega arith) (omega arith))
    where
      P : ℕ
      P = (get_or es j blank).parent

      go : (b : Bool) → same_name S (get_or es i blank).name (get_or es j blank).name ≡ b → (covers S (get_or es i blank).name (name_at es P) ≡ true → suc i ≡ P) → suc i ≡ suc j
      go true p ih = one_number S es ok (suc i) (suc i) (suc j) (omega arith) li lj p
      go false p ih =
          let q : suc i ≡ P = ih (sym (ap (λ (b : Bool). b || covers S (get_or es i blank).name (name_at es P)) (sym (ap (same_name S (get_or es i blank).name) (ok.names j lj)) ∙ p))
          ∙ sym (covers_snoc S (get_or es i blank).name (name_at es P) (get_or es j blank).naming) ∙ ap (covers S (get_or es i blank).name) (sym (ok.names j lj)) ∙ e) in
          absurd (true≢false (sym alias ∙ ap (under_alias es) q ∙ ok.childless j lj))

-- at most one alias leads a name
pub one-leads : (d : Directory) → Accepted d.schema d.entries → (n : Name) (a b : Alias) → Memᴰ a (aliases d) → Memᴰ b (aliases d)
    → covers d.schema a.name n ≡ true → covers d.schema b.name n ≡ true → a ≡ b
unfolding name_at
one-leads d ok n a b ma mb ca cb =
    let (i, li, p, ea) = alias-at d a ma in
    let (j, lj, q, eb) = alias-at d b mb in
    let ai : covers S (at d i).name n ≡ true = subst (λ (x : Alias). covers S x.name n ≡ true) ea ca in
    let bj : covers S (at d j).name n ≡ true = subst (λ (x : Alias). covers S x.name n ≡ true) eb cb in
    ea ∙ ap (λ (k : ℕ). alias_of (at d k)) (go i j li lj p q (comparable S (at d i).name (at d j).name n ai bj)) ∙ sym eb
  where
    S : Schema
    S = d.schema

    go : (i j : ℕ) → i < length d.entries → j < length d.entries → is_alias (at d i).target ≡ true → is_alias (at d j).target ≡ true
        → (covers S (at d i).name (at d j).name ≡ true) ⊎ (covers S (at d j).name (at d i).name ≡ true) → i ≡ j
    go i j li lj p q (inl c) = let e : suc i ≡ suc j = alone-above S d.entries ok i li p (suc j) (suc j) (omega arith) lj c in omega arith
    go i j li lj p q (inr c) = let e : suc j ≡ suc i = alone-above S d.entries ok j lj q (suc i) (suc i) (omega arith) li c in omega arith

-- ---- the same aliases

module _ (S : Schema) (as₁ as₂ : List Alias) where
  -- replacing goes by the alias that leads
  followed-alike : ((n : Name) → leading S as₁ n ≡ leading S as₂ n) → (k : ℕ) (n : Name) → followed S as₁ k n ≡ followed S as₂ k n
  unfolding followed
  followed-alike h zero n = refl
  followed-alike h (suc k) n =
      ap (λ (o : Option Alias). cond (ltb 8 (length n)) (some n) (through (followed S as₁ k) n o)) (h n)
      ∙ ap (cond (ltb 8 (length n)) (some n)) (go (leading S as₂ n) (followed-alike h k))
    where
      go : (o : Option Alias) → ((m : Name) → followed S as₁ k m ≡ followed S as₂ k m) → through (followed S as₁ k) n o ≡ through (followed S as₂ k) n o
      go none ih = refl
      go (some a) ih = ih _

  -- the mark of a listed alias goes by the members alone
  pub aliased-alike : SameMembers as₁ as₂ → (n : Name) → aliased S as₁ n ≡ aliased S as₂ n
  unfolding aliased
  aliased-alike same n = any-members (λ a. same_name S a.name n) as₁ as₂ same

-- a name is replaced alike
pub replaced-alike : ResolvedAlike
unfolding leading
replaced-alike f s₁ s₂ d₁ d₂ e₁ e₂ schema same n =
    followed-alike d₁.schema (aliases d₁) (aliases d₂)
    (λ m. first-members (λ a. covers d₁.schema a.name m) (aliases d₁) (aliases d₂) same (one-leads d₁ (accepted-means f s₁ d₁ e₁) m)) _ n
    ∙ ap (λ (S : Schema). resolved S (aliases d₂) n) schema
