-- "An absent entry gives 1", in list and search too: nothing is at or below a name that names no entry.
use Rattle.std.specs.Prelude.{◌≡◌, ◌⊎◌, Bool, false, ◌||◌, cond, get_or, eqb}
use Rattle.std.proofs.Math.Path.{refl, ap}
use Rattle.std.proofs.Common.{sym, ◌∙◌, subst, inr, not-suc-le-zero, arith}
use Rattle.std.proofs.Math.Logic.{inl}
use Prim.Native.Nat.{ℕ, zero, suc, ◌≤◌, ◌<◌}
use Rattle.std.proofs.Math.Bool.{true, true≢false}
use Rattle.std.proofs.lemmas.Bool.{false≢true}
use mathlib.Core.List.{List, [], ◌∷◌, ◌++◌, map}
use Rattle.std.proofs.Math.ListN.{length, get_or-map}
use Rattle.std.proofs.lemmas.List.{length-map}
use Rattle.rules.specs.Lists.{any, keep}
use Rattle.rules.specs.Sheet.{Line}
use Rattle.rules.specs.Name.{Schema, Name, same_name, covers, child_of}
use Rattle.rules.specs.Directory.{Stored, blank, name_at, Directory, Entry, entry_of, entries_in, Alias}
use Rattle.rules.specs.Decision.{Setting}
use Rattle.rules.specs.Request.{Search, list, search}
use Rattle.rules.specs.Arrange.{arranged}
use Rattle.rules.specs.Answer.{listed, candidate, found, in_subset, disclosed, no_such_object, returned, list_hit, search_hit, list_hits, search_hits, answer}
use Rattle.rules.proofs.Laws.Tests.{and_left}
use Rattle.rules.proofs.Laws.Lists.{any_at, any_none, any-weaken, keep-none}
use Rattle.rules.proofs.Laws.Name.{covers_snoc, same-covers, same_length}
use Rattle.rules.proofs.Laws.Keys.{nothing-arranged}
use Rattle.rules.specs.Derived.{Each, Shallow, Accepted}

-- an entry has the name
abbrev pub present' : Schema → List Stored → Name → Bool
present' S es n = any (λ e. same_name S n e.name) (map entry_of es)

subset-covers : (σ : Setting) (b : ℕ) (n m : Name) → in_subset σ b n m ≡ true → covers σ.schema n m ≡ true
unfolding in_subset child_of
subset-covers σ b n m e = go (eqb b 0) (eqb b 1) e
  where
    go : (x y : Bool) → cond x (same_name σ.schema n m) (cond y (child_of σ.schema n m) (covers σ.schema n m)) ≡ true → covers σ.schema n m ≡ true
    go true y h = same-covers σ.schema n m h
    go false true h = and_left (covers σ.schema n m) _ h
    go false false h = h

module _ (S : Schema) (es : List Stored) (ok : Accepted S es) where
  numbered : (n : Name) (k : ℕ) → k < length es → same_name S n (get_or es k blank).name ≡ true → present' S es n ≡ true
  unfolding entry_of
  numbered n k l e =
      any_at (λ e. same_name S n e.name) (entry_of blank) (map entry_of es) k
      (subst (λ (m : ℕ). k < m) (sym (length-map es entry_of)) l)
      (subst (λ (x : Entry). same_name S n x.name ≡ true) (sym (get_or-map entry_of es k blank)) e)

  -- a name at or above an entry's names an entry, or is the root's
  pub above : (f k : ℕ) (n : Name) → k ≤ f → k ≤ length es → covers S n (name_at es k) ≡ true → (n ≡ []) ⊎ (present' S es n ≡ true)
  unfolding name_at covers
  above f k [] a l e = inl refl
  above zero zero (c ∷ cs) a l e = absurd (false≢true e)
  above zero (suc k) (c ∷ cs) a l e = absurd (not-suc-le-zero a)
  above (suc f) zero (c ∷ cs) a l e = absurd (false≢true e)
  above (suc f) (suc k) (c ∷ cs) a l e =
      let h : (get_or es k blank).parent ≤ k = ok.parents k l in
      go (same_name S N (get_or es k blank).name) refl (rw (ok.names k l) at e)
      (above f (get_or es k blank).parent (c ∷ cs) (omega arith) (omega arith))
    where
      N : Name
      N = c ∷ cs

      go : (b : Bool) → same_name S N (get_or es k blank).name ≡ b → covers S N (name_at es (get_or es k blank).parent ++ ((get_or es k blank).naming ∷ [])) ≡ true
          → (covers S N (name_at es (get_or es k blank).parent) ≡ true → (N ≡ []) ⊎ (present' S es N ≡ true)) → (N ≡ []) ⊎ (present' S es N ≡ true)
      go true p q ih = inr (numbered N k l p)
      go false p q ih =
          ih (sym (ap (λ (b : Bool). b || covers S N (name_at es (get_or es k blank).parent)) (sym (ap (same_name S N) (ok.names k l)) ∙ p))
          ∙ sym (covers_snoc S N (name_at es (get_or es k blank).parent) (get_or es k blank).naming) ∙ q)

  pub nothing-below : (n : Name) → (n ≡ [] → ⊥) → present' S es n ≡ false → any (λ e. covers S n e.name) (map entry_of es) ≡ false
  unfolding entry_of name_at
  nothing-below n root absent =
      any_none (λ e. covers S n e.name) (entry_of blank) (map entry_of es)
      (λ i l e. refuse i (subst (λ (m : ℕ). i < m) (length-map es entry_of) l)
      (subst (λ (x : Entry). covers S n x.name ≡ true) (get_or-map entry_of es i blank) e))
    where
      refuse : (i : ℕ) → i < length es → covers S n (get_or es i blank).name ≡ true → ⊥
      refuse i l e = go (above (suc i) (suc i) n (omega arith) l e)
        where
          go : (n ≡ []) ⊎ (present' S es n ≡ true) → ⊥
          go (inl h) = root h
          go (inr h) = true≢false (sym h ∙ absent)

-- nobody has a longer name than the deepest
pub none-longer : (S : Schema) (es : List Stored) → Each Shallow es → (n : Name) → 8 < length n → present' S es n ≡ false
unfolding entry_of
none-longer S [] k n l = refl
none-longer S (x ∷ xs) k n l = go (same_name S n x.name) refl (none-longer S xs k.1 n l)
  where
    go : (b : Bool) → same_name S n x.name ≡ b → present' S xs n ≡ false → (b || present' S xs n) ≡ false
    go true e ih = absurd (omega (arith, same_length S n x.name e, k.0, l))
    go false e ih = ih

module _ (σ : Setting) (d : Directory) (e : σ.schema ≡ d.schema) (ok : Accepted d.schema d.entries)
    (n : Name) (root : n ≡ [] → ⊥) (absent : present' σ.schema d.entries n ≡ false) where
  below_none : any (λ x. covers σ.schema n x.name) (entries_in d) ≡ false
  unfolding entries_in
  below_none = nothing-below σ.schema d.entries (subst (λ (S : Schema). Accepted S d.entries) (sym e) ok) n root absent

  nothing-returned : (op limit : ℕ) (hits : List (List Line)) → hits ≡ [] → returned σ (entries_in d) op n limit hits ≡ no_such_object σ (entries_in d) op n
  unfolding returned disclosed entries_in
  nothing-returned op limit hits q =
      rw (q, any-weaken (disclosed σ n) (λ x. same_name σ.schema n x.name) (λ x. and_left _ _) (map entry_of d.entries) absent)

  -- a test that only names below pass keeps none
  none_kept : (p : Entry → Bool) → ((x : Entry) → p x ≡ true → covers σ.schema n x.name ≡ true) → keep p (entries_in d) ≡ []
  none_kept p h = keep-none p (entries_in d) (any-weaken p (λ x. covers σ.schema n x.name) h (entries_in d) below_none)

  pub list-absent : (as' : List Alias) (limit : ℕ) → answer σ (entries_in d) as' n (list limit) ≡ no_such_object σ (entries_in d) 3 n
  unfolding answer list_hits listed child_of
  list-absent as' limit =
      nothing-returned 3 limit _ (ap (map (list_hit σ as' n))
      (none_kept (listed σ n) (λ x r. and_left (covers σ.schema n x.name) _ (and_left (child_of σ.schema n x.name) _ r))))

  pub search-absent : (as' : List Alias) (r : Search) → answer σ (entries_in d) as' n (search r) ≡ no_such_object σ (entries_in d) 4 n
  unfolding answer search_hits found candidate
  search-absent as' r =
      nothing-returned 4 r.limit _ (ap (λ (xs : List Entry). map (search_hit σ r) (arranged σ r.ordering xs))
      (none_kept (found σ n r) (λ x q. subset-covers σ r.subset n x.name (and_left (in_subset σ r.subset n x.name) _ (and_left (candidate σ n r.subset x) _ q))))
      ∙ ap (map (search_hit σ r)) (nothing-arranged σ r.ordering))
