-- Laws of `Passing`: what a loop over all entries collects, and the entries that it stands for.
use Prim.Native.Nat.{ℕ, zero, suc, ◌+◌, ◌-◌, ◌≤◌, ◌<◌, zero-le}
use Rattle.std.proofs.Math.Numerals.{add-one}
use Rattle.std.proofs.Common.{arith, ◌∙◌, subst, length-set, length-drop, take-append-drop, length-take-le, get_or-drop, ext_get_or, get_or-set_same, get_or-set_other, eqb-true}
use Rattle.std.specs.Prelude.{◌≡◌, Bool, eqb, length, take, drop, set}
use Rattle.std.proofs.Math.Path.{refl, sym, ap, ap₂}
use Rattle.std.proofs.Math.Bool.{true, false}
use mathlib.Core.List.{List, [], ◌∷◌, ◌++◌, map, append-nil, map-append}
use Rattle.std.proofs.Math.ListN.{get_or, get_or-map}
use Rattle.std.proofs.lemmas.List.{length-map}
use Rattle.std.proofs.Math.Seq.{take-suc-set, take-length}
use Rattle.std.proofs.lemmas.Bool.{eqb-false}
use Rattle.rules.specs.Lists.{given, keep}
use Rattle.rules.specs.Sheet.{Line}
use Rattle.rules.specs.Directory.{Stored, blank, Entry, entry_of}
use Rattle.rules.proofs.Laws.Loops.{gather-suc}
use Rattle.answer_entry.specs.Passing.{passing, over, Indices}

pub no-indices : (k : ℕ) (hits : List ℕ) → Indices k 0 hits hits
no-indices k hits = record { size = refl; few = zero-le; room = zero-le; below = λ i l. absurd (omega (arith, l)); kept = λ i l. refl }

-- ---- a turn of the loop, at index `k`

module _ (k n : ℕ) (before hits : List ℕ) (n' : ℕ) (hits' : List ℕ) (inv : Indices k n before hits) where
  pub index_in : n < length hits → hits' ≡ set hits n k → n' ≡ n + 1 → Indices (k + 1) n' before hits'
  index_in l a b = record {
    size = ap length a ∙ length-set hits n k ∙ inv.size;
    few = omega (arith, b, inv.few);
    room = let m : length hits' ≡ length hits = ap length a ∙ length-set hits n k in omega (arith, b, l, m);
    below = λ i h. subst (λ (x : List ℕ). get_or x i 0 < k + 1) (sym a) (at i h (eqb i n) refl);
    kept = λ i h. ap (λ (x : List ℕ). get_or x i 0) a ∙ get_or-set_other hits n i k 0 (λ q. omega (arith, h, b)) ∙ inv.kept i (omega (arith, h, b));
  }
    where
      at : (i : ℕ) → i < n' → (c : Bool) → eqb i n ≡ c → get_or (set hits n k) i 0 < k + 1
      at i h true e =
          let q : i ≡ n = eqb-true i n e in
          let v : get_or (set hits n k) i 0 ≡ k = ap (λ (j : ℕ). get_or (set hits n k) j 0) q ∙ get_or-set_same hits n k 0 l in
          omega (arith, v)
      at i h false e =
          let q : i ≡ n → ⊥ = eqb-false i n e in
          let v : get_or (set hits n k) i 0 ≡ get_or hits i 0 = get_or-set_other hits n i k 0 q in
          let s : get_or hits i 0 < k = inv.below i (omega (arith, h, b, q)) in
          omega (arith, v, s)

  pub index-out : hits' ≡ hits → n' ≡ n → Indices (k + 1) n' before hits'
  index-out a b = subst (λ (x : List ℕ). Indices (k + 1) n' before x) (sym a) (subst (λ (m : ℕ). Indices (k + 1) m before hits) (sym b) (record {
    size = inv.size;
    few = omega (arith, inv.few);
    room = inv.room;
    below = λ i h. let s : get_or hits i 0 < k = inv.below i h in omega (arith, s);
    kept = inv.kept;
  }))

module _ (p : ℕ → Bool) (k n : ℕ) (hits : List ℕ) (n' : ℕ) (hits' : List ℕ) (inv : take n hits ≡ passing p k) where
  pub pass-in : p k ≡ true → n < length hits → hits' ≡ set hits n k → n' ≡ n + 1 → take n' hits' ≡ passing p (k + 1)
  unfolding passing
  pass-in e l a b = rw (a, b, add-one n, add-one k, take-suc-set hits n k l, e, inv)

  pub pass-out : p k ≡ false → hits' ≡ hits → n' ≡ n → take n' hits' ≡ passing p (k + 1)
  unfolding passing
  pass-out e a b = rw (a, b, add-one k, e, append-nil (passing p k)) inv

-- the indices found are all that changes
pub over-found : (k n : ℕ) (before hits found : List ℕ) → Indices k n before hits → take n hits ≡ found → hits ≡ over found before
over-found k n before hits found inv t =
    let len : length found ≡ n = ap length (sym t) ∙ length-take-le n hits inv.room in
    let behind : drop n hits ≡ drop n before
    = ext_get_or 0 (drop n hits) (drop n before) (length-drop n hits ∙ ap (λ (m : ℕ). m - n) inv.size ∙ sym (length-drop n before))
    (λ i l. get_or-drop n hits i 0 ∙ inv.kept (n + i) (omega arith) ∙ sym (get_or-drop n before i 0)) in
    sym (take-append-drop n hits) ∙ ap₂ (λ (x y : List ℕ). x ++ y) t behind ∙ ap (λ (m : ℕ). found ++ drop m before) (sym len)

-- ---- what the indices stand for

-- the elements that pass, by their indices
module _ {A : Type 0} (q : A → Bool) (z : A) (xs : List A) (p : ℕ → Bool) (same : (k : ℕ) → k < length xs → q (get_or xs k z) ≡ p k) where
  front : (m : ℕ) → m ≤ length xs → keep q (take m xs) ≡ map (λ k. get_or xs k z) (passing p m)
  unfolding passing
  front zero l = refl
  front (suc m) l =
      gather-suc (λ x. given (q x) (x ∷ [])) xs m z l
      ∙ ap₂ (λ (a b : List A). a ++ b) (front m (omega arith)) (ap (λ (b : Bool). given b (get_or xs m z ∷ [])) (same m l) ∙ one (p m))
      ∙ sym (map-append (λ k. get_or xs k z) (passing p m) (given (p m) (m ∷ [])))
    where
      one : (b : Bool) → given b (get_or xs m z ∷ []) ≡ map (λ k. get_or xs k z) (given b (m ∷ []))
      one true = refl
      one false = refl

  keep-passing : keep q xs ≡ map (λ k. get_or xs k z) (passing p (length xs))
  keep-passing = ap (keep q) (sym (take-length xs)) ∙ front (length xs) (omega arith)

-- what is made of the elements that pass, by their indices
module _ {A B : Type 0} (f : A → B) (h : ℕ → A) (g : ℕ → B) (p : ℕ → Bool) where
  map-passing : (m : ℕ) → ((k : ℕ) → k < m → p k ≡ true → f (h k) ≡ g k) → map f (map h (passing p m)) ≡ map g (passing p m)
  unfolding passing
  map-passing zero same = refl
  map-passing (suc m) same =
      ap (map f) (map-append h (passing p m) (given (p m) (m ∷ []))) ∙ map-append f (map h (passing p m)) (map h (given (p m) (m ∷ [])))
      ∙ ap₂ (λ (a b : List B). a ++ b) (map-passing m (λ k l. same k (omega arith))) (one (p m) refl)
      ∙ sym (map-append g (passing p m) (given (p m) (m ∷ [])))
    where
      one : (b : Bool) → p m ≡ b → map f (map h (given b (m ∷ []))) ≡ map g (given b (m ∷ []))
      one true e = ap (λ (x : B). x ∷ []) (same m (omega arith) e)
      one false e = refl

-- the entries that pass, and what is returned of them
module _ (es : List Stored) (q : Entry → Bool) (p : ℕ → Bool) (same : (k : ℕ) → k < length es → q (entry_of (get_or es k blank)) ≡ p k) where
  -- the entries that pass, by their indices
  pub entries-passing : keep q (map entry_of es) ≡ map (λ k. get_or (map entry_of es) k (entry_of blank)) (passing p (length es))
  entries-passing =
      keep-passing q (entry_of blank) (map entry_of es) p (λ k l. ap q (get_or-map entry_of es k blank) ∙ same k (subst (λ (m : ℕ). k < m) (length-map es entry_of) l))
      ∙ ap (λ (m : ℕ). map (λ k. get_or (map entry_of es) k (entry_of blank)) (passing p m)) (length-map es entry_of)

  pub hits-passing : (f : Entry → List Line) (g : ℕ → List Line) → ((k : ℕ) → k < length es → p k ≡ true → f (entry_of (get_or es k blank)) ≡ g k)
      → map f (keep q (map entry_of es)) ≡ map g (passing p (length es))
  hits-passing f g lines =
      ap (map f) entries-passing
      ∙ map-passing f (λ k. get_or (map entry_of es) k (entry_of blank)) g p (length es) (λ k l e. ap f (get_or-map entry_of es k blank) ∙ lines k l e)
