-- Laws of `Value`: what the substrings test means, and the same test a piece at a time.
use Rattle.std.specs.Prelude.{ℕ, zero, suc, ◌+◌, ◌-◌, ◌≤◌, ◌≡◌, refl, ◌↔◌, Bool, true, false, cond, List, [], ◌∷◌, ◌++◌, map, leb, eqb, length, take, drop, Some, None}
use Rattle.std.proofs.Common.{sym, ap, subst, ◌∙◌, append_assoc, append-nil, arith, zero-add, eqb-true, eq-eqb, ne_eqb, le-leb, length-append, length-drop, take-append-drop, drop_at}
use Rattle.std.proofs.Math.Bool.{and-eq-true_iff}
use Rattle.std.proofs.lemmas.Bool.{false≢true}
use Rattle.std.proofs.lemmas.List.{length-map, drop-append-le}
use Rattle.std.proofs.Math.Seq.{drop-length, drop-drop}
use Rattle.rules.specs.Sheet.{Bytes}
use Rattle.rules.specs.Value.{text, folded, normal, identical, Piece, begins, ends, find, used, by_found, matches, contains, small}
use Rattle.rules.specs.Value.{Found}
use Rattle.rules.specs.Derived.{compared}
use Rattle.rules.proofs.Laws.Value.{unlike, identical-refl, identical-eq}

-- ---- substrings: what the test means

-- an initial piece has nothing before it, a final one nothing after it
abbrev pub InPlace : ℕ → Bytes → Bytes → Type 0
InPlace zero before after = before ≡ []
InPlace (suc zero) before after = Unit {0}
InPlace (suc (suc n)) before after = after ≡ []

-- each piece has its place in what the pieces before it left
abbrev pub Placed : List Piece → Bytes → Type 0
Placed [] v = Unit {0}
Placed (p ∷ ps) v =
    (before : Bytes) × (after : Bytes) × (v ≡ before ++ (p.bytes ++ after)) × InPlace p.place before after × Placed ps after

abbrev pub NoInitial : List Piece → Type 0
NoInitial [] = Unit {0}
NoInitial (p ∷ ps) = (p.place ≡ 0 → ⊥) × NoInitial ps

-- "initial only first"
abbrev pub InitialFirst : List Piece → Type 0
InitialFirst [] = Unit {0}
InitialFirst (p ∷ ps) = NoInitial ps

-- what `used` finds is a place

begins-parts : (v p : Bytes) → begins v p ≡ true → v ≡ p ++ drop (length p) v
unfolding begins
begins-parts v [] e = refl
begins-parts [] (y ∷ ys) e = absurd (false≢true e)
begins-parts (x ∷ xs) (y ∷ ys) e =
    let h = (and-eq-true_iff (eqb x y) (begins xs ys)).0 e in
    let p = eqb-true x y h.0 in
    let q = begins-parts xs ys h.1 in
    cc

begins-front : (p after : Bytes) → begins (p ++ after) p ≡ true
unfolding begins
begins-front [] after = refl
begins-front (y ∷ ys) after = rw (eq-eqb y y refl) (begins-front ys after)

ends-parts : (v p : Bytes) → ends v p ≡ true → v ≡ take (length v - length p) v ++ p
unfolding ends
ends-parts v p e =
    let h = (and-eq-true_iff (leb (length p) (length v)) (identical (drop (length v - length p) v) p)).0 e in
    let q = identical-eq (drop (length v - length p) v) p h.1 in
    sym (take-append-drop (length v - length p) v) ∙ ap (λ (l : Bytes). take (length v - length p) v ++ l) q

ends-back : (before p : Bytes) → ends (before ++ p) p ≡ true
unfolding ends
ends-back before p =
    let l = length-append before p in
    let n : length before ≡ length (before ++ p) - length p = omega arith in
    rw (le-leb (length p) (length (before ++ p)) (omega arith), drop_at before p (length (before ++ p) - length p) n) (identical-refl p)

pub find-by : (p v : Bytes) (i : ℕ) → begins v p ≡ true → find p v i ≡ Some (i + length p)
unfolding find
find-by p [] i e = rw e
find-by p (x ∷ xs) i e = rw e

-- where `find` succeeds: what stands before the piece, and how many bytes are used
find-parts : (p v : Bytes) (i j : ℕ) → find p v i ≡ Some j
    → (before : Bytes) × (n : ℕ) × (j ≡ i + n) × (n ≡ length before + length p) × (v ≡ before ++ (p ++ drop n v))
unfolding find
find-parts p [] i j e = go (begins [] p) refl e
  where
    go : (t : Bool) → begins [] p ≡ t → cond t (Some (i + length p)) None ≡ Some j
        → (before : Bytes) × (n : ℕ) × (j ≡ i + n) × (n ≡ length before + length p) × ([] ≡ before ++ (p ++ drop n []))
    go true b e = ([], length p, cc, omega arith, begins-parts [] p b)
    go false b e = unlike (cc)
find-parts p (x ∷ xs) i j e = go (begins (x ∷ xs) p) refl e (find-parts p xs (i + 1) j)
  where
    go : (t : Bool) → begins (x ∷ xs) p ≡ t → cond t (Some (i + length p)) (find p xs (i + 1)) ≡ Some j
        → (find p xs (i + 1) ≡ Some j → (before : Bytes) × (n : ℕ) × (j ≡ i + 1 + n) × (n ≡ length before + length p) × (xs ≡ before ++ (p ++ drop n xs)))
        → (before : Bytes) × (n : ℕ) × (j ≡ i + n) × (n ≡ length before + length p) × (x ∷ xs ≡ before ++ (p ++ drop n (x ∷ xs)))
    go true b e next = ([], length p, cc, omega arith, begins-parts (x ∷ xs) p b)
    go false b e next =
        let r = next e in
        (x ∷ r.0, suc r.1, omega (arith, r.2), omega (arith, r.3), ap (λ (l : Bytes). x ∷ l) r.4)

used-parts : (place : ℕ) (p v : Bytes) (n : ℕ) → used place p v ≡ Some n
    → (before : Bytes) × (n ≡ length before + length p) × (v ≡ before ++ (p ++ drop n v)) × InPlace place before (drop n v)
unfolding used
used-parts zero p v n e = go (begins v p) refl e
  where
    go : (t : Bool) → begins v p ≡ t → cond t (Some (length p)) None ≡ Some n
        → (before : Bytes) × (n ≡ length before + length p) × (v ≡ before ++ (p ++ drop n v)) × (before ≡ [])
    go true b e = let m : length p ≡ n = cc in ([], omega arith, rw (← m) (begins-parts v p b), refl)
    go false b e = unlike (cc)
used-parts (suc zero) p v n e =
    let r = find-parts p v 0 n e in
    let m : n ≡ r.1 = omega (arith, r.2) in
    (r.0, m ∙ r.3, subst (λ (k : ℕ). v ≡ r.0 ++ (p ++ drop k v)) (sym m) r.4, tt)
used-parts (suc (suc k)) p v n e = go (ends v p) refl (rw (ne_eqb (suc (suc k)) 0 (λ h. omega arith), ne_eqb (suc (suc k)) 1 (λ h. omega arith)) at e)
  where
    go : (t : Bool) → ends v p ≡ t → cond t (Some (length v)) None ≡ Some n
        → (before : Bytes) × (n ≡ length before + length p) × (v ≡ before ++ (p ++ drop n v)) × (drop n v ≡ [])
    go true b e =
        let m : length v ≡ n = cc in
        let d : drop n v ≡ [] = rw (← m) (drop-length v) in
        let h = ends-parts v p b in
        (take (length v - length p) v, sym m ∙ ap length h ∙ length-append (take (length v - length p) v) p, rw (d, append-nil p) h, d)
    go false b e = unlike (cc)

-- no more bytes are used than there are
used-within : (place : ℕ) (p v : Bytes) (n : ℕ) → used place p v ≡ Some n → n ≤ length v
used-within place p v n e =
    let r = used-parts place p v n e in
    omega (arith, r.1, ap length r.2, length-append r.0 (p ++ drop n v), length-append p (drop n v), length-drop n v)

pub matches-placed : (ps : List Piece) (v : Bytes) → matches ps v ≡ true → Placed ps v
unfolding matches
matches-placed [] v e = tt
matches-placed (p ∷ ps) v e = go (used p.place p.bytes v) refl e (λ n. matches-placed ps (drop n v))
  where
    go : (f : Found) → used p.place p.bytes v ≡ f → by_found f (λ n. matches ps (drop n v)) ≡ true
        → ((n : ℕ) → matches ps (drop n v) ≡ true → Placed ps (drop n v)) → Placed (p ∷ ps) v
    go (Some n) u e next = let r = used-parts p.place p.bytes v n u in (r.0, drop n v, r.2, r.3, next n e)
    go None u e next = absurd (false≢true e)

-- where there is a place, `used` finds one that ends no later

find_first : (before p after : Bytes) (i : ℕ)
    → (n : ℕ) × (find p (before ++ (p ++ after)) i ≡ Some (i + n)) × (n ≤ length before + length p)
unfolding find
find_first [] p after i = (length p, find-by p (p ++ after) i (begins-front p after), omega arith)
find_first (x ∷ xs) p after i = go (begins (x ∷ (xs ++ (p ++ after))) p) refl (find_first xs p after (i + 1))
  where
    go : (t : Bool) → begins (x ∷ (xs ++ (p ++ after))) p ≡ t
        → (n : ℕ) × (find p (xs ++ (p ++ after)) (i + 1) ≡ Some (i + 1 + n)) × (n ≤ length xs + length p)
        → (n : ℕ) × (find p (x ∷ (xs ++ (p ++ after))) i ≡ Some (i + n)) × (n ≤ suc (length xs) + length p)
    go true b r = (length p, rw b, omega arith)
    go false b r = let m : i + 1 + r.0 ≡ i + suc r.0 = omega arith in (suc r.0, rw (b, ← m) r.1, omega (arith, r.2))

used-first : (place : ℕ) (p before after : Bytes) → InPlace place before after
    → (n : ℕ) × (used place p (before ++ (p ++ after)) ≡ Some n) × (n ≤ length before + length p)
unfolding used
used-first zero p before after h = (length p, rw (h, begins-front p after), omega arith)
used-first (suc zero) p before after h = let r = find_first before p after 0 in (r.0, r.1 ∙ ap Some (zero-add r.0), r.2)
used-first (suc (suc k)) p before after h =
    let l = length-append before p in (
      length (before ++ p),
      rw (ne_eqb (suc (suc k)) 0 (λ e. omega arith), ne_eqb (suc (suc k)) 1 (λ e. omega arith), h, append-nil p, ends-back before p),
      omega arith,
    )

-- a placing in the end of a value is one in the value
later : (ps : List Piece) (m w : Bytes) → NoInitial ps → Placed ps w → Placed ps (m ++ w)
later [] m w inner r = tt
later (p ∷ ps) m w inner r = (
  m ++ r.0,
  r.1,
  ap (λ (l : Bytes). m ++ l) r.2 ∙ sym (append_assoc m r.0 (p.bytes ++ r.1)),
  moved p.place inner.0 r.3,
  r.4,
)
  where
    moved : (place : ℕ) → (place ≡ 0 → ⊥) → InPlace place r.0 r.1 → InPlace place (m ++ r.0) r.1
    moved zero inner h = absurd (inner refl)
    moved (suc zero) inner h = tt
    moved (suc (suc k)) inner h = h

no-initial-first : (ps : List Piece) → NoInitial ps → InitialFirst ps
no-initial-first [] inner = tt
no-initial-first (p ∷ ps) inner = inner.1

pub placed-matches : (ps : List Piece) (v : Bytes) → InitialFirst ps → Placed ps v → matches ps v ≡ true
unfolding matches
placed-matches [] v inner r = refl
placed-matches (p ∷ ps) v inner r =
    let before = r.0 in
    let after = r.1 in
    let u = used-first p.place p.bytes before after r.3 in
    let l = length-append before p.bytes in
    let left : drop u.0 (before ++ (p.bytes ++ after)) ≡ drop u.0 (before ++ p.bytes) ++ after =
    rw (← append_assoc) (drop-append-le u.0 (before ++ p.bytes) after (omega (arith, u.2))) in
    rw (r.2, u.1, left) (placed-matches ps (drop u.0 (before ++ p.bytes) ++ after) (no-initial-first ps inner) (later ps (drop u.0 (before ++ p.bytes)) after inner r.4))

-- The substrings test is what it should be. (A final piece that is not the last leaves nothing to the others, in both.)
pub matches-iff : (ps : List Piece) (v : Bytes) → InitialFirst ps → (matches ps v ≡ true) ↔ Placed ps v
matches-iff ps v inner = (matches-placed ps v, placed-matches ps v inner)

initial-compared : (s : ℕ) (ps : List Piece) → InitialFirst ps → InitialFirst (map (compared s) ps)
initial-compared s [] h = tt
initial-compared s (p ∷ ps) h = inner ps h
  where
    inner : (qs : List Piece) → NoInitial qs → NoInitial (map (compared s) qs)
    inner [] h = tt
    inner (q ∷ qs) h = (h.0, inner qs h.1)

-- What substrings mean, over the value and the pieces as they are compared.
pub contains-iff : (s : ℕ) (ps : List Piece) (v : Bytes) → InitialFirst ps → (contains s ps v ≡ true) ↔ Placed (map (compared s) ps) (normal s v)
unfolding contains
contains-iff s ps v inner = matches-iff (map (compared s) ps) (normal s v) (initial-compared s ps inner)

-- ---- the same test, a piece at a time, from a place in the value

pub folded-length : (s : ℕ) (v : Bytes) → length (folded s v) ≡ length v
unfolding folded
folded-length s v = go (eqb s text)
  where
    go : (t : Bool) → length (cond t (map small v) v) ≡ length v
    go true = length-map v small
    go false = refl

module _ (p : Piece) (ps : List Piece) (v : Bytes) (from : ℕ) where
  pub matches-on : (n : ℕ) → used p.place p.bytes (drop from v) ≡ Some n → matches (p ∷ ps) (drop from v) ≡ matches ps (drop (from + n) v)
  unfolding matches
  matches-on n e = rw (e, drop-drop n from v)

  pub matches-off : used p.place p.bytes (drop from v) ≡ None → matches (p ∷ ps) (drop from v) ≡ false
  unfolding matches
  matches-off e = rw e

-- what is used is there
pub used-fits : (place : ℕ) (p : Bytes) (s : ℕ) (v : Bytes) (from n : ℕ) → from ≤ length v → used place p (drop from (folded s v)) ≡ Some n → from + n ≤ length v
used-fits place p s v from n h e = omega (arith, used-within place p (drop from (folded s v)) n e, length-drop from (folded s v), folded-length s v)
