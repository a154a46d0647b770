-- Laws of the order of texts: one for each way through the walk, and what the beginning that two texts share tells.
use Rattle.std.specs.Prelude.{ℕ, zero, suc, ◌+◌, ◌≤◌, ◌<◌, ◌≡◌, refl, Bool, true, ◌&&◌, cond, [], ◌∷◌, ◌++◌, map, eqb, ltb, get_or, Some, None}
use Rattle.std.proofs.Math.Path.{sym, ap}
use Rattle.std.proofs.Common.{ap₂, ◌∙◌, arith}
use Rattle.std.proofs.Math.Bool.{false}
use borrow.Author.Tests.{eqb-true, eqb-false, eq-eqb, ne_eqb, lt-ltb, le-ltb, ltb-false}
use Rattle.std.proofs.Math.ListN.{length, drop}
use Rattle.rules.specs.Lists.{given}
use Rattle.rules.specs.Sheet.{Bytes}
use Rattle.rules.specs.Value.{text, small, or_blank, folded, normal, identical, same, orderℕ, order_bytes}
use Rattle.rules.proofs.Laws.Value.{identical-eq, order_bytes-refl}
use Rattle.rules.proofs.Laws.Substrings.{folded-length}
use Rattle.rules.specs.Derived.{words}
use Rattle.rules.proofs.Laws.Blanks.{words-blank, words-byte, small-blank, normal-text}
use Rattle.std.specs.declared.cmp.Ordering.{Ordering}
use Rattle.std.specs.declared.cmp.Ordering.TheVariants.{Less, Equal, Greater}
use Rattle.value_collation.specs.Fold.{fold}
use Rattle.value_collation.specs.Laws.Fold.{folded-cons}
use Rattle.value_collation.specs.Compare.{common}
use Rattle.value_collation.specs.Laws.Compare.{common-bound, identical-common}
use Rattle.value_blank.specs.Blank.{Next}
use Rattle.value_blank.specs.Blank.{skipped, next_at}
use Rattle.value_blank.specs.Laws.Blank.{next-byte, next-end, tidied-none, first_some, tidied-some}
use Rattle.value_text.specs.Walk.{apart, ended, left, is_equal}

-- ---- two bytes

orderℕ-apart : (a b : ℕ) (next : Ordering) → (a ≡ b → ⊥) → orderℕ a b next ≡ apart a b
orderℕ-apart a b next h = go (ltb a b) refl
  where
    go : (t : Bool) → ltb a b ≡ t → cond t Less (cond (ltb b a) Greater next) ≡ cond t Less Greater
    go true p = refl
    go false p = rw (lt-ltb b a (omega (arith, ltb-false a b p)))

heads-apart : (a b : ℕ) (l m : Bytes) → (a ≡ b → ⊥) → order_bytes (a ∷ l) (b ∷ m) ≡ apart a b
unfolding order_bytes
heads-apart a b l m h = orderℕ-apart a b (order_bytes l m) h

heads-alike : (a : ℕ) (l m : Bytes) → order_bytes (a ∷ l) (a ∷ m) ≡ order_bytes l m
unfolding order_bytes
heads-alike a l m = rw (le-ltb a a (omega arith))

-- a small letter is a blank where the byte is
small-not : (b : ℕ) → (b ≡ 32 → ⊥) → small b ≡ 32 → ⊥
small-not b h e = h (eqb-true b 32 (sym (small-blank b) ∙ eq-eqb (small b) 32 e))

-- ---- the walk

module _ (v w : Bytes) (i j : ℕ) (hi : i ≤ length v) (hj : j ≤ length w) where
  pub walk-ended : next_at v i ≡ None → (x : Next) → x ≡ next_at w j → order_bytes (left v i) (left w j) ≡ ended x
  unfolding order_bytes
  walk-ended e (Some (b, l)) f = rw (next-end v i hi e, (next-byte w j hj b l (sym f)).0)
  walk-ended e None f = rw (next-end v i hi e, next-end w j hj (sym f))

  module _ (a k : ℕ) (e : next_at v i ≡ Some (a, k)) where
    pub walk-longer : next_at w j ≡ None → order_bytes (left v i) (left w j) ≡ Greater
    unfolding order_bytes
    walk-longer f = rw ((next-byte v i hi a k e).0, next-end w j hj f)

    module _ (b l : ℕ) (f : next_at w j ≡ Some (b, l)) (x y : ℕ) (p : x ≡ small a) (q : y ≡ small b) where
      both : (left v i ≡ x ∷ left v k) × (left w j ≡ y ∷ left w l)
      both = rw (p, q) (ap (map small) (next-byte v i hi a k e).0, ap (map small) (next-byte w j hj b l f).0)

      pub walk-apart : (x ≡ y → ⊥) → order_bytes (left v i) (left w j) ≡ apart x y
      walk-apart h = ap₂ order_bytes both.0 both.1 ∙ heads-apart x y (left v k) (left w l) h

      pub walk-on : x ≡ y → order_bytes (left v i) (left w j) ≡ order_bytes (left v k) (left w l)
      walk-on h = ap₂ order_bytes both.0 both.1 ∙ rw h (heads-alike y (left v k) (left w l))

-- ---- from the beginning

module _ (v : Bytes) (i : ℕ) (e : i ≡ skipped v 0) where
  normal-none : i ≡ length v → normal text v ≡ 32 ∷ []
  unfolding normal folded small
  normal-none h = ap (map small) (tidied-none v i e h)

  normal-some : (i ≡ length v → ⊥) → normal text v ≡ left v i
  unfolding normal folded
  normal-some h = ap (map small) (tidied-some v i e h)

module _ (v w : Bytes) (i j : ℕ) (e : i ≡ skipped v 0) (f : j ≡ skipped w 0) where
  pub blanks-both : i ≡ length v → j ≡ length w → order_bytes (normal text v) (normal text w) ≡ Equal
  blanks-both p q = rw (normal-none v i e p, normal-none w j f q) (order_bytes-refl (32 ∷ []))

  -- the other begins with a byte that is no blank
  pub blanks-first : i ≡ length v → (j ≡ length w → ⊥) → (y : ℕ) → y ≡ small (get_or w j 0) → order_bytes (normal text v) (normal text w) ≡ apart 32 y
  blanks-first p q y is =
      rw (is, normal-none v i e p, normal-some w j f q, (first_some w j f q).0)
      (heads-apart 32 (small (get_or w j 0)) [] (left w (j + 1)) (λ z. small-not (get_or w j 0) (first_some w j f q).1 (sym z)))

  pub blanks-second : (i ≡ length v → ⊥) → j ≡ length w → (x : ℕ) → x ≡ small (get_or v i 0) → order_bytes (normal text v) (normal text w) ≡ apart x 32
  blanks-second p q x is =
      rw (is, normal-some v i e p, normal-none w j f q, (first_some v i e p).0)
      (heads-apart (small (get_or v i 0)) 32 (left v (i + 1)) [] (small-not (get_or v i 0) (first_some v i e p).1))

  pub blanks-none : (i ≡ length v → ⊥) → (j ≡ length w → ⊥) → order_bytes (normal text v) (normal text w) ≡ order_bytes (left v i) (left w j)
  blanks-none p q = ap₂ order_bytes (normal-some v i e p) (normal-some w j f q)

-- ---- what the beginning that two texts share tells

order-prefix : (p l m : Bytes) → order_bytes (p ++ l) (p ++ m) ≡ order_bytes l m
order-prefix [] l m = refl
order-prefix (a ∷ as') l m = heads-alike a (as' ++ l) (as' ++ m) ∙ order-prefix as' l m

-- both are in one state there, so bytes that are no blanks tell the order
words-apart : (s g : Bool) (a b as' bs : Bytes) (x y : ℕ) → drop (common a b) a ≡ x ∷ as' → drop (common a b) b ≡ y ∷ bs
    → (x ≡ 32 → ⊥) → (y ≡ 32 → ⊥) → order_bytes (words s g a) (words s g b) ≡ apart x y
unfolding common
words-apart s g [] b as' bs x y p q hx hy = let z : ◌≡◌ {A = ℕ} 0 1 = cc in absurd (omega arith)
words-apart s g (c ∷ cs) [] as' bs x y p q hx hy = let z : ◌≡◌ {A = ℕ} 0 1 = cc in absurd (omega arith)
words-apart s g (c ∷ cs) (d ∷ ds) as' bs x y p q hx hy =
    go (eqb c d) refl p q (λ p q. words-apart s s cs ds as' bs x y p q hx hy) (λ p q. words-apart true false cs ds as' bs x y p q hx hy)
  where
    go : (t : Bool) → eqb c d ≡ t → drop (cond t (suc (common cs ds)) 0) (c ∷ cs) ≡ x ∷ as' → drop (cond t (suc (common cs ds)) 0) (d ∷ ds) ≡ y ∷ bs
        → (drop (common cs ds) cs ≡ x ∷ as' → drop (common cs ds) ds ≡ y ∷ bs → order_bytes (words s s cs) (words s s ds) ≡ apart x y)
        → (drop (common cs ds) cs ≡ x ∷ as' → drop (common cs ds) ds ≡ y ∷ bs → order_bytes (words true false cs) (words true false ds) ≡ apart x y)
        → order_bytes (words s g (c ∷ cs)) (words s g (d ∷ ds)) ≡ apart x y
    go true t p q blank other = let same : c ≡ d = eqb-true c d t in rw (← same) (on (eqb c 32) refl)
      where
        on : (u : Bool) → eqb c 32 ≡ u → order_bytes (words s g (c ∷ cs)) (words s g (c ∷ ds)) ≡ apart x y
        on true u = rw (words-blank s g c cs (eqb-true c 32 u), words-blank s g c ds (eqb-true c 32 u)) (blank p q)
        on false u =
            rw (words-byte s g c cs (eqb-false c 32 u), words-byte s g c ds (eqb-false c 32 u))
            (order-prefix (given g (32 ∷ [])) (c ∷ words true false cs) (c ∷ words true false ds) ∙ heads-alike c (words true false cs) (words true false ds) ∙ other p q)
    go false t p q blank other =
        let c≡x : c ≡ x = cc in
        let d≡y : d ≡ y = cc in
        rw (words-byte s g c cs (λ z. hx (sym c≡x ∙ z)), words-byte s g d ds (λ z. hy (sym d≡y ∙ z)))
        (order-prefix (given g (32 ∷ [])) (c ∷ words true false cs) (d ∷ words true false ds) ∙ heads-apart c d (words true false cs) (words true false ds) (eqb-false c d t) ∙ ap₂ apart c≡x d≡y)

-- something is written
words-some : (s g : Bool) (a l : Bytes) (i x : ℕ) → drop i a ≡ x ∷ l → (x ≡ 32 → ⊥) → or_blank (words s g a) ≡ words s g a
words-some s g [] l zero x e h = let z : ◌≡◌ {A = ℕ} 0 1 = cc in absurd (omega arith)
words-some s g [] l (suc i) x e h = let z : ◌≡◌ {A = ℕ} 0 1 = cc in absurd (omega arith)
words-some s g (c ∷ cs) l zero x e h = let c≡x : c ≡ x = cc in rw (words-byte s g c cs (λ z. h (sym c≡x ∙ z))) (written g)
  where
    written : (g : Bool) → or_blank (given g (32 ∷ []) ++ (c ∷ words true false cs)) ≡ given g (32 ∷ []) ++ (c ∷ words true false cs)
    written true = refl
    written false = refl
words-some s g (c ∷ cs) l (suc i) x e h = go (eqb c 32) refl (words-some s s cs l i x e h)
  where
    written : (g : Bool) → or_blank (given g (32 ∷ []) ++ (c ∷ words true false cs)) ≡ given g (32 ∷ []) ++ (c ∷ words true false cs)
    written true = refl
    written false = refl

    go : (t : Bool) → eqb c 32 ≡ t → or_blank (words s s cs) ≡ words s s cs → or_blank (words s g (c ∷ cs)) ≡ words s g (c ∷ cs)
    go true t next = rw (words-blank s g c cs (eqb-true c 32 t)) next
    go false t next = rw (words-byte s g c cs (eqb-false c 32 t)) (written g)

module _ (v w : Bytes) (i : ℕ) (e : i ≡ common (folded text v) (folded text w)) where
  pub shared-within : (i ≤ length v) × (i ≤ length w)
  shared-within = let b = common-bound (folded text v) (folded text w) in omega (arith, b.0, b.1, folded-length text v, folded-length text w)

  pub shared-all : i ≡ length v → i ≡ length w → order_bytes (normal text v) (normal text w) ≡ Equal
  unfolding folded
  shared-all p q =
      let l : length (folded text v) ≡ length (folded text w) = omega (arith, folded-length text v, folded-length text w) in
      let all : common (folded text v) (folded text w) ≡ length (folded text v) = omega (arith, folded-length text v) in
      let one : folded text v ≡ folded text w = identical-eq (folded text v) (folded text w) (identical-common (folded text v) (folded text w) l ∙ eq-eqb _ _ all) in
      rw (normal-text v ∙ ap (λ (a : Bytes). or_blank (words false false a)) one ∙ sym (normal-text w)) (order_bytes-refl (normal text w))

  pub shared-apart : (i ≡ length v → ⊥) → (i ≡ length w → ⊥) → (get_or v i 0 ≡ 32 → ⊥) → (get_or w i 0 ≡ 32 → ⊥)
      → (x y : ℕ) → x ≡ small (get_or v i 0) → y ≡ small (get_or w i 0) → order_bytes (normal text v) (normal text w) ≡ apart x y
  unfolding fold folded
  shared-apart p q hv hw x y is js =
      let a : drop i (map small v) ≡ small (get_or v i 0) ∷ drop (i + 1) (map small v) = folded-cons text v i (omega (arith, shared-within)) in
      let b : drop i (map small w) ≡ small (get_or w i 0) ∷ drop (i + 1) (map small w) = folded-cons text w i (omega (arith, shared-within)) in
      rw (is, js) (ap₂ order_bytes
      (normal-text v ∙ words-some false false (map small v) _ i _ a (small-not (get_or v i 0) hv))
      (normal-text w ∙ words-some false false (map small w) _ i _ b (small-not (get_or w i 0) hw))
      ∙ words-apart false false (map small v) (map small w) (drop (i + 1) (map small v)) (drop (i + 1) (map small w)) (small (get_or v i 0)) (small (get_or w i 0)) (rw (← e) a) (rw (← e) b) (small-not (get_or v i 0) hv) (small-not (get_or w i 0) hw))

-- first bytes
module _ (v w : Bytes) (hv : 0 < length v) (hw : 0 < length w) (x y : ℕ) (is : x ≡ small (get_or v 0 0)) (js : y ≡ small (get_or w 0 0)) where
  pub first-apart : (x ≡ y → ⊥) → (x ≡ 32 → ⊥) → (y ≡ 32 → ⊥) → order_bytes (normal text v) (normal text w) ≡ apart x y
  unfolding common fold
  first-apart d hx hy =
      shared-apart v w 0 (sym (rw (folded-cons text v 0 hv, folded-cons text w 0 hw, ← is, ← js, ne_eqb x y d))) (λ z. omega arith) (λ z. omega arith)
      (blank (get_or v 0 0) x is hx) (blank (get_or w 0 0) y js hy) x y is js
    where
      blank : (b x : ℕ) → x ≡ small b → (x ≡ 32 → ⊥) → b ≡ 32 → ⊥
      blank b x is h e = h (is ∙ eqb-true (small b) 32 (small-blank b ∙ eq-eqb b 32 e))

-- ---- equality by order

-- bytes that differ tell that texts are not equal
pub apart-unequal : (x y : ℕ) → is_equal (apart x y) ≡ false
apart-unequal x y = go (ltb x y)
  where
    go : (t : Bool) → is_equal (cond t Less Greater) ≡ false
    go true = refl
    go false = refl

pub same-order : (v w : Bytes) → same text v w ≡ is_equal (order_bytes (normal text v) (normal text w))
unfolding same identical order_bytes
same-order v w = go (normal text v) (normal text w)
  where
    by : (x y : ℕ) (next : Ordering) → (eqb x y && is_equal next) ≡ is_equal (orderℕ x y next)
    by x y next = at (eqb x y) refl
      where
        at : (t : Bool) → eqb x y ≡ t → (t && is_equal next) ≡ is_equal (orderℕ x y next)
        at true p = rw (eqb-true x y p, le-ltb y y (omega arith))
        at false p = rw (orderℕ-apart x y next (eqb-false x y p)) (not_equal (ltb x y))
          where
            not_equal : (t : Bool) → false ≡ is_equal (cond t Less Greater)
            not_equal true = refl
            not_equal false = refl

    go : (a b : Bytes) → identical a b ≡ is_equal (order_bytes a b)
    go [] [] = refl
    go [] (y ∷ ys) = refl
    go (x ∷ xs) [] = refl
    go (x ∷ xs) (y ∷ ys) = rw (go xs ys) (by x y (order_bytes xs ys))
