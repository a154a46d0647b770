-- Laws of sets: of each operation on the four words.
use Prim.Native.Nat.{ℕ, zero, suc, ◌+◌, ◌*◌, ◌/◌, ◌%◌, ◌^◌, ◌≤◌, ◌<◌}
use Rattle.std.specs.Prelude.{◌≡◌, Bool, ◌&&◌, ◌||◌, not, eqb, Some, None}
use Rattle.std.proofs.Math.Path.{refl, sym, ap, subst}
use Rattle.std.proofs.Common.{ap₂, ◌∙◌, true≢false, eq-eqb, ne_eqb, eqb-true}
use Rattle.std.proofs.Math.Bool.{true, false, cond}
use native.Mathlib.Omega.{arith}
use Rattle.std.specs.Int.Bits.{bit_and, bit_or, bit_xor}
use Rattle.std.proofs.lemmas.Bool.{eqb-false}
use Rattle.access_set.specs.declared.Bits.{Bits}
use Rattle.access_set.specs.Member.{bit_of, Lowest, word_of, member, each, meet, join, Least}
use Rattle.access_set.specs.Laws.Bit.{bit-and, bit-or, bit-xor, bit-none, bit-pow}

pub member-empty : (j : ℕ) → member (record { a = 0; b = 0; c = 0; d = 0 }) j ≡ false
unfolding member word_of
member-empty j = ap (λ (x : ℕ). bit_of x (j % 64)) (go (eqb (j / 64) 0) (eqb (j / 64) 1) (eqb (j / 64) 2) (eqb (j / 64) 3)) ∙ bit-none (j % 64)
  where
    go : (s t u v : Bool) → ◌≡◌ {A = ℕ} (cond s 0 (cond t 0 (cond u 0 (cond v 0 0)))) 0
    go true t u v = refl
    go false true u v = refl
    go false false true v = refl
    go false false false true = refl
    go false false false false = refl

-- an operation on each word
module _ (f : ℕ → ℕ → ℕ) (z : f 0 0 ≡ 0) (s o : Bits) where
  word_each : (k : ℕ) → word_of (each f s o) k ≡ f (word_of s k) (word_of o k)
  unfolding word_of
  word_each k = go (eqb k 0) (eqb k 1) (eqb k 2) (eqb k 3)
    where
      go : (p q r t : Bool) → cond p (f s.a o.a) (cond q (f s.b o.b) (cond r (f s.c o.c) (cond t (f s.d o.d) 0)))
          ≡ f (cond p s.a (cond q s.b (cond r s.c (cond t s.d 0)))) (cond p o.a (cond q o.b (cond r o.c (cond t o.d 0))))
      go true q r t = refl
      go false true r t = refl
      go false false true t = refl
      go false false false true = refl
      go false false false false = sym z

pub member-meet : (s o r : Bits) → r ≡ meet s o → (j : ℕ) → member r j ≡ (member s j && member o j)
unfolding member
member-meet s o r e j = ap (λ (x : Bits). bit_of (word_of x (j / 64)) (j % 64)) e ∙ ap (λ (x : ℕ). bit_of x (j % 64)) (word_each bit_and refl s o (j / 64)) ∙ bit-and (word_of s (j / 64)) (word_of o (j / 64)) (j % 64)

pub member-join : (s o r : Bits) → r ≡ join s o → (j : ℕ) → member r j ≡ (member s j || member o j)
unfolding member
member-join s o r e j = ap (λ (x : Bits). bit_of (word_of x (j / 64)) (j % 64)) e ∙ ap (λ (x : ℕ). bit_of x (j % 64)) (word_each bit_or refl s o (j / 64)) ∙ bit-or (word_of s (j / 64)) (word_of o (j / 64)) (j % 64)

-- one bit of one word is set
pub member-with : (s r : Bits) (i : ℕ) → ((k : ℕ) → word_of r k ≡ cond (eqb k (i / 64)) (bit_or (word_of s k) (2 ^ (i % 64))) (word_of s k))
    → (j : ℕ) → member r j ≡ (eqb j i || member s j)
unfolding member
member-with s r i h j = ap (λ (x : ℕ). bit_of x (j % 64)) (h (j / 64)) ∙ go (eqb (j / 64) (i / 64)) refl
  where
    W : ℕ
    W = word_of s (j / 64)

    flip : (a b : Bool) → (a || b) ≡ (b || a)
    flip true true = refl
    flip true false = refl
    flip false true = refl
    flip false false = refl

    same : j / 64 ≡ i / 64 → eqb (j % 64) (i % 64) ≡ eqb j i
    same e = by (eqb (j % 64) (i % 64)) refl
      where
        by : (t : Bool) → eqb (j % 64) (i % 64) ≡ t → t ≡ eqb j i
        by true f = let g : j % 64 ≡ i % 64 = eqb-true (j % 64) (i % 64) f in sym (eq-eqb j i (omega arith))
        by false f = let g : j % 64 ≡ i % 64 → ⊥ = eqb-false (j % 64) (i % 64) f in sym (ne_eqb j i (λ q. g (ap (λ (x : ℕ). x % 64) q)))

    go : (t : Bool) → eqb (j / 64) (i / 64) ≡ t → bit_of (cond t (bit_or W (2 ^ (i % 64))) W) (j % 64) ≡ (eqb j i || bit_of W (j % 64))
    go true e =
        bit-or W (2 ^ (i % 64)) (j % 64)
        ∙ flip (bit_of W (j % 64)) (bit_of (2 ^ (i % 64)) (j % 64))
        ∙ ap (λ (b : Bool). b || bit_of W (j % 64)) (bit-pow (i % 64) (j % 64) ∙ same (eqb-true (j / 64) (i / 64) e))
    go false e =
        let d : j / 64 ≡ i / 64 → ⊥ = eqb-false (j / 64) (i / 64) e in
        ap (λ (b : Bool). b || bit_of W (j % 64)) (sym (ne_eqb j i (λ q. d (ap (λ (x : ℕ). x / 64) q))))

-- one bit of one word is cleared
pub member-without : (s r : Bits) (i : ℕ) → member s i ≡ true → ((k : ℕ) → word_of r k ≡ cond (eqb k (i / 64)) (bit_xor (word_of s k) (2 ^ (i % 64))) (word_of s k))
    → (j : ℕ) → member r j ≡ (member s j && not (eqb j i))
unfolding member
member-without s r i m h j = ap (λ (x : ℕ). bit_of x (j % 64)) (h (j / 64)) ∙ go (eqb (j / 64) (i / 64)) refl (eqb j i) refl
  where
    W : ℕ
    W = word_of s (j / 64)

    all : (b : Bool) → b ≡ (b && true)
    all true = refl
    all false = refl

    plain : (b : Bool) → cond b true false ≡ (b && true)
    plain true = refl
    plain false = refl

    go : (t : Bool) → eqb (j / 64) (i / 64) ≡ t → (u : Bool) → eqb j i ≡ u → bit_of (cond t (bit_xor W (2 ^ (i % 64))) W) (j % 64) ≡ (bit_of W (j % 64) && not u)
    go true e true f =
        let q : j ≡ i = eqb-true j i f in
        let g : bit_of W (j % 64) ≡ true = ap (λ (n : ℕ). bit_of (word_of s (n / 64)) (n % 64)) q ∙ m in
        bit-xor W (2 ^ (i % 64)) (j % 64)
        ∙ ap₂ (λ (a b : Bool). cond a (not b) b) g (bit-pow (i % 64) (j % 64) ∙ eq-eqb (j % 64) (i % 64) (ap (λ (n : ℕ). n % 64) q))
        ∙ ap (λ (a : Bool). a && false) (sym g)
    go true e false f =
        let q : j ≡ i → ⊥ = eqb-false j i f in
        let p : j / 64 ≡ i / 64 = eqb-true (j / 64) (i / 64) e in
        bit-xor W (2 ^ (i % 64)) (j % 64)
        ∙ ap (λ (b : Bool). cond (bit_of W (j % 64)) (not b) b) (bit-pow (i % 64) (j % 64) ∙ ne_eqb (j % 64) (i % 64) (λ z. q (omega arith)))
        ∙ plain (bit_of W (j % 64))
    go false e true f = absurd (eqb-false (j / 64) (i / 64) e (ap (λ (n : ℕ). n / 64) (eqb-true j i f)))
    go false e false f = all (bit_of W (j % 64))

-- ---- one word changes

module _ (a b c d : ℕ) (g : ℕ → ℕ) where
  abbrev at-word : ℕ → ℕ → ℕ
  at-word n k = cond (eqb k n) (g (word_of (record { a = a; b = b; c = c; d = d }) k)) (word_of (record { a = a; b = b; c = c; d = d }) k)

  in-a : (k : ℕ) → word_of (record { a = g a; b = b; c = c; d = d }) k ≡ at-word 0 k
  unfolding word_of
  in-a k = go (eqb k 0)
    where
      go : (p : Bool) → cond p (g a) (cond (eqb k 1) b (cond (eqb k 2) c (cond (eqb k 3) d 0)))
          ≡ cond p (g (cond p a (cond (eqb k 1) b (cond (eqb k 2) c (cond (eqb k 3) d 0))))) (cond p a (cond (eqb k 1) b (cond (eqb k 2) c (cond (eqb k 3) d 0))))
      go true = refl
      go false = refl

  -- of two numerals, `k` is one at most
  apart : (m n k : ℕ) → (m ≡ n → ⊥) → eqb k m ≡ true → eqb k n ≡ false
  apart m n k d e = ne_eqb k n (λ f. d (sym (eqb-true k m e) ∙ f))

  in_b : (k : ℕ) → word_of (record { a = a; b = g b; c = c; d = d }) k ≡ at-word 1 k
  unfolding word_of
  in_b k = go (eqb k 0) (eqb k 1) (apart 0 1 k (λ e. omega arith))
    where
      go : (p q : Bool) → (p ≡ true → q ≡ false) → cond p a (cond q (g b) (cond (eqb k 2) c (cond (eqb k 3) d 0)))
          ≡ cond q (g (cond p a (cond q b (cond (eqb k 2) c (cond (eqb k 3) d 0))))) (cond p a (cond q b (cond (eqb k 2) c (cond (eqb k 3) d 0))))
      go true true h = absurd (true≢false (h refl))
      go true false h = refl
      go false true h = refl
      go false false h = refl

  in_c : (k : ℕ) → word_of (record { a = a; b = b; c = g c; d = d }) k ≡ at-word 2 k
  unfolding word_of
  in_c k = go (eqb k 0) (eqb k 1) (eqb k 2) (apart 0 2 k (λ e. omega arith)) (apart 1 2 k (λ e. omega arith))
    where
      go : (p q r : Bool) → (p ≡ true → r ≡ false) → (q ≡ true → r ≡ false) → cond p a (cond q b (cond r (g c) (cond (eqb k 3) d 0)))
          ≡ cond r (g (cond p a (cond q b (cond r c (cond (eqb k 3) d 0))))) (cond p a (cond q b (cond r c (cond (eqb k 3) d 0))))
      go true q true h i = absurd (true≢false (h refl))
      go false true true h i = absurd (true≢false (i refl))
      go false false true h i = refl
      go true q false h i = refl
      go false true false h i = refl
      go false false false h i = refl

  in-d : (k : ℕ) → word_of (record { a = a; b = b; c = c; d = g d }) k ≡ at-word 3 k
  unfolding word_of
  in-d k = go (eqb k 0) (eqb k 1) (eqb k 2) (eqb k 3) (apart 0 3 k (λ e. omega arith)) (apart 1 3 k (λ e. omega arith)) (apart 2 3 k (λ e. omega arith))
    where
      go : (p q r t : Bool) → (p ≡ true → t ≡ false) → (q ≡ true → t ≡ false) → (r ≡ true → t ≡ false) → cond p a (cond q b (cond r c (cond t (g d) 0)))
          ≡ cond t (g (cond p a (cond q b (cond r c (cond t d 0))))) (cond p a (cond q b (cond r c (cond t d 0))))
      go true q r true h i j = absurd (true≢false (h refl))
      go false true r true h i j = absurd (true≢false (i refl))
      go false false true true h i j = absurd (true≢false (j refl))
      go false false false true h i j = refl
      go true q r false h i j = refl
      go false true r false h i j = refl
      go false false true false h i j = refl
      go false false false false h i j = refl

-- the shift that the code makes
module _ (s : Bits) (i x : ℕ) (e : x ≡ 2 ^ (i % 64)) where
  module _ (f : ℕ → ℕ → ℕ) (P : ℕ → Bool → Bool) (law : (r : Bits) → ((k : ℕ) → word_of r k ≡ cond (eqb k (i / 64)) (f (word_of s k) (2 ^ (i % 64))) (word_of s k)) → (j : ℕ) → member r j ≡ P j (member s j)) where
    at : (r : Bits) (n : ℕ) → i / 64 ≡ n → ((k : ℕ) → word_of r k ≡ at-word s.a s.b s.c s.d (λ w. f w x) n k) → (j : ℕ) → member r j ≡ P j (member s j)
    at r n q h = law r (λ k. h k ∙ ap₂ (λ (y m : ℕ). cond (eqb k m) (f (word_of s k) y) (word_of s k)) e (sym q))

    to-a : i / 64 ≡ 0 → (j : ℕ) → member (record { a = f s.a x; b = s.b; c = s.c; d = s.d }) j ≡ P j (member s j)
    to-a q = at (record { a = f s.a x; b = s.b; c = s.c; d = s.d }) 0 q (in-a s.a s.b s.c s.d (λ w. f w x))

    to-b : i / 64 ≡ 1 → (j : ℕ) → member (record { a = s.a; b = f s.b x; c = s.c; d = s.d }) j ≡ P j (member s j)
    to-b q = at (record { a = s.a; b = f s.b x; c = s.c; d = s.d }) 1 q (in_b s.a s.b s.c s.d (λ w. f w x))

    to-c : i / 64 ≡ 2 → (j : ℕ) → member (record { a = s.a; b = s.b; c = f s.c x; d = s.d }) j ≡ P j (member s j)
    to-c q = at (record { a = s.a; b = s.b; c = f s.c x; d = s.d }) 2 q (in_c s.a s.b s.c s.d (λ w. f w x))

    to-d : i / 64 ≡ 3 → (j : ℕ) → member (record { a = s.a; b = s.b; c = s.c; d = f s.d x }) j ≡ P j (member s j)
    to-d q = at (record { a = s.a; b = s.b; c = s.c; d = f s.d x }) 3 q (in-d s.a s.b s.c s.d (λ w. f w x))

  abbrev P-with : ℕ → Bool → Bool
  P-with j m = eqb j i || m

  pub with-a : i / 64 ≡ 0 → (j : ℕ) → member (record { a = bit_or s.a x; b = s.b; c = s.c; d = s.d }) j ≡ (eqb j i || member s j)
  with-a = to-a bit_or P-with (λ r. member-with s r i)

  pub with-b : i / 64 ≡ 1 → (j : ℕ) → member (record { a = s.a; b = bit_or s.b x; c = s.c; d = s.d }) j ≡ (eqb j i || member s j)
  with-b = to-b bit_or P-with (λ r. member-with s r i)

  pub with-c : i / 64 ≡ 2 → (j : ℕ) → member (record { a = s.a; b = s.b; c = bit_or s.c x; d = s.d }) j ≡ (eqb j i || member s j)
  with-c = to-c bit_or P-with (λ r. member-with s r i)

  pub with-d : i / 64 ≡ 3 → (j : ℕ) → member (record { a = s.a; b = s.b; c = s.c; d = bit_or s.d x }) j ≡ (eqb j i || member s j)
  with-d = to-d bit_or P-with (λ r. member-with s r i)

  abbrev P-without : ℕ → Bool → Bool
  P-without j m = m && not (eqb j i)

  module _ (h : member s i ≡ true) where
    pub without-a : i / 64 ≡ 0 → (j : ℕ) → member (record { a = bit_xor s.a x; b = s.b; c = s.c; d = s.d }) j ≡ (member s j && not (eqb j i))
    without-a = to-a bit_xor P-without (λ r. member-without s r i h)

    pub without-b : i / 64 ≡ 1 → (j : ℕ) → member (record { a = s.a; b = bit_xor s.b x; c = s.c; d = s.d }) j ≡ (member s j && not (eqb j i))
    without-b = to-b bit_xor P-without (λ r. member-without s r i h)

    pub without-c : i / 64 ≡ 2 → (j : ℕ) → member (record { a = s.a; b = s.b; c = bit_xor s.c x; d = s.d }) j ≡ (member s j && not (eqb j i))
    without-c = to-c bit_xor P-without (λ r. member-without s r i h)

    pub without-d : i / 64 ≡ 3 → (j : ℕ) → member (record { a = s.a; b = s.b; c = s.c; d = bit_xor s.d x }) j ≡ (member s j && not (eqb j i))
    without-d = to-d bit_xor P-without (λ r. member-without s r i h)

-- ---- the least member

-- the words before word `k` are 0, and `i` is the place of the lowest bit of word `k`
pub least_at : (s : Bits) (k i : ℕ) → k < 4 → ((m : ℕ) → m < k → word_of s m ≡ 0) → Lowest (word_of s k) i → Least (member s) (Some (k * 64 + i))
unfolding member
least_at s k i h before low = (
  omega (arith, low.within),
  ap₂ (λ (m j : ℕ). bit_of (word_of s m) j) quotient remainder ∙ low.set,
  λ j l. go j l,
)
  where
    w : i < 64
    w = low.within

    quotient : (k * 64 + i) / 64 ≡ k
    quotient = omega (arith, w)

    remainder : (k * 64 + i) % 64 ≡ i
    remainder = omega (arith, w)

    go : (j : ℕ) → j < k * 64 + i → bit_of (word_of s (j / 64)) (j % 64) ≡ false
    go j l = by (eqb (j / 64) k) refl
      where
        by : (t : Bool) → eqb (j / 64) k ≡ t → bit_of (word_of s (j / 64)) (j % 64) ≡ false
        by true e = let f : j / 64 ≡ k = eqb-true (j / 64) k e in ap (λ (m : ℕ). bit_of (word_of s m) (j % 64)) f ∙ low.below (j % 64) (omega (arith, w))
        by false e =
            let f : j / 64 ≡ k → ⊥ = eqb-false (j / 64) k e in
            ap (λ (m : ℕ). bit_of m (j % 64)) (before (j / 64) (omega (arith, w))) ∙ bit-none (j % 64)

pub least-none : (s : Bits) → s.a ≡ 0 → s.b ≡ 0 → s.c ≡ 0 → s.d ≡ 0 → Least (member s) None
unfolding member word_of
least-none s p q r t j = ap (λ (x : ℕ). bit_of x (j % 64)) (go (eqb (j / 64) 0) (eqb (j / 64) 1) (eqb (j / 64) 2) (eqb (j / 64) 3)) ∙ bit-none (j % 64)
  where
    go : (e f g h : Bool) → cond e s.a (cond f s.b (cond g s.c (cond h s.d 0))) ≡ 0
    go true f g h = p
    go false true g h = q
    go false false true h = r
    go false false false true = t
    go false false false false = refl

module _ (s : Bits) (i : ℕ) where
  pub least-a : Lowest s.a i → Least (member s) (Some i)
  unfolding word_of
  least-a l = let e : 0 * 64 + i ≡ i = omega arith in subst (λ (m : ℕ). Least (member s) (Some m)) e (least_at s 0 i (omega arith) (λ m h. absurd (omega arith)) l)

  pub least-b : s.a ≡ 0 → Lowest s.b i → Least (member s) (Some (64 + i))
  unfolding word_of
  least-b p l = least_at s 1 i (omega arith) (λ m h. let e : m ≡ 0 = omega arith in ap (word_of s) e ∙ p) l

  pub least-c : s.a ≡ 0 → s.b ≡ 0 → Lowest s.c i → Least (member s) (Some (128 + i))
  unfolding word_of
  least-c p q l = least_at s 2 i (omega arith) (λ m h. two m h) l
    where
      two : (m : ℕ) → m < 2 → word_of s m ≡ 0
      two zero h = p
      two (suc zero) h = q
      two (suc (suc m)) h = absurd (omega arith)

  pub least-d : s.a ≡ 0 → s.b ≡ 0 → s.c ≡ 0 → Lowest s.d i → Least (member s) (Some (192 + i))
  unfolding word_of
  least-d p q r l = least_at s 3 i (omega arith) (λ m h. three m h) l
    where
      three : (m : ℕ) → m < 3 → word_of s m ≡ 0
      three zero h = p
      three (suc zero) h = q
      three (suc (suc zero)) h = r
      three (suc (suc (suc m))) h = absurd (omega arith)

-- no number from 256 on is a member
pub member-beyond : (s : Bits) (j : ℕ) → 256 ≤ j → member s j ≡ false
unfolding member word_of
member-beyond s j h =
    let k = j / 64 in
    ap (λ (x : ℕ). bit_of x (j % 64))
    (rw (ne_eqb k 0 (λ e. omega arith), ne_eqb k 1 (λ e. omega arith), ne_eqb k 2 (λ e. omega arith), ne_eqb k 3 (λ e. omega arith)))
    ∙ bit-none (j % 64)
