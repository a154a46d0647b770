-- Laws of `Value`: equality, and that order and equality agree.
use Rattle.std.specs.Prelude.{ℕ, zero, suc, ◌+◌, ◌-◌, ◌*◌, ◌≤◌, ◌<◌, ◌≡◌, refl, ◌↔◌, Bool, true, false, cond, [], ◌∷◌, leb, ltb, eqb, ℤ, pos, negsuc, length, Some, None}
use Rattle.std.proofs.Common.{sym, ap, ◌∙◌, arith, ltb-true, ltb-false, leb-true, leb-false, eqb-true, eq-eqb, ne_eqb, le-ltb}
use Rattle.std.proofs.Math.Bool.{and-eq-true_iff}
use Rattle.std.proofs.lemmas.Bool.{false≢true, eqb-false}
use Rattle.std.proofs.Math.Dec.{eqb-suc-zero}
use Rattle.rules.specs.Sheet.{Bytes, digits, numeral}
use Rattle.rules.specs.Value.{text, integer, negative, positive, integer_of, is_integer, fits, folded, normal, identical, same, orderℕ, orderℤ, order_bytes, order_integers, order}
use Rattle.rules.specs.Sheet.{Column}
use Rattle.rules.specs.Value.{Integer}
use Rattle.std.specs.declared.cmp.Ordering.{Ordering}
use Rattle.std.specs.declared.cmp.Ordering.TheVariants.{Less, Equal, Greater}
use Rattle.rules.specs.Derived.{reversed}

-- what follows where two answers that differ are said to be equal
pub unlike : {A : Type 0} → ◌≡◌ {A = ℕ} 0 1 → A
unlike e = absurd (omega arith)

-- ---- identical bytes

pub identical-refl : (a : Bytes) → identical a a ≡ true
unfolding identical
identical-refl [] = refl
identical-refl (x ∷ xs) = rw (eq-eqb x x refl) (identical-refl xs)

pub identical-eq : (a b : Bytes) → identical a b ≡ true → a ≡ b
unfolding identical
identical-eq [] [] e = refl
identical-eq [] (y ∷ ys) e = absurd (false≢true e)
identical-eq (x ∷ xs) [] e = absurd (false≢true e)
identical-eq (x ∷ xs) (y ∷ ys) e =
    let h = (and-eq-true_iff (eqb x y) (identical xs ys)).0 e in
    let p = eqb-true x y h.0 in
    let q = identical-eq xs ys h.1 in
    cc

pub identical-iff : (a b : Bytes) → (identical a b ≡ true) ↔ (a ≡ b)
identical-iff a b = (identical-eq a b, λ e. rw (← e) (identical-refl a))

-- blanks count where the syntax is not text
pub normal-other : (s : ℕ) (v : Bytes) → (s ≡ text → ⊥) → normal s v ≡ folded s v
unfolding normal
normal-other s v h = rw (ne_eqb s text h)

-- ---- equal values: those with one normal form, so that equality is an equivalence

pub same-iff : (s : ℕ) (v w : Bytes) → (same s v w ≡ true) ↔ (normal s v ≡ normal s w)
unfolding same
same-iff s v w = identical-iff (normal s v) (normal s w)

pub same_self : (s : ℕ) (v : Bytes) → same s v v ≡ true
same_self s v = (same-iff s v v).1 refl

pub same-sym : (s : ℕ) (v w : Bytes) → same s v w ≡ true → same s w v ≡ true
same-sym s v w e = (same-iff s w v).1 (sym ((same-iff s v w).0 e))

pub same-trans : (s : ℕ) (u v w : Bytes) → same s u v ≡ true → same s v w ≡ true → same s u w ≡ true
same-trans s u v w e h = (same-iff s u w).1 ((same-iff s u v).0 e ∙ (same-iff s v w).0 h)

-- ---- order and equality agree

orderℕ-equal : (a b : ℕ) (next : Ordering) → orderℕ a b next ≡ Equal → (a ≡ b) × (next ≡ Equal)
orderℕ-equal a b next e = go (ltb a b) (ltb b a) refl refl e
  where
    go : (s t : Bool) → ltb a b ≡ s → ltb b a ≡ t → cond s Less (cond t Greater next) ≡ Equal → (a ≡ b) × (next ≡ Equal)
    go true t p q e = unlike (cc)
    go false true p q e = unlike (cc)
    go false false p q e = (omega (arith, ltb-false a b p, ltb-false b a q), e)

pub orderℕ-same : (a : ℕ) (next : Ordering) → orderℕ a a next ≡ next
orderℕ-same a next = rw (le-ltb a a (omega arith))

pub order_bytes-equal : (a b : Bytes) → order_bytes a b ≡ Equal → a ≡ b
unfolding order_bytes
order_bytes-equal [] [] e = refl
order_bytes-equal [] (y ∷ ys) e = unlike (cc)
order_bytes-equal (x ∷ xs) [] e = unlike (cc)
order_bytes-equal (x ∷ xs) (y ∷ ys) e =
    let h = orderℕ-equal x y (order_bytes xs ys) e in
    let p = order_bytes-equal xs ys h.1 in
    cc

pub order_bytes-refl : (a : Bytes) → order_bytes a a ≡ Equal
unfolding order_bytes
order_bytes-refl [] = refl
order_bytes-refl (x ∷ xs) = orderℕ-same x (order_bytes xs xs) ∙ order_bytes-refl xs

pub orderℤ-equal : (a b : ℤ) → orderℤ a b ≡ Equal → a ≡ b
orderℤ-equal (pos a) (pos b) e = ap pos (orderℕ-equal a b Equal e).0
orderℤ-equal (pos a) (negsuc b) e = unlike (cc)
orderℤ-equal (negsuc a) (pos b) e = unlike (cc)
orderℤ-equal (negsuc a) (negsuc b) e = ap negsuc (sym (orderℕ-equal b a Equal e).0)

pub orderℤ-refl : (a : ℤ) → orderℤ a a ≡ Equal
orderℤ-refl (pos a) = orderℕ-same a Equal
orderℤ-refl (negsuc a) = orderℕ-same a Equal

-- a numeral is determined by its number

number-cond : (t : Bool) (x : Column) (m : ℕ) → cond t x None ≡ Some m → (t ≡ true) × (x ≡ Some m)
number-cond true x m e = (refl, e)
number-cond false x m e = unlike (cc)

pub digits-cons : (v b : ℕ) (bs : Bytes) (m : ℕ) → digits v (b ∷ bs) ≡ Some m
    → (48 ≤ b) × (b ≤ 57) × (digits (v * 10 + (b - 48)) bs ≡ Some m)
unfolding digits
digits-cons v b bs m e =
    let low = number-cond (leb 48 b) (cond (leb b 57) (digits (v * 10 + (b - 48)) bs) None) m e in
    let high = number-cond (leb b 57) (digits (v * 10 + (b - 48)) bs) m low.1 in
    (leb-true 48 b low.0, leb-true b 57 high.0, high.1)

-- as many digits after two numbers give one number only where all agrees
digits_same : (a b : Bytes) (v w m : ℕ) → length a ≡ length b → digits v a ≡ Some m → digits w b ≡ Some m → (v ≡ w) × (a ≡ b)
unfolding digits
digits_same [] [] v w m l p q = (cc, refl)
digits_same [] (y ∷ ys) v w m l p q = absurd (omega arith)
digits_same (x ∷ xs) [] v w m l p q = absurd (omega arith)
digits_same (x ∷ xs) (y ∷ ys) v w m l p q =
    let c = digits-cons v x xs m p in
    let d = digits-cons w y ys m q in
    let r = digits_same xs ys (v * 10 + (x - 48)) (w * 10 + (y - 48)) m (omega arith) c.2 d.2 in
    let x≡y : x ≡ y = omega (arith, r.0, c.0, c.1, d.0, d.1) in
    let tails = r.1 in
    (omega (arith, r.0, c.0, c.1, d.0, d.1), cc)

-- digits after a number that is not 0 give another number than as many or fewer digits from the start
digits_more : (a b : Bytes) (w m : ℕ) → 0 < w → length a ≤ length b → digits 0 a ≡ Some m → digits w b ≡ Some m → ⊥
digits_more a [] w m h l p q = absurd (omega (arith, (digits_same a [] 0 w m (omega arith) p q).0))
digits_more a (y ∷ ys) w m h l p q =
    go (leb (length a) (length ys)) refl (λ k. digits_more a ys (w * 10 + (y - 48)) m (omega arith) k p (digits-cons w y ys m q).2)
  where
    go : (t : Bool) → leb (length a) (length ys) ≡ t → (length a ≤ length ys → ⊥) → ⊥
    go true t next = next (leb-true (length a) (length ys) t)
    go false t next = omega (arith, leb-false (length a) (length ys) t, (digits_same a (y ∷ ys) 0 w m (omega (arith, leb-false (length a) (length ys) t)) p q).0)

pub numeral-digits : (b : ℕ) (bs : Bytes) (m : ℕ) → numeral (b ∷ bs) ≡ Some m → (digits 0 (b ∷ bs) ≡ Some m) × (0 < length bs → 48 < b)
unfolding numeral
numeral-digits b [] m e = (e, λ h. omega arith)
numeral-digits b (c ∷ cs) m e = go (eqb b 48) refl e
  where
    go : (t : Bool) → eqb b 48 ≡ t → cond t None (digits 0 (b ∷ (c ∷ cs))) ≡ Some m
        → (digits 0 (b ∷ (c ∷ cs)) ≡ Some m) × (0 < suc (length cs) → 48 < b)
    go true t e = unlike (cc)
    go false t e = (e, λ h. omega (arith, eqb-false b 48 t, (digits-cons 0 b (c ∷ cs) m e).0))

-- a shorter numeral has another number
numeral-shorter : (a b : Bytes) (m : ℕ) → length a < length b → numeral a ≡ Some m → numeral b ≡ Some m → ⊥
unfolding numeral
numeral-shorter [] b m l p q = unlike (cc)
numeral-shorter (x ∷ xs) [] m l p q = omega arith
numeral-shorter (x ∷ xs) (y ∷ ys) m l p q =
    let d = numeral-digits y ys m q in
    digits_more (x ∷ xs) ys (0 * 10 + (y - 48)) m (omega (arith, d.1 (omega arith))) (omega arith) (numeral-digits x xs m p).0 (digits-cons 0 y ys m d.0).2

pub numeral-eq : (a b : Bytes) (m : ℕ) → numeral a ≡ Some m → numeral b ≡ Some m → a ≡ b
unfolding numeral
numeral-eq [] b m p q = unlike (cc)
numeral-eq (x ∷ xs) [] m p q = unlike (cc)
numeral-eq (x ∷ xs) (y ∷ ys) m p q = go (ltb (length xs) (length ys)) (ltb (length ys) (length xs)) refl refl
  where
    go : (s t : Bool) → ltb (length xs) (length ys) ≡ s → ltb (length ys) (length xs) ≡ t → x ∷ xs ≡ y ∷ ys
    go true t s≡ t≡ = absurd (numeral-shorter (x ∷ xs) (y ∷ ys) m (omega (arith, ltb-true (length xs) (length ys) s≡)) p q)
    go false true s≡ t≡ = absurd (numeral-shorter (y ∷ ys) (x ∷ xs) m (omega (arith, ltb-true (length ys) (length xs) t≡)) q p)
    go false false s≡ t≡ =
        (digits_same (x ∷ xs) (y ∷ ys) 0 0 m (omega (arith, ltb-false (length xs) (length ys) s≡, ltb-false (length ys) (length xs) t≡)) (numeral-digits x xs m p).0 (numeral-digits y ys m q).0).1

negative-value : (c : Column) (z : ℤ) → negative c ≡ Some z → (m : ℕ) × (c ≡ Some (suc m)) × (z ≡ negsuc m)
negative-value None z e = unlike (cc)
negative-value (Some zero) z e = unlike (cc)
negative-value (Some (suc m)) z e = go (leb (suc m) 9223372036854775808) (rw (eqb-suc-zero m) at e)
  where
    go : (t : Bool) → cond t (Some (negsuc m)) None ≡ Some z → (k : ℕ) × (Some (suc m) ≡ Some (suc k)) × (z ≡ negsuc k)
    go true e = (m, refl, cc)
    go false e = unlike (cc)

positive-value : (c : Column) (z : ℤ) → positive c ≡ Some z → (m : ℕ) × (c ≡ Some m) × (z ≡ pos m)
positive-value None z e = unlike (cc)
positive-value (Some m) z e = go (ltb m 9223372036854775808) e
  where
    go : (t : Bool) → cond t (Some (pos m)) None ≡ Some z → (k : ℕ) × (Some m ≡ Some k) × (z ≡ pos k)
    go true e = (m, refl, cc)
    go false e = unlike (cc)

-- an integer is written in one way
pub integer-eq : (v w : Bytes) (z : ℤ) → integer_of v ≡ Some z → integer_of w ≡ Some z → v ≡ w
unfolding integer_of
integer-eq [] w z p q = unlike (cc)
integer-eq (x ∷ xs) [] z p q = unlike (cc)
integer-eq (x ∷ xs) (y ∷ ys) z p q = go (eqb x 45) (eqb y 45) refl refl p q
  where
    go : (s t : Bool) → eqb x 45 ≡ s → eqb y 45 ≡ t
        → cond s (negative (numeral xs)) (positive (numeral (x ∷ xs))) ≡ Some z
        → cond t (negative (numeral ys)) (positive (numeral (y ∷ ys))) ≡ Some z → x ∷ xs ≡ y ∷ ys
    go true true s≡ t≡ p q =
        let m = negative-value (numeral xs) z p in
        let n = negative-value (numeral ys) z q in
        let m≡n : m.0 ≡ n.0 = cc in
        let heads : x ≡ y = eqb-true x 45 s≡ ∙ sym (eqb-true y 45 t≡) in
        let tails : xs ≡ ys = numeral-eq xs ys (suc n.0) (rw m≡n at m.1) n.1 in
        cc
    go true false s≡ t≡ p q =
        let m = negative-value (numeral xs) z p in
        let n = positive-value (numeral (y ∷ ys)) z q in
        unlike (cc)
    go false true s≡ t≡ p q =
        let m = positive-value (numeral (x ∷ xs)) z p in
        let n = negative-value (numeral ys) z q in
        unlike (cc)
    go false false s≡ t≡ p q =
        let m = positive-value (numeral (x ∷ xs)) z p in
        let n = positive-value (numeral (y ∷ ys)) z q in
        let m≡n : m.0 ≡ n.0 = cc in
        numeral-eq (x ∷ xs) (y ∷ ys) n.0 (rw m≡n at m.1) n.1

order_integers-equal : (v w : Bytes) → is_integer (integer_of v) ≡ true → is_integer (integer_of w) ≡ true
    → order_integers (integer_of v) (integer_of w) ≡ Equal → v ≡ w
order_integers-equal v w i j e = go (integer_of v) (integer_of w) refl refl i j e
  where
    go : (x y : Integer) → integer_of v ≡ x → integer_of w ≡ y → is_integer x ≡ true → is_integer y ≡ true → order_integers x y ≡ Equal → v ≡ w
    go (Some a) (Some b) p q i j e = integer-eq v w b (p ∙ ap Some (orderℤ-equal a b e)) q
    go (Some a) None p q i j e = absurd (false≢true j)
    go None y p q i j e = absurd (false≢true i)

order_integers-refl : (x : Integer) → order_integers x x ≡ Equal
order_integers-refl (Some a) = orderℤ-refl a
order_integers-refl None = refl

-- values that the syntax allows compare as equal exactly where they are equal
pub order-iff : (s : ℕ) (v w : Bytes) → fits s v ≡ true → fits s w ≡ true → (order s v w ≡ Equal) ↔ (same s v w ≡ true)
unfolding order same fits normal folded
order-iff s v w fv fw = go (eqb s integer) refl
  where
    go : (t : Bool) → eqb s integer ≡ t → (order s v w ≡ Equal) ↔ (same s v w ≡ true)
    go true t = rw (eqb-true s integer t) (λ e. rw (order_integers-equal v w (rw (eqb-true s integer t) at fv) (rw (eqb-true s integer t) at fw) e) (identical-refl w), λ e. rw (identical-eq v w e) (order_integers-refl (integer_of w)))
    go false t = rw t (λ e. rw (order_bytes-equal (normal s v) (normal s w) e) (identical-refl (normal s w)), λ e. rw (identical-eq (normal s v) (normal s w) e) (order_bytes-refl (normal s w)))

-- ---- order turned round

orderℕ-reversed : (a b : ℕ) (next : Ordering) → orderℕ b a (reversed next) ≡ reversed (orderℕ a b next)
orderℕ-reversed a b next = go (ltb a b) (ltb b a) refl refl
  where
    go : (s t : Bool) → ltb a b ≡ s → ltb b a ≡ t → cond t Less (cond s Greater (reversed next)) ≡ reversed (cond s Less (cond t Greater next))
    go true true p q = absurd (omega (arith, ltb-true a b p, ltb-true b a q))
    go true false p q = refl
    go false true p q = refl
    go false false p q = refl

order_bytes-reversed : (a b : Bytes) → order_bytes b a ≡ reversed (order_bytes a b)
unfolding order_bytes
order_bytes-reversed [] [] = refl
order_bytes-reversed [] (y ∷ ys) = refl
order_bytes-reversed (x ∷ xs) [] = refl
order_bytes-reversed (x ∷ xs) (y ∷ ys) = rw (order_bytes-reversed xs ys) (orderℕ-reversed x y (order_bytes xs ys))

orderℤ-reversed : (a b : ℤ) → orderℤ b a ≡ reversed (orderℤ a b)
orderℤ-reversed (pos a) (pos b) = orderℕ-reversed a b Equal
orderℤ-reversed (pos a) (negsuc b) = refl
orderℤ-reversed (negsuc a) (pos b) = refl
orderℤ-reversed (negsuc a) (negsuc b) = orderℕ-reversed b a Equal

order_integers-reversed : (x y : Integer) → order_integers y x ≡ reversed (order_integers x y)
order_integers-reversed (Some a) (Some b) = orderℤ-reversed a b
order_integers-reversed (Some a) None = refl
order_integers-reversed None (Some b) = refl
order_integers-reversed None None = refl

pub order-reversed : (s : ℕ) (v w : Bytes) → order s w v ≡ reversed (order s v w)
unfolding order
order-reversed s v w = go (eqb s integer)
  where
    go : (t : Bool) → cond t (order_integers (integer_of w) (integer_of v)) (order_bytes (normal s w) (normal s v))
        ≡ reversed (cond t (order_integers (integer_of v) (integer_of w)) (order_bytes (normal s v) (normal s w)))
    go true = order_integers-reversed (integer_of v) (integer_of w)
    go false = order_bytes-reversed (normal s v) (normal s w)
