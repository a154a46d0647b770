-- Laws of text: one byte more, four bytes more, and none.
use Rattle.std.specs.Prelude.{ℕ, suc, ◌+◌, ◌-◌, ◌≤◌, ◌<◌, ◌≡◌, refl, Bool, true, false, ◌&&◌, ◌||◌, not, [], ◌∷◌, fold, length, get_or, drop}
use Rattle.std.proofs.Common.{◌∙◌, add-one, arith, drop_of_length-le, drop-cons}
use Rattle.rules.specs.Lists.{any, all}
use Rattle.rules.specs.Sheet.{Bytes}
use Rattle.rules.specs.Value.{printable}

pub all_one : (v : Bytes) (i : ℕ) → i < length v → all printable (drop i v) ≡ (printable (get_or v i 0) && all printable (drop (i + 1) v))
all_one v i h = rw (add-one, drop-cons v i 0) (go (printable (get_or v i 0)) (any (λ b. not (printable b)) (drop (suc i) v)))
  where
    go : (y z : Bool) → not (not y || z) ≡ (y && not z)
    go true z = refl
    go false z = refl

pub all-four : (v : Bytes) (i : ℕ) → 4 ≤ length v - i
    → all printable (drop i v)
    ≡ ((((printable (get_or v i 0) && printable (get_or v (i + 1) 0)) && printable (get_or v (i + 2) 0)) && printable (get_or v (i + 3) 0)) && all printable (drop (i + 4) v))
all-four v i h =
    let two : i + 1 + 1 ≡ i + 2 = omega arith in
    let three : i + 2 + 1 ≡ i + 3 = omega arith in
    let four : i + 3 + 1 ≡ i + 4 = omega arith in
    rw (all_one v i (omega arith), all_one v (i + 1) (omega arith), two, all_one v (i + 2) (omega arith), three, all_one v (i + 3) (omega arith), four)
    (go (printable (get_or v i 0)) (printable (get_or v (i + 1) 0)) (printable (get_or v (i + 2) 0)) (printable (get_or v (i + 3) 0)) (all printable (drop (i + 4) v)))
  where
    go : (a b c d e : Bool) → (a && (b && (c && (d && e)))) ≡ ((((a && b) && c) && d) && e)
    go true true true d e = refl
    go true true false d e = refl
    go true false c d e = refl
    go false b c d e = refl

pub all_end : (v : Bytes) (i : ℕ) → length v ≤ i → all printable (drop i v) ≡ true
all_end v i h = rw drop_of_length-le

pub fold-all : (t : Bool) (v : Bytes) → fold (λ t b. t && printable b) t v ≡ (t && all printable v)
fold-all true [] = refl
fold-all false [] = refl
fold-all t (b ∷ bs) = fold-all (t && printable b) bs ∙ go t (printable b) (any (λ b. not (printable b)) bs)
  where
    go : (x y z : Bool) → ((x && y) && not z) ≡ (x && not (not y || z))
    go true true z = refl
    go true false z = refl
    go false y z = refl
