-- Laws of a text of at most 64 bytes: bytes put one after the other, runs left out, and the bytes read again.
use Rattle.std.specs.Prelude.{ℕ, suc, ◌+◌, ◌-◌, ◌≤◌, ◌<◌, ◌≡◌, refl, Bool, true, false, cond, [], ◌∷◌, ◌++◌, take, replicate}
use Rattle.std.proofs.Common.{sym, ap, ◌∙◌, append_assoc, append-nil, add-one, lt-ltb, le-ltb, drop-cons, take_all, take_at}
use Rattle.std.proofs.Math.Decide.{dec_lt}
use native.Mathlib.Omega.{arith}
use Rattle.std.proofs.Math.ListN.{length, get_or, drop, length-append, drop_of_length-le}
use Rattle.std.proofs.lemmas.List.{set_at, take-append-le}
use Rattle.rules.specs.Sheet.{Bytes}
use Rattle.rules.specs.Value.{shorten}
use Rattle.value_blank.specs.declared.Text.{Text}
use Rattle.value_blank.specs.Blank.{doubled_at, text_of, put, kept}

-- ---- bytes put one after the other

-- the bytes `l` put after those of `t`, as far as there is room
unfoldable pub filled : Text → Bytes → Text
filled t [] = t
filled t (b ∷ bs) = filled (put t b) bs

put-room : (l : Bytes) (b : ℕ) → length l < 64 → put (text_of l) b ≡ text_of (l ++ (b ∷ []))
unfolding put text_of
put-room l b h =
    let z : 64 - length l ≡ suc (63 - length l) = omega arith in
    let n : length (l ++ (b ∷ [])) ≡ length l + 1 = length-append l (b ∷ []) in
    let m : 64 - (length l + 1) ≡ 63 - length l = omega arith in
    rw (lt-ltb (length l) 64 h, z, n, m, append_assoc l (b ∷ []) (replicate (63 - length l) 0), set_at l 0 (replicate (63 - length l) 0) b (length l) refl)

put_full : (l : Bytes) (b : ℕ) → 64 ≤ length l → put (text_of l) b ≡ text_of l
unfolding put text_of
put_full l b h = rw (le-ltb (length l) 64 h)

-- a text takes the first 64 bytes
pub filled-text : (done rest : Bytes) → length done ≤ 64 → filled (text_of done) rest ≡ text_of (take 64 (done ++ rest))
unfolding filled
filled-text done [] h = rw (append-nil done, take_all 64 done h)
filled-text done (b ∷ bs) h = go (dec_lt (length done) 64) (filled-text (done ++ (b ∷ [])) bs) (filled-text done bs h)
  where
    go : Dec (length done < 64) → (length (done ++ (b ∷ [])) ≤ 64 → filled (text_of (done ++ (b ∷ []))) bs ≡ text_of (take 64 ((done ++ (b ∷ [])) ++ bs)))
        → filled (text_of done) bs ≡ text_of (take 64 (done ++ bs)) → filled (put (text_of done) b) bs ≡ text_of (take 64 (done ++ (b ∷ bs)))
    go (yes l) more full =
        rw (put-room done b l) (more (omega (arith, length-append done (b ∷ []))) ∙ rw (append_assoc done (b ∷ []) bs))
    go (no l) more full =
        let e : 64 ≤ length done = omega arith in
        rw (put_full done b e) (full ∙ ap text_of (take-append-le 64 done bs e ∙ sym (take-append-le 64 done (b ∷ bs) e)))

abbrev pub none : Text
none = record { bytes = replicate 64 0; length = 0 }

pub filled_none : (l : Bytes) → filled none l ≡ text_of (take 64 l)
unfolding text_of
filled_none l = filled-text [] l (omega arith)

pub filled_on : (t : Text) (b : ℕ) (bs : Bytes) → filled t (b ∷ bs) ≡ filled (put t b) bs
unfolding filled
filled_on t b bs = refl

pub filled-end : (t : Text) → filled t [] ≡ t
unfolding filled
filled-end t = refl

-- ---- runs left out

module _ (t : Text) (v : Bytes) (i : ℕ) where
  pub kept_on : i < length v → filled (kept t v i) (shorten (drop (i + 1) v)) ≡ filled t (shorten (drop i v))
  unfolding kept shorten
  kept_on h = rw here (go (doubled_at v i))
    where
      here : drop i v ≡ get_or v i 0 ∷ drop (i + 1) v
      here = rw (add-one i) (drop-cons v i 0 h)

      go : (d : Bool) → filled (cond d t (put t (get_or v i 0))) (shorten (drop (i + 1) v)) ≡ filled t (cond d (shorten (drop (i + 1) v)) (get_or v i 0 ∷ shorten (drop (i + 1) v)))
      go true = refl
      go false = sym (filled_on t (get_or v i 0) (shorten (drop (i + 1) v)))

  pub kept-end : length v ≤ i → filled t (shorten (drop i v)) ≡ t
  unfolding shorten
  kept-end h = rw drop_of_length-le (filled-end t)

-- ---- the bytes read again

module _ (t : Text) (l : Bytes) (e : t ≡ text_of l) where
  pub text-within : t.length ≤ length t.bytes
  unfolding text_of
  text-within = rw e (omega (arith, length-append l (replicate (64 - length l) 0)))

  pub text-bytes : take (t.length - 0) t.bytes ≡ l
  unfolding text_of
  text-bytes = let z : length l - 0 ≡ length l = omega arith in rw (e, z) (take_at l (replicate (64 - length l) 0) (length l) refl)
