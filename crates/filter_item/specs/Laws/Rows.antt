-- Laws of `Rows`: a law for each way through the code.
use Prim.Native.Nat.{ℕ, suc, ◌+◌, ◌-◌, ◌/◌, ◌%◌, ◌^◌, ◌≤◌, ◌<◌}
use Rattle.std.specs.Prelude.{◌≡◌, Bool, true, false, ◌||◌, List, eqb, length, get_or, drop}
use Rattle.std.proofs.Common.{ap, ◌∙◌, length-drop, length-take-le, eq-eqb, ne_eqb}
use Rattle.std.proofs.Math.Numerals.{add-one}
use native.Mathlib.Omega.{arith}
use Rattle.access_set.specs.Member.{bit_of}
use Rattle.rules.specs.Sheet.{Bytes}
use Rattle.tables.specs.Held.{rank_at, place_at, size_at, bytes_at}
use Rattle.filter_matchable.specs.Matchable.{bit_at}
use Rattle.filter_item.specs.Rows.{some_from, matchable_at}
use Rattle.filter_matchable.specs.Matchable.{RowsWithin}

module _ (held values : List ℕ) (first rank i : ℕ) where
  pub matchable-other : (rank_at held i ≡ rank → ⊥) → false ≡ matchable_at held values first rank i
  unfolding matchable_at
  matchable-other d = rw (ne_eqb (rank_at held i) rank d)

  pub matchable-same : rank_at held i ≡ rank → eqb (get_or values ((i - first) / 64) 0 / 2 ^ ((i - first) % 64) % 2) 1 ≡ matchable_at held values first rank i
  unfolding matchable_at bit_at bit_of
  matchable-same e = rw (eq-eqb (rank_at held i) rank e)

module _ (p : ℕ → Bool) (i end : ℕ) where
  step : i < end → some_from p i (end - i) ≡ (p i || some_from p (i + 1) (end - (i + 1)))
  unfolding some_from
  step l = let z : end - i ≡ suc (end - (i + 1)) = omega arith in rw (z, add-one i)

  pub some-here : i < end → p i ≡ true → some_from p i (end - i) ≡ true
  some-here l e = step l ∙ ap (λ (b : Bool). b || some_from p (i + 1) (end - (i + 1))) e

  pub some-on : i < end → p i ≡ false → some_from p i (end - i) ≡ some_from p (i + 1) (end - (i + 1))
  some-on l e = step l ∙ ap (λ (b : Bool). b || some_from p (i + 1) (end - (i + 1))) e

  pub some_end : end ≤ i → some_from p i (end - i) ≡ false
  unfolding some_from
  some_end l = let z : end - i ≡ 0 = omega arith in rw z

-- the bytes of a row are short
pub row-short : {d : Bytes} {held : List ℕ} {first end : ℕ} → RowsWithin d held first end → (i : ℕ) → first ≤ i → i < end → (u : Bytes) → u ≡ bytes_at d held i → length u ≤ 64
row-short {d} {held} h i from to u e =
    let part = h.part i from to in
    let short = h.short i from to in
    let size : length (bytes_at d held i) ≡ size_at held i = length-take-le (size_at held i) (drop (place_at held i) d) (rw length-drop (omega (arith, part))) in
    rw e (omega (arith, size, short))
