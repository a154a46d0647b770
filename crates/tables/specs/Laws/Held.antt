-- Laws of `Held`: a loop over the rows of an entry's values is one over the values.
use Rattle.std.specs.Prelude.{ℕ, suc, ◌+◌, ◌-◌, ◌≤◌, ◌<◌, ◌≡◌, Bool, true, false, List, [], length, get_or, drop}
use Rattle.std.proofs.Common.{sym, ap, ap₂, ◌∙◌, subst, arith, drop_of_length-le, drop-cons}
use Rattle.rules.specs.Lists.{any}
use Rattle.rules.specs.Sheet.{Bytes}
use Rattle.rules.specs.Name.{Part, part}
use Rattle.tables.specs.Held.{rank_at, bytes_at, type_at, ValueAt, HeldAt}

module _ {schema : List ℕ} {d : Bytes} {vs : List Part} {h : List ℕ} {first end : ℕ} (held : HeldAt schema d vs h first end) (i : ℕ) where
  module _ (from : first ≤ i) where
    module _ (l : i < end) where
      within : i - first < length vs
      within = omega (arith, held.count)

      pub row_at : ValueAt schema d (get_or vs (i - first) (part 0 [])) h i
      row_at =
          let e : first + (i - first) ≡ i = omega arith in
          subst (ValueAt schema d (get_or vs (i - first) (part 0 [])) h) e (held.row (i - first) within)

      -- the value in row `i`
      pub row-part : part (type_at schema (rank_at h i)) (bytes_at d h i) ≡ get_or vs (i - first) (part 0 [])
      row-part = ap₂ part row_at.type row_at.value

      module _ (test : Part → Bool) where
        pub any_here : test (part (type_at schema (rank_at h i)) (bytes_at d h i)) ≡ true → any test (drop (i - first) vs) ≡ true
        any_here e = let g : test (get_or vs (i - first) (part 0 [])) ≡ true = sym (ap test row-part) ∙ e in rw (drop-cons vs (i - first) (part 0 []) within, g)

        pub any-on : test (part (type_at schema (rank_at h i)) (bytes_at d h i)) ≡ false → any test (drop (i - first) vs) ≡ any test (drop (i + 1 - first) vs)
        any-on e =
            let g : test (get_or vs (i - first) (part 0 [])) ≡ false = sym (ap test row-part) ∙ e in
            let n : i + 1 - first ≡ suc (i - first) = omega arith in
            rw (n, drop-cons vs (i - first) (part 0 []) within, g)

    pub any-end : end ≤ i → (test : Part → Bool) → any test (drop (i - first) vs) ≡ false
    any-end l test = let n : length vs ≤ i - first = omega (arith, held.count) in rw drop_of_length-le
