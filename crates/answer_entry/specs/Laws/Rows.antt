-- Laws of a chain over the rows of an entry's values: what it finds in the rows, the rules find in the values.
use Rattle.std.specs.Prelude.{◌≡◌, ℕ, ◌+◌, ◌-◌, ◌≤◌, ◌<◌, Bool, true, false, List, [], length, get_or, Option}
use Rattle.std.proofs.Common.{refl, true≢false, sym, ap, ◌∙◌, subst, arith}
use Rattle.std.specs.Bool.{MatchBool}
use Rattle.std.specs.Option.{MatchOption}
use Rattle.std.specs.Fn.{Called}
use Rattle.std.specs.Iterator.{YieldsThen}
use Rattle.std.specs.List.{range_with_len, FoldsTo, HoldsAt, AllWithin}
use Rattle.std.specs.declared.ops.Range.{Range}
use Rattle.std.proofs.iter.Yields.{nat_range_steps}
use Rattle.std.proofs.lemmas.Iterator.{YieldsList-from_range, cases_from_any}
use Rattle.std.proofs.lemmas.List.FromFn.{length-range_with_len, get_or-range_with_len}
use denote.Param.Members.{Mut}
use Rattle.rules.specs.Lists.{any}
use Rattle.rules.proofs.Laws.Lists.{any_at, any_none}
use Rattle.rules.specs.Sheet.{Bytes}
use Rattle.rules.specs.Name.{Part, part}
use Rattle.tables.specs.Held.{rank_at, bytes_at, type_at, HeldAt}
use Rattle.tables.specs.Laws.Held.{row-part}

-- `any` over a range, said of the numbers in it
pub any-from_Range : {F : Type 0} {g : Mut F (ℕ × Unit {0}) Bool} (s u : Range ℕ) (f : F) (r : Bool) (Yes No : ℕ → Type 0)
    → (xs : List ℕ) × (o : Option ℕ) × (j : F) × YieldsThen nat_range_steps s xs o u × FoldsTo (λ p x q. Called g p (x, tt) false q) f xs j × MatchOption o (r ≡ false) (λ x. (r ≡ true) × ((h : F) × Called g j (x, tt) true h))
    → ((x : ℕ) (q : F) → Called g f (x, tt) true q → Yes x) → ((x : ℕ) (q : F) → Called g f (x, tt) false q → (q ≡ f) × No x)
    → MatchBool r ((i : ℕ) × (s.start ≤ i) × (i < s.end) × Yes i) ((i : ℕ) → s.start ≤ i → i < s.end → No i)
any-from_Range s u f r Yes No ran yes' no' = by r (cases_from_any u f r Yes No ran (YieldsList-from_range s.start s.end _ refl refl) yes' no')
  where
    all : List ℕ
    all = range_with_len s.start (s.end - s.start)

    long : length all ≡ s.end - s.start
    long = length-range_with_len s.start (s.end - s.start)

    by : (b : Bool) → MatchBool b ((k : ℕ) × (k < length all) × HoldsAt Yes all k) (AllWithin No all 0 (length all)) → MatchBool b ((i : ℕ) × (s.start ≤ i) × (i < s.end) × Yes i) ((i : ℕ) → s.start ≤ i → i < s.end → No i)
    by true h =
        let l : h.0 < s.end - s.start = omega (arith, long, h.1) in
        (s.start + h.0, omega arith, omega arith, subst Yes (get_or-range_with_len s.start (s.end - s.start) h.0 0 l) (h.2 0))
    by false h = λ i from to.
        let e : get_or all (i - s.start) 0 ≡ i = omega (arith, get_or-range_with_len s.start (s.end - s.start) (i - s.start) 0 (omega arith)) in
        subst No e (h (i - s.start) 0 (omega arith) (omega (arith, long)))

-- .. over the rows up to `last`, which is the end
module _ {schema : List ℕ} {d : Bytes} {vs : List Part} {h : List ℕ} {first end last : ℕ} (held : HeldAt schema d vs h first end) (same : last ≡ end) (test : Part → Bool) where
  pub any_of_rows : (r : Bool)
      → MatchBool r ((i : ℕ) × (first ≤ i) × (i < last) × (test (part (type_at schema (rank_at h i)) (bytes_at d h i)) ≡ true))
      ((i : ℕ) → first ≤ i → i < last → test (part (type_at schema (rank_at h i)) (bytes_at d h i)) ≡ false)
      → r ≡ any test vs
  any_of_rows true f =
      let to : f.0 < end = omega (arith, f.2) in
      sym (any_at test (part 0 []) vs (f.0 - first) (omega (arith, held.count, f.1)) (sym (ap test (row-part held f.0 f.1 to)) ∙ f.3))
  any_of_rows false f =
      sym (any_none test (part 0 []) vs (λ k l yes.
      let e : first + k - first ≡ k = omega arith in
      let to : first + k < end = omega (arith, held.count) in
      true≢false (sym yes ∙ ap (λ (j : ℕ). test (get_or vs j (part 0 []))) (sym e) ∙ sym (ap test (row-part held (first + k) (omega arith) to)) ∙ f (first + k) (omega arith) (omega arith))))
