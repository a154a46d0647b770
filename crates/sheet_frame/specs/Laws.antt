-- The line at the front of a sheet by its five columns, read from the left: the first that is malformed decides, else what stands after them.
use Rattle.std.specs.Prelude.{ℕ, ◌*◌, ◌≤◌, ◌<◌, ◌≡◌, length, take, drop, Some, None}
use Rattle.std.proofs.Math.Path.{refl}
use Rattle.std.proofs.Common.{sym, ◌∙◌, arith}
use Rattle.rules.specs.Sheet.{Bytes, column_of, whole, front_of}
use Rattle.rules.proofs.Laws.Sheet.{front-whole}
use Rattle.rules.specs.Sheet.{Column}
use Rattle.rules.specs.declared.Front.{Front}
use Rattle.rules.specs.declared.Front.TheVariants.{NotInForm}

module _ (w : ℕ) (s : Bytes) (some : 0 < length s) (fits : 5 * w ≤ length s) where
  -- the column that begins at `i`
  abbrev from : ℕ → Column
  from i = column_of (take w (drop i s))

  front_by : {k a b c l : Column} → from 0 ≡ k → from w ≡ a → from (2 * w) ≡ b → from (3 * w) ≡ c → from (4 * w) ≡ l → whole w s k a b c l ≡ front_of w s
  front_by ek ea eb ec el =
      let zeroth : 0 * w ≡ 0 = omega arith in
      let first : 1 * w ≡ w = omega arith in
      sym (front-whole w s (λ z. omega arith) fits ∙ rw (zeroth, first, ek, ea, eb, ec, el))

  pub stop-1 : from 0 ≡ None → NotInForm ≡ front_of w s
  unfolding whole
  stop-1 e = front_by e refl refl refl refl

  module _ {k : ℕ} (e₁ : from 0 ≡ Some k) where
    pub stop-2 : from w ≡ None → NotInForm ≡ front_of w s
    unfolding whole
    stop-2 e = front_by e₁ e refl refl refl

    module _ {a : ℕ} (e₂ : from w ≡ Some a) where
      pub stop-3 : from (2 * w) ≡ None → NotInForm ≡ front_of w s
      unfolding whole
      stop-3 e = front_by e₁ e₂ e refl refl

      module _ {b : ℕ} (e₃ : from (2 * w) ≡ Some b) where
        pub stop-4 : from (3 * w) ≡ None → NotInForm ≡ front_of w s
        unfolding whole
        stop-4 e = front_by e₁ e₂ e₃ e refl

        module _ {c : ℕ} (e₄ : from (3 * w) ≡ Some c) where
          pub stop-5 : from (4 * w) ≡ None → NotInForm ≡ front_of w s
          unfolding whole
          stop-5 e = front_by e₁ e₂ e₃ e₄ e

          pub all-five : {n : ℕ} → from (4 * w) ≡ Some n → {r : Front} → r ≡ whole w s (Some k) (Some a) (Some b) (Some c) (Some n) → r ≡ front_of w s
          all-five e r = r ∙ front_by e₁ e₂ e₃ e₄ e
