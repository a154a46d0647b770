-- Laws of `Single`: digests and slots tell no equal values apart.
use Rattle.std.specs.Prelude.{ℕ, ◌+◌, ◌-◌, ◌≡◌, refl, Bool, true, false, ◌&&◌, List, eqb, get_or, take, drop}
use Rattle.std.proofs.Common.{ap, ap₂, ◌∙◌, eq-eqb, ne_eqb}
use Rattle.rules.specs.Sheet.{Bytes}
use Rattle.rules.specs.Value.{fits, same}
use Rattle.value_syntax.specs.Digest.{digest}
use Rattle.value_syntax.specs.Laws.Digest.{digest-same}
use Rattle.name.specs.Schema.{equal_by}
use Rattle.access_set.specs.declared.Bits.{Bits}
use Rattle.access_set.specs.Member.{member}
use Rattle.tables.specs.Sets.{value_place_column, value_length_column, row_of, in_row, digest_at, first_slot, second_slot, slotted}
use Rattle.tables.specs.Laws.Sets.{slotted-first, slotted-second}
use Rattle.tables.specs.Laws.Book.{cut-part}
use Rattle.access_may.specs.Single.{agrees_at, same_at}
use Rattle.access_may.specs.Laws.Decided.{row-member}

-- tests that equal values pass change nothing
passed : (s : ℕ) (u v : Bytes) (x y : Bool) → (same s u v ≡ true → x ≡ true) → (same s u v ≡ true → y ≡ true) → (x && (y && equal_by s u v)) ≡ equal_by s u v
unfolding equal_by
passed s u v x y f g = go (fits s u) (fits s v) (same s u v) refl
  where
    none : (x y : Bool) → (x && (y && false)) ≡ false
    none true true = refl
    none true false = refl
    none false y = refl

    go : (a b c : Bool) → same s u v ≡ c → (x && (y && (a && (b && c)))) ≡ (a && (b && c))
    go true true true e = ap₂ (λ (m n : Bool). m && (n && true)) (f e) (g e)
    go true true false e = none x y
    go true false c e = none x y
    go false b c e = none x y

pub slot-first : (s : ℕ) (u v : Bytes)
    → ((slotted (digest 0 u) (first_slot (digest 0 v)) && slotted (digest 0 u) (second_slot (digest 0 v))) && (eqb (digest 0 u) (digest 0 v) && equal_by s u v)) ≡ equal_by s u v
slot-first s u v =
    passed s u v (slotted (digest 0 u) (first_slot (digest 0 v)) && slotted (digest 0 u) (second_slot (digest 0 v))) (eqb (digest 0 u) (digest 0 v))
    (λ e. ap₂ ◌&&◌ (slotted-first (digest 0 u) (digest 0 v) (digest-same 0 s u v e)) (slotted-second (digest 0 u) (digest 0 v) (digest-same 0 s u v e)))
    (λ e. eq-eqb (digest 0 u) (digest 0 v) (digest-same 0 s u v e))

-- ---- the tests in turn

module _ (sets : List ℕ) (p : Bytes) (syntax h : ℕ) (v : Bytes) (j : ℕ) where
  pub agrees-apart : (digest_at sets j ≡ h → ⊥) → agrees_at sets p syntax h v j ≡ false
  unfolding agrees_at
  agrees-apart d = rw (ne_eqb (digest_at sets j) h d)

  pub agrees_bytes : digest_at sets j ≡ h → agrees_at sets p syntax h v j ≡ equal_by syntax (take (get_or sets (value_place_column + j) 0 + get_or sets (value_length_column + j) 0 - get_or sets (value_place_column + j) 0) (drop (get_or sets (value_place_column + j) 0) p)) v
  unfolding agrees_at
  agrees_bytes e = rw (eq-eqb (digest_at sets j) h e, cut-part p (get_or sets (value_place_column + j) 0) (get_or sets (value_length_column + j) 0))

-- the items of the digest's slots, then the tests of digest and bytes
pub near_same : (sets : List ℕ) (p : Bytes) (syntax : ℕ) (v : Bytes) (h r₁ r₂ : ℕ) (single x₁ x₂ y₁ y₂ : Bits) → h ≡ digest 0 v → r₁ ≡ first_slot h → r₂ ≡ second_slot h
    → x₁ ≡ row_of sets r₁ → x₂ ≡ row_of sets r₂ → ((j : ℕ) → member y₁ j ≡ (member single j && member x₁ j)) → ((j : ℕ) → member y₂ j ≡ (member y₁ j && member x₂ j))
    → (j : ℕ) → (member y₂ j && agrees_at sets p syntax h v j) ≡ (member single j && same_at sets p syntax v j)
unfolding same_at
near_same sets p syntax v h r₁ r₂ single x₁ x₂ y₁ y₂ e f₁ f₂ g₁ g₂ w₁ w₂ j =
    ap (λ (b : Bool). b && agrees_at sets p syntax h v j)
    (w₂ j ∙ ap₂ ◌&&◌ (w₁ j ∙ ap (λ (b : Bool). member single j && b) (row-member sets r₁ x₁ g₁ j)) (row-member sets r₂ x₂ g₂ j))
    ∙ ap₂ (λ (m n : ℕ). ((member single j && in_row sets m j) && in_row sets n j) && agrees_at sets p syntax h v j) (f₁ ∙ ap first_slot e) (f₂ ∙ ap second_slot e)
    ∙ ap (λ (n : ℕ). ((member single j && in_row sets (first_slot (digest 0 v)) j) && in_row sets (second_slot (digest 0 v)) j) && agrees_at sets p syntax n v j) e
    ∙ apart (member single j) (in_row sets (first_slot (digest 0 v)) j) (in_row sets (second_slot (digest 0 v)) j) (agrees_at sets p syntax (digest 0 v) v j)
  where
    apart : (a b c d : Bool) → (((a && b) && c) && d) ≡ (a && ((b && c) && d))
    apart true b c d = refl
    apart false b c d = refl
