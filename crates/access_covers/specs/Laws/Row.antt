-- Laws of `Row`: the row that is written, and no other; the rows that are joined.
use Rattle.std.specs.Prelude.{ℕ, ◌+◌, ◌*◌, ◌≤◌, ◌<◌, ◌≡◌, Bool, ◌||◌, length, get_or, set}
use Rattle.std.proofs.Math.Path.{refl, ap, ap₂}
use Rattle.std.proofs.Common.{◌∙◌, arith}
use mathlib.Core.List.{List}
use Rattle.std.proofs.Math.ListN.{length-set}
use Rattle.std.proofs.Math.Seq.{get_or-set_same, get_or-set_other}
use Rattle.access_set.specs.declared.Bits.{Bits}
use Rattle.access_set.specs.Member.{member, join}
use Rattle.access_set.specs.Laws.Sets.{member-join}
use Rattle.tables.specs.Sets.{below_row, grants_row, row_of, in_row}
use Rattle.access_items.specs.Laws.Rows.{same_row}
use Rattle.access_covers.specs.Row.{row_stored, entry_inherited}

module _ (t : List ℕ) (r : ℕ) (s : Bits) (room : r * 4 + 4 ≤ length t) where
  t₁ : List ℕ
  t₁ = set t (r * 4) s.a

  t₂ : List ℕ
  t₂ = set t₁ (r * 4 + 1) s.b

  t₃ : List ℕ
  t₃ = set t₂ (r * 4 + 2) s.c

  len₁ : length t₁ ≡ length t
  unfolding t₁
  len₁ = length-set t (r * 4) s.a

  len₂ : length t₂ ≡ length t
  unfolding t₂
  len₂ = length-set t₁ (r * 4 + 1) s.b ∙ len₁

  len₃ : length t₃ ≡ length t
  unfolding t₃
  len₃ = length-set t₂ (r * 4 + 2) s.c ∙ len₂

  -- a word of another row
  stored_other : (i : ℕ) → ((k : ℕ) → k < 4 → i ≡ r * 4 + k → ⊥) → get_or (row_stored t r s) i 0 ≡ get_or t i 0
  unfolding row_stored t₁ t₂ t₃
  stored_other i d =
      get_or-set_other t₃ (r * 4 + 3) i s.d 0 (d 3 (omega arith)) ∙ get_or-set_other t₂ (r * 4 + 2) i s.c 0 (d 2 (omega arith))
      ∙ get_or-set_other t₁ (r * 4 + 1) i s.b 0 (d 1 (omega arith)) ∙ get_or-set_other t (r * 4) i s.a 0 (λ e. d 0 (omega arith) (omega arith))

  four : {a a' b b' c c' d d' : ℕ} → a ≡ a' → b ≡ b' → c ≡ c' → d ≡ d' → ◌≡◌ {A = Bits} (record { a = a; b = b; c = c; d = d }) (record { a = a'; b = b'; c = c'; d = d' })
  four p q x y = λ i. record { a = p i; b = q i; c = x i; d = y i }

  stored_there : row_of (row_stored t r s) r ≡ s
  unfolding row_of row_stored t₁ t₂ t₃
  stored_there = four
      (get_or-set_other t₃ (r * 4 + 3) (r * 4) s.d 0 (λ e. omega arith) ∙ get_or-set_other t₂ (r * 4 + 2) (r * 4) s.c 0 (λ e. omega arith)
      ∙ get_or-set_other t₁ (r * 4 + 1) (r * 4) s.b 0 (λ e. omega arith) ∙ get_or-set_same t (r * 4) s.a 0 (omega arith))
      (get_or-set_other t₃ (r * 4 + 3) (r * 4 + 1) s.d 0 (λ e. omega arith) ∙ get_or-set_other t₂ (r * 4 + 2) (r * 4 + 1) s.c 0 (λ e. omega arith)
      ∙ get_or-set_same t₁ (r * 4 + 1) s.b 0 (omega (arith, len₁)))
      (get_or-set_other t₃ (r * 4 + 3) (r * 4 + 2) s.d 0 (λ e. omega arith) ∙ get_or-set_same t₂ (r * 4 + 2) s.c 0 (omega (arith, len₂)))
      (get_or-set_same t₃ (r * 4 + 3) s.d 0 (omega (arith, len₃)))

  stored-in : (j : ℕ) → in_row (row_stored t r s) r j ≡ member s j
  unfolding in_row
  stored-in j = ap (λ (x : Bits). member x j) stored_there

  -- another row
  stored-beside : (f j : ℕ) → (f ≡ r → ⊥) → in_row (row_stored t r s) f j ≡ in_row t f j
  stored-beside f j d = same_row (row_stored t r s) t f (λ i a b. stored_other i (λ k l z. d (omega arith))) j

  pub stored-length : length (row_stored t r s) ≡ length t
  unfolding row_stored t₁ t₂ t₃
  stored-length = length-set t₃ (r * 4 + 3) s.d ∙ len₃

-- the row of what is below `e` gains that of the one above, the row of `e` gains both, and nothing else changes
pub record Inherits (e above : ℕ) (s t : List ℕ) : Type 0 where
  pub size : length t ≡ length s
  pub below_row_lem : (j : ℕ) → in_row t (below_row + e) j ≡ (in_row s (below_row + e) j || in_row s (below_row + above) j)
  pub covers-row : (j : ℕ) → in_row t e j ≡ (in_row s e j || (in_row s (below_row + e) j || in_row s (below_row + above) j))
  pub beside : (f j : ℕ) → (f ≡ e → ⊥) → (f ≡ below_row + e → ⊥) → in_row t f j ≡ in_row s f j
  pub after : (i : ℕ) → grants_row * 4 ≤ i → get_or t i 0 ≡ get_or s i 0

module _ (e above : ℕ) (t : List ℕ) where
  pub inherits-of : grants_row * 4 ≤ length t → e ≤ 256 → Inherits e above t (entry_inherited e above t)
  unfolding in_row entry_inherited
  inherits-of room l =
      record {
        size = stored-length u e c (omega (arith, size)) ∙ size;
        below_row_lem = λ j. stored-beside u e c (omega (arith, size)) (below_row + e) j (λ z. omega arith) ∙ stored-in t (below_row + e) s (omega arith) j ∙ joined j;
        covers-row = λ j. stored-in u e c (omega (arith, size)) j ∙ member-join (row_of t e) s c refl j ∙ ap (λ (b : Bool). member (row_of t e) j || b) (joined j);
        beside = λ f j p q. stored-beside u e c (omega (arith, size)) f j p ∙ stored-beside t (below_row + e) s (omega arith) f j q;
        after = λ i far. stored_other u e c (omega (arith, size)) i (λ k m w. omega arith) ∙ stored_other t (below_row + e) s (omega arith) i (λ k m w. omega arith);
      }
    where
      s : Bits
      s = join (row_of t (below_row + e)) (row_of t (below_row + above))

      c : Bits
      c = join (row_of t e) (join (row_of t (below_row + e)) (row_of t (below_row + above)))

      u : List ℕ
      u = row_stored t (below_row + e) (join (row_of t (below_row + e)) (row_of t (below_row + above)))

      size : length (row_stored t (below_row + e) (join (row_of t (below_row + e)) (row_of t (below_row + above)))) ≡ length t
      size = stored-length t (below_row + e) (join (row_of t (below_row + e)) (row_of t (below_row + above))) (omega arith)

      joined : (j : ℕ) → member (join (row_of t (below_row + e)) (row_of t (below_row + above))) j ≡ (member (row_of t (below_row + e)) j || member (row_of t (below_row + above)) j)
      joined = member-join (row_of t (below_row + e)) (row_of t (below_row + above)) _ refl

  -- the rows that are joined and written
  pub inherited-rows : (x y s z c : Bits) (u v : List ℕ) → x ≡ row_of t (below_row + e) → y ≡ row_of t (below_row + above) → s ≡ join x y → z ≡ row_of t e → c ≡ join z s
      → u ≡ row_stored t (below_row + e) s → v ≡ row_stored u e c → v ≡ entry_inherited e above t
  unfolding entry_inherited
  inherited-rows x y s z c u v p q h r i g k =
      let both : s ≡ join (row_of t (below_row + e)) (row_of t (below_row + above)) = h ∙ ap₂ join p q in
      k ∙ ap₂ (λ (w : List ℕ) (b : Bits). row_stored w e b) (g ∙ ap (row_stored t (below_row + e)) both) (i ∙ ap₂ join r both)
