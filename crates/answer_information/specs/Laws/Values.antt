-- Laws of values written and counted: one value, one more, and then the K 34 line before them.
use Prim.Native.Nat.{ℕ, zero, suc, ◌+◌}
use Rattle.std.specs.Prelude.{◌≡◌, refl, Bool, true, false}
use Rattle.std.proofs.Common.{sym, ap, ◌∙◌, add-one, arith, length-append}
use Rattle.std.proofs.Math.Path.{subst}
use mathlib.Core.List.{List, [], ◌∷◌, ◌++◌, map}
use Rattle.std.proofs.Math.ListN.{length}
use Rattle.rules.specs.Lists.{given, gather}
use Rattle.rules.specs.Sheet.{Bytes, Line, line, line_size}
use Rattle.rules.specs.Name.{Name}
use Rattle.rules.specs.Permission.{Read}
use Rattle.rules.specs.Decision.{Setting, of_value, granted}
use Rattle.rules.specs.Answer.{value_lines}
use Rattle.rules.proofs.Laws.Loops.{gather_append}
use Rattle.tables.specs.Held.{bytes_at}
use Rattle.answer_line.specs.Emit.{emit_lines, Emits}
use Rattle.answer_line.specs.Laws.Emit.{emits_none, emits-append, emits-before}
use Rattle.answer_information.specs.Information.{row_values, readable, Counted}
use Rattle.answer_information.specs.declared.values.Written.{Written}

-- ---- values after values

map-append : (f : Bytes → Line) (us vs : List Bytes) → map f (us ++ vs) ≡ map f us ++ map f vs
map-append f [] vs = refl
map-append f (u ∷ us) vs = ap (λ (ls : List Line). f u ∷ ls) (map-append f us vs)

module _ (w : ℕ) (out : Bytes) where
  counted_none : (st : Written) → Counted w out st [] out st
  counted_none st = record { lines = emits_none w out st.next; counted = omega arith }

  counted-append : (from mid to : Written) (us vs : List Bytes) {out₁ out₂ : Bytes} → Counted w out from us out₁ mid → Counted w out₁ mid vs out₂ to → Counted w out from (us ++ vs) out₂ to
  counted-append from mid to us vs {out₁} {out₂} p q = record {
    lines = subst (λ (ls : List Line). Emits w out from.next ls out₂ to.next) (sym (map-append (line 35 0 0 0) us vs))
        (emits-append w out from.next (map (line 35 0 0 0) us) (map (line 35 0 0 0) vs) p.lines q.lines);
    counted = let l : length (us ++ vs) ≡ length us + length vs = length-append us vs in omega (arith, p.counted, q.counted, l);
  }

  -- one value
  module _ (σ : Setting) (n : Name) (t : ℕ) (v : Bytes) (st : Written) where
    pub value_not : granted σ n (of_value t v) Read ≡ false → Counted w out st (readable σ n t (v ∷ [])) out st
    value_not g = subst (λ (b : Bool). Counted w out st (given b (v ∷ []) ++ []) out st) (sym g) (counted_none st)

    pub value_read_lem : granted σ n (of_value t v) Read ≡ true → {out' : Bytes} {r : ℕ} → Emits w out st.next (line 35 0 0 0 v ∷ []) out' r
        → Counted w out st (readable σ n t (v ∷ [])) out' (record { next = r; count = st.count + 1 })
    value_read_lem g {out'} {r} p =
        subst (λ (b : Bool). Counted w out st (given b (v ∷ []) ++ []) out' (record { next = r; count = st.count + 1 })) (sym g) (record { lines = p; counted = refl })

-- ---- the values of rows

rows-suc : (d : Bytes) (held : List ℕ) (i n : ℕ) → row_values d held i (suc n) ≡ row_values d held i n ++ (bytes_at d held (i + n) ∷ [])
unfolding row_values
rows-suc d held i zero = let e : i + 0 ≡ i = omega arith in rw e
rows-suc d held i (suc n) = let e : suc i + n ≡ i + suc n = omega arith in ap (λ (vs : List Bytes). bytes_at d held i ∷ vs) (rows-suc d held (suc i) n ∙ rw e)

module _ (w : ℕ) (out d : Bytes) (held : List ℕ) (σ : Setting) (n : Name) (t i : ℕ) (from : Written) where
  pub values-none : (m : ℕ) → m ≡ 0 → Counted w out from (readable σ n t (row_values d held i m)) out from
  unfolding row_values
  values-none zero e = counted_none w out from
  values-none (suc m) e = absurd (omega arith)

  -- one row more, `j`
  pub values-on : (m k j : ℕ) → k ≡ m + 1 → j ≡ i + m → (v : Bytes) → v ≡ bytes_at d held j → (mid to : Written) {out₁ out₂ : Bytes}
      → Counted w out from (readable σ n t (row_values d held i m)) out₁ mid → Counted w out₁ mid (readable σ n t (v ∷ [])) out₂ to
      → Counted w out from (readable σ n t (row_values d held i k)) out₂ to
  values-on m k j e f v g mid to {out₁} {out₂} p q =
      let h : Bytes → List Bytes = λ u. given (granted σ n (of_value t u) Read) (u ∷ []) in
      let more : row_values d held i k ≡ row_values d held i m ++ (v ∷ []) = rw (e, add-one m, g, f) (rows-suc d held i m) in
      subst (λ (vs : List Bytes). Counted w out from vs out₂ to) (sym (ap (gather h) more ∙ gather_append h (row_values d held i m) (v ∷ [])))
      (counted-append w out from mid to (gather h (row_values d held i m)) (gather h (v ∷ [])) p q)

-- ---- the line before them

module _ (w : ℕ) (out : Bytes) (at t : ℕ) (from to : Written) (vs : List Bytes) {out₁ : Bytes} (zeroed : from.count ≡ 0) (p : Counted w out from vs out₁ to) where
  pub lines-not : to.count ≡ 0 → Emits w out at (value_lines t vs) out₁ at
  unfolding value_lines emit_lines
  lines-not e = go vs p
    where
      go : (vs : List Bytes) → Counted w out from vs out₁ to → Emits w out at (value_lines t vs) out₁ at
      go [] q = subst (λ (o : Bytes). Emits w out at [] o at) (sym q.lines.bytes) (emits_none w out at)
      go (v ∷ vs) q = absurd (omega (arith, e, q.counted))

  pub lines-some : (to.count ≡ 0 → ⊥) → from.next ≡ at + line_size w 0 → (t' : ℕ) → t' ≡ t → {out₂ : Bytes} {m : ℕ} → Emits w out₁ at (line 34 t' to.count 0 [] ∷ []) out₂ m
      → Emits w out at (value_lines t vs) out₂ to.next
  unfolding value_lines
  lines-some ne f t' k {out₂} {m} q = go vs p
    where
      go : (vs : List Bytes) → Counted w out from vs out₁ to → Emits w out at (value_lines t vs) out₂ to.next
      go [] r = absurd (ne (omega (arith, zeroed, r.counted)))
      go (v ∷ vs) r =
          let c : to.count ≡ length (v ∷ vs) = omega (arith, zeroed, r.counted) in
          emits-before w out at (line 34 t (length (v ∷ vs)) 0 []) (map (line 35 0 0 0) (v ∷ vs)) (omega (arith, f)) r.lines
          (subst (λ (u : ℕ). Emits w out₁ at (line 34 u (length (v ∷ vs)) 0 [] ∷ []) out₂ m) k (subst (λ (x : ℕ). Emits w out₁ at (line 34 t' x 0 [] ∷ []) out₂ m) c q))
