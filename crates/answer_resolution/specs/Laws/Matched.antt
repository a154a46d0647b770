-- Down from the root, part by part, with the last entry on the way that is disclosed: it has the matched name.
use Prim.Native.Nat.{ℕ, zero, suc, ◌+◌, ◌-◌, ◌≤◌, ◌<◌}
use Rattle.std.specs.Prelude.{◌≡◌, Bool, cond, List, [], ◌∷◌, map, get_or, take, drop, Some, None}
use Rattle.std.proofs.Math.Path.{refl, ap}
use Rattle.std.proofs.Common.{sym, ◌∙◌, add-zero, drop-cons}
use Rattle.std.proofs.Math.Bool.{true, false}
use native.Mathlib.Omega.{arith}
use Rattle.std.proofs.Math.ListN.{length}
use Rattle.rules.specs.Name.{part, Name}
use Rattle.rules.specs.Directory.{Stored, blank, name_at, entry_of}
use Rattle.rules.specs.Permission.{DiscloseOnError}
use Rattle.rules.specs.Decision.{Setting, entry, granted}
use Rattle.rules.specs.Answer.{or_name, matched_name}
use Rattle.rules.specs.Derived.{Accepted}
use Rattle.tables.specs.Numbers.{on_found, child_from, walk}
use Rattle.tables.specs.Laws.Resolve.{walk_more, entry_by, numbered, filtered, matched-step}
use Rattle.tables.specs.Sets.{granted_at}
use Rattle.directory_lookup.specs.Find.{by_child}
use Rattle.answer_resolution.specs.Resolution.{last_of}
use Rattle.rules.specs.Value.{Found}

-- the last number disclosed on the way from number `from` by the parts, `last` where there is none
unfoldable pub descend : Setting → List Stored → ℕ → ℕ → Name → ℕ
descend σ es from last [] = last
descend σ es from last (p ∷ ps) = by_child last (λ k. descend σ es k (last_of σ es k last) ps) (child_from σ.schema from p es 0)

module _ (σ : Setting) (es : List Stored) (ok : Accepted σ.schema es) (n : Name) where
  -- the name of the entry disclosed, if there is one
  shown : Name → Found → Name
  shown m f = or_name m (filtered (λ e. granted σ e.name entry DiscloseOnError) (entry_by es f))

  -- what is not there has nothing below it
  lost : (c i : ℕ) → i + c ≤ length n → walk σ.schema es 0 (take i n) ≡ None → matched_name σ (map entry_of es) n (i + c) ≡ matched_name σ (map entry_of es) n i
  unfolding shown
  lost zero i h q = ap (matched_name σ (map entry_of es) n) (add-zero i)
  lost (suc c) i h q =
      let z : i + suc c ≡ suc i + c = omega arith in
      let q' : walk σ.schema es 0 (take (suc i) n) ≡ None
      = walk_more σ.schema es n i (part 0 []) (omega arith) ∙ ap (λ (f : Found). on_found f (λ j. child_from σ.schema j (get_or n i (part 0 [])) es 0)) q in
      ap (matched_name σ (map entry_of es) n) z
      ∙ lost c (suc i) (omega arith) q'
      ∙ matched-step σ es ok n i
      ∙ ap (shown (matched_name σ (map entry_of es) n i)) q'

  -- one part more, found
  remembered : (k last : ℕ) (m : Name) → name_at es last ≡ m → name_at es (last_of σ es k last) ≡ shown m (Some k)
  unfolding name_at numbered entry_of granted_at shown
  remembered zero last m h = h
  remembered (suc k) last m h = go (granted σ (get_or es k blank).name entry DiscloseOnError) refl
    where
      go : (b : Bool) → granted σ (get_or es k blank).name entry DiscloseOnError ≡ b → name_at es (cond b (suc k) last) ≡ shown m (Some (suc k))
      go true e = rw e
      go false e = rw e h

  -- the parts from index `i` on
  descends : (c i from last : ℕ) → i + c ≤ length n → walk σ.schema es 0 (take i n) ≡ Some from → name_at es last ≡ matched_name σ (map entry_of es) n i
      → name_at es (descend σ es from last (take c (drop i n))) ≡ matched_name σ (map entry_of es) n (i + c)
  unfolding descend shown
  descends zero i from last h q e = e ∙ ap (matched_name σ (map entry_of es) n) (sym (add-zero i))
  descends (suc c) i from last h q e =
      ap (λ (ps : Name). name_at es (descend σ es from last (take (suc c) ps))) (drop-cons n i (part 0 []) l)
      ∙ go (child_from σ.schema from (get_or n i (part 0 [])) es 0) refl (λ x m. descends c (suc i) x m (omega arith))
    where
      l : i < length n
      l = omega arith

      z : i + suc c ≡ suc i + c
      z = omega arith

      onward : walk σ.schema es 0 (take (suc i) n) ≡ child_from σ.schema from (get_or n i (part 0 [])) es 0
      onward = walk_more σ.schema es n i (part 0 []) l ∙ ap (λ (f : Found). on_found f (λ j. child_from σ.schema j (get_or n i (part 0 [])) es 0)) q

      go : (f : Found) → child_from σ.schema from (get_or n i (part 0 [])) es 0 ≡ f
          → ((x m : ℕ) → walk σ.schema es 0 (take (suc i) n) ≡ Some x → name_at es m ≡ matched_name σ (map entry_of es) n (suc i)
          → name_at es (descend σ es x m (take c (drop (suc i) n))) ≡ matched_name σ (map entry_of es) n (suc i + c))
          → name_at es (by_child last (λ x. descend σ es x (last_of σ es x last) (take c (drop (suc i) n))) f) ≡ matched_name σ (map entry_of es) n (i + suc c)
      go (Some k) f ih =
          ih k (last_of σ es k last) (onward ∙ f)
          (remembered k last (matched_name σ (map entry_of es) n i) e
          ∙ ap (shown (matched_name σ (map entry_of es) n i)) (sym (onward ∙ f))
          ∙ sym (matched-step σ es ok n i))
          ∙ ap (matched_name σ (map entry_of es) n) (sym z)
      go None f ih =
          e
          ∙ ap (shown (matched_name σ (map entry_of es) n i)) (sym (onward ∙ f))
          ∙ sym (matched-step σ es ok n i)
          ∙ sym (lost c (suc i) (omega arith) (onward ∙ f))
          ∙ ap (matched_name σ (map entry_of es) n) (sym z)

-- the proper beginnings of a name
pub descend-matched : (σ : Setting) (es : List Stored) → Accepted σ.schema es → (n : Name)
    → name_at es (descend σ es 0 0 (take (length n - 1) n)) ≡ matched_name σ (map entry_of es) n (length n - 1)
unfolding name_at matched_name walk
descend-matched σ es ok n = let z : 0 + (length n - 1) ≡ length n - 1 = omega arith in descends σ es ok n (length n - 1) 0 0 0 (omega arith) refl refl ∙ ap (matched_name σ (map entry_of es) n) z
