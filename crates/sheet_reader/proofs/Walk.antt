-- Steps of a walk over structs. Which local and which field is read is the code's: the cell of local i is the entry `top - 2 * i`, as locals are allocated.
-- What a cell holds is well typed, so that a walk goes on with whatever was read, and is refused where another value is meant.
--     returned     a call has returned a struct: its machine value is the one that the struct is lowered to, so that its fields can be read
--     field_of     an operand that is a field of a local
--     typed        what the cell at an entry holds is well typed
--     copies       a field of a local is copied into another local, whose type may name another lifetime
use mathlib.Core.Path.{◌≡◌, sym, ap, subst}
use Prim.Native.Nat.{ℕ, zero, suc, ◌+◌, ◌*◌, ◌-◌}
use mathlib.Core.Option.{some}
use mathlib.Core.List.{List, [], ◌∷◌}
use seplogic.Ra.Ura.{Ura}
use base.Fraction.{full_share}
use lib.Dec.{T}
use mir.Syntax.{Sym, Ty, ty_struct, Tys, Place, place, field, copy, rv_opd, Body, seq, assign}
use mir.Val.{Val, vstruct, Vals, vnil, vcons, WT, WTs, has_ty}
use mir.Fields.{get_v}
use base.Logic.{ent, sep, guard, via}
use base.Fml.{Share, fat, froom}
use prog.Memory.{field_at}
use prog.Wp.{Env, Spot, spot_of, Calls, Loops}
use types.Logic.{Logic}
use types.Kit.{Item, ‵, given, mean, ⋆, nth, del, put, pop, push, pull, unpull, Goal, Post, runs, lands, Seq, Step, step, ◌$◌, by, use1, learn}
use types.Part.{Part, whole, sub, look_in}
use types.Run.{Walks, Opd, init, stop, fld, from, load, of_opd, assigns}
use denote.Laws.{Is, Typed, shows}
use denote.Steps.{only, peeks}
use denote.Struct.Declared.{Declared, row}
use denote.Struct.Laws.{Laws, Lowered, lawful}

-- a field of a struct that is well typed
wt-field : (vs : Vals) (k : ℕ) → WTs vs → WT (get_v vs k)
wt-field vnil k w = tt
wt-field (vcons v vs) zero w = w.0
wt-field (vcons v vs) (suc k) w = wt-field vs k w.1

module _ {M : Type 1} {𝓤 : Ura M} {𝓛 : Logic 𝓤} {K : Type 0} {Γ : List (Item 𝓤)} where
  open 𝓛 use {H}

  pub typed : K → (n : ℕ) {q : Share} {τ : Ty} {b o : ℕ} {v : Val} {G : Goal 𝓤 H} → nth 𝓛 n Γ ≡ ‵ (fat q τ b o v) → (T (has_ty τ v) × WT v → Seq K 𝓛 Γ G) → Seq K 𝓛 Γ G
  typed t n {q} {τ} {b} {o} {v} {G} at_n k =
      by t (via 𝓤 (sep 𝓤 (mean 𝓛 (nth 𝓛 n Γ)) (⋆ 𝓛 (del 𝓛 n Γ))) (pull 𝓛 n Γ)
      (via 𝓤 (⋆ 𝓛 (nth 𝓛 n Γ ∷ del 𝓛 n Γ)) (push 𝓛 (nth 𝓛 n Γ) (del 𝓛 n Γ)) held.prf))
    where
      held : Seq K 𝓛 (nth 𝓛 n Γ ∷ del 𝓛 n Γ) G
      held =
          use1 𝓛 (given (T (has_ty τ v) × WT v) (nth 𝓛 n Γ)) (subst (λ (j : Item 𝓤). ent 𝓤 (mean 𝓛 j) (guard 𝓤 (T (has_ty τ v) × WT v) (mean 𝓛 j))) (sym at_n) (𝓛.laws.at_wt q τ b o v)) $
          learn t (λ wt. by t (via 𝓤 (sep 𝓤 (mean 𝓛 (nth 𝓛 n Γ)) (⋆ 𝓛 (del 𝓛 n Γ))) (pop 𝓛 (nth 𝓛 n Γ) (del 𝓛 n Γ)) (via 𝓤 (⋆ 𝓛 Γ) (unpull 𝓛 n Γ) (k wt).prf)))

module _ {M : Type 1} {𝓤 : Ura M} {𝓛 : Logic 𝓤} {K : Type 0} {Γ : List (Item 𝓤)} {E : Env 𝓤 𝓛.H} where
  open 𝓛 use {H}

  pub returned : K → {C : Calls 𝓤 H} {Λ : Loops 𝓤 H} {d : Place} {rest : Body} {q : Post 𝓤 H} (N : Declared) (L : Laws N) (l : Lowered N) (r : N.D) (u : Val)
      → (Is (row N) r (l.lowered r ∷ []) → Typed (row N).mir (l.lowered r ∷ []) → Seq K 𝓛 (‵ ((row N).own_val r (l.lowered r ∷ [])) ∷ Γ) (lands C Λ E d (l.lowered r) rest q))
      → Seq K 𝓛 (‵ ((row N).own_val r (u ∷ [])) ∷ Γ) (lands C Λ E d u rest q)
  returned t {C} {Λ} {d} {rest} {q} N L l r u k =
      peeks t (row N) (Is (row N)) (shows 𝓛 (row N)) r (u ∷ []) (λ is.
      let low = l.val_is r (u ∷ []) is in
      let isl = subst (Is (row N) r) low is in
      subst (λ (w : Val). Seq K 𝓛 (‵ ((row N).own_val r (w ∷ [])) ∷ Γ) (lands C Λ E d w rest q)) (sym (ap only low)) (k isl ((lawful N L 𝓛).typed r _ isl)))

  pub field_of : K → (top : ℕ) {i k : ℕ} {q : Share} {ν : Sym} {τs : Tys} {b o : ℕ} {vs : Vals} {τ : Ty} {d : ℕ}
      → spot_of 𝓤 H E i ≡ (ty_struct ν τs, b, o) → nth 𝓛 (top - 2 * i) Γ ≡ ‵ (fat q (ty_struct ν τs) b o (vstruct vs)) → field_at zero τs k ≡ some (τ, d)
      → Opd K 𝓛 Γ E (copy (place i (field k ∷ []))) (get_v vs k)
  field_of t top {i} {k} {q} {ν} {τs} {b} {o} {vs} {τ} {d} here at_i at-k =
      load t (from t (subst (λ (sp : Spot 𝓤 H). Walks K 𝓛 Γ E sp (field k ∷ []) (τ, b, o + d)) (sym here) (fld t at-k (stop t))))
      (look_in t (top - 2 * i) (sub t k at-k (subst (λ (j : Item 𝓤). Part K 𝓛 j q (ty_struct ν τs) b o (vstruct vs) (λ u. ‵ (fat q (ty_struct ν τs) b o u))) (sym at_i) (whole t))))

  pub copies : K → {C : Calls 𝓤 H} {Λ : Loops 𝓤 H} {rest : Body} {p : Post 𝓤 H} (top : ℕ) {i k c : ℕ} {q : Share} {ν : Sym} {τs : Tys} {b o : ℕ} {vs : Vals} {τ τ' : Ty} {d b' o' : ℕ}
      → spot_of 𝓤 H E i ≡ (ty_struct ν τs, b, o) → nth 𝓛 (top - 2 * i) Γ ≡ ‵ (fat q (ty_struct ν τs) b o (vstruct vs)) → field_at zero τs k ≡ some (τ, d)
      → spot_of 𝓤 H E c ≡ (τ', b', o') → nth 𝓛 (top - 2 * c) Γ ≡ ‵ (froom τ' b' o') → T (has_ty τ' (get_v vs k))
      → Step K 𝓛 (put 𝓛 (top - 2 * c) (‵ (fat full_share τ' b' o' (get_v vs k))) Γ) (runs C Λ E rest p) Γ (runs C Λ E (seq (assign (place c []) (rv_opd (copy (place i (field k ∷ []))))) rest) p)
  copies t top {i} {k} {c} {q} {ν} {τs} {b} {o} {vs} {τ} {τ'} {d} {b'} {o'} here at_i at-k there at_c has = step (λ s.
      typed t (top - 2 * i) at_i (λ wt.
      assigns t {sp = (τ', b', o')} (of_opd t (field_of t top here at_i at-k)) (from t (subst (λ (sp : Spot 𝓤 H). Walks K 𝓛 Γ E sp [] (τ', b', o')) (sym there) (stop t))) (init t (top - 2 * c) at_c (has, wt-field vs k wt.1)) $ s))
