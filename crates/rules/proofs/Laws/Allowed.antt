-- #106: every value that an entry of an accepted directory holds is one that its type's syntax allows.
use Rattle.std.specs.Prelude.{ℕ, ◌≡◌, Bool, cond}
use Rattle.std.proofs.Math.Path.{refl}
use Rattle.std.proofs.Common.{subst, eqb-true}
use Rattle.std.proofs.Math.Bool.{true, false}
use mathlib.Core.List.{List, [], ◌∷◌, map}
use Rattle.std.proofs.Math.Dec.{eqb}
use Rattle.rules.specs.Name.{Schema, Part, allowed}
use Rattle.rules.specs.Directory.{Stored, Held, hold, held_of, Entry, entry_of}
use Rattle.rules.specs.Derived.{Each, ValuesAllowed, Accepted}
use Rattle.rules.proofs.Laws.Each.{each_map, each-mapped}

module _ (S : Schema) where
  abbrev pub HeldAllowed : Held → Type 0
  HeldAllowed h = Each (λ v. allowed S h.type v ≡ true) h.values

  abbrev pub EntryAllowed : Entry → Type 0
  EntryAllowed e = Each HeldAllowed e.held

  hold-allowed : (p : Part) → allowed S p.type p.value ≡ true → (hs : List Held) → Each HeldAllowed hs → Each HeldAllowed (hold p hs)
  unfolding hold
  hold-allowed p a [] k = ((a, tt), tt)
  hold-allowed p a (h ∷ hs) k = go (eqb p.type h.type) refl
    where
      go : (b : Bool) → eqb p.type h.type ≡ b
          → Each HeldAllowed (cond b (record { type = h.type; values = p.value ∷ h.values } ∷ hs) (record { type = p.type; values = p.value ∷ [] } ∷ h ∷ hs))
      go true e = ((subst (λ (t : ℕ). allowed S t p.value ≡ true) (eqb-true p.type h.type e) a, k.0), k.1)
      go false e = ((a, tt), k)

  held-allowed : (ps : List Part) → Each (λ p. allowed S p.type p.value ≡ true) ps → Each HeldAllowed (held_of ps)
  unfolding held_of
  held-allowed [] k = tt
  held-allowed (p ∷ ps) k = hold-allowed p k.0 (held_of ps) (held-allowed ps k.1)

  pub entries-allowed : (es : List Stored) → Accepted S es → Each EntryAllowed (map entry_of es)
  unfolding entry_of
  entries-allowed es ok =
      each-mapped EntryAllowed entry_of es (each_map (ValuesAllowed S) (λ e. EntryAllowed (entry_of e)) (λ e. held-allowed e.values) es ok.values)
