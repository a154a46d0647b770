-- List and search by entry numbers: which entries are returned, and what is returned of a child.
use Rattle.std.specs.Prelude.{◌≡◌, ℕ, suc, ◌≤◌, ◌<◌, Bool, true, ◌&&◌, ◌||◌, get_or, drop, eqb, Some}
use Rattle.std.proofs.Math.Path.{sym, ap}
use Rattle.std.proofs.Common.{◌∙◌, arith, eqb-true}
use Rattle.std.proofs.Math.Bool.{cond}
use mathlib.Core.List.{List, [], ◌∷◌, map}
use Rattle.std.proofs.Math.ListN.{length}
use Rattle.std.proofs.Math.Seq.{drop_at}
use Rattle.rules.specs.Sheet.{line, bit}
use Rattle.rules.specs.Name.{Name, same_name, covers, child_of}
use Rattle.rules.specs.Directory.{Stored, blank, name_at, entry_of, Alias}
use Rattle.rules.specs.Permission.{Read, Browse, ReturnDN}
use Rattle.rules.specs.Decision.{Setting, entry, granted}
use Rattle.rules.specs.Aliases.{aliased}
use Rattle.rules.specs.Answer.{listed, list_hit, in_subset, candidate}
use Rattle.tables.specs.Numbers.{walk, climbs, within_number}
use Rattle.rules.proofs.Laws.Name.{same_length}
use Rattle.rules.specs.Derived.{Accepted}
use Rattle.tables.specs.Laws.Resolve.{base-found}
use Rattle.tables.specs.Laws.ByNumber.{named-is, child-by-number, below-by-number}

module _ (σ : Setting) (es : List Stored) (ok : Accepted σ.schema es) (n : Name) (b : ℕ) (walked : walk σ.schema es 0 n ≡ Some b) (k : ℕ) (l : k < length es) where
  base : (b ≤ length es) × (same_name σ.schema n (name_at es b) ≡ true)
  base = base-found σ.schema es ok n b walked

  child : child_of σ.schema n (get_or es k blank).name ≡ eqb (get_or es k blank).parent b
  child = child-by-number σ.schema es ok n b base.0 base.1 k l

  same_number : same_name σ.schema n (get_or es k blank).name ≡ eqb (suc k) b
  unfolding name_at
  same_number = named-is σ.schema es ok n b base.0 base.1 (suc k) l

  pub listed-number : listed σ n (entry_of (get_or es k blank))
      ≡ (eqb (get_or es k blank).parent b && (granted σ (get_or es k blank).name entry Browse && granted σ (get_or es k blank).name entry ReturnDN))
  unfolding listed entry_of
  listed-number = ap (λ (c : Bool). c && (granted σ (get_or es k blank).name entry Browse && granted σ (get_or es k blank).name entry ReturnDN)) child

  within-number : (s : ℕ) → in_subset σ s n (get_or es k blank).name ≡ within_number es s b (suc k)
  unfolding in_subset within_number name_at
  within-number s =
      λ i. cond (eqb s 0) (same_number i) (cond (eqb s 1) (child i) (below i))
    where
      below : covers σ.schema n (get_or es k blank).name ≡ climbs es (suc k) b (suc k)
      below = below-by-number σ.schema es ok n b base.0 base.1 (suc k) (suc k) (omega arith) l

  pub candidate-number : (s : ℕ) → candidate σ n s (entry_of (get_or es k blank))
      ≡ (within_number es s b (suc k)
      && ((granted σ (get_or es k blank).name entry Browse || eqb (suc k) b && granted σ (get_or es k blank).name entry Read) && granted σ (get_or es k blank).name entry ReturnDN))
  unfolding candidate entry_of
  candidate-number s =
      λ i. within-number s i && ((granted σ (get_or es k blank).name entry Browse || same_number i && granted σ (get_or es k blank).name entry Read) && granted σ (get_or es k blank).name entry ReturnDN)

  -- what is returned of a child: its naming part
  pub child-hit : (as' : List Alias) → eqb (get_or es k blank).parent b ≡ true
      → list_hit σ as' n (entry_of (get_or es k blank))
      ≡ line 32 (get_or es k blank).naming.type 0 (bit (aliased σ.schema as' (get_or es k blank).name)) (get_or es k blank).naming.value ∷ []
  unfolding list_hit entry_of
  child-hit as' e =
      ap (λ (m : Name). map (λ p. line 32 p.type 0 (bit (aliased σ.schema as' (get_or es k blank).name)) p.value) m)
      (ap (drop (length n)) (ok.names k l)
      ∙ drop_at (name_at es (get_or es k blank).parent) ((get_or es k blank).naming ∷ []) (length n)
      (ap (λ (j : ℕ). length (name_at es j)) (eqb-true (get_or es k blank).parent b e) ∙ sym (same_length σ.schema n (name_at es b) base.1)))
