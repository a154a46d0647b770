-- Laws of `Sound`: what is known with a name asked for.
use Rattle.std.specs.Prelude.{ℕ, ◌≤◌, ◌≡◌, List, Some}
use Rattle.std.proofs.Common.{◌∙◌, subst, arith}
use Rattle.rules.specs.Sheet.{Bytes}
use Rattle.rules.specs.Name.{Name}
use Rattle.rules.specs.Directory.{Stored}
use Rattle.rules.specs.Decision.{Setting}
use Rattle.tables.specs.Laws.Resolve.{base-found}
use Rattle.rules.specs.Value.{Found}
use Rattle.tables.specs.Book.{entry_count}
use Rattle.tables.specs.World.{Known}
use Rattle.tables.specs.Sound.{Base, KnownBase}

-- the number that a name is found at, and that of the matched name, are numbers of the `count` entries, or the root's, 0
pub record Numbered (count : ℕ) (base : Found) (missing : ℕ) : Type 0 where
  pub found : (b : ℕ) → base ≡ Some b → b ≤ count
  pub matched : missing ≤ count

module _ {d p : Bytes} {book held sets : List ℕ} {base : Found} {missing : ℕ} (h : KnownBase d p book held sets base missing) where
  pub base-known : Known d p book held sets
  base-known = (h.0, h.1, h.3)

  pub base-numbered : Numbered (entry_count book) base missing
  base-numbered = let E = h.3.entries in record {
    found = λ b e. omega (arith, (base-found h.0.schema h.1 E.accepted h.2 b (h.4.walked ∙ e)).0, E.count);
    matched = omega (arith, h.4.within, E.count);
  }

  -- the number that the name is found at, by another word
  pub known_at : (f : Found) → base ≡ f → KnownBase d p book held sets f missing
  known_at f e = subst (λ (x : Found). KnownBase d p book held sets x missing) e h

pub base-at : {σ : Setting} {es : List Stored} {n : Name} {base : Found} {missing : ℕ} → Base σ es n base missing → (f : Found) → base ≡ f → Base σ es n f missing
base-at {σ} {es} {n} {missing = missing} h f e = subst (λ (x : Found). Base σ es n x missing) e h
