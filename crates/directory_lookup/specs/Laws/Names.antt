-- A name that stands as K 9 lines, part by part, and names compared part by part.
use Rattle.std.specs.Prelude.{ℕ, zero, suc, ◌-◌, ◌≤◌, ◌<◌, ◌≡◌, refl, true, false, [], ◌∷◌}
use Rattle.std.proofs.Common.{ap, ◌∙◌, arith, eq-eqb, ne_eqb}
use Rattle.rules.specs.Sheet.{Bytes, Sheet}
use Rattle.rules.specs.Name.{Schema, Part, part, Name, equal, same_part, covers}
use Rattle.rules.specs.Places.{lines_at, parts_of}
use Rattle.sheet_line.specs.Line.{taken_at, bytes_of}
use Rattle.sheet_line.specs.Laws.{lines_by, taken-lines}
use Rattle.sheet_line.specs.declared.Taken.{Taken}

-- the parts of a name, by what was taken at its first line
abbrev pub parts_by : ℕ → Bytes → ℕ → Taken → Name
parts_by w s n (Taken.Line x) = part x.a (bytes_of s x) ∷ parts_of n (lines_at w s x.next)
parts_by w s n Taken.NotInForm = []
parts_by w s n Taken.End = []

pub parts-by : (w : ℕ) (s : Bytes) (i n : ℕ) → 0 < n → (x : Taken) → taken_at w s i ≡ x → parts_of n (lines_at w s i) ≡ parts_by w s (n - 1) x
unfolding parts_of
parts-by w s i zero h x e = absurd (omega arith)
parts-by w s i (suc n) h x e = let z : suc n - 1 ≡ n = omega arith in rw z (ap (parts_of (suc n)) (taken-lines w s i ∙ ap (lines_by w s) e) ∙ go x)
  where
    go : (x : Taken) → parts_of (suc n) (lines_by w s x) ≡ parts_by w s n x
    go (Taken.Line x) = refl
    go Taken.NotInForm = refl
    go Taken.End = refl

-- ---- covers, part by part

module _ (S : Schema) (m n : Name) where
  pub covers-all : m ≡ [] → covers S m n ≡ true
  unfolding covers
  covers-all e = rw e

  module _ (a : Part) (as' : Name) (e : m ≡ a ∷ as') where
    pub covers-short : n ≡ [] → covers S m n ≡ false
    unfolding covers
    covers-short f = rw (e, f)

    module _ (b : Part) (bs : Name) (f : n ≡ b ∷ bs) where
      pub covers-apart : same_part S a b ≡ false → covers S m n ≡ false
      unfolding covers
      covers-apart h = rw (e, f, h)

      pub covers-on : same_part S a b ≡ true → covers S m n ≡ covers S as' bs
      unfolding covers
      covers-on h = rw (e, f, h)

-- no parts are left
pub covers-done : (S : Schema) (s : Sheet) (k : ℕ) (n : Name) → k ≤ 0 → covers S (parts_of k s) n ≡ true
unfolding covers parts_of
covers-done S s zero n h = refl
covers-done S s (suc k) n h = absurd (omega arith)

-- no parts are left of the second
pub covers-none : (S : Schema) (m : Name) (a : Part) (as' : Name) (s : Sheet) (k : ℕ) → m ≡ a ∷ as' → k ≡ 0 → covers S m (parts_of k s) ≡ false
unfolding covers parts_of
covers-none S m a as' s k e z = rw (e, z)

module _ (S : Schema) (a b : ℕ) (v u : Bytes) where
  pub part_apart : (a ≡ b → ⊥) → same_part S (part a v) (part b u) ≡ false
  unfolding same_part
  part_apart h = rw (ne_eqb a b h)

  pub part_by : a ≡ b → same_part S (part a v) (part b u) ≡ equal S a v u
  unfolding same_part
  part_by h = rw (eq-eqb a b h)
