-- Laws of `Columns`: what a line in form holds.
use Rattle.std.specs.Prelude.{ℕ, ◌≤◌, ◌≡◌, Bool, ◌&&◌, ◌||◌, [], leb, eqb, length}
use Rattle.std.proofs.Math.Path.{refl}
use Rattle.std.proofs.Common.{sym, leb-true, eqb-true}
use Rattle.std.proofs.Math.Bool.{true, false}
use Rattle.std.proofs.lemmas.Bool.{false≢true}
use Rattle.rules.specs.Sheet.{Line, line}
use Rattle.rules.specs.Columns.{in_range, between, unnamed, free, Form, form, type_range, bytes, part_form, takes, in_form, directory_forms}
use Rattle.rules.proofs.Laws.Tests.{and_left, and_right}
use Rattle.rules.proofs.Laws.Sheet.{no_bytes}

-- the columns of a line that a form takes
columns : (f : Form) (x : Line) → takes f x ≡ true
    → (x.kind ≡ f.kind) × (in_range f.a x.a ≡ true) × (in_range f.b x.b ≡ true) × (in_range f.c x.c ≡ true) × (in_range f.length (length x.bytes) ≡ true)
unfolding takes
columns f x e =
    let e₁ = and_right (eqb x.kind f.kind) _ e in
    let e₂ = and_right (in_range f.a x.a) _ e₁ in
    let e₃ = and_right (in_range f.b x.b) _ e₂ in
    (eqb-true x.kind f.kind (and_left _ _ e), and_left _ _ e₁, and_left _ _ e₂, and_left _ _ e₃, and_right (in_range f.c x.c) _ e₃)

high : (l h n : ℕ) → (leb l n && leb n h) ≡ true → n ≤ h
high l h n e = leb-true n h (and_right (leb l n) _ e)

-- ---- the directory's lines

pub record TypeLine (top : ℕ) (x : Line) : Type 0 where
  pub kind : x.kind ≡ 1
  pub is : line 1 x.a x.b 0 [] ≡ x
  pub type : x.a ≤ top
  pub syntax : x.b ≤ 2
  pub c : x.c ≡ 0
  pub none : length x.bytes ≡ 0

pub record EntryLine (x : Line) : Type 0 where
  pub kind : x.kind ≡ 2
  pub is : line 2 x.a x.b x.c x.bytes ≡ x
  pub mark : x.c ≤ 1
  pub short : length x.bytes ≤ 64

-- a type and bytes: K 3, and K 9
pub record PairLine (k : ℕ) (x : Line) : Type 0 where
  pub kind : x.kind ≡ k
  pub is : line k x.a 0 0 x.bytes ≡ x
  pub b : x.b ≡ 0
  pub c : x.c ≡ 0
  pub short : length x.bytes ≤ 64

pub record TargetLine (x : Line) : Type 0 where
  pub kind : x.kind ≡ 36
  pub is : line 36 0 x.b 0 [] ≡ x
  pub a : x.a ≡ 0
  pub few : x.b ≤ 8
  pub c : x.c ≡ 0
  pub none : length x.bytes ≡ 0

pub data DirectoryLine (top : ℕ) (x : Line) : Type 0 where
  is_type : TypeLine top x → DirectoryLine top x
  is_entry : EntryLine x → DirectoryLine top x
  is_value : PairLine 3 x → DirectoryLine top x
  is_target : TargetLine x → DirectoryLine top x
  is_part : PairLine 9 x → DirectoryLine top x

module _ (top : ℕ) (x : Line) where
  type-line : takes (form 1 (type_range top) (between 0 2) unnamed unnamed) x ≡ true → TypeLine top x
  type-line e =
      let r = columns (form 1 (type_range top) (between 0 2) unnamed unnamed) x e in
      let c = eqb-true x.c 0 r.3 in
      let l = eqb-true (length x.bytes) 0 r.4 in
      let n = no_bytes x.bytes l in
      record { kind = r.0; is = λ i. line (sym r.0 i) x.a x.b (sym c i) (sym n i); type = high 1 top x.a r.1; syntax = high 0 2 x.b r.2; c = c; none = l }

  entry-line : takes (form 2 free (type_range top) (between 0 1) bytes) x ≡ true → EntryLine x
  entry-line e =
      let r = columns (form 2 free (type_range top) (between 0 1) bytes) x e in
      record { kind = r.0; is = λ i. line (sym r.0 i) x.a x.b x.c x.bytes; mark = high 0 1 x.c r.3; short = high 0 64 (length x.bytes) r.4 }

  target-line : takes (form 36 unnamed (between 1 8) unnamed unnamed) x ≡ true → TargetLine x
  target-line e =
      let r = columns (form 36 unnamed (between 1 8) unnamed unnamed) x e in
      let a = eqb-true x.a 0 r.1 in
      let c = eqb-true x.c 0 r.3 in
      let l = eqb-true (length x.bytes) 0 r.4 in
      let n = no_bytes x.bytes l in
      record { kind = r.0; is = λ i. line (sym r.0 i) (sym a i) x.b (sym c i) (sym n i); a = a; few = high 1 8 x.b r.2; c = c; none = l }

  pair_line : (k : ℕ) → takes (form k (type_range top) unnamed unnamed bytes) x ≡ true → PairLine k x
  pair_line k e =
      let r = columns (form k (type_range top) unnamed unnamed bytes) x e in
      let b = eqb-true x.b 0 r.2 in
      let c = eqb-true x.c 0 r.3 in
      record { kind = r.0; is = λ i. line (sym r.0 i) x.a (sym b i) (sym c i) x.bytes; b = b; c = c; short = high 0 64 (length x.bytes) r.4 }

  pub directory-line : in_form (directory_forms top) x ≡ true → DirectoryLine top x
  unfolding in_form directory_forms
  directory-line e = go _ _ _ _ _ refl refl refl refl refl e
    where
      go : (a b c t n : Bool) → takes (form 1 (type_range top) (between 0 2) unnamed unnamed) x ≡ a → takes (form 2 free (type_range top) (between 0 1) bytes) x ≡ b
          → takes (form 3 (type_range top) unnamed unnamed bytes) x ≡ c → takes (form 36 unnamed (between 1 8) unnamed unnamed) x ≡ t → takes (part_form top) x ≡ n
          → (a || (b || (c || (t || (n || false))))) ≡ true → DirectoryLine top x
      go true b c t n p q r s u e = is_type (type-line p)
      go false true c t n p q r s u e = is_entry (entry-line q)
      go false false true t n p q r s u e = is_value (pair_line 3 r)
      go false false false true n p q r s u e = is_target (target-line s)
      go false false false false true p q r s u e = is_part (pair_line 9 u)
      go false false false false false p q r s u e = absurd (false≢true e)
