-- Laws of `Selected`: a noted request selects, the ranks listed one by one, and all ranks.
use Prim.Native.Nat.{ℕ, zero, suc, ◌-◌, ◌*◌, ◌%◌, ◌^◌, ◌≤◌, ◌<◌}
use Rattle.std.specs.Prelude.{◌≡◌, Bool, true, false, ◌&&◌, ◌||◌, length}
use Rattle.std.proofs.Math.Path.{refl, sym, ap}
use Rattle.std.proofs.Common.{◌∙◌, arith}
use Rattle.std.proofs.Math.Bool.{not, or_comm}
use mathlib.Core.List.{List, [], ◌∷◌}
use Rattle.std.specs.Int.Bits.{bit_or}
use Rattle.std.proofs.Math.Dec.{eqb}
use borrow.Author.Tests.{eq-eqb, ne_eqb, eqb-true, eqb-false}
use Rattle.rules.specs.Lists.{any, is_empty}
use Rattle.rules.specs.Sheet.{Bytes}
use Rattle.rules.specs.Judge.{Grammar}
use Rattle.rules.specs.Request.{Selection, Operation, read, compare, list, search}
use Rattle.rules.specs.Answer.{selected}
use Rattle.rules.specs.Places.{lines_at, types_of}
use Rattle.rules.proofs.Laws.Tests.{and_left, and_right}
use Rattle.sheet_line.specs.Line.{taken_at}
use Rattle.sheet_line.specs.Laws.{lines_by, taken-lines}
use Rattle.sheet_line.specs.declared.Line.{Line}
use Rattle.sheet_line.specs.declared.Taken.{Taken}
use Rattle.name.specs.Schema.{rank_in}
use Rattle.name.specs.Laws.Schema.{rank-first}
use Rattle.request_sheet.specs.Noted as Requests
use Rattle.request_sheet.specs.declared.Asked.{Asked}
use Rattle.access_set.specs.Member.{bit_of}
use Rattle.access_set.specs.Laws.Bit.{bit-or, bit-pow, one_shl}
use Rattle.tables.specs.Held.{type_at, Distinct}
use Rattle.tables.specs.declared.plan.Choice.{Choice}
use Rattle.tables.specs.Choice.{Chooses}
use Rattle.answer_choice.specs.Selected.{nothing_selected, selection_of, Selects}

module _ (w : ℕ) (q : Bytes) (r : Asked) where
  selects : (s : Selection) → Requests.NotedSelection w q s r → Selects w q s r
  selects s n = record { listed = sym n.listed; types = n.types; count = n.count; few = n.most; values = sym n.values }

  selects-none : Requests.NoSelection r → Selects w q nothing_selected r
  unfolding types_of
  selects-none n = record {
    listed = sym n.listed;
    types = ap (λ (m : ℕ). types_of m (lines_at w q r.types)) n.count;
    count = sym n.count;
    few = let z : r.types_listed ≡ 0 = n.count in omega arith;
    values = sym n.values;
  }

  pub selection-noted : (G : Grammar) (o : Operation) → Requests.NotedOperation G w q o r → Selects w q (selection_of o) r
  selection-noted G (read s) n = selects s n.selection
  selection-noted G (compare t v) n = selects-none n.no-selection
  selection-noted G (list limit) n = selects-none n.no-selection
  selection-noted G (search s) n = selects s.selection n.selection

-- ---- one type more

module _ (ks : List ℕ) (t : ℕ) where
  -- the type of rank `i` is the one: its bit is set
  same_rank : Distinct ks → (i : ℕ) → i < length ks → type_at ks i ≡ t → (r : ℕ) → r < length ks → eqb r i ≡ eqb (type_at ks r) t
  same_rank distinct i l e r m = go (eqb (type_at ks r) t) refl
    where
      go : (b : Bool) → eqb (type_at ks r) t ≡ b → eqb r i ≡ b
      go true q = eq-eqb r i (distinct r i m l (eqb-true (type_at ks r) t q ∙ sym e))
      go false q = ne_eqb r i (λ z. eqb-false (type_at ks r) t q (ap (type_at ks) z ∙ e))

  -- .. as the code sets it
  pub rank-in : Distinct ks → (i : ℕ) → i < length ks → i < 64 → type_at ks i ≡ t → (ranks : ℕ) (r : ℕ) → r < length ks
      → bit_of (bit_or ranks (1 * 2 ^ i % 2 ^ 64)) r ≡ (eqb (type_at ks r) t || bit_of ranks r)
  rank-in distinct i l small e ranks r m =
      bit-or ranks (1 * 2 ^ i % 2 ^ 64) r
      ∙ ap (λ (x : ℕ). bit_of ranks r || bit_of x r) (one_shl i small)
      ∙ ap (λ (b : Bool). bit_of ranks r || b) (bit-pow i r ∙ same_rank distinct i l e r m)
      ∙ or_comm (bit_of ranks r) (eqb (type_at ks r) t)

  -- no rank has it
  pub rank-out : length ks ≤ rank_in ks t → (ranks r : ℕ) → r < length ks → bit_of ranks r ≡ (eqb (type_at ks r) t || bit_of ranks r)
  rank-out none ranks r m = ap (λ (b : Bool). b || bit_of ranks r) (sym (ne_eqb (type_at ks r) t (λ e. absurd (omega (arith, none, m, rank-first ks t r m e)))))

-- ---- the lines one by one

-- the types listed, by what was taken at the first line
abbrev types_by : ℕ → Bytes → ℕ → Taken → List ℕ
types_by w q n (Taken.Line x) = x.a ∷ types_of n (lines_at w q x.next)
types_by w q n Taken.NotInForm = []
types_by w q n Taken.End = []

types-by : (w : ℕ) (q : Bytes) (j n : ℕ) → 0 < n → (x : Taken) → taken_at w q j ≡ x → types_of n (lines_at w q j) ≡ types_by w q (n - 1) x
unfolding types_of
types-by w q j zero h x e = absurd (omega arith)
types-by w q j (suc n) h x e = let z : suc n - 1 ≡ n = omega arith in rw z (ap (types_of (suc n)) (taken-lines w q j ∙ ap (lines_by w q) e) ∙ go x)
  where
    go : (x : Taken) → types_of (suc n) (lines_by w q x) ≡ types_by w q n x
    go (Taken.Line x) = refl
    go Taken.NotInForm = refl
    go Taken.End = refl

module _ (w : ℕ) (q : Bytes) (j : ℕ) (test : ℕ → Bool) where
  pub listed-done : (left : ℕ) → left ≤ 0 → any test (types_of left (lines_at w q j)) ≡ false
  unfolding types_of
  listed-done zero h = refl
  listed-done (suc left) h = absurd (omega arith)

  module _ (left : ℕ) (h : 0 < left) where
    pub listed-broken : taken_at w q j ≡ Taken.NotInForm → any test (types_of left (lines_at w q j)) ≡ false
    listed-broken e = ap (any test) (types-by w q j left h Taken.NotInForm e)

    pub listed-end : taken_at w q j ≡ Taken.End → any test (types_of left (lines_at w q j)) ≡ false
    listed-end e = ap (any test) (types-by w q j left h Taken.End e)

    -- what was found so far, with one line more
    pub listed_more : (x : Line) → taken_at w q j ≡ Taken.Line x → (old new all : Bool) → new ≡ (test x.a || old)
        → (old || any test (types_of left (lines_at w q j))) ≡ all → (new || any test (types_of (left - 1) (lines_at w q x.next))) ≡ all
    listed_more x f old new all e inv =
        ap (λ (b : Bool). b || rest) e ∙ turn (test x.a) old rest ∙ ap (λ (ts : List ℕ). old || any test ts) (sym (types-by w q j left h (Taken.Line x) f)) ∙ inv
      where
        rest : Bool
        rest = any test (types_of (left - 1) (lines_at w q x.next))

        turn : (x b r : Bool) → ((x || b) || r) ≡ (b || (x || r))
        turn true true r = refl
        turn true false r = refl
        turn false b r = refl

-- nothing is left
pub or-none : (b x : Bool) → x ≡ false → b ≡ (b || x)
or-none true x e = refl
or-none false x e = sym e

-- ---- all ranks

below : (ℕ → Bool) → ℕ → Bool
below test zero = true
below test (suc n) = test n && below test n

below_at : (test : ℕ → Bool) (n : ℕ) → below test n ≡ true → (r : ℕ) → r < n → test r ≡ true
unfolding below
below_at test zero h r l = absurd (omega arith)
below_at test (suc n) h r l = go (eqb r n) refl (λ e m. below_at test n e r m)
  where
    go : (t : Bool) → eqb r n ≡ t → (below test n ≡ true → r < n → test r ≡ true) → test r ≡ true
    go true e ih = ap test (eqb-true r n e) ∙ and_left (test n) (below test n) h
    go false e ih = let d : r ≡ n → ⊥ = eqb-false r n e in ih (and_right (test n) (below test n) h) (omega arith)

pub all-ranks : (r : ℕ) → r < 64 → bit_of 18446744073709551615 r ≡ true
unfolding below bit_of
all-ranks r l = below_at (bit_of 18446744073709551615) 64 refl r l

-- ---- the whole selection

module _ (w : ℕ) (q : Bytes) (asked : Asked) (s : Selection) (h : Selects w q s asked) (schema : List ℕ) where
  pub chooses-listed : asked.listed ≡ true → (c : Choice)
      → ((k : ℕ) → k < length schema → bit_of c.ranks k ≡ any (eqb (type_at schema k)) (types_of asked.types_listed (lines_at w q asked.types)))
      → c.values ≡ asked.values → c.nothing ≡ eqb asked.types_listed 0 → Chooses schema s c
  unfolding selected
  chooses-listed e c ranks values nothing = record {
    ranks = λ r l. ranks r l ∙ ap (any (eqb (type_at schema r))) h.types ∙ sym (ap (λ (b : Bool). not b || any (eqb (type_at schema r)) s.types) (h.listed ∙ e));
    values = values ∙ sym h.values;
    nothing = nothing ∙ ap (λ (n : ℕ). eqb n 0) (sym h.count) ∙ none s.types ∙ sym (ap (λ (b : Bool). b && is_empty s.types) (h.listed ∙ e));
  }
    where
      none : (ts : List ℕ) → eqb (length ts) 0 ≡ is_empty ts
      none [] = refl
      none (t ∷ ts) = ne_eqb (suc (length ts)) 0 (λ z. omega arith)

  pub chooses-all : asked.listed ≡ false → length schema ≤ 64 → (c : Choice) → c.ranks ≡ 18446744073709551615 → c.values ≡ asked.values → c.nothing ≡ false → Chooses schema s c
  unfolding selected
  chooses-all e few c ranks values nothing = record {
    ranks = λ r l. ap (λ (x : ℕ). bit_of x r) ranks ∙ all-ranks r (omega arith) ∙ sym (ap (λ (b : Bool). not b || any (eqb (type_at schema r)) s.types) (h.listed ∙ e));
    values = values ∙ sym h.values;
    nothing = nothing ∙ sym (ap (λ (b : Bool). b && is_empty s.types) (h.listed ∙ e));
  }
