-- Laws of `Lines`: what the rules take from the lines that are due, going on by a continuation, the code finds at their positions.
use Prim.Native.Nat.{ℕ, zero, suc, ◌+◌, ◌-◌, ◌≤◌, ◌<◌}
use Rattle.std.specs.Prelude.{◌≡◌, Bool, not, List, [], ◌∷◌, map, length}
use Rattle.std.proofs.Math.Path.{refl, ap}
use Rattle.std.proofs.Common.{sym, ◌∙◌, sub-one, ne_eqb, eqb-true}
use Rattle.std.proofs.Math.Bool.{true, false, cond}
use native.Mathlib.Omega.{arith}
use Rattle.std.proofs.Math.Dec.{eqb}
use Rattle.std.proofs.lemmas.Bool.{eqb-false}
use Rattle.rules.specs.Sheet.{Bytes, Sheet, end, broken, row}
use Rattle.rules.specs.Sheet as Rules
use Rattle.rules.specs.Columns.{Form, in_form}
use Rattle.rules.specs.Name.{part}
use Rattle.rules.specs.Judge.{Verdict, refuse, refuse_if, Grammar, misplaced, due, due_lines, name_of}
use Rattle.rules.specs.Places.{lines_at, parts_of, types_of}
use Rattle.sheet_form.specs.Columns.{in_form_of, columns_in}
use Rattle.sheet_form.specs.Laws.Columns.{columns-in-form}
use Rattle.sheet_line.specs.Line.{taken_at, line_of}
use Rattle.sheet_line.specs.Laws.{lines_by, LineFits, taken-lines, taken-fits-line}
use Rattle.sheet_line.specs.declared.Line.{Line}
use Rattle.sheet_line.specs.declared.Taken.{Taken}
use Rattle.sheet_due.specs.declared.Seen.{Seen}
use Rattle.sheet_due.specs.Outcomes.{Due, Reached, Group}
use Rattle.sheet_due.specs.Lines.{seen_by, seen_at, misplaced_by, not_due, after_due, due_by, due_at, lines_due, group_at}

-- ---- what stands at a position

-- by what was seen: nothing, a line not in form or not allowed, or a line and what follows it
abbrev pub on_seen : {B : Type 0} → ℕ → Bytes → B → B → (Rules.Line → Sheet → B) → Seen → B
on_seen w s none wrong found (Seen.Line x) = found (line_of s x) (lines_at w s x.next)
on_seen w s none wrong found Seen.NotAllowed = wrong
on_seen w s none wrong found Seen.Missing = none

-- what a judge makes of the lines from a position on, it makes of what is seen there
module _ {B : Type 0} (forms : List Form) (w : ℕ) (s : Bytes) (at : ℕ) (f : Sheet → B) (none wrong : B) (found : Rules.Line → Sheet → B)
    (at-end : f end ≡ none) (at-broken : f broken ≡ wrong)
    (at-wrong : (x : Rules.Line) (rest : Sheet) → in_form forms x ≡ false → f (row x rest) ≡ wrong)
    (at-found : (x : Rules.Line) (rest : Sheet) → in_form forms x ≡ true → f (row x rest) ≡ found x rest) where
  seen-line : (x : Line) (t : Bool) → in_form forms (line_of s x) ≡ t
      → f (row (line_of s x) (lines_at w s x.next)) ≡ on_seen w s none wrong found (cond t (Seen.Line x) Seen.NotAllowed)
  seen-line x true i = at-found _ _ i
  seen-line x false i = at-wrong _ _ i

  seen-taken : (x : Taken) → taken_at w s at ≡ x → f (lines_by w s x) ≡ on_seen w s none wrong found (seen_by forms x)
  seen-taken (Taken.Line x) e = seen-line x (columns_in forms x) (sym (columns-in-form forms w s at e))
  seen-taken Taken.NotInForm e = at-broken
  seen-taken Taken.End e = at-end

  pub by-seen : f (lines_at w s at) ≡ on_seen w s none wrong found (seen_at forms w s at)
  unfolding seen_at
  by-seen = ap f (taken-lines w s at) ∙ seen-taken (taken_at w s at) refl

-- a line that was seen stands there and is allowed
pub record Stands (forms : List Form) (w : ℕ) (s : Bytes) (at : ℕ) (x : Line) : Type 0 where
  pub lines : lines_at w s at ≡ row (line_of s x) (lines_at w s x.next)
  pub allowed : columns_in forms x ≡ true
  pub fits : LineFits w s at x

module _ (forms : List Form) (w : ℕ) (s : Bytes) (at : ℕ) {x : Line} where
  stands-line : (y : Line) → taken_at w s at ≡ Taken.Line y → (t : Bool) → columns_in forms y ≡ t → cond t (Seen.Line y) Seen.NotAllowed ≡ Seen.Line x → Stands forms w s at x
  stands-line y e true i p =
      let q : y ≡ x = cc in
      let f : taken_at w s at ≡ Taken.Line x = e ∙ ap Taken.Line q in
      record { lines = taken-lines w s at ∙ ap (lines_by w s) f; allowed = sym (ap (columns_in forms) q) ∙ i; fits = taken-fits-line w s at f }
  stands-line y e false i p = absurd (let z : ◌≡◌ {A = ℕ} 0 1 = cc in omega arith)

  stands-taken : (y : Taken) → taken_at w s at ≡ y → seen_by forms y ≡ Seen.Line x → Stands forms w s at x
  stands-taken (Taken.Line y) e p = stands-line y e (columns_in forms y) refl p
  stands-taken Taken.NotInForm e p = absurd (let z : ◌≡◌ {A = ℕ} 0 1 = cc in omega arith)
  stands-taken Taken.End e p = absurd (let z : ◌≡◌ {A = ℕ} 0 1 = cc in omega arith)

  pub seen-stands : seen_at forms w s at ≡ Seen.Line x → Stands forms w s at x
  unfolding seen_at
  seen-stands p = stands-taken (taken_at w s at) refl p

-- ---- no line is due

-- the refusal is never 0
pub misplaced-some : (n : ℕ) (x : Seen) → misplaced_by n x ≡ 0 → ⊥
misplaced-some n (Seen.Line x) z = omega arith
misplaced-some n Seen.NotAllowed z = omega arith
misplaced-some n Seen.Missing z = omega arith

-- it is the rules' refusal
pub misplaced-at : {A : Type 0} (G : Grammar) (w : ℕ) (s : Bytes) (at : ℕ)
    → misplaced {A = A} G (lines_at w s at) ≡ refuse (misplaced_by G.refusals (seen_at G.forms w s at))
unfolding misplaced
misplaced-at {A} G w s at =
    by-seen G.forms w s at (misplaced {A = A} G) (refuse (G.refusals + 3)) (refuse (G.refusals + 2)) (λ x rest. refuse (G.refusals + 3)) refl refl (λ x rest e. rw e) (λ x rest e. rw e)
    ∙ same (seen_at G.forms w s at)
  where
    same : (x : Seen) → on_seen {B = Verdict A} w s (refuse (G.refusals + 3)) (refuse (G.refusals + 2)) (λ x rest. refuse (G.refusals + 3)) x ≡ refuse (misplaced_by G.refusals x)
    same (Seen.Line x) = refl
    same Seen.NotAllowed = refl
    same Seen.Missing = refl

-- ---- a refusal that is handed on

-- the refusal `n`, else `v`
abbrev pub after : {A : Type 0} → ℕ → Verdict A → Verdict A
after n v = cond (eqb n 0) v (refuse n)

-- what follows counts only where there is no refusal
pub after_same : {A : Type 0} (n : ℕ) (u v : Verdict A) → (n ≡ 0 → u ≡ v) → after n u ≡ after n v
after_same {A = A} n u v h = go (eqb n 0) refl
  where
    go : (t : Bool) → eqb n 0 ≡ t → cond t u (refuse n) ≡ cond t v (refuse n)
    go true e = h (eqb-true n 0 e)
    go false e = refl

-- a refusal of a sheet is never 0
some : (n m : ℕ) → eqb (n + suc m) 0 ≡ false
some n m = ne_eqb (n + suc m) 0 (λ z. omega arith)

-- ---- a line of kind `k` is due

-- what a line that was taken tells
pub record Took (G : Grammar) (w : ℕ) (s : Bytes) (r : Reached) (k : ℕ) (x : Line) : Type 0 where
  pub clear : r.refusal ≡ 0
  pub kind : x.kind ≡ k
  pub stands : Stands G.forms w s r.next x

module _ (G : Grammar) (w : ℕ) (s : Bytes) (r : Reached) (k : ℕ) where
  -- by its tests
  took-line : (x : Line) → r.refusal ≡ 0 → seen_at G.forms w s r.next ≡ Seen.Line x → (t u : Bool) → eqb x.kind k ≡ t
      → (d : Due) → d ≡ cond t (cond u (record { refusal = 0; line = x }) (not_due (G.refusals + 4))) (not_due (G.refusals + 3)) → d.refusal ≡ 0 → Took G w s r k d.line
  took-line x z e true true i d p y = rw p (record { clear = z; kind = eqb-true x.kind k i; stands = seen-stands G.forms w s r.next e })
  took-line x z e true false i d p y = absurd (let n : G.refusals + 4 ≡ 0 = sym (ap (λ (d : Due). d.refusal) p) ∙ y in omega arith)
  took-line x z e false u i d p y = absurd (let n : G.refusals + 3 ≡ 0 = sym (ap (λ (d : Due). d.refusal) p) ∙ y in omega arith)

  took-seen : (x : Seen) → r.refusal ≡ 0 → seen_at G.forms w s r.next ≡ x → (due_by G w s k x).refusal ≡ 0 → Took G w s r k (due_by G w s k x).line
  took-seen (Seen.Line x) z e y = took-line x z e (eqb x.kind k) (G.sound (line_of s x)) refl _ refl y
  took-seen Seen.NotAllowed z e y = absurd (omega arith)
  took-seen Seen.Missing z e y = absurd (omega arith)

  pub took : (due_at G w s r k).refusal ≡ 0 → Took G w s r k (due_at G w s r k).line
  unfolding due_at
  took = go (eqb r.refusal 0) refl
    where
      go : (t : Bool) → eqb r.refusal 0 ≡ t → let d = cond t (due_by G w s k (seen_at G.forms w s r.next)) (not_due r.refusal) in d.refusal ≡ 0 → Took G w s r k d.line
      go true e y = took-seen (seen_at G.forms w s r.next) (eqb-true r.refusal 0 e) refl y
      go false e y = absurd (eqb-false r.refusal 0 e y)

-- its columns
pub took-columns : {G : Grammar} {w : ℕ} {s : Bytes} {r : Reached} {k : ℕ} {x : Line} → Took G w s r k x → in_form_of G.forms k x.a x.b x.c x.length ≡ true
took-columns {G} {w} {s} {r} {k} {x} t = sym (ap (λ (k : ℕ). in_form_of G.forms k x.a x.b x.c x.length) t.kind) ∙ t.stands.allowed

-- its end is further on
pub took-further : {G : Grammar} {w : ℕ} {s : Bytes} {r : Reached} {k : ℕ} {x : Line} → Took G w s r k x → r.next < x.next
took-further t = omega (arith, t.stands.fits.place, t.stands.fits.next)

module _ {A : Type 0} (G : Grammar) (w : ℕ) (s : Bytes) (r : Reached) (k : ℕ) (next : Rules.Line → Sheet → Verdict A) where
  -- a line by its tests
  due-line : (x : Line) (t u : Bool) → let d = cond t (cond u (record { refusal = 0; line = x }) (not_due (G.refusals + 4))) (not_due (G.refusals + 3)) in
      refuse_if (not t) (G.refusals + 3) (refuse_if (not u) (G.refusals + 4) (next (line_of s x) (lines_at w s x.next)))
      ≡ after d.refusal (next (line_of s d.line) (lines_at w s d.line.next))
  due-line x true true = refl
  due-line x true false = rw (some G.refusals 3)
  due-line x false u = rw (some G.refusals 2)

  due-seen : (x : Seen) → let d = due_by G w s k x in
      on_seen w s (refuse (G.refusals + 3)) (refuse (G.refusals + 2))
      (λ x rest. refuse_if (not (eqb x.kind k)) (G.refusals + 3) (refuse_if (not (G.sound x)) (G.refusals + 4) (next x rest))) x
      ≡ after d.refusal (next (line_of s d.line) (lines_at w s d.line.next))
  due-seen (Seen.Line x) = due-line x (eqb x.kind k) (G.sound (line_of s x))
  due-seen Seen.NotAllowed = rw (some G.refusals 1)
  due-seen Seen.Missing = rw (some G.refusals 2)

  -- a line that is due by the rules is the line that is due at a position, or its refusal
  pub due-is : let d = due_at G w s r k in
      after r.refusal (due G k (lines_at w s r.next) next) ≡ after d.refusal (next (line_of s d.line) (lines_at w s d.line.next))
  unfolding due misplaced due_at
  due-is = go (eqb r.refusal 0) refl
    where
      go : (t : Bool) → eqb r.refusal 0 ≡ t → let d = cond t (due_by G w s k (seen_at G.forms w s r.next)) (not_due r.refusal) in
          cond t (due G k (lines_at w s r.next) next) (refuse r.refusal) ≡ after d.refusal (next (line_of s d.line) (lines_at w s d.line.next))
      go true e =
          by-seen G.forms w s r.next (λ s. due G k s next) (refuse (G.refusals + 3)) (refuse (G.refusals + 2))
          (λ x rest. refuse_if (not (eqb x.kind k)) (G.refusals + 3) (refuse_if (not (G.sound x)) (G.refusals + 4) (next x rest)))
          refl refl (λ x rest e. rw e) (λ x rest e. rw e)
          ∙ due-seen (seen_at G.forms w s r.next)
      go false e = rw e

-- ---- `n` lines of kind `k` are due

-- the first `n` lines
unfoldable pub first_lines : ℕ → Sheet → List Rules.Line
first_lines zero s = []
first_lines (suc n) end = []
first_lines (suc n) broken = []
first_lines (suc n) (row x rest) = x ∷ first_lines n rest

-- as the parts of a name
pub first-parts : (n : ℕ) (s : Sheet) → name_of (first_lines n s) ≡ parts_of n s
unfolding first_lines name_of parts_of
first-parts zero s = refl
first-parts (suc n) end = refl
first-parts (suc n) broken = refl
first-parts (suc n) (row x rest) = ap (λ r. part x.a x.bytes ∷ r) (first-parts n rest)

-- a name has a part for each line
pub name-length : (ls : List Rules.Line) → length (name_of ls) ≡ length ls
unfolding name_of
name-length [] = refl
name-length (x ∷ ls) = ap suc (name-length ls)

-- as types
pub first-types : (n : ℕ) (s : Sheet) → map (λ t. t.a) (first_lines n s) ≡ types_of n s
unfolding first_lines types_of
first-types zero s = refl
first-types (suc n) end = refl
first-types (suc n) broken = refl
first-types (suc n) (row x rest) = ap (λ r. x.a ∷ r) (first-types n rest)

module _ (G : Grammar) (w : ℕ) (s : Bytes) (k : ℕ) where
  -- one turn of the loop
  pub lines-on : (r : Reached) (n : ℕ) → 0 < n → {d : Due} {e : Reached} → d ≡ due_at G w s r k → e ≡ after_due d → lines_due G w s k n r ≡ lines_due G w s k (n - 1) e
  unfolding lines_due
  lines-on r zero h p q = absurd (omega arith)
  lines-on r (suc n) h p q = rw (sub-one, q, p)

  pub lines_none : (r : Reached) (n : ℕ) → n ≤ 0 → lines_due G w s k n r ≡ r
  unfolding lines_due
  lines_none r n h = let z : n ≡ 0 = omega arith in rw z

  -- a refusal stays
  pub lines_clear : (n : ℕ) (r : Reached) → (lines_due G w s k n r).refusal ≡ 0 → r.refusal ≡ 0
  unfolding lines_due
  lines_clear zero r z = z
  lines_clear (suc n) r z = (took G w s r k (lines_clear n _ z)).clear

  -- lines that were taken end further on, within the sheet
  pub lines-within : (n : ℕ) (r : Reached) → (lines_due G w s k n r).refusal ≡ 0 → r.next ≤ length s → (r.next ≤ (lines_due G w s k n r).next) × ((lines_due G w s k n r).next ≤ length s)
  unfolding lines_due
  lines-within zero r z l = (omega arith, l)
  lines-within (suc n) r z l =
      let f = (took G w s r k (lines_clear n _ z)).stands.fits in
      let q = lines-within n _ z f.within in
      (omega (arith, q.0, f.place, f.next), q.1)

  pub lines-count : (n : ℕ) (r : Reached) → (lines_due G w s k n r).refusal ≡ 0 → length (first_lines n (lines_at w s r.next)) ≡ n
  unfolding lines_due first_lines
  lines-count zero r z = refl
  lines-count (suc n) r z = rw (took G w s r k (lines_clear n _ z)).stands.lines (ap suc (lines-count n _ z))

  -- lines that are due by the rules are the lines that are due at a position, or their refusal
  pub lines_are : {A : Type 0} (n : ℕ) (r : Reached) (next : List Rules.Line → Sheet → Verdict A) → let e = lines_due G w s k n r in
      after r.refusal (due_lines G k n (lines_at w s r.next) next) ≡ after e.refusal (next (first_lines n (lines_at w s r.next)) (lines_at w s e.next))
  unfolding lines_due due_lines first_lines
  lines_are zero r next = refl
  lines_are (suc n) r next =
      let d = due_at G w s r k in
      let e = lines_due G w s k n (after_due d) in
      due-is G w s r k (λ x rest. due_lines G k n rest (λ xs. next (x ∷ xs)))
      ∙ lines_are n (after_due d) (λ xs. next (line_of s d.line ∷ xs))
      ∙ after_same e.refusal (next (line_of s d.line ∷ first_lines n (lines_at w s d.line.next)) (lines_at w s e.next))
      (next (first_lines (suc n) (lines_at w s r.next)) (lines_at w s e.next))
      (λ z. rw (took G w s r k (lines_clear n _ z)).stands.lines)

-- ---- a line of kind `k` is due, and as many of kind `j` as its column B says

-- the lines that a group counts
abbrev pub followers : ℕ → Bytes → Group → List Rules.Line
followers w s g = first_lines g.line.b (lines_at w s g.line.next)

-- what a group that was taken tells
pub record TookGroup (G : Grammar) (w : ℕ) (s : Bytes) (r : Reached) (k : ℕ) (g : Group) : Type 0 where
  pub head : Took G w s r k g.line
  pub count : length (followers w s g) ≡ g.line.b
  pub further : g.line.next ≤ g.next
  pub within : g.next ≤ length s

module _ (G : Grammar) (w : ℕ) (s : Bytes) (r : Reached) (k j : ℕ) where
  -- a group that is due by the rules is the group at a position, or its refusal
  pub group-is : {A : Type 0} (next : Rules.Line → List Rules.Line → Sheet → Verdict A) → let g = group_at G w s r k j in
      after r.refusal (due G k (lines_at w s r.next) (λ x s. due_lines G j x.b s (next x)))
      ≡ after g.refusal (next (line_of s g.line) (followers w s g) (lines_at w s g.next))
  unfolding group_at
  group-is next =
      let d = due_at G w s r k in
      due-is G w s r k (λ x s. due_lines G j x.b s (next x)) ∙ lines_are G w s j d.line.b (after_due d) (next (line_of s d.line))

  pub took-group : (group_at G w s r k j).refusal ≡ 0 → TookGroup G w s r k (group_at G w s r k j)
  unfolding group_at
  took-group z =
      let d = due_at G w s r k in
      let t = took G w s r k (lines_clear G w s j d.line.b (after_due d) z) in
      let h = lines-within G w s j d.line.b (after_due d) z t.stands.fits.within in
      record { head = t; count = lines-count G w s j d.line.b (after_due d) z; further = h.0; within = h.1 }
