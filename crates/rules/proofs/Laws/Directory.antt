-- Laws of `Directory`: in an accepted directory parents stand before their children and are no aliases, siblings differ, and so a name names at most
-- one entry; its values are of their types' syntaxes.
use Rattle.std.specs.Prelude.{◌≡◌, false, ◌&&◌, not, List, [], ◌∷◌, ◌++◌, map, get_or}
use Rattle.std.proofs.Math.Path.{refl, ap}
use Rattle.std.proofs.Common.{sym, ◌∙◌, subst, not-suc-le-zero, true≢false, append-nil, length-append, eq-eqb}
use Prim.Native.Nat.{ℕ, zero, suc, ◌+◌, ◌≤◌, ◌<◌}
use native.Mathlib.Omega.{arith}
use Rattle.std.proofs.Math.Decide.{dec_lt}
use Rattle.std.proofs.Math.Bool.{true}
use Rattle.std.proofs.lemmas.Bool.{false≢true}
use Rattle.std.proofs.Math.Option.{Option, none, some}
use Rattle.std.proofs.Math.ListN.{length, get_or-append, get_or-map}
use Rattle.std.proofs.lemmas.List.{length-map, get_or_at}
use Rattle.std.proofs.Math.Dec.{eqb}
use Rattle.rules.specs.Lists.{is_empty, optional}
use Rattle.rules.specs.Sheet.{Bytes, Line, Sheet, end, broken, row, lines}
use Rattle.rules.specs.declared.Format.{Format}
use Rattle.rules.specs.Name.{Schema, Part, part, Name, allowed, same_part, same_name}
use Rattle.rules.specs.Judge.{accept}
use Rattle.rules.specs.Directory
use Rattle.rules.specs.Directory.{Target, Stored, with_values, with_target, blank, name_at, Reading, entries_of, clashes, is_alias, under_alias, with_last, step, finish, nothing, directory_of, Entry, entry_of}
use Rattle.rules.specs.Derived.{Shallow, NamingAllowed, ValuesAllowed, Accepted, Each}
use Rattle.rules.proofs.Laws.Tests.{both}
use Rattle.rules.proofs.Laws.Lists.{Once, none-at, once-by-index}
use Rattle.rules.proofs.Laws.Name.{same_part-sym, same_name-join, nil-snoc, snoc-nil, snoc-snoc}
use Rattle.rules.proofs.Laws.Judge.{Run}
use Rattle.rules.proofs.Laws.Each.{each_append}
use Rattle.rules.proofs.Laws.Step.{Taken, of_type, of_entry, of_value, of_target, of_part, step-taken, finished, accepted-run}

-- ---- one entry more

-- an entry that may follow those in `es`
record Fresh (S : Schema) (es : List Stored) (e : Stored) : Type 0 where
  parent : e.parent ≤ length es
  name : e.name ≡ name_at es e.parent ++ (e.naming ∷ [])
  alone : clashes S es e.parent e.naming ≡ false
  childless : under_alias es e.parent ≡ false
  depth : Shallow e
  naming : NamingAllowed S e
  values : ValuesAllowed S e

none-accepted : (S : Schema) → Accepted S []
none-accepted S = record {
  parents = λ k l. absurd (not-suc-le-zero l);
  names = λ k l. absurd (not-suc-le-zero l);
  siblings = λ i j l b e s. not-suc-le-zero b;
  childless = λ k l. absurd (not-suc-le-zero l);
  depths = tt;
  namings = tt;
  values = tt;
}

name_at-front : (es fs : List Stored) (k : ℕ) → k ≤ length es → name_at (es ++ fs) k ≡ name_at es k
unfolding name_at
name_at-front es fs zero l = refl
name_at-front es fs (suc k) l = ap (λ (e : Stored). e.name) (get_or-append es fs blank k l)

under_alias-front : (es fs : List Stored) (k : ℕ) → k ≤ length es → under_alias (es ++ fs) k ≡ under_alias es k
unfolding under_alias
under_alias-front es fs zero l = refl
under_alias-front es fs (suc k) l = ap (λ (e : Stored). is_alias e.target) (get_or-append es fs blank k l)

module _ (S : Schema) (es : List Stored) (e : Stored) (ok : Accepted S es) (fresh : Fresh S es e) where
  all' : List Stored
  all' = es ++ (e ∷ [])

  -- each is one of `es`, or the last
  place : (k : ℕ) → k < length (es ++ (e ∷ [])) → Dec (k < length es) → (k < length es → ⊥) → k ≡ length es
  place k l d h = let n : length (es ++ (e ∷ [])) ≡ length es + 1 = length-append es (e ∷ []) in omega arith

  early : (k : ℕ) → k < length es → get_or (es ++ (e ∷ [])) k blank ≡ get_or es k blank
  early k l = get_or-append es (e ∷ []) blank k l

  late : (k : ℕ) → k ≡ length es → get_or (es ++ (e ∷ [])) k blank ≡ e
  late k h = get_or_at es e [] blank k (sym h)

  parents' : (k : ℕ) → k < length (es ++ (e ∷ [])) → (get_or (es ++ (e ∷ [])) k blank).parent ≤ k
  parents' k l = go (dec_lt k (length es))
    where
      go : Dec (k < length es) → (get_or (es ++ (e ∷ [])) k blank).parent ≤ k
      go (yes h) = rw (early k h) (ok.parents k h)
      go (no h) = let q : k ≡ length es = place k l (no h) h in rw (late k q) (subst (λ (m : ℕ). e.parent ≤ m) (sym q) fresh.parent)

  names' : (k : ℕ) → k < length (es ++ (e ∷ [])) → (get_or (es ++ (e ∷ [])) k blank).name ≡ name_at (es ++ (e ∷ [])) (get_or (es ++ (e ∷ [])) k blank).parent ++ ((get_or (es ++ (e ∷ [])) k blank).naming ∷ [])
  names' k l = go (dec_lt k (length es))
    where
      go : Dec (k < length es) → (get_or (es ++ (e ∷ [])) k blank).name ≡ name_at (es ++ (e ∷ [])) (get_or (es ++ (e ∷ [])) k blank).parent ++ ((get_or (es ++ (e ∷ [])) k blank).naming ∷ [])
      go (yes h) = let b : (get_or es k blank).parent ≤ k = ok.parents k h in rw (early k h, name_at-front es (e ∷ []) (get_or es k blank).parent (omega arith)) (ok.names k h)
      go (no h) = let q : k ≡ length es = place k l (no h) h in rw (late k q, name_at-front es (e ∷ []) e.parent fresh.parent) fresh.name

  siblings' : (i j : ℕ) → i < j → j < length (es ++ (e ∷ [])) → (get_or (es ++ (e ∷ [])) i blank).parent ≡ (get_or (es ++ (e ∷ [])) j blank).parent
      → same_part S (get_or (es ++ (e ∷ [])) i blank).naming (get_or (es ++ (e ∷ [])) j blank).naming ≡ true → ⊥
  unfolding clashes
  siblings' i j l b p s = go (dec_lt j (length es))
    where
      go : Dec (j < length es) → ⊥
      go (yes h) = let k : i < length es = omega arith in ok.siblings i j l h (rw (early i k, early j h) at p) (rw (early i k, early j h) at s)
      go (no h) =
          let q : j ≡ length es = place j b (no h) h in
          let k : i < length es = omega arith in
          let p' : (get_or es i blank).parent ≡ e.parent = rw (early i k, late j q) at p in
          let s' : same_part S (get_or es i blank).naming e.naming ≡ true = rw (early i k, late j q) at s in
          none-at (λ r. eqb r.parent e.parent && same_part S r.naming e.naming) blank es fresh.alone i k
          (both _ _ (eq-eqb (get_or es i blank).parent e.parent p') s')

  childless' : (k : ℕ) → k < length (es ++ (e ∷ [])) → under_alias (es ++ (e ∷ [])) (get_or (es ++ (e ∷ [])) k blank).parent ≡ false
  childless' k l = go (dec_lt k (length es))
    where
      go : Dec (k < length es) → under_alias (es ++ (e ∷ [])) (get_or (es ++ (e ∷ [])) k blank).parent ≡ false
      go (yes h) = let b : (get_or es k blank).parent ≤ k = ok.parents k h in rw (early k h, under_alias-front es (e ∷ []) (get_or es k blank).parent (omega arith)) (ok.childless k h)
      go (no h) = rw (late k (place k l (no h) h), under_alias-front es (e ∷ []) e.parent fresh.parent) fresh.childless

  accepted-more : Accepted S (es ++ (e ∷ []))
  accepted-more = record {
    parents = parents';
    names = names';
    siblings = siblings';
    childless = childless';
    depths = each_append Shallow es (e ∷ []) ok.depths (fresh.depth, tt);
    namings = each_append (NamingAllowed S) es (e ∷ []) ok.namings (fresh.naming, tt);
    values = each_append (ValuesAllowed S) es (e ∷ []) ok.values (fresh.values, tt);
  }

-- ---- the state of the judge

abbrev FreshLast : Schema → List Stored → Option Stored → Type 0
FreshLast S es none = Unit {0}
FreshLast S es (some e) = Fresh S es e

record SoundReading (st : Reading) : Type 0 where
  before : Accepted st.schema st.complete
  last : FreshLast st.schema st.complete st.current

sound-all : (st : Reading) → SoundReading st → Accepted st.schema (entries_of st)
unfolding entries_of
sound-all st ok = go st.current ok.last
  where
    go : (o : Option Stored) → FreshLast st.schema st.complete o → Accepted st.schema (st.complete ++ optional o)
    go none f = subst (λ (es : List Stored). Accepted st.schema es) (sym (append-nil st.complete)) ok.before
    go (some e) f = accepted-more st.schema st.complete e ok.before f

-- the last entry `e` with the values `vs`, and a target
with-last : (st : Reading) → SoundReading st → (e : Stored) → st.current ≡ some e → (vs : List Part) (t : Target)
    → (ValuesAllowed st.schema e → Each (λ p. allowed st.schema p.type p.value ≡ true) vs) → SoundReading (with_last st (with_target (with_values e vs) t))
with-last st ok e is vs t h =
    let l : FreshLast st.schema st.complete (some e) = subst (FreshLast st.schema st.complete) is ok.last in
    record {
      before = ok.before;
      last = record { parent = l.parent; name = l.name; alone = l.alone; childless = l.childless; depth = l.depth; naming = l.naming; values = h l.values };
    }

step-sound : (st : Reading) (x : Line) (next : Reading) (top : ℕ) → SoundReading st → Taken st x next top → SoundReading next
unfolding entries_of
step-sound st x next top ok (of_type f t) = subst SoundReading t.is (go st.complete st.current t.first)
  where
    go : (es : List Stored) (o : Option Stored) → not (is_empty (es ++ optional o)) ≡ false
        → SoundReading (record { schema = st.schema ++ (record { number = x.a; syntax = x.b } ∷ []); complete = es; current = o })
    go [] none h = record { before = none-accepted _; last = tt }
    go [] (some c) h = absurd (true≢false h)
    go (c ∷ cs) o h = absurd (true≢false h)
step-sound st x next top ok (of_entry f t) =
    subst SoundReading t.is
    (record { before = sound-all st ok; last = record { parent = t.parent; name = refl; alone = t.alone; childless = t.childless; depth = t.depth; naming = t.allowed; values = tt } })
step-sound st x next top ok (of_value f t) =
    let P : Part → Type 0 = λ p. allowed st.schema p.type p.value ≡ true in
    subst SoundReading t.is (with-last st ok t.last t.current _ _ (λ k. each_append P t.last.values (part x.a x.bytes ∷ []) k (t.allowed, tt)))
step-sound st x next top ok (of_target f t) = subst SoundReading t.is (with-last st ok t.last t.current t.last.values _ (λ k. k))
step-sound st x next top ok (of_part f t) = subst SoundReading t.is (with-last st ok t.last t.current t.last.values _ (λ k. k))

run_sound : (top : ℕ) (s : Sheet) (st : Reading) (d : Directory.Directory) → SoundReading st → Run (step top) finish st s d → Accepted d.schema d.entries
run_sound top end st d ok r = subst (λ (x : Directory.Directory). Accepted x.schema x.entries) (finished st d r).1 (sound-all st ok)
run_sound top broken st d ok r = absurd r
run_sound top (row x rest) st d ok (next, e, r) = run_sound top rest next d (step-sound st x next top ok (step-taken st x next top e)) r

-- what an accepted sheet tells
pub accepted-means : (f : Format) (s : Bytes) (d : Directory.Directory) → directory_of f s ≡ accept d → Accepted d.schema d.entries
accepted-means f s d e = run_sound f.top (lines f.width s) nothing d (record { before = none-accepted []; last = tt }) (accepted-run f s d e)

-- ---- a name names at most one entry

module _ (S : Schema) (es : List Stored) (ok : Accepted S es) where
  siblings-both : (i j : ℕ) → i < length es → j < length es → (get_or es i blank).parent ≡ (get_or es j blank).parent
      → same_part S (get_or es i blank).naming (get_or es j blank).naming ≡ true → i ≡ j
  siblings-both i j hi hj e s = go (dec_lt i j) (dec_lt j i)
    where
      go : Dec (i < j) → Dec (j < i) → i ≡ j
      go (yes l) q = absurd (ok.siblings i j l hj e s)
      go (no l) (yes q) = absurd (ok.siblings j i q hi (sym e) (same_part-sym S _ _ s))
      go (no l) (no q) = omega arith

  -- an entry's name is not the root's
  not_root : (j : ℕ) → j < length es → same_name S [] (get_or es j blank).name ≡ true → ⊥
  not_root j l e = false≢true (sym (nil-snoc S (name_at es (get_or es j blank).parent) (get_or es j blank).naming) ∙ (rw (ok.names j l) at e))

  -- entries of one name have one number; the root's is 0
  pub one_number : (f i j : ℕ) → i ≤ f → i ≤ length es → j ≤ length es → same_name S (name_at es i) (name_at es j) ≡ true → i ≡ j
  unfolding name_at
  one_number zero zero zero hi li lj e = refl
  one_number zero zero (suc j) hi li lj e = absurd (not_root j lj e)
  one_number zero (suc i) j hi li lj e = absurd (not-suc-le-zero hi)
  one_number (suc f) zero zero hi li lj e = refl
  one_number (suc f) zero (suc j) hi li lj e = absurd (not_root j lj e)
  one_number (suc f) (suc i) zero hi li lj e = absurd (false≢true (sym (snoc-nil S (name_at es (get_or es i blank).parent) (get_or es i blank).naming) ∙ (rw (ok.names i li) at e)))
  one_number (suc f) (suc i) (suc j) hi li lj e =
      let r = snoc-snoc S (name_at es (get_or es i blank).parent) (name_at es (get_or es j blank).parent) (get_or es i blank).naming (get_or es j blank).naming
      (rw (ok.names i li, ok.names j lj) at e) in
      let pi : (get_or es i blank).parent ≤ i = ok.parents i li in
      let pj : (get_or es j blank).parent ≤ j = ok.parents j lj in
      let q : (get_or es i blank).parent ≡ (get_or es j blank).parent = one_number f (get_or es i blank).parent (get_or es j blank).parent (omega arith) (omega arith) (omega arith) r.0 in
      ap suc (siblings-both i j li lj q r.1)

  pub once-named : (n : Name) → Once (λ e. same_name S n e.name) (map entry_of es)
  unfolding entry_of name_at
  once-named n = once-by-index (λ e. same_name S n e.name) (entry_of blank) (map entry_of es) apart
    where
      is_at : (i : ℕ) → (get_or (map entry_of es) i (entry_of blank)).name ≡ (get_or es i blank).name
      is_at i = ap (λ (e : Entry). e.name) (get_or-map entry_of es i blank)

      apart : (i j : ℕ) → i < j → j < length (map entry_of es) → same_name S n (get_or (map entry_of es) i (entry_of blank)).name ≡ true
          → same_name S n (get_or (map entry_of es) j (entry_of blank)).name ≡ true → ⊥
      apart i j l b e h =
          let b' : j < length es = subst (λ (k : ℕ). j < k) (length-map es entry_of) b in
          let same : same_name S (get_or es i blank).name (get_or es j blank).name ≡ true
          = same_name-join S n _ _ (subst (λ (m : Name). same_name S n m ≡ true) (is_at i) e) (subst (λ (m : Name). same_name S n m ≡ true) (is_at j) h) in
          let q : suc i ≡ suc j = one_number (suc i) (suc i) (suc j) (omega arith) (omega arith) b' same in
          omega arith
