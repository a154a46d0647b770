-- Laws of the way down a name: the ways through the loop, and what its ending tells of the name.
use Prim.Native.Nat.{ℕ, zero, suc, ◌-◌, ◌≤◌, ◌<◌}
use Rattle.std.specs.Prelude.{◌≡◌, Bool, true, false, ◌&&◌, cond, not, eqb, length, take, drop, Some, None}
use Rattle.std.proofs.Math.Path.{refl, sym}
use Rattle.std.proofs.Common.{ap, ◌∙◌, subst, arith, eq-eqb, ne_eqb}
use mathlib.Core.List.{List, [], ◌∷◌, map}
use Rattle.rules.specs.Sheet.{Bytes}
use Rattle.rules.specs.Name.{Schema, Part, Name}
use Rattle.rules.specs.Directory.{Stored, under_alias, name_at, entry_of}
use Rattle.rules.specs.Decision.{Setting}
use Rattle.rules.specs.Answer.{matched_name}
use Rattle.rules.specs.Places.{lines_at, parts_of}
use Rattle.tables.specs.Numbers.{on_found, child_from, walk, lead}
use Rattle.rules.specs.Derived.{Accepted}
use Rattle.tables.specs.Book.{entry_count, width, target_at}
use Rattle.tables.specs.World.{Entries, World}
use Rattle.tables.specs.Laws.World.{entry_at}
use Rattle.tables.specs.Sets.{granted_at}
use Rattle.sheet_line.specs.Line.{taken_at}
use Rattle.sheet_line.specs.declared.Taken.{Taken}
use Rattle.directory_lookup.specs.Find.{by_child, step_found, step_of}
use Rattle.directory_lookup.specs.Laws.Names.{parts-by}
use Rattle.directory_lookup.specs.Laws.Find.{by_step, name-step}
use Rattle.tables.specs.Sound.{Base}
use Rattle.answer_resolution.specs.Resolution.{last_of, alias, whole, way_down, ending_of, Full}
use Rattle.answer_resolution.specs.Laws.Matched.{descend, descend-matched}
use Rattle.answer_resolution.specs.declared.way.Way.{Way}
use Rattle.directory_lookup.specs.declared.find.Descent.{Descent}
use Rattle.directory_lookup.specs.declared.find.Descent.TheVariants.{To, Lost, Ended}
use Rattle.rules.specs.Value.{Found}

-- ---- a child has a number from 1 on

found-not : (k : ℕ) → None ≡ Some k → ⊥
found-not k e = let z : ◌≡◌ {A = ℕ} 0 1 = cc in omega arith

child-after : (S : Schema) (parent : ℕ) (p : Part) (es : List Stored) (i k : ℕ) → child_from S parent p es i ≡ Some k → i < k
unfolding child_from
child-after S parent p [] i k e = absurd (found-not k e)
child-after S parent p (x ∷ es) i k e = go (eqb x.parent parent && _) e (child-after S parent p es (suc i) k)
  where
    go : (b : Bool) → cond b (Some (suc i)) (child_from S parent p es (suc i)) ≡ Some k → (child_from S parent p es (suc i) ≡ Some k → suc i < k) → i < k
    go true q h = let z : suc i ≡ k = cc in omega arith
    go false q h = omega (arith, h q)

step_after : (S : Schema) (es : List Stored) (f : Found) (n : ℕ) (k next : ℕ) → step_found f n ≡ To k next → f ≡ Some k
step_after S es (Some j) n k next e = let z : j ≡ k = cc in ap Some z
step_after S es None n k next e = absurd (let z : ◌≡◌ {A = ℕ} 0 1 = cc in omega arith)

step-next : (f : Found) (n k next : ℕ) → step_found f n ≡ To k next → n ≡ next
step-next (Some j) n k next e = cc
step-next None n k next e = absurd (let z : ◌≡◌ {A = ℕ} 0 1 = cc in omega arith)

pub step-positive : (S : Schema) (es : List Stored) (from w : ℕ) (s : Bytes) (j k next : ℕ) → To k next ≡ step_of S es from s (taken_at w s j) → 1 ≤ k
unfolding step_of
step-positive S es from w s j k next e = go (taken_at w s j) e
  where
    go : (x : Taken) → To k next ≡ step_of S es from s x → 1 ≤ k
    go (Taken.Line x) q = child-after S from _ es 0 k (step_after S es (child_from S from _ es 0) x.next k next (sym q))
    go Taken.NotInForm q = absurd (let z : ◌≡◌ {A = ℕ} 0 1 = cc in omega arith)
    go Taken.End q = absurd (let z : ◌≡◌ {A = ℕ} 0 1 = cc in omega arith)

-- the lines after a step stand there if those before it do
pub step-full : (S : Schema) (es : List Stored) (from w : ℕ) (s : Bytes) (j k next left : ℕ) → To k next ≡ step_of S es from s (taken_at w s j) → 0 < left → Full w s j left → Full w s next (left - 1)
unfolding step_of
step-full S es from w s j k next left e h f = go (taken_at w s j) refl e
  where
    go : (x : Taken) → taken_at w s j ≡ x → To k next ≡ step_of S es from s x → Full w s next (left - 1)
    go (Taken.Line x) t q =
        let z : x.next ≡ next = step-next (child_from S from _ es 0) x.next k next (sym q) in
        let y : length (parts_of left (lines_at w s j)) ≡ suc (length (parts_of (left - 1) (lines_at w s x.next))) = ap length (parts-by w s j left h (Taken.Line x) t) in
        subst (λ (i : ℕ). Full w s i (left - 1)) z (omega (arith, y, f, h))
    go Taken.NotInForm t q = absurd (let z : ◌≡◌ {A = ℕ} 0 1 = cc in omega arith)
    go Taken.End t q = absurd (let z : ◌≡◌ {A = ℕ} 0 1 = cc in omega arith)

-- ---- the loop

way_step : (σ : Setting) (es : List Stored) (stop : Bool) (from last w : ℕ) (s : Bytes) (j n : ℕ) → 0 < n
    → way_down σ es stop from last (parts_of n (lines_at w s j))
    ≡ by_step (whole (Some from) last) (whole None (last_of σ es from last))
    (λ k next. cond (stop && under_alias es k) (alias k (parts_of (n - 1) (lines_at w s next))) (way_down σ es stop k (last_of σ es from last) (parts_of (n - 1) (lines_at w s next))))
    (step_of σ.schema es from s (taken_at w s j))
unfolding way_down
way_step σ es stop from last w s j n h =
    name-step σ.schema es from w s j n h (way_down σ es stop from last) (whole (Some from) last) (whole None (last_of σ es from last))
    (λ k ps. cond (stop && under_alias es k) (alias k ps) (way_down σ es stop k (last_of σ es from last) ps)) refl (λ p ps. refl)

-- an alias by its number in the book
alias-noted : {σ : Setting} {es : List Stored} {d : Bytes} {book held : List ℕ} → Entries σ es d book held → (k : ℕ) → 1 ≤ k → k ≤ entry_count book
    → under_alias es k ≡ not (eqb (target_at book (k - 1)) 0)
unfolding under_alias
alias-noted {σ} {es} {d} {book} E zero h l = absurd (omega arith)
alias-noted {σ} {es} {d} {book} E (suc i) h l = let z : suc i - 1 ≡ i = omega arith in rw z (entry_at E i (omega arith)).target.alias

module _ (book sets : List ℕ) (d s : Bytes) (place parts : ℕ) (stop : Bool) where
  -- the way ends as it is told
  abbrev pub Ends : Way → Type 0
  Ends r = (σ : Setting) (es : List Stored) (p : Bytes) (held : List ℕ) → World σ es d p book held sets
      → ending_of (width book) s r ≡ way_down σ es stop 0 0 (parts_of parts (lines_at (width book) s place))

  -- `m` is the last number disclosed, with `from`
  abbrev pub Seen : ℕ → ℕ → ℕ → Type 0
  Seen from last m = (σ : Setting) (es : List Stored) (p : Bytes) (held : List ℕ) → World σ es d p book held sets → m ≡ last_of σ es from last

  -- the way from here leads where the whole way leads
  pub record Going (from last j left : ℕ) : Type 0 where
    pub leads : (σ : Setting) (es : List Stored) (p : Bytes) (held : List ℕ) → World σ es d p book held sets
        → way_down σ es stop from last (parts_of left (lines_at (width book) s j)) ≡ way_down σ es stop 0 0 (parts_of parts (lines_at (width book) s place))

  pub going_start : Going 0 0 place parts
  going_start = record { leads = λ σ es p held h. refl }

  module _ {from last j left : ℕ} (going : Going from last j left) where
    pub going_end : left ≤ 0 → Ends (Way.End (record { base = Some from; missing = last }))
    unfolding way_down parts_of
    going_end l σ es p held h = sym (done left l) ∙ going.leads σ es p held h
      where
        done : (left : ℕ) → left ≤ 0 → way_down σ es stop from last (parts_of left (lines_at (width book) s j)) ≡ whole (Some from) last
        done zero l = refl
        done (suc n) l = absurd (omega arith)

    module _ (more : 0 < left) {x : Descent}
        (is : (σ : Setting) (es : List Stored) (held : List ℕ) → Entries σ es d book held → x ≡ step_of σ.schema es from s (taken_at (width book) s j))
      where
        turn : (y : Descent) → x ≡ y → (σ : Setting) (es : List Stored) (p : Bytes) (held : List ℕ) → World σ es d p book held sets
            → by_step (whole (Some from) last) (whole None (last_of σ es from last))
            (λ k next. cond (stop && under_alias es k) (alias k (parts_of (left - 1) (lines_at (width book) s next))) (way_down σ es stop k (last_of σ es from last) (parts_of (left - 1) (lines_at (width book) s next)))) y
            ≡ way_down σ es stop 0 0 (parts_of parts (lines_at (width book) s place))
        turn y e σ es p held h =
            ap (by_step (whole (Some from) last) (whole None (last_of σ es from last))
            (λ k next. cond (stop && under_alias es k) (alias k (parts_of (left - 1) (lines_at (width book) s next))) (way_down σ es stop k (last_of σ es from last) (parts_of (left - 1) (lines_at (width book) s next)))))
            (sym e ∙ is σ es held h.entries)
            ∙ sym (way_step σ es stop from last (width book) s j left more)
            ∙ going.leads σ es p held h

        pub going-lost : x ≡ Lost → {m : ℕ} → Seen from last m → Ends (Way.End (record { base = None; missing = m }))
        going-lost e m-is σ es p held h = ap (whole None) (m-is σ es p held h) ∙ turn Lost e σ es p held h

        pub going-ended : x ≡ Ended → Ends (Way.End (record { base = Some from; missing = last }))
        going-ended e σ es p held h = turn Ended e σ es p held h

        module _ {k next : ℕ} (e : x ≡ To k next) where
          -- a child has a number from 1 on
          pub going-positive : {p : Bytes} {held : List ℕ} → ((σ : Setting) × (es : List Stored) × World σ es d p book held sets) → 1 ≤ k
          going-positive {held = held} (σ, es, h) = step-positive σ.schema es from (width book) s j k next (sym e ∙ is σ es held h.entries)

          pub going-full : {p : Bytes} {held : List ℕ} → ((σ : Setting) × (es : List Stored) × World σ es d p book held sets) → Full (width book) s j left → Full (width book) s next (left - 1)
          going-full {held = held} (σ, es, h) = step-full σ.schema es from (width book) s j k next left (sym e ∙ is σ es held h.entries) more

          pub going-met : stop ≡ true → 1 ≤ k → k ≤ entry_count book → (target_at book (k - 1) ≡ 0 → ⊥) → Ends (Way.Alias k (left - 1) next)
          going-met t o l z σ es p held h =
              sym (rw (t, alias-noted h.entries k o l, ne_eqb (target_at book (k - 1)) 0 z)) ∙ turn (To k next) e σ es p held h

          pub going-past : stop ≡ true → 1 ≤ k → k ≤ entry_count book → target_at book (k - 1) ≡ 0 → {m : ℕ} → Seen from last m → Going k m next (left - 1)
          going-past t o l z m-is = record {
            leads = λ σ es p held h.
                ap (λ (m : ℕ). way_down σ es stop k m (parts_of (left - 1) (lines_at (width book) s next))) (m-is σ es p held h)
                ∙ sym (rw (t, alias-noted h.entries k o l, eq-eqb (target_at book (k - 1)) 0 z))
                ∙ turn (To k next) e σ es p held h;
          }

          pub going_on : stop ≡ false → {m : ℕ} → Seen from last m → Going k m next (left - 1)
          going_on t m-is = record {
            leads = λ σ es p held h.
                ap (λ (m : ℕ). way_down σ es stop k m (parts_of (left - 1) (lines_at (width book) s next))) (m-is σ es p held h)
                ∙ sym (rw t)
                ∙ turn (To k next) e σ es p held h;
          }

-- ---- what the ending tells

ending-not : {A : Type 0} (k m : ℕ) (f : Found) (n : Name) → alias k n ≡ whole f m → A
ending-not k m f n e = absurd (let z : ◌≡◌ {A = ℕ} 0 1 = cc in omega arith)

-- an alias leads whatever follows it
lead-here : (σ : Setting) (es : List Stored) (k : ℕ) (n : Name) → under_alias es k ≡ true → lead σ.schema es k n ≡ Some k
unfolding lead
lead-here σ es k [] e = rw e
lead-here σ es k (p ∷ ps) e = rw e

module _ (σ : Setting) (es : List Stored) where
  -- the entry found is the one that the whole name names
  way-walk : (stop : Bool) (n : Name) (from last : ℕ) (f : Found) (m : ℕ) → way_down σ es stop from last n ≡ whole f m → walk σ.schema es from n ≡ f
  unfolding way_down walk
  way-walk stop [] from last f m e = let z : Some from ≡ f = cc in z
  way-walk stop (p ∷ ps) from last f m e = go (child_from σ.schema from p es 0) e (way-walk stop ps)
    where
      seen : ℕ
      seen = last_of σ es from last

      go : (c : Found) → by_child (whole None seen) (λ k. cond (stop && under_alias es k) (alias k ps) (way_down σ es stop k seen ps)) c ≡ whole f m
          → ((k last : ℕ) (f : Found) (m : ℕ) → way_down σ es stop k last ps ≡ whole f m → walk σ.schema es k ps ≡ f) → on_found c (λ k. walk σ.schema es k ps) ≡ f
      go (Some k) q ih = on (stop && under_alias es k) q
        where
          on : (b : Bool) → cond b (alias k ps) (way_down σ es stop k seen ps) ≡ whole f m → walk σ.schema es k ps ≡ f
          on true r = ending-not k m f ps r
          on false r = ih k seen f m r
      go None q ih = let z : None ≡ f = cc in z

  -- the last number disclosed above it
  way-last : (stop : Bool) (p : Part) (ps : Name) (from last : ℕ) (f : Found) (m : ℕ) → way_down σ es stop from last (p ∷ ps) ≡ whole f m
      → m ≡ descend σ es from (last_of σ es from last) (take (length ps) (p ∷ ps))
  unfolding way_down descend
  way-last stop p [] from last f m e = go (child_from σ.schema from p es 0) e
    where
      seen : ℕ
      seen = last_of σ es from last

      go : (c : Found) → by_child (whole None seen) (λ k. cond (stop && under_alias es k) (alias k []) (whole (Some k) seen)) c ≡ whole f m → m ≡ seen
      go (Some k) q = on (stop && under_alias es k) q
        where
          on : (b : Bool) → cond b (alias k []) (whole (Some k) seen) ≡ whole f m → m ≡ seen
          on true r = ending-not k m f [] r
          on false r = let z : m ≡ seen = cc in z
      go None q = let z : m ≡ seen = cc in z
  way-last stop p (p' ∷ ps) from last f m e = go (child_from σ.schema from p es 0) e (way-last stop p' ps)
    where
      seen : ℕ
      seen = last_of σ es from last

      go : (c : Found) → by_child (whole None seen) (λ k. cond (stop && under_alias es k) (alias k (p' ∷ ps)) (way_down σ es stop k seen (p' ∷ ps))) c ≡ whole f m
          → ((k last : ℕ) (f : Found) (m : ℕ) → way_down σ es stop k last (p' ∷ ps) ≡ whole f m → m ≡ descend σ es k (last_of σ es k last) (take (length ps) (p' ∷ ps)))
          → m ≡ by_child seen (λ k. descend σ es k (last_of σ es k seen) (take (length ps) (p' ∷ ps))) c
      go (Some k) q ih = on (stop && under_alias es k) q
        where
          on : (b : Bool) → cond b (alias k (p' ∷ ps)) (way_down σ es stop k seen (p' ∷ ps)) ≡ whole f m → m ≡ descend σ es k (last_of σ es k seen) (take (length ps) (p' ∷ ps))
          on true r = ending-not k m f (p' ∷ ps) r
          on false r = ih k seen f m r
      go None q ih = let z : m ≡ seen = cc in z

  -- no alias was met
  pub way-unled : (n : Name) (from last : ℕ) (f : Found) (m : ℕ) → under_alias es from ≡ false → way_down σ es true from last n ≡ whole f m → lead σ.schema es from n ≡ None
  unfolding way_down lead
  way-unled [] from last f m u e = rw u
  way-unled (p ∷ ps) from last f m u e = rw u (go (child_from σ.schema from p es 0) e (way-unled ps))
    where
      seen : ℕ
      seen = last_of σ es from last

      go : (c : Found) → by_child (whole None seen) (λ k. cond (under_alias es k) (alias k ps) (way_down σ es true k seen ps)) c ≡ whole f m
          → ((k last : ℕ) (f : Found) (m : ℕ) → under_alias es k ≡ false → way_down σ es true k last ps ≡ whole f m → lead σ.schema es k ps ≡ None)
          → on_found c (λ k. lead σ.schema es k ps) ≡ None
      go (Some k) q ih = on (under_alias es k) refl q
        where
          on : (b : Bool) → under_alias es k ≡ b → cond b (alias k ps) (way_down σ es true k seen ps) ≡ whole f m → lead σ.schema es k ps ≡ None
          on true v r = ending-not k m f ps r
          on false v r = ih k seen f m v r
      go None q ih = refl

  -- an alias was met: it leads the name, and has its beginning
  pub way-led : (n : Name) (from last : ℕ) (k : ℕ) (rest : Name) → under_alias es from ≡ false → way_down σ es true from last n ≡ alias k rest
      → (lead σ.schema es from n ≡ Some k) × ((i : ℕ) × (i ≤ length n) × (walk σ.schema es from (take i n) ≡ Some k) × (drop i n ≡ rest))
  unfolding way_down lead walk
  way-led [] from last k rest u e = ending-not k last (Some from) rest (sym e)
  way-led (p ∷ ps) from last k rest u e = go (child_from σ.schema from p es 0) refl e (way-led ps)
    where
      seen : ℕ
      seen = last_of σ es from last

      Led : Type 0
      Led = (lead σ.schema es from (p ∷ ps) ≡ Some k) × ((i : ℕ) × (i ≤ length (p ∷ ps)) × (walk σ.schema es from (take i (p ∷ ps)) ≡ Some k) × (drop i (p ∷ ps) ≡ rest))

      go : (c : Found) → child_from σ.schema from p es 0 ≡ c → by_child (whole None seen) (λ j. cond (under_alias es j) (alias j ps) (way_down σ es true j seen ps)) c ≡ alias k rest
          → ((j last : ℕ) (k : ℕ) (rest : Name) → under_alias es j ≡ false → way_down σ es true j last ps ≡ alias k rest
          → (lead σ.schema es j ps ≡ Some k) × ((i : ℕ) × (i ≤ length ps) × (walk σ.schema es j (take i ps) ≡ Some k) × (drop i ps ≡ rest))) → Led
      go (Some j) c q ih = on (under_alias es j) refl q
        where
          on : (b : Bool) → under_alias es j ≡ b → cond b (alias j ps) (way_down σ es true j seen ps) ≡ alias k rest → Led
          on true v r =
              let z : j ≡ k = cc in
              let y : ps ≡ rest = cc in
              (rw (u, c) (lead-here σ es j ps v ∙ ap Some z), (1, omega arith, rw c (ap Some z), y))
          on false v r = let (l, (i, h, w, y)) = ih j seen k rest v r in (rw (u, c) l, (suc i, omega (arith, h), rw c w, y))
      go None c q ih = ending-not k seen None rest (sym q)

  -- without a stop none is met
  pub way-unstopped : (n : Name) (from last : ℕ) (k : ℕ) (rest : Name) → way_down σ es false from last n ≡ alias k rest → ⊥
  unfolding way_down
  way-unstopped [] from last k rest e = ending-not k last (Some from) rest (sym e)
  way-unstopped (p ∷ ps) from last k rest e = go (child_from σ.schema from p es 0) e (way-unstopped ps)
    where
      seen : ℕ
      seen = last_of σ es from last

      go : (c : Found) → by_child (whole None seen) (λ j. way_down σ es false j seen ps) c ≡ alias k rest
          → ((j last : ℕ) (k : ℕ) (rest : Name) → way_down σ es false j last ps ≡ alias k rest → ⊥) → ⊥
      go (Some j) q ih = ih j seen k rest q
      go None q ih = ending-not k seen None rest (sym q)

-- ---- what a name asked for leads to

-- a way that ends with the name tells its target
pub way-base : (σ : Setting) (es : List Stored) → Accepted σ.schema es → (stop : Bool) (n : Name) {f : Found} {m : ℕ} → m ≤ length es → way_down σ es stop 0 0 n ≡ whole f m
    → Base σ es n f m
unfolding name_at matched_name way_down granted_at
way-base σ es ok stop n {f} {m} l e = record { walked = way-walk σ es stop n 0 0 f m e; matched = go n e; within = l }
  where
    go : (n : Name) → way_down σ es stop 0 0 n ≡ whole f m → name_at es m ≡ matched_name σ (map entry_of es) n (length n - 1)
    go [] e = let z : m ≡ 0 = cc in rw z
    go (p ∷ ps) e =
        let z : length (p ∷ ps) - 1 ≡ length ps = omega arith in
        ap (name_at es) (way-last σ es stop p ps 0 0 f m e ∙ ap (λ (i : ℕ). descend σ es 0 0 (take i (p ∷ ps))) (sym z))
        ∙ descend-matched σ es ok (p ∷ ps)
