-- Laws of `Entries`: what the lines of an entry, its values and its target make of what is known of the sheet before them.
use Prim.Native.Nat.{ℕ, zero, suc, ◌+◌, ◌*◌, ◌-◌, ◌≤◌, ◌<◌}
use Rattle.std.specs.Prelude.{◌≡◌, Bool, true, false, ◌&&◌, cond, length, take, drop, set}
use Rattle.std.proofs.Math.Path.{refl, sym, ap}
use Rattle.std.proofs.Common.{ap₂, ◌∙◌, subst, inl, inr, arith, add-one, drop-drop, get_or-set_same, get_or-set_other, eqb-true}
use Rattle.std.proofs.Math.Bool.{not}
use Rattle.std.proofs.Math.Option.{Option, some}
use mathlib.Core.List.{List, [], ◌∷◌, ◌++◌}
use Rattle.std.proofs.Math.Decide.{ℕ_discrete}
use Rattle.std.proofs.Math.Dec.{eqb}
use Rattle.std.proofs.Math.ListN.{get_or, length-append, length-set, get_or-append}
use Rattle.std.proofs.lemmas.List.{get_or_at}
use Rattle.std.proofs.lemmas.Bool.{eqb-false}
use Rattle.rules.specs.Sheet.{Bytes, bit, front_of, value_of, lines}
use Rattle.rules.specs.declared.Format.{Format}
use Rattle.rules.specs.Name.{Part, part, Name, same_part}
use Rattle.rules.specs.Judge.{accept, refuse, fold}
use Rattle.rules.specs.Directory.{Target, Stored, blank, entries_of, name_at, new_entry, alias_mark, is_alias, is_unread, under_alias, clashes, lacks_naming, lacks_target, step, finish, nothing, with_values, with_target}
use Rattle.rules.specs.Places.{lines_at, values_of, schema_of}
use Rattle.rules.specs.declared.Front.{Front}
use Rattle.sheet_line.specs.declared.Line.{Line}
use Rattle.sheet_line.specs.declared.Taken.{Taken}
use Rattle.sheet_line.specs.Line.{taken_by, taken_at, bytes_of, line_of}
use Rattle.sheet_line.specs.Laws.{LineFits, taken-fits-line}
use Rattle.name.specs.Schema.{rank_in}
use Rattle.name.specs.Laws.Schema.{allowed-within}
use Rattle.directory_schema.specs.Lines.{judged_from}
use Rattle.directory_schema.specs.Laws.Lines.{formed, judged-refused, judged-on, passes-judged, entry-columns}
use Rattle.directory_schema.specs.Laws.Zeros.{zeros-more}
use Rattle.directory_duplicates.specs.Mark.{Mark, mark, MarkWithin, Room, with_mark, heads}
use Rattle.directory_duplicates.specs.Twins.{Named}
use Rattle.directory_duplicates.specs.Laws.Twins.{any_snoc, named-entry, valued-none}
use Rattle.directory_duplicates.specs.Rulings.{Decides, mark_of, reading}
use Rattle.directory_duplicates.specs.Laws.Rulings.{line-within, ready-room, ready-more}
use Rattle.directory_duplicates.specs.Noted.{RulingNoted}
use Rattle.directory_entry.specs.EntryLine.{level_of, entry_ruling}
use Rattle.directory_entry.specs.Laws.EntryLine.{EntryMarked, EntryOutcome, entry-outcome}
use Rattle.directory_values.specs.declared.Current.{Current}
use Rattle.directory_values.specs.Values.{ValuesNoted, Begun, ValuesAsked, ValuesEnded, ValuesJudged, ValuesAnswered}
use Rattle.directory_values.specs.Laws.Values.{values-all}
use Rattle.directory_alias.specs.declared.Last.{Last}
use Rattle.directory_alias.specs.Target.{TargetNoted, Owed, TargetAsked, TargetEnded, TargetJudged, TargetAnswered}
use Rattle.directory_sheet.specs.Judged.{EntryNoted}
use Rattle.directory_sheet.specs.Laws.Rows.{held_more}
use Rattle.directory_sheet.specs.declared.Notes.{Notes}
use Rattle.directory_sheet.specs.Laws.Entries.{AllNoted, EntriesRead}

-- ---- a line that was taken, as the front of the rest

module _ (w : ℕ) (s : Bytes) (i : ℕ) {x : Line} where
  by_front_lem : (f : Front) → taken_by w i f ≡ Taken.Line x → f ≡ Front.Taken x.kind x.a x.b x.c x.length
  by_front_lem (Front.Taken k a b c l) e = cc
  by_front_lem Front.NotInForm e = absurd (let z : ◌≡◌ {A = ℕ} 0 1 = cc in omega arith)
  by_front_lem Front.End e = absurd (let z : ◌≡◌ {A = ℕ} 0 1 = cc in omega arith)

  taken-front : taken_at w s i ≡ Taken.Line x → front_of w (drop i s) ≡ Front.Taken x.kind x.a x.b x.c x.length
  unfolding taken_at
  taken-front e = by_front_lem (front_of w (drop i s)) e

  taken-value : LineFits w s i x → value_of w x.length (drop i s) ≡ bytes_of s x
  taken-value f = ap (take x.length) (drop-drop (5 * w) i s ∙ ap (λ (p : ℕ). drop p s) (sym f.place))

-- ---- one entry more

-- the entry line `x` at `i` noted, with the row after its last value, and its target
abbrev pub noting : Notes → ℕ → Line → ℕ → ℕ → Notes
noting notes i x to target = record {
  types = notes.types;
  schema = notes.schema;
  count = notes.count + 1;
  at = set notes.at notes.count i;
  parents = set notes.parents notes.count x.a;
  naming = set notes.naming notes.count x.b;
  lengths = set notes.lengths notes.count x.length;
  first = set notes.first (notes.count + 1) to;
  targets = set notes.targets notes.count target;
}

-- the entry with its values and its target
abbrev filling : Stored → List Part → Target → Stored
filling d vs t = with_target (with_values d vs) t

module _ (ks : List ℕ) (es : List Stored) (d : Stored) (vs : List Part) (t : Target) where
  abbrev filled : List Stored
  filled = es ++ (filling d vs t ∷ [])

  -- values and targets do not count among siblings
  named-filled : {s : Bytes} {ms : List Mark} → Named s ks (es ++ (d ∷ [])) ms → Named s ks filled ms
  unfolding clashes
  named-filled named = record {
    siblings = λ p k v h a. named.siblings p k v h a ∙ any_snoc (λ x. eqb x.parent p && same_part (schema_of ks) x.naming (part k v)) es d
        ∙ sym (any_snoc (λ x. eqb x.parent p && same_part (schema_of ks) x.naming (part k v)) es (filling d vs t));
    later = λ o k v h a. named.later o k v (omega (arith, length-append es (d ∷ []), length-append es (filling d vs t ∷ []))) a;
  }

  name-before : (k : ℕ) → k ≤ length es → name_at filled k ≡ name_at es k
  unfolding name_at
  name-before zero h = refl
  name-before (suc k) h = ap (λ (x : Stored). x.name) (get_or-append es (filling d vs t ∷ []) blank k h)

  name-last : name_at filled (length es + 1) ≡ d.name
  unfolding name_at
  name-last = rw (add-one) (ap (λ (x : Stored). x.name) (get_or_at es (filling d vs t) [] blank (length es) refl))

  alias-before : (k : ℕ) → k ≤ length es → under_alias filled k ≡ under_alias es k
  unfolding under_alias
  alias-before zero h = refl
  alias-before (suc k) h = ap (λ (x : Stored). is_alias x.target) (get_or-append es (filling d vs t ∷ []) blank k h)

  alias-last : under_alias filled (length es + 1) ≡ is_alias t
  unfolding under_alias
  alias-last = rw (add-one) (ap (λ (x : Stored). is_alias x.target) (get_or_at es (filling d vs t) [] blank (length es) refl))

  level_before : (k : ℕ) → k ≤ length es → level_of filled k ≡ level_of es k
  level_before k h = ap₂ (λ (u : Bool) (m : Name). cond u 8 (length m)) (alias-before k h) (name-before k h)

  level-last : level_of filled (length es + 1) ≡ cond (is_alias t) 8 (length d.name)
  level-last = ap₂ (λ (u : Bool) (m : Name). cond u 8 (length m)) alias-last name-last

-- an entry that may have children is no alias
level-plain : (es : List Stored) (k : ℕ) {n : ℕ} → n ≡ level_of es k → n < 8 → n ≡ length (name_at es k)
level-plain es k {n} e h = go (under_alias es k) e
  where
    go : (u : Bool) → n ≡ cond u 8 (length (name_at es k)) → n ≡ length (name_at es k)
    go true q = absurd (omega arith)
    go false q = q

-- an entry line's target is not read with it
marked-unread : (b : Bool) → is_unread (alias_mark b) ≡ true
marked-unread true = refl
marked-unread false = refl

-- its mark is 0 or 1
mark-bit : (c : ℕ) → c ≤ 1 → c ≡ bit (eqb c 1)
mark-bit c h = go (eqb c 1) refl
  where
    go : (b : Bool) → eqb c 1 ≡ b → c ≡ bit b
    go true q = eqb-true c 1 q
    go false q = omega (arith, eqb-false c 1 q)

module _ {f : Format} {s : Bytes} {ks : List ℕ} {notes : Notes} {depths table held : List ℕ} {n : ℕ} {lacks : Bool} {i : ℕ} {taken : Taken}
    {complete : List Stored} {current : Option Stored} {ms : List Mark} (st : EntriesRead f s ks notes depths table held n lacks i taken complete current ms)
    {x : Line} (is : taken ≡ Taken.Line x) {r : RulingNoted} (ruled : Decides s ks table (entry_ruling f.top depths notes.count lacks x) r) where
  abbrev es : List Stored
  es = entries_of (reading ks complete current)

  abbrev d : Stored
  d = new_entry es (line_of s x)

  here : taken_at f.width s i ≡ Taken.Line x
  here = sym st.stands ∙ is

  fits : LineFits f.width s i x
  fits = taken-fits-line f.width s i here

  outcome : EntryOutcome f.top s ks depths table notes.count complete current x r
  outcome =
      subst (λ (q : RulingNoted). EntryOutcome f.top s ks depths table notes.count complete current x q) (sym (ruled ms st.ready))
      (entry-outcome f.top s ks depths table notes.count lacks complete current ms st.counted x (formed f s i here) (st.elsewhere x is))

  pub standing-refused : (r.refusal ≡ 0 → ⊥) → fold (step f.top) finish 2 nothing (lines f.width s) ≡ refuse r.refusal
  standing-refused z = go outcome
    where
      go : EntryOutcome f.top s ks depths table notes.count complete current x r → fold (step f.top) finish 2 nothing (lines f.width s) ≡ refuse r.refusal
      go (inl q) = st.judged ∙ judged-refused f s i here (reading ks complete current) r.refusal q.is
      go (inr q) = absurd (z (ap (λ (y : RulingNoted). y.refusal) q.0.ruling))

  module _ (z : r.refusal ≡ 0) where
    abbrev m : Mark
    m = mark_of x.a (rank_in ks x.b) x.place x.length

    abbrev e : Current
    e = record { number = notes.count + 1; line = x; first = get_or notes.first notes.count 0 }

    taking : EntryMarked f.top s ks depths table notes.count x r × (step f.top (reading ks complete current) (line_of s x) ≡ accept (reading ks es (some d)))
    taking = go outcome
      where
        go : EntryOutcome f.top s ks depths table notes.count complete current x r
            → EntryMarked f.top s ks depths table notes.count x r × (step f.top (reading ks complete current) (line_of s x) ≡ accept (reading ks es (some d)))
        go (inl q) = absurd (q.not z)
        go (inr q) = q

    inside : MarkWithin s (mark 0 x.place x.length)
    inside = line-within fits

    low : x.a ≤ 256
    low = omega (arith, taking.0.parent, taking.0.room)

    known : rank_in ks x.b < length ks
    known = allowed-within ks x.b (bytes_of s x) taking.0.fit

    -- the entry and its mark have their places
    pub standing-room : (notes.count < 256) × (x.a ≤ notes.count) × (get_or depths x.a 0 < 8) × (n < heads) × Room table n r
    standing-room =
        let t = taking.0 in
        (t.room, t.parent, t.level, omega (arith, st.marked, st.ready.room), ready-room st.ready x.a (rank_in ks x.b) (omega (arith, low)) known x.place x.length inside n st.marked t.ruling)

    -- its value lines follow
    standing-begun : {table' : List ℕ} → table' ≡ with_mark table n r → Begun f s ks table' held (n + 1) e es d (m ∷ ms)
    standing-begun noted =
        let t = taking.0 in
        let few = st.ready.few in
        let number : notes.count + 1 ≡ length (es ++ (d ∷ [])) = ap (λ (q : ℕ). q + 1) st.counted.number ∙ sym (length-append es (d ∷ [])) in
        record {
          ready = rw noted (ready-more st.ready x.a (rank_in ks x.b) (omega (arith, low)) known x.place x.length inside n st.marked t.ruling (omega (arith, st.space, fits.place, fits.next, fits.within, st.ready.sheet, st.usable.least)));
          rising = st.rising;
          usable = st.usable;
          count = omega (arith, st.marked);
          number = number;
          most = omega (arith, t.room);
          type = refl;
          value = refl;
          fit = t.fit;
          unread = marked-unread (eqb x.c 1);
          bytes = omega (arith, inside.bytes);
          within = fits.within;
          space = omega (arith, st.space, fits.place, fits.next, st.usable.least);
          named = named-entry ks few s m x.a x.b (bytes_of s x) refl refl t.fit st.counted.named low d refl refl;
          valued = rw number (valued-none ks few s m x.a x.b (bytes_of s x) refl refl t.fit st.counted.named low d refl refl);
          rows = st.rows.table;
          fewer = omega (arith, st.fewer);
        }

    pub standing-asked : {table' : List ℕ} → table' ≡ with_mark table n r → ValuesAsked f s ks table' held (n + 1) e
    standing-asked noted = record { complete = es; entry = d; all = m ∷ ms; begun = standing-begun noted }

    module _ {marks table' held' : List ℕ} {run : ValuesNoted} (noted : marks ≡ with_mark table n r) (answered : ValuesAnswered f s ks marks held (n + 1) e table' held' run) where
      values-judged : ValuesJudged f s ks table' held held' e es d run
      values-judged = answered es d (m ∷ ms) (standing-begun noted)

      pub standing-lost : (run.refusal ≡ 0 → ⊥) → fold (step f.top) finish 2 nothing (lines f.width s) ≡ refuse run.refusal
      standing-lost q = st.judged ∙ judged-on f s i here (reading ks complete current) (reading ks es (some d)) taking.1 ∙ (values-judged.refused q).sheet

      module _ (accepted : run.refusal ≡ 0) where
        -- the value lines were taken
        v : ValuesEnded f s ks table' held held' e es d run
        v = values-judged.ended accepted

        abbrev vs : List Part
        vs = v.values

        -- what is known of the entry where its target may follow
        abbrev last : Last
        last = record { number = notes.count + 1; alias = eqb x.c 1; lacks = not run.found; at = run.at; taken = run.taken }

        owed : Owed f s ks last es (with_values d vs)
        owed = record {
          usable = st.usable;
          sheet = st.ready.sheet;
          number = ap (λ (q : ℕ). q + 1) st.counted.number;
          lacking = ap not v.read.holds;
          within = v.read.within;
          stands = v.stands;
          other = v.other;
        }

        pub standing-owed : TargetAsked f s ks last
        standing-owed = record { complete = es; entry = with_values d vs; owed = owed }

        judged-values : fold (step f.top) finish 2 nothing (lines f.width s) ≡ judged_from f s (reading ks es (some (with_values d vs))) run.at
        judged-values = st.judged ∙ judged-on f s i here (reading ks complete current) (reading ks es (some d)) taking.1 ∙ passes-judged v.read.passed

        module _ {t : TargetNoted} (aimed : TargetAnswered f s ks last t) where
          target-judged : TargetJudged f s ks last es (with_values d vs) t
          target-judged = aimed es (with_values d vs) owed

          pub standing-cut : (t.refusal ≡ 0 → ⊥) → fold (step f.top) finish 2 nothing (lines f.width s) ≡ refuse t.refusal
          standing-cut q = judged-values ∙ (target-judged.refused q).sheet

          module _ (entire : t.refusal ≡ 0) where
            -- the lines of its target were taken
            u : TargetEnded f s ks last es (with_values d vs) t
            u = target-judged.ended entire

            abbrev added : Stored
            added = filling d vs u.target

            abbrev level : ℕ
            level = cond (eqb x.c 1) 8 (get_or depths x.a 0 + 1)

            next-levels : (j : ℕ) → j ≤ notes.count + 1 → get_or (set depths (notes.count + 1) level) j 0 ≡ level_of (es ++ (added ∷ [])) j
            next-levels j h = go (ℕ_discrete j (notes.count + 1))
              where
                above : get_or depths x.a 0 + 1 ≡ length d.name
                above = ap (λ (q : ℕ). q + 1) (level-plain es x.a (st.counted.levels x.a taking.0.parent) taking.0.level) ∙ sym (length-append (name_at es x.a) _)

                go : Dec (j ≡ notes.count + 1) → get_or (set depths (notes.count + 1) level) j 0 ≡ level_of (es ++ (added ∷ [])) j
                go (yes q) =
                    let room : notes.count + 1 < length depths = omega (arith, taking.0.room, st.sized.levels) in
                    ap (λ (y : ℕ). get_or (set depths (notes.count + 1) level) y 0) q
                    ∙ get_or-set_same depths (notes.count + 1) level 0 room
                    ∙ ap₂ (λ (b : Bool) (m : ℕ). cond b 8 m) (sym u.alias) above
                    ∙ sym (level-last ks es d vs u.target)
                    ∙ ap (level_of (es ++ (added ∷ []))) (ap (λ (y : ℕ). y + 1) (sym st.counted.number) ∙ sym q)
                go (no q) =
                    get_or-set_other depths (notes.count + 1) j level 0 q
                    ∙ st.counted.levels j (omega arith)
                    ∙ sym (level_before ks es d vs u.target j (omega (arith, st.counted.number)))

            next-room : notes.count + 1 < length notes.first
            next-room = omega (arith, taking.0.room, st.sized.first)

            entry-noted : EntryNoted f.width s added i x.a x.b x.length t.target
            entry-noted =
                let g = taking.0 in
                let next : x.next ≡ i + (5 * f.width + 1 + x.length) = omega (arith, fits.place, fits.next) in
                record {
                  line = taken-front f.width s i here ∙ ap₂ (λ (p q : ℕ). Front.Taken p x.a x.b q x.length) g.kind (mark-bit x.c (entry-columns f.top x g.form g.kind) ∙ ap bit (sym u.alias));
                  value = taken-value f.width s i fits;
                  within = omega (arith, next, fits.within);
                  values = ap (λ (p : ℕ). values_of (lines_at f.width s p)) (sym next) ∙ values-all v;
                  above = refl;
                  type = refl;
                  leads = u.noted;
                }

            next-noted : AllNoted f.width s (noting notes i x run.to t.target) (es ++ (added ∷ []))
            next-noted j h = go (ℕ_discrete j notes.count)
              where
                go : Dec (j ≡ notes.count) → EntryNoted f.width s (get_or (es ++ (added ∷ [])) j blank) (get_or (set notes.at notes.count i) j 0)
                    (get_or (set notes.parents notes.count x.a) j 0) (get_or (set notes.naming notes.count x.b) j 0) (get_or (set notes.lengths notes.count x.length) j 0)
                    (get_or (set notes.targets notes.count t.target) j 0)
                go (yes q) =
                    let room = taking.0.room in
                    let size = st.sized in
                    rw (q, get_or-set_same notes.at notes.count i 0 (omega (arith, room, size)), get_or-set_same notes.parents notes.count x.a 0 (omega (arith, room, size)), get_or-set_same notes.naming notes.count x.b 0 (omega (arith, room, size)), get_or-set_same notes.lengths notes.count x.length 0 (omega (arith, room, size)), get_or-set_same notes.targets notes.count t.target 0 (omega (arith, room, size)), get_or_at es added [] blank notes.count (sym st.counted.number))
                    entry-noted
                go (no q) =
                    rw (get_or-set_other notes.at notes.count j i 0 q, get_or-set_other notes.parents notes.count j x.a 0 q, get_or-set_other notes.naming notes.count j x.b 0 q, get_or-set_other notes.lengths notes.count j x.length 0 q, get_or-set_other notes.targets notes.count j t.target 0 q, get_or-append es (added ∷ []) blank j (omega (arith, st.counted.number)))
                    (st.noted j (omega arith))

            -- the next line that is no value line and no target's
            pub standing_on : {lev : ℕ} → lev ≡ level → (entries : List Stored) × (newest : Option Stored) × (all : List Mark)
                × EntriesRead f s ks (noting notes i x run.to t.target) (set depths (notes.count + 1) lev) table' held' run.marks (not run.found) t.at t.taken entries newest all
            unfolding entries_of lacks_naming lacks_target
            standing_on lev-is = (
              es,
              some added,
              v.all,
              record {
                ready = v.read.ready;
                rising = st.rising;
                usable = st.usable;
                sized = record {
                  types = st.sized.types;
                  list = st.sized.list;
                  schema = st.sized.schema;
                  at = simp length-set st.sized.at;
                  parents = simp length-set st.sized.parents;
                  naming = simp length-set st.sized.naming;
                  lengths = simp length-set st.sized.lengths;
                  first = simp length-set st.sized.first;
                  targets = simp length-set st.sized.targets;
                  levels = simp length-set st.sized.levels;
                };
                after = record {
                  schema = st.after.schema;
                  at = zeros-more notes.count notes.at i st.after.at;
                  parents = zeros-more notes.count notes.parents x.a st.after.parents;
                  naming = zeros-more notes.count notes.naming x.b st.after.naming;
                  lengths = zeros-more notes.count notes.lengths x.length st.after.lengths;
                  first = zeros-more (notes.count + 1) notes.first run.to st.after.first;
                  targets = zeros-more notes.count notes.targets t.target st.after.targets;
                };
                marked = v.read.count;
                space = omega (arith, v.read.space, u.start);
                within = u.within;
                stands = u.stands;
                elsewhere = λ y is w. u.other w y is;
                counted = record {
                  number = ap (λ (q : ℕ). q + 1) st.counted.number ∙ sym (length-append es (added ∷ []));
                  most = omega (arith, taking.0.room);
                  lacking = ap not v.read.holds;
                  whole = ap not u.whole;
                  levels = λ j h. ap (λ (l : ℕ). get_or (set depths (notes.count + 1) l) j 0) lev-is ∙ next-levels j h;
                  named = named-filled ks es d vs u.target v.read.named;
                };
                noted = next-noted;
                rows = held_more st.rows added v.read.rows st.counted.number next-room;
                fewer = rw (get_or-set_same notes.first (notes.count + 1) run.to 0 next-room) v.read.fewer;
                judged = judged-values ∙ passes-judged u.passed;
              },
            )

            -- further on in the sheet
            pub standing-further : length s - t.at < length s - i
            standing-further = omega (arith, v.read.start, u.start, u.within, fits.place, fits.next)
