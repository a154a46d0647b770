-- Laws of `Target`: what the code decides on each line is what the rules decide, and one part more.
use Prim.Native.Nat.{ℕ, zero, suc, ◌+◌, ◌*◌, ◌-◌, ◌/◌, ◌%◌, ◌≤◌, ◌<◌}
use Rattle.std.specs.Prelude.{◌≡◌, Bool, ◌||◌, not, cond, ltb, length}
use Rattle.std.proofs.Math.Path.{refl, sym, ap, subst}
use Rattle.std.proofs.Common.{◌∙◌, arith, eq-eqb, ne_eqb, eqb-true}
use Rattle.std.proofs.Math.Bool.{true, false}
use Rattle.std.proofs.lemmas.Bool.{false≢true, eqb-false}
use mathlib.Core.List.{List, [], ◌∷◌, ◌++◌, append_assoc, append-nil}
use Rattle.std.proofs.Math.Dec.{eqb}
use Rattle.std.proofs.Math.ListN.{length-append}
use Rattle.rules.specs.Lists.{any, is_empty, last_or}
use Rattle.rules.specs.Sheet.{Bytes}
use Rattle.rules.specs.declared.Format.{Format}
use Rattle.rules.specs.Columns.{directory_forms, in_form}
use Rattle.rules.specs.Name.{part, Name, allowed, same_part}
use Rattle.rules.specs.Judge.{Verdict, accept, refuse}
use Rattle.rules.specs.Directory.{Target, nowhere, missing, parts, Stored, Reading, entries_of, lacks_naming, lacks_target, is_unread, is_whole, alias_mark, with_target, type_line, entry_line, value_line, target_line, part_line, step, finish}
use Rattle.rules.specs.Places.{lines_at, parts_of, schema_of}
use Rattle.rules.proofs.Laws.Columns.{DirectoryLine, is_type, is_entry, is_value, is_target, is_part, directory-line}
use Rattle.sheet_line.specs.declared.Line.{Line}
use Rattle.sheet_line.specs.declared.Taken.{Taken}
use Rattle.sheet_line.specs.Line.{taken_at, bytes_of, line_of}
use Rattle.sheet_line.specs.Laws.{LineFits, taken-lines, taken-fits-line}
use Rattle.directory_schema.specs.Lines.{judged_from, Passes, none, one, columns_fit}
use Rattle.directory_schema.specs.Laws.Lines.{formed, judged-broken, judged-end, judged-refused, passes-judged, step-form, step-type, step-entry, step_value, step-target, step_part}
use Rattle.directory_alias.specs.declared.Last.{Last}
use Rattle.directory_alias.specs.Target.{TargetNoted, rest_number, stray_number, absent_number, part_number, reading_to, Owed, PartsAsked, PartsRead, target_refused, TargetJudged, TargetAnswered}

-- a line of this kind is due
abbrev Due : Target → ℕ → Type 0
Due nowhere k = ⊥
Due missing k = k ≡ 36
Due (parts zero m) k = ⊥
Due (parts (suc n) m) k = k ≡ 9

due-not-whole : (t : Target) (kind : ℕ) → Due t kind → not (is_whole t) ≡ true
due-not-whole nowhere kind h = absurd h
due-not-whole missing kind h = refl
due-not-whole (parts zero m) kind h = absurd h
due-not-whole (parts (suc n) m) kind h = rw (ne_eqb (suc n) 0 (λ e. omega arith))

-- ---- one line

-- a line that is not refused is the one that is due
pub stray-none : (top kind number : ℕ) (lacks : Bool) (x : Line) → stray_number top kind number lacks x ≡ 0 → (columns_fit top x ≡ true) × (x.kind ≡ kind)
unfolding stray_number
stray-none top kind number lacks x = go (columns_fit top x) refl (eqb x.kind kind) refl
  where
    other : (two high lk : Bool) → rest_number two high lk ≡ 0 → ⊥
    other true true lk z = omega arith
    other true false true z = omega arith
    other true false false z = omega arith
    other false high lk z = omega arith

    go : (f : Bool) → columns_fit top x ≡ f → (b : Bool) → eqb x.kind kind ≡ b
        → cond f (cond b 0 (rest_number (eqb x.kind 2) (ltb number x.a) lacks)) 2 ≡ 0 → (f ≡ true) × (x.kind ≡ kind)
    go false p b q z = absurd (omega arith)
    go true p true q z = (refl, eqb-true x.kind kind q)
    go true p false q z = absurd (other (eqb x.kind 2) (ltb number x.a) lacks z)

pub part_none : (top : ℕ) (s : Bytes) (ks : List ℕ) (number : ℕ) (lacks : Bool) (x : Line) → part_number top s ks number lacks x ≡ 0
    → (stray_number top 9 number lacks x ≡ 0) × (allowed (schema_of ks) x.a (bytes_of s x) ≡ true)
unfolding part_number
part_none top s ks number lacks x = go (eqb (stray_number top 9 number lacks x) 0) refl (allowed (schema_of ks) x.a (bytes_of s x)) refl
  where
    go : (b : Bool) → eqb (stray_number top 9 number lacks x) 0 ≡ b → (al : Bool) → allowed (schema_of ks) x.a (bytes_of s x) ≡ al
        → cond b (cond al 0 4) (stray_number top 9 number lacks x) ≡ 0 → (stray_number top 9 number lacks x ≡ 0) × (al ≡ true)
    go true p true q z = (eqb-true (stray_number top 9 number lacks x) 0 p, refl)
    go true p false q z = absurd (omega arith)
    go false p al q z = absurd (eqb-false (stray_number top 9 number lacks x) 0 p z)

module _ (top : ℕ) (s : Bytes) (ks : List ℕ) (complete : List Stored) (d : Stored) (number : ℕ) (lacks : Bool) (counted : number ≡ length complete + 1)
    (lacking : lacks ≡ not (any (same_part (schema_of ks) d.naming) d.values)) (x : Line) (form : columns_fit top x ≡ in_form (directory_forms top) (line_of s x)) where
  module _ (t : Target) (kind : ℕ) (due : Due t kind) (unread : is_unread t ≡ true → x.kind ≡ 3 → ⊥) where
    abbrev st : Reading
    st = reading_to ks complete d t

    abbrev left : ℕ
    left = rest_number (eqb x.kind 2) (ltb number x.a) lacks

    three : (x.kind ≡ 2 → ⊥) → ◌≡◌ {A = Verdict Reading} (refuse 3) (refuse left)
    three h = rw (ne_eqb x.kind 2 h)

    some-entry : (ds : List Stored) (e : Stored) → is_empty (ds ++ (e ∷ [])) ≡ false
    some-entry [] e = refl
    some-entry (y ∷ ys) e = refl

    many : length (entries_of st) ≡ number
    unfolding entries_of
    many = length-append complete (with_target d t ∷ []) ∙ sym counted

    lacks-naming : lacks_naming (schema_of ks) st.current ≡ lacks
    unfolding lacks_naming
    lacks-naming = sym lacking

    lacks-target : lacks_target st.current ≡ true
    unfolding lacks_target
    lacks-target = due-not-whole t kind due

    read : (is_unread t ≡ true → ⊥) → (b : Bool) → (b || not (is_unread t)) ≡ true
    read h b = by b (is_unread t) h
      where
        by : (b u : Bool) → (u ≡ true → ⊥) → (b || not u) ≡ true
        by true u h = refl
        by false true h = absurd (h refl)
        by false false h = refl

    typed : type_line st (line_of s x) ≡ refuse 3
    unfolding type_line entries_of
    typed = rw (some-entry complete (with_target d t))

    valued : x.kind ≡ 3 → value_line st st.current (line_of s x) ≡ refuse 3
    unfolding value_line
    valued k = rw (read (λ u. unread u k) (ltb x.a (last_or (part 0 []) d.values).type))

    entered : (h l : Bool) → ltb number x.a ≡ h → lacks ≡ l → entry_line st (line_of s x) ≡ refuse (cond h 2 (cond l 6 3))
    unfolding entry_line
    entered true l p q = rw (many, p)
    entered false true p q = rw (many, p, lacks-naming, q)
    entered false false p q = rw (many, p, lacks-naming, q, lacks-target)

    module _ (fits : columns_fit top x ≡ true) (other : x.kind ≡ kind → ⊥) where
      stray-line : DirectoryLine top (line_of s x) → step top st (line_of s x) ≡ refuse left
      stray-line (is_type l) = step-type top st (line_of s x) (sym form ∙ fits) l.kind ∙ typed ∙ three (λ q. omega (arith, l.kind))
      stray-line (is_entry l) = step-entry top st (line_of s x) (sym form ∙ fits) l.kind ∙ entered (ltb number x.a) lacks refl refl ∙ rw (eq-eqb x.kind 2 l.kind)
      stray-line (is_value l) = step_value top st (line_of s x) (sym form ∙ fits) l.kind ∙ valued l.kind ∙ three (λ q. omega (arith, l.kind))
      stray-line (is_target l) = step-target top st (line_of s x) (sym form ∙ fits) l.kind ∙ by t due l.kind ∙ three (λ q. omega (arith, l.kind))
        where
          by : (u : Target) → Due u kind → x.kind ≡ 36 → target_line st (with_target d t) u (line_of s x) ≡ refuse 3
          by nowhere h k = absurd h
          by missing h k = absurd (other (k ∙ sym h))
          by (parts n m) h k = unfold target_line in refl
      stray-line (is_part l) = step_part top st (line_of s x) (sym form ∙ fits) l.kind ∙ by t due l.kind ∙ three (λ q. omega (arith, l.kind))
        where
          by : (u : Target) → Due u kind → x.kind ≡ 9 → part_line st (with_target d t) u (line_of s x) ≡ refuse 3
          by nowhere h k = absurd h
          by missing h k = unfold part_line in refl
          by (parts zero m) h k = absurd h
          by (parts (suc n) m) h k = absurd (other (k ∙ sym h))

    pub stray-refused : (stray_number top kind number lacks x ≡ 0 → ⊥) → step top st (line_of s x) ≡ refuse (stray_number top kind number lacks x)
    unfolding stray_number
    stray-refused = go (columns_fit top x) refl (eqb x.kind kind) refl
      where
        go : (f : Bool) → columns_fit top x ≡ f → (b : Bool) → eqb x.kind kind ≡ b → (cond f (cond b 0 left) 2 ≡ 0 → ⊥) → step top st (line_of s x) ≡ refuse (cond f (cond b 0 left) 2)
        go false p b q z = step-form top st (line_of s x) (sym form ∙ p)
        go true p true q z = absurd (z refl)
        go true p false q z = stray-line p (eqb-false x.kind kind q) (directory-line top (line_of s x) (sym form ∙ p))

  -- K 36, where it is due
  target-taken : stray_number top 36 number lacks x ≡ 0 → (step top (reading_to ks complete d missing) (line_of s x) ≡ accept (reading_to ks complete d (parts x.b []))) × (x.b ≤ 8)
  target-taken z =
      let h = stray-none top 36 number lacks x z in
      (step-target top (reading_to ks complete d missing) (line_of s x) (sym form ∙ h.0) h.1 ∙ (unfold target_line in refl), few (directory-line top (line_of s x) (sym form ∙ h.0)) h.1)
    where
      few : DirectoryLine top (line_of s x) → x.kind ≡ 36 → x.b ≤ 8
      few (is_type l) k = absurd (omega (arith, l.kind))
      few (is_entry l) k = absurd (omega (arith, l.kind))
      few (is_value l) k = absurd (omega (arith, l.kind))
      few (is_target l) k = l.few
      few (is_part l) k = absurd (omega (arith, l.kind))

  -- K 9, where one is due
  module _ (n : ℕ) (m : Name) where
    part-taken : part_number top s ks number lacks x ≡ 0
        → step top (reading_to ks complete d (parts (suc n) m)) (line_of s x) ≡ accept (reading_to ks complete d (parts n (m ++ (part x.a (bytes_of s x) ∷ []))))
    part-taken z =
        let g = part_none top s ks number lacks x z in
        let h = stray-none top 9 number lacks x g.0 in
        step_part top (reading_to ks complete d (parts (suc n) m)) (line_of s x) (sym form ∙ h.0) h.1 ∙ (unfold part_line in (rw g.1))

    part-refused : (part_number top s ks number lacks x ≡ 0 → ⊥) → step top (reading_to ks complete d (parts (suc n) m)) (line_of s x) ≡ refuse (part_number top s ks number lacks x)
    unfolding part_number
    part-refused = go (eqb (stray_number top 9 number lacks x) 0) refl (allowed (schema_of ks) x.a (bytes_of s x)) refl
      where
        go : (b : Bool) → eqb (stray_number top 9 number lacks x) 0 ≡ b → (al : Bool) → allowed (schema_of ks) x.a (bytes_of s x) ≡ al
            → (cond b (cond al 0 4) (stray_number top 9 number lacks x) ≡ 0 → ⊥)
            → step top (reading_to ks complete d (parts (suc n) m)) (line_of s x) ≡ refuse (cond b (cond al 0 4) (stray_number top 9 number lacks x))
        go true p true q z = absurd (z refl)
        go true p false q z =
            let h = stray-none top 9 number lacks x (eqb-true (stray_number top 9 number lacks x) 0 p) in
            step_part top (reading_to ks complete d (parts (suc n) m)) (line_of s x) (sym form ∙ h.0) h.1 ∙ (unfold part_line in (rw q))
        go false p al q z = stray-refused (parts (suc n) m) 9 refl (λ u. absurd (false≢true u)) z

-- ---- no line

pub absent-not : (lacks : Bool) (t : Taken) → absent_number lacks t ≡ 0 → ⊥
absent-not lacks (Taken.Line x) z = omega arith
absent-not lacks Taken.NotInForm z = omega arith
absent-not true Taken.End z = omega arith
absent-not false Taken.End z = omega arith

absent-refused : (f : Format) (s : Bytes) (i : ℕ) (ks : List ℕ) (complete : List Stored) (d : Stored) (lacks : Bool)
    → lacks ≡ not (any (same_part (schema_of ks) d.naming) d.values) → (u : Target) (kind : ℕ) → Due u kind
    → (t : Taken) → t ≡ taken_at f.width s i → ((x : Line) → t ≡ Taken.Line x → ⊥) → judged_from f s (reading_to ks complete d u) i ≡ refuse (absent_number lacks t)
absent-refused f s i ks complete d lacks lacking u kind due (Taken.Line x) e h = absurd (h x refl)
absent-refused f s i ks complete d lacks lacking u kind due Taken.NotInForm e h = judged-broken f s i (reading_to ks complete d u) (sym e)
absent-refused f s i ks complete d lacks lacking u kind due Taken.End e h = judged-end f s i (reading_to ks complete d u) (sym e) ∙ by lacks refl
  where
    by : (l : Bool) → lacks ≡ l → finish (reading_to ks complete d u) ≡ refuse (cond l 6 3)
    by true q = unfold finish lacks_naming in (rw (← lacking, q))
    by false q = unfold finish lacks_naming lacks_target in (rw (← lacking, q, due-not-whole u kind due))

-- ---- the answer

pub answer-refused : {f : Format} {s : Bytes} {ks : List ℕ} {e : Last} {complete : List Stored} {d : Stored} {r : TargetNoted} (n : ℕ) → (n ≡ 0 → ⊥) → r ≡ target_refused n
    → judged_from f s (reading_to ks complete d (alias_mark e.alias)) e.at ≡ refuse n → TargetJudged f s ks e complete d r
answer-refused {r = r} n z only h = record {
  ended = λ q. absurd (z (sym number ∙ q));
  refused = λ q. record { sheet = h ∙ ap refuse (sym number); only = only ∙ ap target_refused (sym number) };
}
  where
    number : r.refusal ≡ n
    number = ap (λ (y : TargetNoted). y.refusal) only

-- no alias
pub answer-none : (f : Format) (s : Bytes) (ks : List ℕ) (e : Last) → e.alias ≡ false → TargetAnswered f s ks e (record { refusal = 0; target = 0; at = e.at; taken = e.taken })
unfolding parts_of
answer-none f s ks e plain complete d o = record {
  ended = λ z. record {
    target = nowhere;
    passed = subst (λ (b : Bool). Passes f s (reading_to ks complete d (alias_mark b)) e.at (reading_to ks complete d nowhere) e.at) (sym plain) none;
    alias = sym plain;
    whole = refl;
    noted = record { alias = refl; name = refl; count = refl; within = omega arith; few = omega arith };
    start = omega arith;
    within = o.within;
    stands = o.stands;
    other = λ u. o.other;
  };
  refused = λ z. absurd (z refl);
}

-- an alias, of which no line stands
module _ (f : Format) (s : Bytes) (ks : List ℕ) (e : Last) (alias : e.alias ≡ true) where
  to-missing : (complete : List Stored) (d : Stored) (n : ℕ) → judged_from f s (reading_to ks complete d missing) e.at ≡ refuse n
      → judged_from f s (reading_to ks complete d (alias_mark e.alias)) e.at ≡ refuse n
  to-missing complete d n h = rw alias h

  pub answer-absent : {r : TargetNoted} → r ≡ target_refused (absent_number e.lacks e.taken) → ((x : Line) → e.taken ≡ Taken.Line x → ⊥) → TargetAnswered f s ks e r
  answer-absent only h complete d o =
      answer-refused (absent_number e.lacks e.taken) (absent-not e.lacks e.taken) only
      (to-missing complete d _ (absent-refused f s e.at ks complete d e.lacks o.lacking missing 36 refl e.taken o.stands h))

  -- or another line
  pub answer-stray : {r : TargetNoted} {x : Line} → e.taken ≡ Taken.Line x → (n : ℕ) → n ≡ stray_number f.top 36 e.number e.lacks x → (n ≡ 0 → ⊥) → r ≡ target_refused n → TargetAnswered f s ks e r
  answer-stray {x = x} is n number z only complete d o =
      let here = sym o.stands ∙ is in
      answer-refused n z only
      (to-missing complete d n (judged-refused f s e.at here (reading_to ks complete d missing) n
      (stray-refused f.top s ks complete d e.number e.lacks o.number o.lacking x (formed f s e.at here) missing 36 refl (λ u. o.other x is) (λ q. z (number ∙ q)) ∙ ap refuse (sym number))))

-- ---- the parts

-- a part that stands at a position is the first of those from there on
parts-on : (w : ℕ) (s : Bytes) (i n : ℕ) {x : Line} → taken_at w s i ≡ Taken.Line x → parts_of (suc n) (lines_at w s i) ≡ part x.a (bytes_of s x) ∷ parts_of n (lines_at w s x.next)
unfolding parts_of
parts-on w s i n e = rw (taken-lines w s i, e)

module _ {f : Format} {s : Bytes} {ks : List ℕ} {e : Last} {x : Line} (a : PartsAsked f s ks e x) where
  fits : LineFits f.width s e.at x
  fits = taken-fits-line f.width s e.at a.taken

  module _ {complete : List Stored} {d : Stored} (o : Owed f s ks e complete d) where
    begun : (step f.top (reading_to ks complete d missing) (line_of s x) ≡ accept (reading_to ks complete d (parts x.b []))) × (x.b ≤ 8)
    begun = target-taken f.top s ks complete d e.number e.lacks o.number o.lacking x (formed f s e.at a.taken) a.due

    pub parts-start : PartsRead f s ks e x x.b x.next complete d []
    parts-start = record {
      passed = subst (λ (b : Bool). Passes f s (reading_to ks complete d (alias_mark b)) e.at (reading_to ks complete d (parts x.b [])) x.next) (sym a.alias) (one none a.taken begun.0);
      sofar = refl;
      count = omega arith;
      start = omega (arith, fits.place, fits.next);
      within = fits.within;
    }

  -- the numbers of the K 36 line
  pub parts-bounds : (x.b ≤ 8) × (x.next ≤ length s) × (0 < x.next) × (length s ≤ 65536)
  parts-bounds = ((begun a.asked.owed).1, fits.within, omega (arith, fits.next), a.asked.owed.sheet)

  module _ {complete : List Stored} {d : Stored} (o : Owed f s ks e complete d) {left i : ℕ} {m : Name} (g : PartsRead f s ks e x left i complete d m) where
    -- all parts have been read
    pub parts-ended : left ≡ 0 → {t : Taken} → t ≡ taken_at f.width s i → TargetJudged f s ks e complete d (record { refusal = 0; target = x.next * 16 + x.b; at = i; taken = t })
    unfolding parts_of
    parts-ended z stands = record {
      ended = λ q. record {
        target = parts 0 m;
        passed = subst (λ (k : ℕ). Passes f s (reading_to ks complete d (alias_mark e.alias)) e.at (reading_to ks complete d (parts k m)) i) z g.passed;
        alias = sym a.alias;
        whole = refl;
        noted = record {
          alias = let h : (x.next * 16 + x.b ≡ 0 → ⊥) = λ q. omega (arith, parts-bounds) in rw (ne_eqb (x.next * 16 + x.b) 0 h);
          name = let p : (x.next * 16 + x.b) % 16 ≡ x.b = omega (arith, parts-bounds) in
              let n : (x.next * 16 + x.b) / 16 ≡ x.next = omega (arith, parts-bounds) in
              rw (p, n) (g.sofar ∙ ap (λ (k : ℕ). m ++ parts_of k (lines_at f.width s i)) z ∙ append-nil m);
          count = omega (arith, g.count, z, parts-bounds);
          within = omega (arith, parts-bounds);
          few = omega (arith, parts-bounds);
        };
        start = g.start;
        within = g.within;
        stands = stands;
        other = λ u. absurd (false≢true u);
      };
      refused = λ q. absurd (q refl);
    }

    -- one is due
    module _ (more : left ≡ 0 → ⊥) where
      some_left : left ≡ suc (left - 1)
      some_left = omega (arith, more)

      due-passed : Passes f s (reading_to ks complete d (alias_mark e.alias)) e.at (reading_to ks complete d (parts (suc (left - 1)) m)) i
      due-passed = subst (λ (k : ℕ). Passes f s (reading_to ks complete d (alias_mark e.alias)) e.at (reading_to ks complete d (parts k m)) i) some_left g.passed

      pub parts-absent : {t : Taken} {r : TargetNoted} → t ≡ taken_at f.width s i → r ≡ target_refused (absent_number e.lacks t) → ((y : Line) → t ≡ Taken.Line y → ⊥) → TargetJudged f s ks e complete d r
      parts-absent {t} stands only h =
          answer-refused (absent_number e.lacks t) (absent-not e.lacks t) only
          (passes-judged due-passed ∙ absent-refused f s i ks complete d e.lacks o.lacking (parts (suc (left - 1)) m) 9 refl t stands h)

      module _ {y : Line} (here : taken_at f.width s i ≡ Taken.Line y) {n : ℕ} (number : n ≡ part_number f.top s ks e.number e.lacks y) where
        pub parts-refused : (n ≡ 0 → ⊥) → {r : TargetNoted} → r ≡ target_refused n → TargetJudged f s ks e complete d r
        parts-refused z only =
            answer-refused n z only
            (passes-judged due-passed ∙ judged-refused f s i here (reading_to ks complete d (parts (suc (left - 1)) m)) n
            (part-refused f.top s ks complete d e.number e.lacks o.number o.lacking y (formed f s i here) (left - 1) m (λ q. z (number ∙ q)) ∙ ap refuse (sym number)))

        pub parts_more : n ≡ 0 → PartsRead f s ks e x (left - 1) y.next complete d (m ++ (part y.a (bytes_of s y) ∷ []))
        parts_more z =
            let h = taken-fits-line f.width s i here in
            record {
              passed = one due-passed here (part-taken f.top s ks complete d e.number e.lacks o.number o.lacking y (formed f s i here) (left - 1) m (sym number ∙ z));
              sofar = g.sofar ∙ ap (λ (k : ℕ). m ++ parts_of k (lines_at f.width s i)) some_left ∙ ap (λ (p : Name). m ++ p) (parts-on f.width s i (left - 1) here) ∙ sym (append_assoc m (part y.a (bytes_of s y) ∷ []) _);
              count = omega (arith, g.count, some_left, length-append m (part y.a (bytes_of s y) ∷ []));
              start = omega (arith, g.start, h.place, h.next);
              within = h.within;
            }
