-- Laws of `EntryLine`: what the code decides is what the rules decide.
use Prim.Native.Nat.{ℕ, zero, suc, ◌+◌, ◌≤◌, ◌<◌}
use Rattle.std.specs.Prelude.{◌≡◌, ◌⊎◌, Bool, true, ◌||◌, not, cond, eqb, leb, ltb, length, get_or}
use Rattle.std.proofs.Math.Path.{refl}
use Rattle.std.proofs.Common.{sym, ◌∙◌, inl, inr, arith, length-append}
use Rattle.std.proofs.Math.Bool.{false}
use Rattle.std.proofs.lemmas.Bool.{false≢true}
use Rattle.std.proofs.Math.Option.{Option, none, some}
use mathlib.Core.List.{List, [], ◌∷◌, ◌++◌}
use borrow.Author.Tests.{eqb-true, eqb-false, ltb-false, leb-true, leb-false, lt-ltb, le-ltb}
use Rattle.rules.specs.Lists.{is_empty, last_or}
use Rattle.rules.specs.Sheet.{Bytes}
use Rattle.rules.specs.Columns.{directory_forms, in_form}
use Rattle.rules.specs.Name.{part, allowed}
use Rattle.rules.specs.Judge.{Verdict, accept, refuse, refuse_if}
use Rattle.rules.specs.Directory.{Target, nowhere, missing, parts, Stored, Reading, entries_of, name_at, new_entry, is_unread, is_whole, lacks_naming, lacks_target, under_alias, clashes, type_line, entry_line, value_line, target_line, part_line, step}
use Rattle.rules.proofs.Laws.Tests.{is_true_lem}
use Rattle.rules.proofs.Laws.Columns.{DirectoryLine, is_type, is_entry, is_value, is_target, is_part, directory-line}
use Rattle.rules.specs.Places.{schema_of}
use Rattle.sheet_line.specs.declared.Line.{Line}
use Rattle.sheet_line.specs.Line.{bytes_of, line_of}
use Rattle.name.specs.Schema.{rank_in, allowed_at}
use Rattle.name.specs.Laws.Schema.{allowed-ranked}
use Rattle.directory_schema.specs.Lines.{columns_fit}
use Rattle.directory_schema.specs.Laws.Lines.{step-form, step-type, step-entry, step_value, step-target, step_part}
use Rattle.directory_duplicates.specs.Mark.{Mark}
use Rattle.directory_duplicates.specs.Twins.{twins, Named}
use Rattle.directory_duplicates.specs.Noted.{RulingNoted}
use Rattle.directory_duplicates.specs.Rulings.{reading, refusing, marking, ruled_of}
use Rattle.directory_duplicates.specs.Laws.Rulings.{Refused}
use Rattle.directory_entry.specs.EntryLine.{level_of, place_number, place_refusal, entry_ruling}

-- ---- what the code decides

-- a line that is not refused so has a parent
pub place-low : (depths : List ℕ) (count : ℕ) (lacks : Bool) (a : ℕ) → place_refusal depths count lacks a ≡ 0 → a ≤ count
unfolding place_refusal
place-low depths count lacks a z = go (ltb count a) refl z
  where
    go : (t : Bool) → ltb count a ≡ t → place_number t lacks (leb 256 count) (leb 8 (get_or depths a 0)) ≡ 0 → a ≤ count
    go true e q = absurd (omega arith)
    go false e q = ltb-false count a e

-- ---- what the rules decide

-- lines of these kinds have been taken already
abbrev pub Elsewhere : Option Stored → ℕ → Type 0
Elsewhere none k = k ≡ 1 → ⊥
Elsewhere (some e) k = is_unread e.target ≡ true → k ≡ 3 → ⊥

-- what the code has of the entries `es` so far
pub record EntriesCounted (s : Bytes) (ks depths : List ℕ) (count : ℕ) (lacks : Bool) (es : List Stored) (current : Option Stored) (ms : List Mark) : Type 0 where
  pub number : count ≡ length es
  pub most : count ≤ 256
  pub lacking : lacks ≡ lacks_naming (schema_of ks) current
  pub whole : lacks_target current ≡ false
  pub levels : (k : ℕ) → k ≤ count → get_or depths k 0 ≡ level_of es k
  pub named : Named s ks es ms

-- an entry line that was taken
pub record EntryMarked (top : ℕ) (s : Bytes) (ks depths table : List ℕ) (count : ℕ) (x : Line) (r : RulingNoted) : Type 0 where
  pub kind : x.kind ≡ 2
  pub form : columns_fit top x ≡ true
  pub parent : x.a ≤ count
  pub room : count < 256
  pub level : get_or depths x.a 0 < 8
  pub fit : allowed (schema_of ks) x.b (bytes_of s x) ≡ true
  pub ruling : r ≡ marking s table x.a (rank_in ks x.b) x.place x.length

-- the line, refused or taken
abbrev pub EntryOutcome : ℕ → Bytes → List ℕ → List ℕ → List ℕ → ℕ → List Stored → Option Stored → Line → RulingNoted → Type 0
EntryOutcome top s ks depths table count complete current x r =
    let es = entries_of (reading ks complete current) in
    Refused top (reading ks complete current) (line_of s x) r
    ⊎ (EntryMarked top s ks depths table count x r × (step top (reading ks complete current) (line_of s x) ≡ accept (reading ks es (some (new_entry es (line_of s x))))))

-- the line, where its form is known
module _ (top : ℕ) (s : Bytes) (ks : List ℕ) (complete : List Stored) (current : Option Stored) (x : Line) (formed : columns_fit top x ≡ in_form (directory_forms top) (line_of s x)) (form : columns_fit top x ≡ true) where
  abbrev es : List Stored
  es = entries_of (reading ks complete current)

  abbrev v : Bytes
  v = bytes_of s x

  abbrev added : Stored
  added = new_entry es (line_of s x)

  -- a kind that is out of its place
  misplaced : Elsewhere current x.kind → lacks_target current ≡ false → (x.kind ≡ 2 → ⊥) → step top (reading ks complete current) (line_of s x) ≡ refuse 3
  unfolding lacks_target
  misplaced = go current (directory-line top (line_of s x) (sym formed ∙ form))
    where
      some-entry : (ds : List Stored) (d : Stored) → is_empty (ds ++ (d ∷ [])) ≡ false
      some-entry [] d = refl
      some-entry (y ∷ ys) d = refl

      -- an alias with its target has no more values
      valued : (d : Stored) → (is_unread d.target ≡ true → ⊥) → (b : Bool) → (b || not (is_unread d.target)) ≡ true
      valued d h b = by b (is_unread d.target) h
        where
          by : (b u : Bool) → (u ≡ true → ⊥) → (b || not u) ≡ true
          by true u h = refl
          by false true h = absurd (h refl)
          by false false h = refl

      unread : (d : Stored) (t : Target) → is_whole t ≡ true → target_line (reading ks complete (some d)) d t (line_of s x) ≡ refuse 3
      unread d nowhere w = unfold target_line in refl
      unread d missing w = absurd (false≢true w)
      unread d (parts n m) w = unfold target_line in refl

      unparted : (d : Stored) (t : Target) → is_whole t ≡ true → part_line (reading ks complete (some d)) d t (line_of s x) ≡ refuse 3
      unparted d nowhere w = unfold part_line in refl
      unparted d missing w = absurd (false≢true w)
      unparted d (parts zero m) w = unfold part_line in refl
      unparted d (parts (suc n) m) w = absurd (omega (arith, eqb-true (suc n) 0 w))

      go : (o : Option Stored) → DirectoryLine top (line_of s x) → Elsewhere o x.kind → lacks_target o ≡ false → (x.kind ≡ 2 → ⊥) → step top (reading ks complete o) (line_of s x) ≡ refuse 3
      go o (is_entry l) h w z = absurd (z l.kind)
      go none (is_type l) h w z = absurd (h l.kind)
      go none (is_value l) h w z = step_value top (reading ks complete none) (line_of s x) (sym formed ∙ form) l.kind ∙ (unfold value_line in refl)
      go none (is_target l) h w z = step-target top (reading ks complete none) (line_of s x) (sym formed ∙ form) l.kind
      go none (is_part l) h w z = step_part top (reading ks complete none) (line_of s x) (sym formed ∙ form) l.kind
      go (some d) (is_type l) h w z = step-type top (reading ks complete (some d)) (line_of s x) (sym formed ∙ form) l.kind ∙ (unfold type_line entries_of in (rw (some-entry complete d)))
      go (some d) (is_value l) h w z =
          step_value top (reading ks complete (some d)) (line_of s x) (sym formed ∙ form) l.kind ∙ (unfold value_line in (rw (valued d (λ u. h u l.kind) (ltb x.a (last_or (part 0 []) d.values).type))))
      go (some d) (is_target l) h w z = step-target top (reading ks complete (some d)) (line_of s x) (sym formed ∙ form) l.kind ∙ unread d d.target (is_true_lem (is_whole d.target) w)
      go (some d) (is_part l) h w z = step_part top (reading ks complete (some d)) (line_of s x) (sym formed ∙ form) l.kind ∙ unparted d d.target (is_true_lem (is_whole d.target) w)

  -- the rules' tests, one after the other
  abbrev entry_verdict : Bool → Bool → Bool → Bool → Bool → Verdict Reading
  entry_verdict high lacks many allows clash =
      refuse_if high 2 (refuse_if lacks 6 (refuse_if many 3 (refuse_if (not allows) 4 (refuse_if clash 5 (accept (reading ks es (some added)))))))

  -- one level below its parent
  depth_is : (d : ℕ) → d ≡ length (name_at es x.a) → ltb 8 (length added.name) ≡ leb 8 d
  depth_is d h = go (leb 8 d) refl
    where
      more : length added.name ≡ d + 1
      more = length-append (name_at es x.a) _ ∙ rw (← h)

      go : (t : Bool) → leb 8 d ≡ t → ltb 8 (length added.name) ≡ t
      go true q = lt-ltb 8 (length added.name) (omega (arith, more, leb-true 8 d q))
      go false q = le-ltb 8 (length added.name) (omega (arith, more, leb-false 8 d q))

  -- and none below an alias
  level-is : (d : ℕ) → d ≡ level_of es x.a → (under_alias es x.a || ltb 8 (length added.name)) ≡ leb 8 d
  level-is d = go (under_alias es x.a)
    where
      go : (u : Bool) → d ≡ cond u 8 (length (name_at es x.a)) → (u || ltb 8 (length added.name)) ≡ leb 8 d
      go true h = rw h
      go false h = depth_is d h

  -- too many entries, whatever stands above
  many_is : (u deep : Bool) → (u || (true || deep)) ≡ true
  many_is true deep = refl
  many_is false deep = refl

  module _ (depths table : List ℕ) (count : ℕ) (lacks : Bool) (ms : List Mark) (known : EntriesCounted s ks depths count lacks es current ms) (two : x.kind ≡ 2) where
    entry-same : step top (reading ks complete current) (line_of s x)
        ≡ entry_verdict (ltb count x.a) lacks (under_alias es x.a || (leb 256 count || ltb 8 (length added.name))) (allowed (schema_of ks) x.b v) (clashes (schema_of ks) es x.a (part x.b v))
    unfolding entry_line
    entry-same = step-entry top (reading ks complete current) (line_of s x) (sym formed ∙ form) two ∙ rw (known.whole, ← known.number, ← known.lacking)

    entry-by : (high lk many deep al tw : Bool) → ltb count x.a ≡ high → lacks ≡ lk → leb 256 count ≡ many → leb 8 (get_or depths x.a 0) ≡ deep
        → allowed (schema_of ks) x.b v ≡ al → twins s ks x.a (rank_in ks x.b) v ms ≡ tw
        → EntryOutcome top s ks depths table count complete current x
        (cond (eqb (place_number high lk many deep) 0) (cond al (cond tw (refusing 5) (marking s table x.a (rank_in ks x.b) x.place x.length)) (refusing 4)) (refusing (place_number high lk many deep)))
    entry-by true lk many deep al tw p₁ p₂ p₃ p₄ p₅ p₆ = inl (record { not = λ z. omega arith; is = entry-same ∙ rw p₁ })
    entry-by false true many deep al tw p₁ p₂ p₃ p₄ p₅ p₆ = inl (record { not = λ z. omega arith; is = entry-same ∙ rw (p₁, p₂) })
    entry-by false false true deep al tw p₁ p₂ p₃ p₄ p₅ p₆ = inl (record { not = λ z. omega arith; is = entry-same ∙ rw (p₁, p₂, p₃, many_is (under_alias es x.a) (ltb 8 (length added.name))) })
    entry-by false false false deep al tw p₁ p₂ p₃ p₄ p₅ p₆ = rest deep al tw p₄ p₅ p₆
      where
        low : x.a ≤ count
        low = ltb-false count x.a p₁

        level : (under_alias es x.a || ltb 8 (length added.name)) ≡ leb 8 (get_or depths x.a 0)
        level = level-is (get_or depths x.a 0) (known.levels x.a low)

        rest : (deep al tw : Bool) → leb 8 (get_or depths x.a 0) ≡ deep → allowed (schema_of ks) x.b v ≡ al → twins s ks x.a (rank_in ks x.b) v ms ≡ tw
            → EntryOutcome top s ks depths table count complete current x
            (cond (eqb (place_number false false false deep) 0) (cond al (cond tw (refusing 5) (marking s table x.a (rank_in ks x.b) x.place x.length)) (refusing 4)) (refusing (place_number false false false deep)))
        rest true al tw p₄ p₅ p₆ = inl (record { not = λ z. omega arith; is = entry-same ∙ rw (p₁, p₂, p₃, level, p₄) })
        rest false false tw p₄ p₅ p₆ = inl (record { not = λ z. omega arith; is = entry-same ∙ rw (p₁, p₂, p₃, level, p₄, p₅) })
        rest false true true p₄ p₅ p₆ =
            inl (record { not = λ z. omega arith; is = entry-same ∙ rw (p₁, p₂, p₃, level, p₄, p₅, ← known.named.siblings x.a x.b v (omega (arith, low, known.most)) p₅, p₆) })
        rest false true false p₄ p₅ p₆ =
            inr (
              record { kind = two; form = form; parent = low; room = leb-false 256 count p₃; level = leb-false 8 (get_or depths x.a 0) p₄; fit = p₅; ruling = refl },
              entry-same ∙ rw (p₁, p₂, p₃, level, p₄, p₅, ← known.named.siblings x.a x.b v (omega (arith, low, known.most)) p₅, p₆),
            )

-- a line after the entries: refused as the rules refuse it, or taken as they take it
pub entry-outcome : (top : ℕ) (s : Bytes) (ks depths table : List ℕ) (count : ℕ) (lacks : Bool) (complete : List Stored) (current : Option Stored) (ms : List Mark)
    → EntriesCounted s ks depths count lacks (entries_of (reading ks complete current)) current ms
    → (x : Line) → columns_fit top x ≡ in_form (directory_forms top) (line_of s x) → Elsewhere current x.kind
    → EntryOutcome top s ks depths table count complete current x (entry_ruling top depths count lacks x s ks table ms)
unfolding entry_ruling place_refusal ruled_of
entry-outcome top s ks depths table count lacks complete current ms known x formed elsewhere = go (columns_fit top x) (eqb x.kind 2) refl refl
  where
    go : (f two : Bool) → columns_fit top x ≡ f → eqb x.kind 2 ≡ two
        → EntryOutcome top s ks depths table count complete current x
        (cond f (cond two (cond (eqb (place_number (ltb count x.a) lacks (leb 256 count) (leb 8 (get_or depths x.a 0))) 0)
        (cond (allowed_at ks (rank_in ks x.b) (bytes_of s x)) (cond (twins s ks x.a (rank_in ks x.b) (bytes_of s x) ms) (refusing 5) (marking s table x.a (rank_in ks x.b) x.place x.length)) (refusing 4))
        (refusing (place_number (ltb count x.a) lacks (leb 256 count) (leb 8 (get_or depths x.a 0))))) (refusing 3)) (refusing 2))
    go false two p q = inl (record { not = λ z. omega arith; is = step-form top (reading ks complete current) (line_of s x) (sym formed ∙ p) })
    go true false p q = inl (record { not = λ z. omega arith; is = misplaced top s ks complete current x formed p elsewhere known.whole (eqb-false x.kind 2 q) })
    go true true p q =
        entry-by top s ks complete current x formed p depths table count lacks ms known (eqb-true x.kind 2 q)
        (ltb count x.a) lacks (leb 256 count) (leb 8 (get_or depths x.a 0)) (allowed_at ks (rank_in ks x.b) (bytes_of s x)) (twins s ks x.a (rank_in ks x.b) (bytes_of s x) ms) refl refl refl refl (sym (allowed-ranked ks x.b (bytes_of s x))) refl
