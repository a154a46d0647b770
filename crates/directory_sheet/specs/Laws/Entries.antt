-- Laws of `Entries`: what is known of the sheet before each line after the K 1 lines that is no value line, and what the end of the sheet makes of it.
use Prim.Native.Nat.{ℕ, zero, suc, ◌+◌, ◌*◌, ◌≤◌, ◌<◌}
use Rattle.std.specs.Prelude.{◌≡◌, refl, Bool, true, false, Result, Ok, Err, length, take, replicate}
use Rattle.std.proofs.Common.{sym, ap, ◌∙◌, subst, arith, length-take-le, le-ltb, lt-ltb}
use Rattle.std.proofs.Math.Option.{Option, none}
use mathlib.Core.List.{List, []}
use Rattle.std.proofs.Math.ListN.{get_or, length-replicate, get_or-replicate}
use Rattle.rules.specs.Sheet.{Bytes, Usable, lines}
use Rattle.rules.specs.declared.Format.{Format}
use Rattle.rules.specs.Judge.{accept, refuse, refuse_if, refusal_of, fold}
use Rattle.rules.specs.Directory.{Stored, blank, Directory, entries_of, name_at, under_alias, lacks_naming, lacks_target, step, finish, nothing, directory_of}
use Rattle.rules.specs.Places.{schema_of}
use Rattle.rules.proofs.Laws.Judge.{refused-not, accepted-is}
use Rattle.sheet_line.specs.declared.Line.{Line}
use Rattle.sheet_line.specs.declared.Taken.{Taken}
use Rattle.sheet_line.specs.Line.{taken_at}
use Rattle.name.specs.Schema.{Rising}
use Rattle.directory_schema.specs.Lines.{judged_from}
use Rattle.directory_schema.specs.Laws.Lines.{judged-broken, judged-end}
use Rattle.directory_schema.specs.Types.{TypesNoted, TypesEnded}
use Rattle.directory_schema.specs.Laws.Types.{types_same}
use Rattle.directory_schema.specs.Laws.Zeros.{zeros}
use Rattle.tables.specs.Book.{FIRST-ROWS}
use Rattle.tables.specs.Held.{none_held}
use Rattle.directory_duplicates.specs.Mark.{Mark, table_of, last_in, heads, table_length}
use Rattle.directory_duplicates.specs.Laws.Twins.{named_start}
use Rattle.directory_duplicates.specs.Rulings.{Ready, reading}
use Rattle.directory_entry.specs.EntryLine.{depth_count, level_of}
use Rattle.directory_entry.specs.Laws.EntryLine.{Elsewhere, EntriesCounted}
use Rattle.directory_sheet.specs.Judged.{nothing_noted, NothingAfter, EntryNoted, DirectoryNoted, DirectoryJudged}
use Rattle.directory_sheet.specs.Entries.{Sized, end_number, EntriesJudged, Opened}
use Rattle.std.specs.Result.{is_err}
use Rattle.directory_sheet.specs.Rows.{AllHeld}
use Rattle.directory_sheet.specs.Laws.Rows.{held_none}
use Rattle.rules.specs.Refusals.{refusal_number}
use Rattle.rules.specs.declared.refusals.Refusal.{Refusal}
use Rattle.rules.specs.declared.refusals.Refusal.TheVariants.{TooLong}
use Rattle.directory_sheet.specs.declared.Notes.{Notes}

-- the entries are noted, each with its values
abbrev pub AllNoted : ℕ → Bytes → Notes → List Stored → Type 0
AllNoted w s notes es = (k : ℕ) → k < notes.count
    → EntryNoted w s (get_or es k blank) (get_or notes.at k 0) (get_or notes.parents k 0) (get_or notes.naming k 0) (get_or notes.lengths k 0) (get_or notes.targets k 0)

-- all lines before position `i` have been taken
pub record EntriesRead (f : Format) (s : Bytes) (ks : List ℕ) (notes : Notes) (depths table held : List ℕ) (n : ℕ) (lacks : Bool) (i : ℕ) (taken : Taken)
    (complete : List Stored) (current : Option Stored) (ms : List Mark) : Type 0 where
  pub ready : Ready s ks table ms
  pub rising : Rising 0 ks
  pub usable : Usable f
  pub sized : Sized ks notes depths
  pub after : NothingAfter notes
  pub marked : length ms ≡ n
  pub space : 31 * n ≤ i
  pub within : i ≤ length s
  pub stands : taken ≡ taken_at f.width s i
  pub elsewhere : (x : Line) → taken ≡ Taken.Line x → Elsewhere current x.kind
  pub counted : EntriesCounted s ks depths notes.count lacks (entries_of (reading ks complete current)) current ms
  pub noted : AllNoted f.width s notes (entries_of (reading ks complete current))
  pub rows : AllHeld ks s (entries_of (reading ks complete current)) notes.first held notes.count
  pub fewer : get_or notes.first notes.count 0 ≤ n
  pub judged : fold (step f.top) finish 2 nothing (lines f.width s) ≡ judged_from f s (reading ks complete current) i

-- ---- the answer

-- with a refusal, nothing else
judged-nothing : {f : Format} {s : Bytes} {held : List ℕ} {e : Refusal} → directory_of f s ≡ refuse (refusal_number e) → held ≡ none_held → DirectoryJudged f s (Err e) held
judged-nothing {e = e} h only = record {
  refusal = sym (ap refusal_of h);
  noted = λ d q. absurd (refused-not (refusal_number e) d (sym h ∙ q));
  refused = λ m q. (e, refl, ap (refusal_of {A = Directory}) (sym h ∙ q), only);
}

module _ (f : Format) (s : Bytes) (fits : length s ≤ 65536) where
  short : directory_of f s ≡ fold (step f.top) finish 2 nothing (lines f.width s)
  unfolding directory_of
  short = rw (le-ltb 65536 (length s) fits)

  pub answer-refused : (held : List ℕ) (e : Refusal) → held ≡ none_held → fold (step f.top) finish 2 nothing (lines f.width s) ≡ refuse (refusal_number e) → DirectoryJudged f s (Err e) held
  answer-refused held e only h = judged-nothing (short ∙ h) only

  pub answer-accepted : (x : Notes) (held : List ℕ) (d : Directory) → fold (step f.top) finish 2 nothing (lines f.width s) ≡ accept d → DirectoryNoted f.width s d x held → DirectoryJudged f s (Ok x) held
  answer-accepted x held d h n = record {
    refusal = sym (ap refusal_of (short ∙ h));
    noted = λ d' q. (x, refl, subst (λ (y : Directory). DirectoryNoted f.width s y x held) (accepted-is (sym (short ∙ h) ∙ q)) n);
    refused = λ m q. absurd (refused-not m d (sym q ∙ short ∙ h));
  }

pub answer-long : (f : Format) (s : Bytes) (held : List ℕ) → held ≡ none_held → 65536 < length s → DirectoryJudged f s (Err TooLong) held
answer-long f s held only h = judged-nothing long only
  where
    long : directory_of f s ≡ refuse 1
    long = unfold directory_of in (rw (lt-ltb 65536 (length s) h))

-- the table emptied where the entries are refused
pub emptied : {f : Format} {s : Bytes} (held : List ℕ) (r : Result Notes Refusal) → EntriesJudged f s r held → is_err r ≡ true → DirectoryJudged f s r none_held
emptied held (Ok x) j e = absurd (let z : ◌≡◌ {A = Bool} false true = e in cc)
emptied held (Err n) j e = j

-- ---- no line stands there

module _ {f : Format} {s : Bytes} {ks : List ℕ} {notes : Notes} {depths table held : List ℕ} {n : ℕ} {lacks : Bool} {i : ℕ} {taken : Taken}
    {complete : List Stored} {current : Option Stored} {ms : List Mark} (st : EntriesRead f s ks notes depths table held n lacks i taken complete current ms) where
  ends : taken ≡ Taken.End → fold (step f.top) finish 2 nothing (lines f.width s) ≡ refuse_if lacks 6 (accept (record { schema = schema_of ks; entries = entries_of (reading ks complete current) }))
  unfolding finish
  ends is = st.judged ∙ judged-end f s i _ (sym st.stands ∙ is) ∙ rw (← st.counted.lacking, st.counted.whole)

  all_noted : DirectoryNoted f.width s (record { schema = schema_of ks; entries = entries_of (reading ks complete current) }) notes held
  all_noted = record {
    types = st.sized.types;
    schema = ap schema_of st.sized.list;
    rising = rw st.sized.list st.rising;
    count = st.counted.number;
    most = st.counted.most;
    schema-length = st.sized.schema;
    at_length = st.sized.at;
    parents-length = st.sized.parents;
    naming-length = st.sized.naming;
    lengths-length = st.sized.lengths;
    first-length = st.sized.first;
    targets-length = st.sized.targets;
    held-length = st.rows.table;
    entry = st.noted;
    start = st.rows.start;
    values = rw st.sized.list st.rows.values;
    after = st.after;
    held_after = st.rows.after;
  }

  module _ (none-there : (x : Line) → taken ≡ Taken.Line x → ⊥) where
    pub standing-short : (end_number taken lacks ≡ 0 → ⊥) → fold (step f.top) finish 2 nothing (lines f.width s) ≡ refuse (end_number taken lacks)
    standing-short = go taken refl lacks refl
      where
        go : (t : Taken) → taken ≡ t → (b : Bool) → lacks ≡ b → (end_number t b ≡ 0 → ⊥) → fold (step f.top) finish 2 nothing (lines f.width s) ≡ refuse (end_number t b)
        go (Taken.Line x) is b q z = absurd (none-there x is)
        go Taken.NotInForm is b q z = st.judged ∙ judged-broken f s i _ (sym st.stands ∙ is)
        go Taken.End is true q z = ends is ∙ rw q
        go Taken.End is false q z = absurd (z refl)

    pub standing-ended : end_number taken lacks ≡ 0 → DirectoryJudged f s (Ok notes) held
    standing-ended = go taken refl lacks refl
      where
        go : (t : Taken) → taken ≡ t → (b : Bool) → lacks ≡ b → end_number t b ≡ 0 → DirectoryJudged f s (Ok notes) held
        go (Taken.Line x) is b q z = absurd (none-there x is)
        go Taken.NotInForm is b q z = absurd (omega arith)
        go Taken.End is true q z = absurd (omega arith)
        go Taken.End is false q z = answer-accepted f s st.ready.sheet notes held _ (ends is ∙ rw q) all_noted

-- ---- before the first entry

module _ {f : Format} {s : Bytes} {ks : List ℕ} {notes : Notes} {held : List ℕ} {i : ℕ} {taken : Taken} (o : Opened f s ks notes held i taken) where
  pub standing-start : EntriesRead f s ks notes (replicate depth_count 0) (replicate table_length 0) held 0 false i taken [] none []
  unfolding entries_of lacks_naming lacks_target table_of last_in name_at under_alias
  standing-start = record {
    ready = record {
      sheet = o.sheet;
      few = o.few;
      chain = record { whole = refl; table = length-replicate {A = ℕ} table_length 0; chained = tt; newest = λ b h. get_or-replicate table_length (heads + b) 0 0 (omega arith); slots = tt };
      room = omega arith;
    };
    rising = o.rising;
    usable = o.usable;
    sized = o.sized;
    after = o.after;
    marked = refl;
    space = omega arith;
    within = o.within;
    stands = o.stands;
    elsewhere = o.other;
    counted = record {
      number = o.none_yet;
      most = omega (arith, o.none_yet);
      lacking = refl;
      whole = refl;
      levels = λ k h. level k (omega (arith, o.none_yet));
      named = named_start s ks;
    };
    noted = λ k h. absurd (omega (arith, o.none_yet));
    rows = held_none ks s notes.first held notes.count o.none_yet o.none-held o.empty;
    fewer = rw o.none_yet (omega (arith, o.none-held));
    judged = o.judged;
  }
    where
      level : (k : ℕ) → k ≤ 0 → get_or (replicate depth_count 0) k 0 ≡ level_of [] k
      level zero h = get_or-replicate depth_count 0 0 0 (omega arith)
      level (suc k) h = absurd (omega arith)

-- after the K 1 lines, with nothing else noted
pub opened : (f : Format) (s : Bytes) (held : List ℕ) (r : TypesNoted) (b : Notes) → length s ≤ 65536 → Usable f × (held ≡ none_held) → b ≡ nothing_noted → TypesEnded f s r
    → Opened f s (take r.count r.schema)
    (record { types = r.count; schema = r.schema; count = b.count; at = b.at; parents = b.parents; naming = b.naming; lengths = b.lengths; first = b.first; targets = b.targets }) held r.at r.taken
opened f s held r b fits asked is t = rw is (record {
  sheet = fits;
  usable = asked.0;
  rising = t.read.rising;
  few = rw (length-take-le r.count r.schema (omega (arith, t.read.most, t.read.room))) t.read.most;
  sized = record {
    types = t.read.most;
    list = refl;
    schema = t.read.room;
    at = length-replicate {A = ℕ} 256 0;
    parents = length-replicate {A = ℕ} 256 0;
    naming = length-replicate {A = ℕ} 256 0;
    lengths = length-replicate {A = ℕ} 256 0;
    first = length-replicate {A = ℕ} FIRST-ROWS 0;
    targets = length-replicate {A = ℕ} 256 0;
    levels = length-replicate {A = ℕ} depth_count 0;
  };
  after = record { schema = t.read.rest; at = zeros 256 0; parents = zeros 256 0; naming = zeros 256 0; lengths = zeros 256 0; first = zeros FIRST-ROWS 1; targets = zeros 256 0 };
  none_yet = refl;
  none-held = get_or-replicate FIRST-ROWS 0 0 0 (omega arith);
  empty = asked.1;
  within = t.read.within;
  stands = t.stands;
  other = t.other;
  judged = types_same t.read;
})
