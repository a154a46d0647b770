-- Laws of `Values`: one value line more.
use Rattle.std.specs.Prelude.{ℕ, ◌+◌, ◌%◌, ◌≤◌, ◌<◌, ◌≡◌, refl, Bool, false, ◌&&◌, ◌||◌, List, [], ◌∷◌, ◌++◌, eqb, length, get_or}
use Rattle.std.proofs.Common.{sym, ap, ap₂, ◌∙◌, inl, inr, append_assoc, append-nil, arith}
use Rattle.std.proofs.Math.Bool.{or_comm}
use Rattle.std.proofs.Math.Option.{some}
use Rattle.rules.specs.Sheet.{Bytes}
use Rattle.rules.specs.declared.Format.{Format}
use Rattle.rules.specs.Value.{same}
use Rattle.rules.specs.Name.{Part, part, same_part}
use Rattle.rules.specs.Judge.{accept, refuse}
use Rattle.rules.specs.Directory.{Stored, step, with_values}
use Rattle.rules.specs.Places.{lines_at, values_of, schema_of}
use Rattle.sheet_line.specs.declared.Line.{Line}
use Rattle.sheet_line.specs.declared.Taken.TheVariants as Taken
use Rattle.sheet_line.specs.Line.{taken_at, bytes_of, line_of}
use Rattle.sheet_line.specs.Laws.{taken-fits-line}
use Rattle.name.specs.Schema.{rank_in}
use Rattle.name.specs.Laws.Schema.{rank-type, rank_rises, allowed-within}
use Rattle.directory_schema.specs.Laws.Lines.{formed, judged-refused, passes-judged, values-on, values-none}
use Rattle.directory_schema.specs.Lines.{judged_from, none, one}
use Rattle.tables.specs.Held.{ROWS, HELD}
use Rattle.directory_duplicates.specs.Mark.{Mark, mark, MarkWithin, Room, with_mark, heads}
use Rattle.directory_duplicates.specs.Twins.{owner_of}
use Rattle.directory_duplicates.specs.Laws.Twins.{any_snoc, last_snoc, part_same, named_value, valued-more}
use Rattle.directory_duplicates.specs.Rulings.{mark_of, reading}
use Rattle.directory_duplicates.specs.Laws.Rulings.{line-within, ready-room, ready-more}
use Rattle.directory_duplicates.specs.Noted.{RulingNoted}
use Rattle.directory_values.specs.ValueLine.{brought_by, value_ruling}
use Rattle.directory_values.specs.Laws.ValueLine.{ValueMarked, ValueOutcome, value-outcome}
use Rattle.directory_values.specs.Rows.{written}
use Rattle.directory_values.specs.Laws.Rows.{rows_start, rows_more}
use Rattle.directory_values.specs.declared.Current.{Current}
use Rattle.directory_values.specs.Values.{Begun, reading_with, ValuesNoted, values_refused, ValuesRead, ValuesEnded, ValuesJudged}

pub going_start : {f : Format} {s : Bytes} {ks table held : List ℕ} {n : ℕ} {e : Current} {complete : List Stored} {d : Stored} {ms : List Mark}
    → Begun f s ks table held n e complete d ms → ValuesRead f s ks table held held n false 0 0 e.line.next e.first e complete d [] ms
going_start {s = s} {ks = ks} {held = held} {e = e} b = record {
  ready = b.ready;
  count = b.count;
  space = b.space;
  start = omega arith;
  within = b.within;
  newest = refl;
  low = λ t h. omega arith;
  holds = refl;
  named = b.named;
  valued = b.valued;
  sofar = refl;
  passed = none;
  rows = rows_start ks s held e.first b.rows (omega (arith, b.fewer, b.count, b.ready.room));
  fewer = b.fewer;
}

-- where another line stands, all values have been read
pub values-all : {f : Format} {s : Bytes} {ks table before held : List ℕ} {e : Current} {complete : List Stored} {d : Stored} {r : ValuesNoted}
    (v : ValuesEnded f s ks table before held e complete d r) → values_of (lines_at f.width s e.line.next) ≡ v.values
values-all {f} {s} {r = r} v = v.read.sofar ∙ ap (λ (x : List Part). v.values ++ x) (values-none f s r.at r.taken v.stands v.other) ∙ append-nil v.values

-- one value line more
module _ {f : Format} {s : Bytes} {ks table₀ before table held : List ℕ} {n₀ n : ℕ} {found : Bool} {last from i to : ℕ} {e : Current} {complete : List Stored} {d : Stored} {vs : List Part} {ms₀ ms : List Mark}
    (b : Begun f s ks table₀ before n₀ e complete d ms₀) (g : ValuesRead f s ks table before held n found last from i to e complete d vs ms)
    {x : Line} (took : taken_at f.width s i ≡ Taken.Line x) (kind : x.kind ≡ 3) {r : RulingNoted} (is : r ≡ value_ruling f.top e.number last x s ks table ms) where
  outcome : ValueOutcome f.top s ks table e.number last complete d vs x (value_ruling f.top e.number last x s ks table ms)
  outcome = value-outcome f.top s ks table e.number last complete d vs ms g.newest b.unread g.valued x (formed f s i took) kind

  pub going-refused : (r.refusal ≡ 0 → ⊥) → (v : ValuesNoted) → v ≡ values_refused r.refusal → ValuesJudged f s ks table before held e complete d v
  going-refused z v only = record {
    ended = λ q. absurd (z (sym number ∙ q));
    refused = λ q. record { values = vs; all = ms; marks = n; found = found; last = last; from = from; at = i; to = to; line = x; read = g; stands = took; kind = kind; number = number ∙ ap (λ (y : RulingNoted). y.refusal) is; sheet = go outcome ∙ ap refuse (sym number); only = only ∙ ap values_refused (sym number) };
  }
    where
      number : v.refusal ≡ r.refusal
      number = ap (λ (y : ValuesNoted). y.refusal) only

      go : ValueOutcome f.top s ks table e.number last complete d vs x (value_ruling f.top e.number last x s ks table ms)
          → judged_from f s (reading_with ks complete d []) e.line.next ≡ refuse r.refusal
      go (inl q) = passes-judged g.passed ∙ judged-refused f s i took _ _ q.is ∙ ap (λ (y : RulingNoted). refuse y.refusal) (sym is)
      go (inr q) = absurd (z (ap (λ (y : RulingNoted). y.refusal) (is ∙ q.0.ruling)))

  -- a line that was taken
  taking : r.refusal ≡ 0 → ValueMarked s ks table e.number last x r
      × (step f.top (reading ks complete (some (with_values d vs))) (line_of s x) ≡ accept (reading ks complete (some (with_values d (vs ++ (brought_by s x ∷ []))))))
  taking z = go outcome
    where
      go : ValueOutcome f.top s ks table e.number last complete d vs x (value_ruling f.top e.number last x s ks table ms)
          → ValueMarked s ks table e.number last x r
          × (step f.top (reading ks complete (some (with_values d vs))) (line_of s x) ≡ accept (reading ks complete (some (with_values d (vs ++ (brought_by s x ∷ []))))))
      go (inl q) = absurd (q.not (ap (λ (y : RulingNoted). y.refusal) (sym is) ∙ z))
      go (inr q) = (record { rises = q.0.rises; fit = q.0.fit; ruling = is ∙ q.0.ruling }, q.1)

  module _ (z : r.refusal ≡ 0) where
    abbrev owner : ℕ
    owner = owner_of e.number

    abbrev here : Bytes
    here = bytes_of s x

    rank : r.rank ≡ rank_in ks x.a
    rank = ap (λ (y : RulingNoted). y.rank) (taking z).0.ruling

    known : rank_in ks x.a < length ks
    known = allowed-within ks x.a here (taking z).0.fit

    inside : MarkWithin s (mark 0 x.place x.length)
    inside = line-within (taken-fits-line f.width s i took)

    -- the mark and the row have their places
    pub going-room : Room table n r × (r.rank < length ks) × (x.place + x.length ≤ length s) × (n < heads) × (to < ROWS) × (length held ≡ HELD)
    going-room = (
      ready-room g.ready owner (rank_in ks x.a) (omega (arith, b.most)) known x.place x.length inside n g.count (taking z).0.ruling,
      rw rank known,
      omega (arith, inside.bytes),
      omega (arith, g.count, g.ready.room),
      omega (arith, g.fewer, g.count, g.ready.room),
      g.rows.table,
    )

    -- whether the naming value is among the values now
    pub going_on : (found' : Bool) → found' ≡ (found || (eqb e.line.b x.a && same (get_or ks r.rank 0 % 4) (bytes_of s e.line) here))
        → {held' : List ℕ} → held' ≡ written held to r.rank x.place x.length → {table' : List ℕ} → table' ≡ with_mark table n r
        → ValuesRead f s ks table' before held' (n + 1) found' x.a r.rank x.next (to + 1) e complete d (vs ++ (brought_by s x ∷ [])) (mark_of owner (rank_in ks x.a) x.place x.length ∷ ms)
    going_on found' now-found row mark-noted =
        let t = (taking z).0 in
        let h = taken-fits-line f.width s i took in
        let ready = g.ready in
        let room = going-room in
        let names : (eqb e.line.b x.a && same (get_or ks r.rank 0 % 4) (bytes_of s e.line) here) ≡ same_part (schema_of ks) d.naming (brought_by s x)
        = rw (b.type, b.value, rank) (sym (part_same ks ready.few d.naming.type x.a d.naming.value here b.fit t.fit)) in
        record {
          ready = rw mark-noted (ready-more ready owner (rank_in ks x.a) (omega (arith, b.most)) known x.place x.length inside n g.count t.ruling (omega (arith, g.space, h.place, h.next, h.within, ready.sheet, b.usable.least)));
          count = omega (arith, g.count);
          space = omega (arith, g.space, h.place, h.next, b.usable.least);
          start = omega (arith, g.start, h.place, h.next);
          within = h.within;
          newest = sym (ap (λ (p : Part). p.type) (last_snoc (part 0 []) vs (brought_by s x)));
          low = λ u l. rw rank (rank_rises 0 ks b.rising x.a u known l);
          holds = now-found ∙ or_comm found _ ∙ ap₂ ◌||◌ names g.holds ∙ sym (any_snoc (same_part (schema_of ks) d.naming) vs (brought_by s x));
          named = named_value ks ready.few s (mark_of owner (rank_in ks x.a) x.place x.length) owner x.a here refl refl t.fit g.named g.valued (ap owner_of b.number);
          valued = valued-more ks ready.few s (mark_of owner (rank_in ks x.a) x.place x.length) owner x.a here refl refl t.fit g.named g.valued (ap owner_of b.number);
          sofar = g.sofar ∙ ap (λ (y : List Part). vs ++ y) (values-on f s i took kind) ∙ sym (append_assoc vs (brought_by s x ∷ []) _);
          passed = one g.passed took (taking z).1;
          rows = rw row (rows_more g.rows (brought_by s x) r.rank x.place x.length room.4 room.1 (rw rank (rank-type ks x.a known)) room.2 h.short refl);
          fewer = omega (arith, g.fewer);
        }
