-- The filled book stands for the directory that was judged.
use Rattle.std.specs.Prelude.{ℕ, zero, suc, ◌+◌, ◌*◌, ◌/◌, ◌≤◌, ◌<◌, ◌≡◌, List, [], ◌∷◌, ltb, length, get_or, take}
use Rattle.std.proofs.Common.{sym, ap, ◌∙◌, arith, add-one, not-suc-le-zero, le_of_suc-le-suc, drop-drop, ltb-false}
use Rattle.std.proofs.Math.Decide.{dec_lt}
use Rattle.rules.specs.Sheet.{Bytes, Usable}
use Rattle.rules.specs.declared.Format.{Format}
use Rattle.rules.specs.Judge.{accept}
use Rattle.rules.specs.Directory.{blank, Directory, directory_of}
use Rattle.rules.specs.Decision.{Setting}
use Rattle.rules.proofs.Laws.Directory.{accepted-means}
use Rattle.rules.proofs.Laws.Judge.{not-refused}
use Rattle.name.specs.Schema.{Rising}
use Rattle.name.specs.Laws.Schema.{rising-above}
use Rattle.tables.specs.Book.{BOOK, schema, first_at}
use Rattle.tables.specs.Held.{type_at, HeldAt}
use Rattle.tables.specs.World.{EntryAt, Entries}
use Rattle.directory_sheet.specs.declared.Notes.{Notes}
use Rattle.directory_sheet.specs.Judged.{DirectoryNoted}
use Rattle.directory_book.specs.Filled.{filled, StandsFor}
use Rattle.directory_book.specs.Laws.Filled.{Fit, Copied, copied}

-- ---- types that rise differ

rises : (n : ℕ) (ks : List ℕ) → Rising n ks → (i j : ℕ) → i < j → j < length ks → type_at ks i < type_at ks j
rises n [] r i j l h = absurd (not-suc-le-zero h)
rises n (k ∷ ks) r i zero l h = absurd (not-suc-le-zero l)
rises n (k ∷ ks) r zero (suc j) l h = rising-above (k / 4) ks r.1 j (le_of_suc-le-suc h)
rises n (k ∷ ks) r (suc i) (suc j) l h = rises (k / 4) ks r.1 i j (le_of_suc-le-suc l) (le_of_suc-le-suc h)

rising-distinct : (n : ℕ) (ks : List ℕ) → Rising n ks → (i j : ℕ) → i < length ks → j < length ks → type_at ks i ≡ type_at ks j → i ≡ j
rising-distinct n ks r i j hi hj e = go (dec_lt i j) (dec_lt j i)
  where
    go : Dec (i < j) → Dec (j < i) → i ≡ j
    go (yes l) q = absurd (omega (arith, rises n ks r i j l hj))
    go (no l) (yes q) = absurd (omega (arith, rises n ks r j i q hi))
    go (no l) (no q) = omega arith

-- ---- the notes

small : (f : Format) (d : Bytes) (x : Directory) → directory_of f d ≡ accept x → length d ≤ 65536
unfolding directory_of
small f d x ok = ltb-false 65536 (length d) (not-refused (ltb 65536 (length d)) 1 _ x ok).0

pub fit_of : {w : ℕ} {d : Bytes} {x : Directory} {r : Notes} {held : List ℕ} → DirectoryNoted w d x r held → Fit r
fit_of h = record {
  types = h.types;
  count = h.most;
  schema = h.schema-length;
  at = h.at_length;
  parents = h.parents-length;
  naming = h.naming-length;
  lengths = h.lengths-length;
  first = h.first-length;
  targets = h.targets-length;
}

-- the lines of the entries begin on the directory
pub lines-within : (f : Format) {d : Bytes} {x : Directory} {r : Notes} {held : List ℕ} → directory_of f d ≡ accept x → DirectoryNoted f.width d x r held → (k : ℕ) → k < r.count → get_or r.at k 0 ≤ 65536
lines-within f {d} {x} ok noted k l = omega (arith, (noted.entry k l).within, small f d x ok)

module _ (f : Format) (d : Bytes) (x : Directory) (r : Notes) (held : List ℕ) (noted : DirectoryNoted f.width d x r held) (ok : directory_of f d ≡ accept x) (usable : Usable f)
    (σ : Setting) (same : σ.schema ≡ x.schema) (b : List ℕ) (is : Copied f.width r b) where
  entry_at : (k : ℕ) → k < length x.entries → EntryAt d (get_or x.entries k blank) b k
  entry_at k h =
      let l : k < r.count = omega (arith, h, noted.count) in
      let e = noted.entry k l in
      let at = get_or r.at k 0 in
      let size = get_or r.lengths k 0 in
      let w = f.width in
      let n : at + 5 * w + size + 1 ≡ at + (5 * w + 1 + size) = omega arith in
      record {
        parent = is.parent_is k l ∙ e.above;
        type = is.naming-is k l ∙ e.type;
        value = rw (is.place_is k l, is.length-is k l) (ap (take size) (sym (drop-drop (5 * w) at d)) ∙ e.value);
        within = rw (is.place_is k l, is.length-is k l) (omega (arith, e.within));
        values = rw (is.width_is, is.place_is k l, is.length-is k l, n) e.values;
        target = rw (is.width_is, is.target_is k l) e.leads;
      }

  values-held : (k : ℕ) → k < length x.entries → HeldAt (schema b) d (get_or x.entries k blank).values held (first_at b k) (first_at b (suc k))
  values-held k h =
      let l : k < r.count = omega (arith, h, noted.count) in
      let next : first_at b (suc k) ≡ get_or r.first (suc k) 0 = is.first-is (suc k) l in
      rw (is.schema-is, is.first-is k (omega arith), next) (rw (add-one k) at (noted.values k l))

  entries-of : Entries σ x.entries d b held
  entries-of = record {
    fits = record {
      size = is.size;
      narrow = rw is.width_is usable.least;
      wide = rw is.width_is usable.most;
      few-types = rw is.types_are noted.types;
      few-entries = rw is.entries-are noted.most;
    };
    rows = noted.held-length;
    small = small f d x ok;
    schema-is = rw is.schema-is (same ∙ sym noted.schema);
    distinct = rw is.schema-is (rising-distinct 0 (take r.types r.schema) noted.rising);
    accepted = rw same (accepted-means f d x ok);
    count = is.entries-are ∙ noted.count;
    listed = entry_at;
    values = values-held;
  }

-- the filled book
pub filled-stands : (f : Format) (r : Notes) (b : List ℕ) → Usable f → length b ≡ BOOK → StandsFor f r (filled f.width r b)
filled-stands f r b usable size σ d x held ok noted same = entries-of f d x r held noted ok usable σ same (filled f.width r b) (copied f.width r b (fit_of noted) size)
