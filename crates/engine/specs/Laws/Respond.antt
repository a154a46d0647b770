-- Laws for an accepted request: from what is noted of it to the reply.
use Rattle.std.specs.Prelude.{ℕ, ◌-◌, ◌≤◌, ◌≡◌, refl, List, [], ◌++◌, map, length, get_or, take, replicate, Result}
use Rattle.std.proofs.Common.{sym, ap, ◌∙◌, subst, arith, length-append, take_at}
use Rattle.std.proofs.lemmas.List.{length-replicate}
use Rattle.rules.specs.Sheet.{Bytes, Usable, print}
use Rattle.rules.specs.declared.Format.{Format}
use Rattle.rules.specs.Name.{Schema}
use Rattle.rules.specs.Judge.{Grammar, accept}
use Rattle.rules.specs.Directory.{Stored, Directory, directory_of, entries_in, aliases, entry_of}
use Rattle.rules.specs.Permission.{Item}
use Rattle.rules.specs.Decision.{Setting, Requester}
use Rattle.rules.specs.Request.{Request}
use Rattle.rules.specs.Answer.{answer_to}
use Rattle.rules.specs.Serve.{Ground, setting_of, fitting, respond}
use Rattle.rules.specs.Places.{schema_of}
use Rattle.rules.specs.Derived.{Ranked}
use Rattle.tables.specs.Numbers.{reach_of}
use Rattle.rules.specs.declared.refusals.Refusal.{Refusal}
use Rattle.request_sheet.specs.Noted as Requests
use Rattle.request_sheet.specs.declared.Asked.{Asked}
use Rattle.permission_sheet.specs.Noted.{Table}
use Rattle.tables.specs.Book as Book
use Rattle.name.specs.Schema.{Rising}
use Rattle.directory_sheet.specs.declared.Notes.{Notes}
use Rattle.directory_sheet.specs.Judged as Directories
use Rattle.directory_book.specs.Filled.{filled, StandsFor}
use Rattle.directory_book.specs.Laws.Filled.{Copied, copied}
use Rattle.directory_book.specs.Laws.Entries.{fit_of}
use Rattle.tables.specs.Sets.{SETS, Rights}
use Rattle.tables.specs.World.{Entries, World}
use Rattle.tables.specs.Laws.Book.{schema-length, parents-length, parent-at}
use Rattle.tables.specs.Laws.World.{parent_is}
use Rattle.access_scope.specs.Scopes.{Asker, reaches_by}
use Rattle.access_scope.specs.Laws.Resolved.{reaches-are}
use Rattle.access_scope.specs.declared.Requester as Scopes
use Rattle.access_items.specs.Sorted.{Sorted}
use Rattle.access_items.specs.Rank.{weight_order}
use Rattle.access_items.specs.Laws.Rank.{length-order_of, ranked-order}
use Rattle.access_covers.specs.Noted.{rights_noted}
use Rattle.access_covers.specs.Sources.{Sources}
use Rattle.access_covers.specs.Laws.Covers.{rights-size, rights-noted}
use Rattle.tables.specs.Plan.{aliases_of}
use Rattle.engine.specs.Judges.{DirectoryAt}

-- ---- the schema

-- a request judged under a copy of the book's schema is judged under the directory's
pub judged-under : (f : Format) (q : Bytes) (r : Result Asked Refusal) {d : Bytes} {x : Directory} {book held copy : List ℕ} → DirectoryAt f d x book held → copy ≡ Book.schema book
    → Requests.RequestJudged f (schema_of copy) q r → Requests.RequestJudged f x.schema q r
judged-under f q r {x = x} at e j =
    subst (λ (S : Schema). Requests.RequestJudged f S q r) (ap schema_of e ∙ sym (at.entries (setting_of x [] (record { level = 0; name = [] })) refl).schema-is) j

-- ---- the requester

pub asker-of : (σ : Setting) (G : Grammar) (w : ℕ) (q : Bytes) (y : Request) (a : Asked) → σ.requester ≡ y.requester → Requests.RequestNoted G w q y a
    → Asker σ w q (record { level = a.level; place = a.requester; parts = a.requester_parts })
asker-of σ G w q y a u n = record {
  level-is = ap (λ (r : Requester). r.level) u ∙ sym n.level;
  name-is = n.requester.parts ∙ ap (λ (r : Requester). r.name) (sym u);
  parts_are = sym n.requester.count ∙ ap (λ (r : Requester). length r.name) (sym u);
}

-- ---- the items that are for the requester

pub reached-of : {σ : Setting} {es : List Stored} {d : Bytes} {book held : List ℕ} → Entries σ es d book held → (w : ℕ) (p : Bytes) (rights scopes order parents : List ℕ) {reach : List ℕ}
    → parents ≡ Book.parents book → Sorted w p σ.items rights scopes order → take (length σ.items) reach ≡ map (reach_of σ es) σ.items → Sources σ es reach order parents
reached-of {σ} {es} {book = book} E w p rights scopes order parents q s r = record {
  accepted = E.accepted;
  few = omega (arith, E.count, E.fits.few-entries);
  few-items = s.table.few;
  reach-is = r;
  ranked = s.ranked;
  count = s.count;
  parents-noted = ap length q ∙ parents-length E.fits ∙ E.count;
  parent = λ k l. ap (λ (x : List ℕ). get_or x k 0) q ∙ parent-at book k (omega (arith, l, E.count)) ∙ parent_is E k (omega (arith, l, E.count));
}

pub respond-is : (f : Format) (w : ℕ) (g : Ground) (y : Request) (room : ℕ) → w ≡ f.width
    → fitting room (print w (answer_to (setting_of g.directory g.items y.requester) (map entry_of g.directory.entries) (aliases_of (setting_of g.directory g.items y.requester) g.directory.entries) y.base y.operation)) ≡ respond f g y room
unfolding respond entries_in aliases
respond-is f w g y room e = rw e

-- ---- the tables

-- the filled book stands for the directory that was judged
module _ (f : Format) (d : Bytes) (x : Directory) (r : Notes) (held b book : List ℕ) (ok : directory_of f d ≡ accept x) (noted : Directories.DirectoryNoted f.width d x r held)
    (size : length b ≡ Book.BOOK) (is : book ≡ filled f.width r b) where
  copy : Copied f.width r book
  copy = subst (Copied f.width r) (sym is) (copied f.width r b (fit_of noted) size)

  pub directory-at : Usable f → StandsFor f r book → DirectoryAt f d x book held
  directory-at usable stands = record { usable = usable; columns = copy.width_is; entries = λ σ e. stands σ d x held ok noted e; rising = subst (Rising 0) (sym copy.schema-is) noted.rising }

-- the sets stand for what the requester may
module _ {σ : Setting} {es : List Stored} {d p : Bytes} {book held : List ℕ} (E : Entries σ es d book held) (w : ℕ) (rights scopes order reach parents : List ℕ)
    (S : Sorted w p σ.items rights scopes order) (R : Sources σ es reach order parents)
  where
    pub world-of : (schema cleared sets : List ℕ) → schema ≡ Book.schema book → Rising 0 schema → cleared ≡ replicate SETS 0 → sets ≡ rights_noted rights schema order reach parents cleared
        → World σ es d p book held sets
    world-of schema cleared sets q rising clear is =
        let few : length schema ≤ 64 = omega (arith, ap length q, schema-length E.fits, E.fits.few-types) in
        let e : sets ≡ rights_noted rights schema order reach parents (replicate SETS 0) = is ∙ ap (rights_noted rights schema order reach parents) clear in
        record {
          entries = E;
          size = ap length e ∙ rights-size rights schema order reach parents (omega (arith, R.count, R.few-items)) (omega (arith, R.parents-noted, R.few));
          rights = subst (λ (x : List ℕ). Rights σ es x p sets) q (subst (Rights σ es schema p) (sym e) (rights-noted σ es w p rights scopes schema order reach parents rising few S R));
        }

-- the reaches of the setting's items
pub reach-is : (σ : Setting) (es : List Stored) (w : ℕ) (p : Bytes) (rights scopes : List ℕ) (q : Bytes) (who : Scopes.Requester) → Asker σ w q who → Table w p σ.items rights scopes
    → (reach : List ℕ) (n : ℕ) → n ≡ length σ.items → take n reach ≡ reaches_by σ.schema es w p rights scopes q who n → take (length σ.items) reach ≡ map (reach_of σ es) σ.items
reach-is σ es w p rights scopes q who asker table reach n e h =
    ap (λ (m : ℕ). take m reach) (sym e) ∙ h ∙ ap (reaches_by σ.schema es w p rights scopes q who) e ∙ reaches-are σ es w p rights scopes q who asker table

-- the numbers of the items in order, as far as there are items
pub order-front : (w : ℕ) (p : Bytes) (is : List Item) (rights scopes order behind : List ℕ) (n : ℕ) → Table w p is rights scopes → n ≡ length is → order ≡ weight_order rights n ++ behind
    → Ranked is (take (n - 0) order) × (length (take (n - 0) order) ≡ length is)
order-front w p is rights scopes order behind n table e q =
    let z : n - 0 ≡ n = omega arith in
    let front : take (n - 0) order ≡ weight_order rights (length is) = ap (λ (m : ℕ). take m order) z ∙ ap (take n) q ∙ take_at (weight_order rights n) behind n (length-order_of rights n) ∙ ap (weight_order rights) e in
    (subst (Ranked is) (sym front) (ranked-order w p is rights scopes table), ap length front ∙ length-order_of rights (length is))

pub order-room : (rights order behind : List ℕ) (n : ℕ) → order ≡ weight_order rights n ++ behind → n ≤ length order
order-room rights order behind n q = omega (arith, ap length q, length-append (weight_order rights n) behind, length-order_of rights n)

-- the items in columns of the same width by another word
pub sorted-in : {v w : ℕ} {p : Bytes} {is : List Item} {rights scopes order : List ℕ} → v ≡ w → Sorted w p is rights scopes order → Sorted v p is rights scopes order
sorted-in {p = p} {is = is} {rights = rights} {scopes = scopes} {order = order} e s = subst (λ (m : ℕ). Sorted m p is rights scopes order) (sym e) s

-- a cleared table has its length
pub cleared : (n : ℕ) → length {A = ℕ} (replicate n 0) ≡ n
cleared n = length-replicate {A = ℕ} n 0
