-- Laws of `Types`: a K 1 line refused, and one taken.
use Rattle.std.specs.Prelude.{ℕ, ◌+◌, ◌*◌, ◌/◌, ◌%◌, ◌≤◌, ◌<◌, ◌≡◌, Bool, ◌||◌, List, [], ◌∷◌, ◌++◌, length, take, set, replicate}
use Rattle.std.proofs.Math.Path.{refl}
use Rattle.std.proofs.Common.{sym, ap, ◌∙◌, arith, add-one, length-set, take-suc-set}
use Rattle.std.proofs.Math.Bool.{true, false}
use Rattle.std.proofs.Math.Option.{none}
use Rattle.std.proofs.Math.Dec.{leb}
use Rattle.std.proofs.Math.ListN.{length-map}
use Rattle.std.proofs.lemmas.List.{length-replicate}
use Rattle.std.proofs.Math.Seq.{length-take-le}
use borrow.Author.Tests.{lt-leb, leb-false}
use Rattle.rules.specs.Lists.{last_or}
use Rattle.rules.specs.Sheet.{Bytes, Usable, lines}
use Rattle.rules.specs.declared.Format.{Format}
use Rattle.rules.specs.Columns.{directory_forms, in_form}
use Rattle.rules.specs.Name.{AttributeType, Schema}
use Rattle.rules.specs.Judge.{accept, refuse, refuse_if, fold}
use Rattle.rules.specs.Directory.{Reading, last_type, type_line, entries_of, step, finish, nothing}
use Rattle.rules.specs.Places.{attribute_of, schema_of}
use Rattle.sheet_line.specs.declared.Line.{Line}
use Rattle.sheet_line.specs.declared.Taken.TheVariants as Taken
use Rattle.sheet_line.specs.Line.{taken_at, line_of}
use Rattle.sheet_line.specs.Laws.{taken-fits-line}
use Rattle.name.specs.Schema.{Rising}
use Rattle.directory_schema.specs.Lines.{judged_from, none, one, columns_fit}
use Rattle.directory_schema.specs.Laws.Lines.{formed, judged-refused, passes-judged, step-form, step-type, type-columns}
use Rattle.directory_schema.specs.Laws.Zeros.{zeros, zeros-more}
use Rattle.directory_schema.specs.Types.{typed, type_number, type_refusal, TypesNoted, types_refused, TypesRead, TypesJudged}

-- ---- one type more

-- a type and its syntax as one number
attribute-of : (a b : ℕ) → b ≤ 2 → attribute_of (a * 4 + b) ≡ record { number = a; syntax = b }
unfolding attribute_of
attribute-of a b h =
    let number : (a * 4 + b) / 4 ≡ a = omega arith in
    let syntax : (a * 4 + b) % 4 ≡ b = omega arith in
    rw (number, syntax)

rising-more : (z : AttributeType) (ks : List ℕ) (k : ℕ) → Rising z.number ks → (last_or z (schema_of ks)).number < k / 4 → Rising z.number (ks ++ (k ∷ []))
unfolding schema_of attribute_of
rising-more z [] k r h = (h, tt)
rising-more z (j ∷ ks) k r h = (r.0, rising-more (attribute_of j) ks k r.1 h)

last_more : (z : AttributeType) (ks : List ℕ) (k : ℕ) → (last_or z (schema_of (ks ++ (k ∷ [])))) ≡ attribute_of k
unfolding schema_of
last_more z [] k = refl
last_more z (j ∷ ks) k = last_more (attribute_of j) ks k

schema-more : (ks : List ℕ) (k : ℕ) → schema_of (ks ++ (k ∷ [])) ≡ schema_of ks ++ (attribute_of k ∷ [])
unfolding schema_of
schema-more [] k = refl
schema-more (j ∷ ks) k = ap (λ (S : Schema). attribute_of j ∷ S) (schema-more ks k)

-- ---- the lines

pub types-start : (f : Format) (s : Bytes) → TypesRead f s (replicate 64 0) 0 0 0
unfolding schema_of
types-start f s = record { room = length-replicate {A = ℕ} 64 0; most = omega arith; rest = zeros 64 0; within = omega arith; rising = tt; newest = refl; passed = none }

-- the sheet is judged as its rest is
pub types_same : {f : Format} {s : Bytes} {schema : List ℕ} {n last i : ℕ} → TypesRead f s schema n last i
    → fold (step f.top) finish 2 nothing (lines f.width s) ≡ judged_from f s (typed (take n schema)) i
types_same t = passes-judged t.passed

module _ {f : Format} {s : Bytes} {schema : List ℕ} {n last i : ℕ} (t : TypesRead f s schema n last i)
    {x : Line} (e : taken_at f.width s i ≡ Taken.Line x) (kind : x.kind ≡ 1) where
  count-is : length (schema_of (take n schema)) ≡ n
  unfolding schema_of
  count-is = length-map (take n schema) attribute_of ∙ length-take-le n schema (omega (arith, t.room, t.most))

  -- with the line's type
  abbrev more : Reading
  more = record { schema = schema_of (take n schema) ++ (record { number = x.a; syntax = x.b } ∷ []); complete = []; current = none }

  -- the line where it is in form
  type-line : in_form (directory_forms f.top) (line_of s x) ≡ true → step f.top (typed (take n schema)) (line_of s x) ≡ refuse_if (leb x.a last || leb 64 n) 3 (accept more)
  unfolding type_line entries_of
  type-line form = step-type f.top (typed (take n schema)) (line_of s x) form kind ∙ rw (← t.newest, count-is)

  refused-here : (m : ℕ) → step f.top (typed (take n schema)) (line_of s x) ≡ refuse m → fold (step f.top) finish 2 nothing (lines f.width s) ≡ refuse m
  refused-here m h = types_same t ∙ judged-refused f s i e (typed (take n schema)) m h

  -- a line that is refused
  types-refused : (type_refusal f.top x last n ≡ 0 → ⊥) → fold (step f.top) finish 2 nothing (lines f.width s) ≡ refuse (type_refusal f.top x last n)
  unfolding type_refusal
  types-refused = go (columns_fit f.top x) (leb x.a last) (leb 64 n) refl refl refl
    where
      go : (form low full : Bool) → columns_fit f.top x ≡ form → leb x.a last ≡ low → leb 64 n ≡ full
          → (type_number form low full ≡ 0 → ⊥) → fold (step f.top) finish 2 nothing (lines f.width s) ≡ refuse (type_number form low full)
      go false low full p q r z = refused-here 2 (step-form f.top (typed (take n schema)) (line_of s x) (sym (formed f s i e) ∙ p))
      go true true full p q r z = refused-here 3 (type-line (sym (formed f s i e) ∙ p) ∙ rw q)
      go true false true p q r z = refused-here 3 (type-line (sym (formed f s i e) ∙ p) ∙ rw (q, r))
      go true false false p q r z = absurd (z refl)

  -- the answer of a refusal
  pub types-stopped : (m : ℕ) → m ≡ type_refusal f.top x last n → (m ≡ 0 → ⊥) → (r : TypesNoted) → r ≡ types_refused m → TypesJudged f s r
  types-stopped m e' z r only = record {
    ended = λ q. absurd (z (sym number ∙ q));
    refused = λ q. record {
      schema = schema;
      count = n;
      last = last;
      at = i;
      line = x;
      read = t;
      stands = e;
      kind = kind;
      number = number ∙ e';
      sheet = types-refused (λ w. z (e' ∙ w)) ∙ ap refuse (sym (number ∙ e'));
      only = only ∙ ap types_refused (sym number);
    };
  }
    where
      number : r.refusal ≡ m
      number = ap (λ (y : TypesNoted). y.refusal) only

  -- a line that is taken
  record Taking : Type 0 where
    form : columns_fit f.top x ≡ true
    above : last < x.a
    room : n < 64

  taking : type_refusal f.top x last n ≡ 0 → Taking
  unfolding type_refusal
  taking = go (columns_fit f.top x) (leb x.a last) (leb 64 n) refl refl refl
    where
      go : (form low full : Bool) → columns_fit f.top x ≡ form → leb x.a last ≡ low → leb 64 n ≡ full → type_number form low full ≡ 0 → Taking
      go false low full p q r z = absurd (omega arith)
      go true true full p q r z = absurd (omega arith)
      go true false true p q r z = absurd (omega arith)
      go true false false p q r z = record { form = p; above = leb-false x.a last q; room = leb-false 64 n r }

  -- it can be noted
  pub types-room : Usable f → type_refusal f.top x last n ≡ 0 → (n < 64) × (x.a < 4294967296) × (x.b ≤ 2)
  types-room u z = let g = taking z in let h = type-columns f.top x g.form kind in (g.room, omega (arith, h.1, u.types), h.2)

  pub types-on : type_refusal f.top x last n ≡ 0 → TypesRead f s (set schema n (x.a * 4 + x.b)) (n + 1) x.a x.next
  types-on z =
      let g = taking z in
      let h = type-columns f.top x g.form kind in
      let is : take (n + 1) (set schema n (x.a * 4 + x.b)) ≡ take n schema ++ ((x.a * 4 + x.b) ∷ []) = rw (add-one, take-suc-set schema n (x.a * 4 + x.b) (omega (arith, g.room, t.room))) in
      let number : (x.a * 4 + x.b) / 4 ≡ x.a = omega arith in
      let type = attribute-of x.a x.b h.2 in
      record {
        room = simp length-set t.room;
        most = omega (arith, g.room);
        rest = zeros-more n schema (x.a * 4 + x.b) t.rest;
        within = (taken-fits-line f.width s i e).within;
        rising = rw is (rising-more (record { number = 0; syntax = 0 }) (take n schema) (x.a * 4 + x.b) t.rising (rw (← t.newest, number) g.above));
        newest = sym (ap (λ (ks : List ℕ). last_type (schema_of ks)) is ∙ ap (λ (k : AttributeType). k.number) (last_more (record { number = 0; syntax = 0 }) (take n schema) (x.a * 4 + x.b) ∙ type));
        passed = rw (is, schema-more (take n schema) (x.a * 4 + x.b), type)
            (one {more = more} t.passed e (type-line (sym (formed f s i e) ∙ g.form) ∙ rw (lt-leb x.a last g.above, lt-leb 64 n g.room)));
      }
