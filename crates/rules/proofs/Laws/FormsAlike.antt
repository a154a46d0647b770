-- #109: either form answers the same lines alike: both read and judge the same lines, and where a width counts, a refusal of length stands.
use Rattle.std.specs.Prelude.{ℕ, ◌≤◌, ◌≡◌, Bool, true, false, not, leb, ltb, eqb, length}
use Rattle.std.proofs.Common.{arith, sym, ap, ◌∙◌, subst, true≢false, leb-true, ltb-true}
use Rattle.std.proofs.Math.Path.{refl}
use mathlib.Core.List.{List, [], ◌∷◌}
use Rattle.rules.specs.Lists.{any}
use Rattle.rules.specs.Sheet.{Bytes, Line, narrow, wide, Sheet, end, rows, lines, print}
use Rattle.rules.specs.declared.Format.{Format}
use Rattle.rules.specs.declared.Limits.{Limits}
use Rattle.rules.specs.Columns.{Form, directory_forms, permission_forms, request_forms}
use Rattle.rules.specs.Name.{Schema}
use Rattle.rules.specs.Judge.{Verdict, accept, refuse, refuse_if, then, fold}
use Rattle.rules.specs.Directory.{Directory, step, finish, nothing, directory_of, entries_in, aliases}
use Rattle.rules.specs.Permission.{Item, items, permissions_of}
use Rattle.rules.specs.Decision.{Setting}
use Rattle.rules.specs.Request.{Request, request_grammar, request, ordering_of, has_order, request_of}
use Rattle.rules.specs.Answer.{answer_to}
use Rattle.rules.specs.Serve.{Ground, ground, above, within, setting_of, fitting, respond, judged_at, serve_at}
use Rattle.rules.specs.Theorems.{type_of, modest, Written, Fitted, SameLines, FormsAlike}
use Rattle.rules.proofs.Laws.Tests.{and_left, and_right}
use Rattle.rules.proofs.Laws.Judge.{then-cong, then-then}
use Rattle.rules.specs.Derived.{Each}
use Rattle.rules.proofs.Laws.Each.{each_map, all-each}
use Rattle.rules.proofs.Laws.Sheet.{AllRows, each_rows, printed}
use Rattle.rules.proofs.Laws.Forms.{directory-forms, permission-forms, request-forms}
use Rattle.rules.proofs.Laws.SameForms.{Same, fold_same, items-same, request-same}
use Rattle.rules.proofs.Laws.Low.{Low, low-fit}
use Rattle.rules.proofs.Laws.EntriesLow.{entries-low}
use Rattle.rules.proofs.Laws.AnswerLow.{answer-to-low}

-- ---- two verdicts

abbrev LinesAlike : Verdict Bytes → Verdict Bytes → Type 0
LinesAlike v w = Fitted v → Fitted w → SameLines v w

module _ (n : ℕ) (length : any (eqb n) (1 ∷ 11 ∷ 21 ∷ 31 ∷ 33 ∷ []) ≡ true) where
  -- after a test of length, which may come out differently
  tested : (b c : Bool) (v w : Verdict Bytes) → LinesAlike v w → LinesAlike (refuse_if b n v) (refuse_if c n w)
  tested true c v w h p q = absurd (true≢false (sym length ∙ p))
  tested false true v w h p q = absurd (true≢false (sym length ∙ q))
  tested false false v w h p q = h p q

  -- after a sheet that is judged alike, but for its length
  judged : {A : Type 0} (b c : Bool) (v w : Verdict A) → v ≡ w → (f g : A → Verdict Bytes) → ((a : A) → refuse_if b n v ≡ accept a → LinesAlike (f a) (g a))
      → LinesAlike (then (refuse_if b n v) f) (then (refuse_if c n w) g)
  judged {A} b c v w e f g h = subst (λ (u : Verdict A). LinesAlike (then (refuse_if b n v) f) (then (refuse_if c n u) g)) e (go b c v h)
    where
      go : (b c : Bool) (v : Verdict A) → ((a : A) → refuse_if b n v ≡ accept a → LinesAlike (f a) (g a)) → LinesAlike (then (refuse_if b n v) f) (then (refuse_if c n v) g)
      go true c v h p q = absurd (true≢false (sym length ∙ p))
      go false true v h p q = absurd (true≢false (sym length ∙ q))
      go false false (accept a) h p q = h a refl p q
      go false false (refuse m) h p q = refl

-- after the same verdict
followed : {A : Type 0} (v : Verdict A) (f g : A → Verdict Bytes) → ((a : A) → LinesAlike (f a) (g a)) → LinesAlike (then v f) (then v g)
followed (accept a) f g h = h a
followed (refuse n) f g h = λ p q. refl

-- ---- the sheets

abbrev Modest : Line → Type 0
Modest x = (type_of x ≤ 999) × Low 999999 x

all-modest : (ls : List Line) → Each (λ x. modest x ≡ true) ls → Each Modest ls
all-modest = each_map (λ x. modest x ≡ true) Modest (λ x e.
    let e₁ = and_right (leb (type_of x) 999) _ e in
    let e₂ = and_right (ltb x.kind 1000000) _ e₁ in
    let e₃ = and_right (ltb x.a 1000000) _ e₂ in
    let e₄ = and_right (ltb x.b 1000000) _ e₃ in (
      leb-true (type_of x) 999 (and_left _ _ e),
      record {
        kind = omega (arith, ltb-true x.kind 1000000 (and_left _ _ e₁));
        a = omega (arith, ltb-true x.a 1000000 (and_left _ _ e₂));
        b = omega (arith, ltb-true x.b 1000000 (and_left _ _ e₃));
        c = omega (arith, ltb-true x.c 1000000 (and_left _ _ e₄));
        short = leb-true (length x.bytes) 64 (and_right (ltb x.c 1000000) _ e₄);
      },
    ))

-- low lines are read back in either form
read_back : (m : ℕ) → 64 ≤ m → m ≤ 999999 → (ls : List Line) → Each (Low m) ls → (lines 6 (print 6 ls) ≡ rows ls end) × (lines 9 (print 9 ls) ≡ rows ls end)
read_back m some few ls k = (printed 5 ls (low-fit m 6 some (omega arith) ls k), printed 8 ls (low-fit m 9 some (omega arith) ls k))

-- what is read of the lines under tables of forms that agree on types up to 999
module _ (F : ℕ → List Form) (same : (x : Line) (top high : ℕ) → type_of x ≤ top → type_of x ≤ high → Same (F top) (F high) x) {A : Type 0} (p q : Sheet → A)
    (alike : (s : Sheet) → AllRows (Same (F 999) (F 9999999)) s → p s ≡ q s) where
  read_alike : (ls : List Line) → Each Modest ls → p (lines 6 (print 6 ls)) ≡ q (lines 9 (print 9 ls))
  read_alike ls k =
      let r = read_back 999999 (omega arith) (omega arith) ls (each_map Modest (Low 999999) (λ x m. m.1) ls k) in
      ap p r.0 ∙ alike (rows ls end) (each_rows _ ls (each_map Modest (Same (F 999) (F 9999999)) (λ x m. same x 999 9999999 m.0 (omega (arith, m.0))) ls k)) ∙ sym (ap q r.1)

-- ---- the call

module _ (k : Limits) (x : Written) where
  -- what follows the request, the permissions, and the directory
  abbrev replied : Format → ℕ → Directory → List Item → Request → Verdict Bytes
  replied f room d is r = respond f (record { directory = d; items = is }) (within k r) room

  -- the request, or 24
  abbrev orderly : Schema → Request → Verdict Request
  orderly S r = refuse_if (not (has_order S (ordering_of r.operation))) 24 (accept r)

  abbrev asked : Format → ℕ → Directory → List Item → Verdict Bytes
  asked f room d is =
      let q : Bytes = print f.width x.request in
      then (refuse_if (ltb 8192 (length q)) 21 (request (request_grammar f.top) (lines f.width q))) (λ r. then (orderly d.schema r) (replied f room d is))

  abbrev permitted : Format → ℕ → Directory → Verdict Bytes
  permitted f room d = then (permissions_of f d.schema (print f.width x.permissions)) (asked f room d)

  abbrev judged_in : Format → ℕ → Verdict Bytes
  judged_in f room = judged_at f k (print f.width x.directory) (print f.width x.permissions) (print f.width x.request) room

  judged-is : (f : Format) (room : ℕ) → judged_in f room ≡ then (directory_of f (print f.width x.directory)) (permitted f room)
  unfolding judged_at ground request_of
  judged-is f room =
      then-then (directory_of f (print f.width x.directory)) _ _
      ∙ then-cong (directory_of f (print f.width x.directory)) _ _ (λ d e.
      then-then (permissions_of f d.schema (print f.width x.permissions)) _ _
      ∙ then-cong (permissions_of f d.schema (print f.width x.permissions)) _ _ (λ is i.
      then-then (refuse_if (ltb 8192 (length (print f.width x.request))) 21 (request (request_grammar f.top) (lines f.width (print f.width x.request)))) _ _))

  module _ (room₁ room₂ : ℕ) (md : Each Modest x.directory) (mp : Each Modest x.permissions) (mr : Each Modest x.request) where
    respond-alike : (g : Ground) (r : Request) → directory_of narrow (print 6 x.directory) ≡ accept g.directory → LinesAlike (respond narrow g r room₁) (respond wide g r room₂)
    unfolding respond fitting
    respond-alike g r e =
        let σ : Setting = setting_of g.directory g.items r.requester in
        let ls : List Line = answer_to σ (entries_in g.directory) (aliases g.directory) r.base r.operation in
        let b = read_back 65536 (omega arith) (omega arith) ls
        (answer-to-low σ (entries_in g.directory) (entries-low narrow (print 6 x.directory) g.directory e (omega arith) (omega arith)) (aliases g.directory) r.base r.operation) in
        tested 31 refl (ltb room₁ (length (print 6 ls))) (ltb room₂ (length (print 9 ls))) (accept (print 6 ls)) (accept (print 9 ls)) (λ p q. (ls, refl, refl, b.0, b.1))

    sheets-alike : LinesAlike (then (directory_of narrow (print 6 x.directory)) (permitted narrow room₁)) (then (directory_of wide (print 9 x.directory)) (permitted wide room₂))
    unfolding directory_of permissions_of
    sheets-alike =
        judged 1 refl (ltb 65536 (length (print 6 x.directory))) (ltb 65536 (length (print 9 x.directory))) _ _
        (read_alike directory_forms directory-forms (fold (step 999) finish 2 nothing) (fold (step 9999999) finish 2 nothing) (λ s. fold_same 999 9999999 s nothing) x.directory md)
        (permitted narrow room₁) (permitted wide room₂) (λ d e.
        judged 11 refl (ltb 65536 (length (print 6 x.permissions))) (ltb 65536 (length (print 9 x.permissions))) _ _
        (read_alike permission_forms permission-forms (items 999 d.schema 256 []) (items 9999999 d.schema 256 []) (items-same 999 9999999 d.schema 256 []) x.permissions mp)
        (asked narrow room₁ d) (asked wide room₂ d) (λ is i.
        judged 21 refl (ltb 8192 (length (print 6 x.request))) (ltb 8192 (length (print 9 x.request))) _ _
        (read_alike request_forms request-forms (request (request_grammar 999)) (request (request_grammar 9999999)) (request-same (request_forms 999) (request_forms 9999999) (λ x. true) 20) x.request mr)
        _ _ (λ r j.
        followed (orderly d.schema r) (replied narrow room₁ d is) (replied wide room₂ d is) (λ r. respond-alike (record { directory = d; items = is }) (within k r) e))))

    judged-alike : LinesAlike (judged_in narrow room₁) (judged_in wide room₂)
    judged-alike =
        subst (λ (v : Verdict Bytes). LinesAlike v (judged_in wide room₂)) (sym (judged-is narrow room₁))
        (subst (LinesAlike (then (directory_of narrow (print 6 x.directory)) (permitted narrow room₁))) (sym (judged-is wide room₂)) sheets-alike)

pub served-alike : FormsAlike
unfolding serve_at
served-alike k x room₁ room₂ md mp mr =
    tested 33 refl (above k room₁) (above k room₂) (judged_in k x narrow room₁) (judged_in k x wide room₂)
    (judged-alike k x room₁ room₂ (all-modest x.directory (all-each modest x.directory md)) (all-modest x.permissions (all-each modest x.permissions mp)) (all-modest x.request (all-each modest x.request mr)))
