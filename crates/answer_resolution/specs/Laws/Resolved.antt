-- Laws of names replaced, by what the way down each of them tells: the target in the end, one replacement more, or a ninth.
use Prim.Native.Nat.{ℕ, zero, suc, ◌-◌, ◌≤◌, ◌<◌}
use Rattle.std.specs.Prelude.{◌≡◌, Bool, true, false, List, ◌++◌, ltb, get_or, take, Some, None}
use Rattle.std.proofs.Math.Path.{refl, ap, subst}
use Rattle.std.proofs.Common.{sym, ap₂, ◌∙◌, lt-ltb, le-ltb, ltb-true, ltb-false}
use Rattle.std.proofs.Math.Option.{Option, none, some}
use native.Mathlib.Omega.{arith}
use Rattle.std.proofs.Math.ListN.{length, drop}
use Rattle.std.proofs.Math.Seq.{length-take-le}
use Rattle.rules.specs.Sheet.{Bytes}
use Rattle.rules.specs.Name.{Name}
use Rattle.rules.specs.Directory.{Stored, blank, Directory, name_at, under_alias, leads_to, alias_of}
use Rattle.rules.specs.Decision.{Setting}
use Rattle.rules.specs.Aliases.{replaced, leading, followed}
use Rattle.rules.specs.Places.{lines_at, parts_of}
use Rattle.tables.specs.Numbers.{alias_by}
use Rattle.rules.specs.Derived.{Accepted}
use Rattle.tables.specs.Laws.Targets.{leading-walk, walk-depth}
use Rattle.rules.specs.Value.{Found}
use Rattle.tables.specs.Book.{entry_count, width}
use Rattle.tables.specs.World.{Entries, World, Known}
use Rattle.tables.specs.Plan.{aliases_of}
use Rattle.answer_entry.specs.declared.Sought.{Sought}
use Rattle.answer_resolution.specs.Resolution.{alias, whole, way_down, ending_of, Full, target_of, HoldsName, Resolves}
use Rattle.answer_resolution.specs.Laws.Way.{way-unled, way-led, way-unstopped, way-base}
use Rattle.answer_resolution.specs.declared.way.Way.{Way}
use Rattle.answer_resolution.specs.Resolved.{Resolved}

module _ (σ : Setting) (es : List Stored) (ok : Accepted σ.schema es) where
  directory : Directory
  directory = record { schema = σ.schema; entries = es }

  -- a name of more than 8 parts is not replaced
  followed-long : (k : ℕ) (n : Name) → 8 < length n → followed σ.schema (aliases_of σ es) (suc k) n ≡ some n
  unfolding followed
  followed-long k n h = rw (lt-ltb 8 (length n) h)

  -- nor is one that no alias leads
  followed-whole : (k : ℕ) (n : Name) (f : Found) (m : ℕ) → length n ≤ 8 → way_down σ es true 0 0 n ≡ whole f m → followed σ.schema (aliases_of σ es) (suc k) n ≡ some n
  unfolding followed under_alias directory
  followed-whole k n f m h e =
      let l : leading σ.schema (aliases_of σ es) n ≡ none = leading-walk directory ok n ∙ ap (alias_by es) (way-unled σ es n 0 0 f m refl e) in
      rw (le-ltb 8 (length n) h, l)

  -- the alias that was met is replaced
  followed-on : (k : ℕ) (n : Name) (j : ℕ) (rest : Name) → length n ≤ 8 → 1 ≤ j → way_down σ es true 0 0 n ≡ alias j rest
      → followed σ.schema (aliases_of σ es) (suc k) n ≡ followed σ.schema (aliases_of σ es) k (target_of es j ++ rest)
  unfolding followed under_alias directory replaced name_at
  followed-on k n zero rest h o e = absurd (omega arith)
  followed-on k n (suc j) rest h o e =
      let (l, (i, b, w, q)) = way-led σ es n 0 0 (suc j) rest refl e in
      let p : leading σ.schema (aliases_of σ es) n ≡ some (alias_of (get_or es j blank)) = leading-walk directory ok n ∙ ap (alias_by es) l in
      let c : length (get_or es j blank).name ≡ i = walk-depth directory ok (take i n) (suc j) w ∙ length-take-le i n b in
      let z : suc j - 1 ≡ j = omega arith in
      rw (le-ltb 8 (length n) h, p)
      (ap (λ (m : Name). followed σ.schema (aliases_of σ es) k (leads_to (get_or es j blank).target ++ m)) (ap (λ (c : ℕ). drop c n) c ∙ q)
      ∙ ap (λ (i : ℕ). followed σ.schema (aliases_of σ es) k (leads_to (get_or es i blank).target ++ rest)) (sym z))

  -- ---- by the way down a name of `parts` parts, up to an alias if there are 8 at most

  module _ (k : ℕ) (n : Name) (parts : ℕ) (count : length n ≡ parts) where
    few : (b : Bool) → ltb parts 9 ≡ b → b ≡ true → length n ≤ 8
    few b e t = omega (arith, count, ltb-true parts 9 (e ∙ t))

    -- it ends with the name
    pub resolves-end : (t : Sought) → t.missing ≤ length es → way_down σ es (ltb parts 9) 0 0 n ≡ whole t.base t.missing
        → Resolves σ es (followed σ.schema (aliases_of σ es) (suc k) n) (Some t)
    resolves-end t l e = subst (λ (o : Option Name). Resolves σ es o (Some t)) (sym (go (ltb parts 9) refl e)) (way-base σ es ok (ltb parts 9) n l e)
      where
        go : (b : Bool) → ltb parts 9 ≡ b → way_down σ es b 0 0 n ≡ whole t.base t.missing → followed σ.schema (aliases_of σ es) (suc k) n ≡ some n
        go true h q = followed-whole k n t.base t.missing (few true h refl) q
        go false h q = followed-long k n (omega (arith, count, ltb-false parts 9 h))

    -- at an alias: one replacement more
    pub resolves-on : (j : ℕ) (rest : Name) → 1 ≤ j → way_down σ es (ltb parts 9) 0 0 n ≡ alias j rest
        → followed σ.schema (aliases_of σ es) (suc k) n ≡ followed σ.schema (aliases_of σ es) k (target_of es j ++ rest)
    resolves-on j rest o e = go (ltb parts 9) refl e
      where
        go : (b : Bool) → ltb parts 9 ≡ b → way_down σ es b 0 0 n ≡ alias j rest → followed σ.schema (aliases_of σ es) (suc k) n ≡ followed σ.schema (aliases_of σ es) k (target_of es j ++ rest)
        go true h q = followed-on k n j rest (few true h refl) o q
        go false h q = absurd (way-unstopped σ es n 0 0 j rest q)

    -- and the name has 8 parts at most
    pub met-few : (j : ℕ) (rest : Name) → way_down σ es (ltb parts 9) 0 0 n ≡ alias j rest → parts ≤ 8
    met-few j rest e = go (ltb parts 9) refl e
      where
        go : (b : Bool) → ltb parts 9 ≡ b → way_down σ es b 0 0 n ≡ alias j rest → parts ≤ 8
        go true h q = omega (arith, ltb-true parts 9 h)
        go false h q = absurd (way-unstopped σ es n 0 0 j rest q)

  -- a ninth replacement is due
  pub resolves-none : (n m : Name) → followed σ.schema (aliases_of σ es) 1 n ≡ followed σ.schema (aliases_of σ es) 0 m → Resolves σ es (followed σ.schema (aliases_of σ es) 1 n) None
  unfolding followed
  resolves-none n m e = subst (λ (o : Option Name). Resolves σ es o None) (sym e) tt

-- ---- the loop

module _ (book sets : List ℕ) (d : Bytes) where
  -- the way down the name of `parts` lines at position `i` of the sheet `s`, as it is told
  abbrev pub WayTold : Bytes → ℕ → ℕ → Way → Type 0
  WayTold s i parts r = (σ : Setting) (es : List Stored) (p : Bytes) (held : List ℕ) → World σ es d p book held sets
      → ending_of (width book) s r ≡ way_down σ es (ltb parts 9) 0 0 (parts_of parts (lines_at (width book) s i))

  -- some world is known
  abbrev pub SomeWorld : Type 0
  SomeWorld = (p : Bytes) × (held : List ℕ) × Known d p book held sets

  -- an alias at the beginning of a name of `parts` parts: at most 7 are behind it
  pub told-few : SomeWorld → (s : Bytes) (i parts : ℕ) {r : Way} → WayTold s i parts r → Full (width book) s i parts → {number left next : ℕ} → r ≡ Way.Alias number left next → left < parts → left ≤ 7
  told-few (p, held, (σ, es, W)) s i parts t f {number} {left} {next} e l =
      let q = ap (ending_of (width book) s) (sym e) ∙ t σ es p held W in
      omega (arith, l, met-few σ es W.entries.accepted 0 (parts_of parts (lines_at (width book) s i)) parts f number (parts_of left (lines_at (width book) s next)) (sym q))

  -- the target of a name whose way down ends with it, `k` more replacements being allowed
  pub told-end : (s : Bytes) (i parts : ℕ) {r : Way} → WayTold s i parts r → Full (width book) s i parts → {t : Sought} → r ≡ Way.End t → t.missing ≤ entry_count book → (k : ℕ)
      → (σ : Setting) (es : List Stored) (p : Bytes) (held : List ℕ) → World σ es d p book held sets
      → Resolves σ es (followed σ.schema (aliases_of σ es) (suc k) (parts_of parts (lines_at (width book) s i))) (Some t)
  told-end s i parts told f {t} e l k σ es p held W =
      resolves-end σ es W.entries.accepted k (parts_of parts (lines_at (width book) s i)) parts f t (omega (arith, l, W.entries.count))
      (sym (ap (ending_of (width book) s) (sym e) ∙ told σ es p held W))

  -- one replacement more
  pub told-on : (s : Bytes) (i parts : ℕ) {r : Way} → WayTold s i parts r → Full (width book) s i parts → {number left next : ℕ} → r ≡ Way.Alias number left next → 1 ≤ number → (k : ℕ)
      → (σ : Setting) (es : List Stored) (p : Bytes) (held : List ℕ) → World σ es d p book held sets
      → followed σ.schema (aliases_of σ es) (suc k) (parts_of parts (lines_at (width book) s i))
      ≡ followed σ.schema (aliases_of σ es) k (target_of es number ++ parts_of left (lines_at (width book) s next))
  told-on s i parts told f {number} {left} {next} e o k σ es p held W =
      resolves-on σ es W.entries.accepted k (parts_of parts (lines_at (width book) s i)) parts f number (parts_of left (lines_at (width book) s next)) o
      (sym (ap (ending_of (width book) s) (sym e) ∙ told σ es p held W))

  -- the name that stands in the buffer, after the first replacement and perhaps more; `more` may still be made
  pub record Following (s : Bytes) (number left next : ℕ) (name : Bytes) (parts more : ℕ) : Type 0 where
    pub full : Full (width book) name 0 parts
    pub leads : (σ : Setting) (es : List Stored) (p : Bytes) (held : List ℕ) → World σ es d p book held sets
        → followed σ.schema (aliases_of σ es) (suc more) (parts_of parts (lines_at (width book) name 0))
        ≡ followed σ.schema (aliases_of σ es) 8 (target_of es number ++ parts_of left (lines_at (width book) s next))

  -- a name that was replaced stands in the buffer
  abbrev pub Replaced : Bytes → ℕ → ℕ → ℕ → Bytes → ℕ → Type 0
  Replaced s number left next name parts = (σ : Setting) (es : List Stored) (held : List ℕ) → Entries σ es d book held
      → HoldsName (width book) name parts (target_of es number ++ parts_of left (lines_at (width book) s next))

  replaced-full : SomeWorld → (s : Bytes) (number left next : ℕ) (name : Bytes) (parts : ℕ) → Replaced s number left next name parts → Full (width book) name 0 parts
  replaced-full (p, held, (σ, es, W)) s number left next name parts h = let g = h σ es held W.entries in ap length g.parts ∙ g.count

  pub following-start : SomeWorld → (s : Bytes) (number left next : ℕ) (name : Bytes) (parts : ℕ) → Replaced s number left next name parts → Following s number left next name parts 7
  following-start w s number left next name parts h = record {
    full = replaced-full w s number left next name parts h;
    leads = λ σ es p held W. ap (followed σ.schema (aliases_of σ es) 8) (h σ es held W.entries).parts;
  }

  module _ {s : Bytes} {number left next : ℕ} {name : Bytes} {parts more : ℕ} (g : Following s number left next name parts more) {r : Way} (told : WayTold name 0 parts r) where
    pub following-end : {t : Sought} → r ≡ Way.End t → t.missing ≤ entry_count book → (σ : Setting) (es : List Stored) (p : Bytes) (held : List ℕ) → World σ es d p book held sets
        → Resolves σ es (followed σ.schema (aliases_of σ es) 8 (target_of es number ++ parts_of left (lines_at (width book) s next))) (Some t)
    following-end {t} e l σ es p held W = subst (λ (o : Option Name). Resolves σ es o (Some t)) (g.leads σ es p held W) (told-end name 0 parts told g.full e l more σ es p held W)

    module _ {k rest behind : ℕ} (e : r ≡ Way.Alias k rest behind) (o : 1 ≤ k) where
      pub following-none : more ≡ 0 → (σ : Setting) (es : List Stored) (p : Bytes) (held : List ℕ) → World σ es d p book held sets
          → Resolves σ es (followed σ.schema (aliases_of σ es) 8 (target_of es number ++ parts_of left (lines_at (width book) s next))) None
      following-none z σ es p held W =
          subst (λ (o : Option Name). Resolves σ es o None) (ap (λ (m : ℕ). followed σ.schema (aliases_of σ es) (suc m) (parts_of parts (lines_at (width book) name 0))) (sym z) ∙ g.leads σ es p held W)
          (resolves-none σ es W.entries.accepted _ _ (told-on name 0 parts told g.full e o 0 σ es p held W))

      pub following-on : SomeWorld → (more ≡ 0 → ⊥) → (name₁ : Bytes) (parts₁ : ℕ) → Replaced name k rest behind name₁ parts₁ → Following s number left next name₁ parts₁ (more - 1)
      following-on w z name₁ parts₁ h = record {
        full = replaced-full w name k rest behind name₁ parts₁ h;
        leads = λ σ es p held W.
            let y : suc (more - 1) ≡ more = omega (arith, z) in
            ap₂ (λ (m : ℕ) (n : Name). followed σ.schema (aliases_of σ es) m n) y (h σ es held W.entries).parts
            ∙ sym (told-on name 0 parts told g.full e o more σ es p held W)
            ∙ g.leads σ es p held W;
      }
