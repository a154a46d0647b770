-- Laws of an entry's naming part and full name, by the numbers of the book.
use Rattle.std.specs.Prelude.{ℕ, zero, suc, ◌+◌, ◌-◌, ◌≤◌, ◌<◌, ◌≡◌, refl, not, List, [], ◌∷◌, ◌++◌, eqb, length, get_or, drop}
use Rattle.std.proofs.Common.{sym, ap, ap₂, ◌∙◌, subst, arith, length-append, length-drop, length-take-le, eq-eqb, ne_eqb}
use Rattle.rules.specs.Sheet.{Bytes, Line, line, bit}
use Rattle.rules.specs.Name.{Part, Name}
use Rattle.rules.specs.Directory.{Stored, blank, name_at, is_alias}
use Rattle.rules.specs.Decision.{Setting}
use Rattle.rules.specs.Judge.{name_lines}
use Rattle.rules.specs.Answer.{entry_lines}
use Rattle.tables.specs.Book.{width, entry_count, naming_place, parent_at, naming_at, length_at, naming_of, target_at}
use Rattle.tables.specs.World.{Entries}
use Rattle.tables.specs.Laws.World.{entry_at, parent_is}
use Rattle.answer_line.specs.Emit.{Emits}
use Rattle.answer_line.specs.Laws.Emit.{emits_none, emits-append}
use Rattle.answer_name.specs.Name.{naming_line}

-- ---- the naming part

module _ {σ : Setting} {es : List Stored} {d : Bytes} {book held : List ℕ} (E : Entries σ es d book held) (k : ℕ) (l : k < entry_count book) where
  -- it lies within the directory, and so it is short
  pub part-short : length (naming_of book d k) ≤ 65536
  part-short =
      let h = (entry_at E k l).within in
      let n : length (naming_of book d k) ≡ length_at book k = length-take-le (length_at book k) (drop (naming_place book k) d) (rw (length-drop (naming_place book k) d) (omega (arith, h))) in
      omega (arith, h, n, E.small)

  -- the line written is the naming part's
  pub part-emits : {out : Bytes} {at kind c : ℕ} {v out' : Bytes} {r : ℕ} → v ≡ naming_of book d k → Emits (width book) out at (line kind (naming_at book k) 0 c v ∷ []) out' r
      → Emits (width book) out at (naming_line kind c (get_or es k blank) ∷ []) out' r
  part-emits {out} {at} {kind} {c} {out' = out'} {r} q p =
      subst (λ (x : Line). Emits (width book) out at (x ∷ []) out' r)
      (ap₂ (λ (t : ℕ) (v : Bytes). line kind t 0 c v) (entry_at E k l).type (q ∙ (entry_at E k l).value)) p

-- whether it is an alias
module _ {σ : Setting} {es : List Stored} {d : Bytes} {book held : List ℕ} (E : Entries σ es d book held) (k : ℕ) (l : k < entry_count book) where
  aliased : is_alias (get_or es k blank).target ≡ not (eqb (target_at book k) 0)
  aliased = (entry_at E k l).target.alias

  pub mark-none : target_at book k ≡ 0 → 0 ≡ bit (is_alias (get_or es k blank).target)
  mark-none e = rw (aliased, eq-eqb (target_at book k) 0 e)

  pub mark-some : (target_at book k ≡ 0 → ⊥) → 1 ≡ bit (is_alias (get_or es k blank).target)
  mark-some e = rw (aliased, ne_eqb (target_at book k) 0 e)

-- the line with another number that is the same
pub mark-emits : (w : ℕ) (out : Bytes) (at kind : ℕ) (e : Stored) {c m : ℕ} {out' : Bytes} {r : ℕ} → c ≡ m → Emits w out at (naming_line kind c e ∷ []) out' r → Emits w out at (naming_line kind m e ∷ []) out' r
mark-emits w out at kind e {out' = out'} {r} q p = subst (λ (x : ℕ). Emits w out at (naming_line kind x e ∷ []) out' r) q p

-- ---- the name, by the parent's

name-suc : (es : List Stored) (i : ℕ) → name_at es (suc i) ≡ (get_or es i blank).name
unfolding name_at
name-suc es i = refl

name-zero : (es : List Stored) → name_at es 0 ≡ []
unfolding name_at
name-zero es = refl

module _ {σ : Setting} {es : List Stored} {d : Bytes} {book held : List ℕ} (E : Entries σ es d book held) where
  name-on : (e : ℕ) → 0 < e → e ≤ entry_count book → name_at es e ≡ name_at es (parent_at book (e - 1)) ++ ((get_or es (e - 1) blank).naming ∷ [])
  name-on zero g l = absurd (omega arith)
  name-on (suc i) g l =
      let h : i < length es = omega (arith, l, E.count) in
      let e : suc i - 1 ≡ i = omega arith in
      rw e (name-suc es i ∙ E.accepted.names i h ∙ ap (λ (p : ℕ). name_at es p ++ ((get_or es i blank).naming ∷ [])) (sym (parent_is E i l)))

  depth-on : (e : ℕ) → 0 < e → e ≤ entry_count book → length (name_at es e) ≡ length (name_at es (parent_at book (e - 1))) + 1
  depth-on e g l = ap length (name-on e g l) ∙ length-append (name_at es (parent_at book (e - 1))) ((get_or es (e - 1) blank).naming ∷ [])

-- ---- the number of its parts

-- `n` parts of the name of entry number `e` are below the name of its ancestor `j`
abbrev pub Climbed : List ℕ → ℕ → ℕ → ℕ → Type 0
Climbed book e n j = (σ : Setting) (es : List Stored) (d : Bytes) (held : List ℕ) → Entries σ es d book held → n + length (name_at es j) ≡ length (name_at es e)

module _ (book : List ℕ) (e : ℕ) where
  pub climb-start : Climbed book e 0 e
  climb-start σ es d held E = omega arith

  pub climb-on : (n j : ℕ) → 0 < j → j ≤ entry_count book → Climbed book e n j → Climbed book e (n + 1) (parent_at book (j - 1))
  climb-on n j g l h σ es d held E =
      let p : length (name_at es j) ≡ length (name_at es (parent_at book (j - 1))) + 1 = depth-on E j g l in
      let q : n + length (name_at es j) ≡ length (name_at es e) = h σ es d held E in
      omega arith

  pub climb-end : (n j : ℕ) → j ≤ 0 → Climbed book e n j → (σ : Setting) (es : List Stored) (d : Bytes) (held : List ℕ) → Entries σ es d book held → n ≡ length (name_at es e)
  climb-end n zero l h σ es d held E =
      let q : n + length (name_at es 0) ≡ length (name_at es e) = h σ es d held E in
      let z : length (name_at es 0) ≡ 0 = ap length (name-zero es) in
      omega (arith, q, z)
  climb-end n (suc j) l h σ es d held E = absurd (omega arith)

-- ---- its lines

lines_snoc : (n : Name) (p : Part) → name_lines (n ++ (p ∷ [])) ≡ name_lines n ++ (line 9 p.type 0 0 p.value ∷ [])
unfolding name_lines
lines_snoc [] p = refl
lines_snoc (q ∷ n) p = ap (λ (ls : List Line). line 9 q.type 0 0 q.value ∷ ls) (lines_snoc n p)

lines_none : name_lines [] ≡ []
unfolding name_lines
lines_none = refl

pub named-root : (w : ℕ) (out : Bytes) (at : ℕ) (es : List Stored) (e : ℕ) → e ≡ 0 → Emits w out at (name_lines (name_at es e)) out at
named-root w out at es e z =
    subst (λ (ls : List Line). Emits w out at ls out at) (sym (ap (λ (j : ℕ). name_lines (name_at es j)) z ∙ ap name_lines (name-zero es) ∙ lines_none)) (emits_none w out at)

-- the parent's name, and then the own part
pub named-on : {σ : Setting} {es : List Stored} {d : Bytes} {book held : List ℕ} (E : Entries σ es d book held) (e : ℕ) → (e ≡ 0 → ⊥) → e ≤ entry_count book
    → {out : Bytes} {at : ℕ} {out₁ out₂ : Bytes} {n r : ℕ} → Emits (width book) out at (name_lines (name_at es (parent_at book (e - 1)))) out₁ n
    → Emits (width book) out₁ n (naming_line 9 0 (get_or es (e - 1) blank) ∷ []) out₂ r → Emits (width book) out at (name_lines (name_at es e)) out₂ r
named-on {es = es} {book = book} E e g l {out} {at} {out₁} {out₂} {n} {r} p q =
    subst (λ (ls : List Line). Emits (width book) out at ls out₂ r)
    (sym (ap name_lines (name-on E e (omega arith) l) ∙ lines_snoc (name_at es (parent_at book (e - 1))) (get_or es (e - 1) blank).naming))
    (emits-append (width book) out at (name_lines (name_at es (parent_at book (e - 1)))) (naming_line 9 0 (get_or es (e - 1) blank) ∷ []) p q)

-- the K 33 line, and then the name
entry-is : (n : Name) → entry_lines n ≡ (line 33 0 (length n) 0 [] ∷ []) ++ name_lines n
unfolding entry_lines
entry-is n = refl

pub entry-emits : (w : ℕ) (out : Bytes) (at : ℕ) (n : Name) (parts : ℕ) {out₁ out₂ : Bytes} {m r : ℕ} → parts ≡ length n → Emits w out at (line 33 0 parts 0 [] ∷ []) out₁ m
    → Emits w out₁ m (name_lines n) out₂ r → Emits w out at (entry_lines n) out₂ r
entry-emits w out at n parts {out₁} {out₂} {m} {r} e p q =
    subst (λ (ls : List Line). Emits w out at ls out₂ r) (sym (entry-is n))
    (emits-append w out at (line 33 0 (length n) 0 [] ∷ []) (name_lines n) (subst (λ (x : ℕ). Emits w out at (line 33 0 x 0 [] ∷ []) out₁ m) e p) q)
