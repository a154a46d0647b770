-- Document 01, "Sheets" and "Who is refused, and why": the permission sheet. Refusals 11 to 14.
use Rattle.std.specs.Prelude.{ℕ, zero, suc, Bool, true, cond, List, [], ◌∷◌, ◌++◌, ltb, eqb, length}
use Rattle.rules.specs.Sheet.{Bytes, Line, Sheet, lines}
use Rattle.rules.specs.declared.Format.{Format}
use Rattle.rules.specs.Columns.{permission_forms}
use Rattle.rules.specs.Name.{Schema, Name, known, allowed}
use Rattle.rules.specs.Judge.{Verdict, refuse_if, Grammar, misplaced, at_end, due, due_lines, name_of}

-- an item, K 4 to 8
pub record Item : Type 0 where
  pub precedence : ℕ
  pub level : ℕ
  -- 1 grants, 0 denies
  pub grants : Bool
  -- the base alone, or base and all below
  pub below : Bool
  pub base : Name
  -- 0 all users, 1 at or below a name, 2 the entry itself, 3 a named user
  pub who : ℕ
  pub user : Name
  -- 0 the entry, 1 all types, 2 all types and values, 3 a type, 4 all values of a type, 5 one value of a type
  pub what : ℕ
  pub type : ℕ
  pub value : Bytes
  -- a sum of the permissions
  pub permissions : ℕ

-- the permissions, K 8
abbrev pub Read : ℕ
Read = 1

abbrev pub Browse : ℕ
Browse = 2

abbrev pub ReturnDN : ℕ
ReturnDN = 4

abbrev pub DiscloseOnError : ℕ
DiscloseOnError = 8

abbrev pub Compare : ℕ
Compare = 16

abbrev pub FilterMatch : ℕ
FilterMatch = 32

-- 14: "unknown type or value outside its syntax", in K 7 and K 9
unfoldable pub sound_target : Schema → Line → Bool
sound_target S x = cond (ltb x.a 3) true (cond (eqb x.a 5) (allowed S x.b x.bytes) (known S x.b))

unfoldable pub sound_item : Schema → Line → Bool
sound_item S x = cond (eqb x.kind 7) (sound_target S x) (cond (eqb x.kind 9) (allowed S x.a x.bytes) true)

abbrev pub permission_grammar : ℕ → Schema → Grammar
permission_grammar top S = record { forms = permission_forms top; sound = sound_item S; refusals = 10 }

module _ (top : ℕ) (S : Schema) where
  -- "an item is K 4 to 8, in that order, once each", the parts of a name following as K 9
  unfoldable pub item : {A : Type 0} → Sheet → (Item → Sheet → Verdict A) → Verdict A
  item s next =
      let g = permission_grammar top S in
      due g 4 s λ x s. due g 5 s λ y s. due_lines g 9 y.b s λ base s. due g 6 s λ z s. due_lines g 9 z.b s λ user s. due g 7 s λ t s. due g 8 s λ m s.
      next (record {
        precedence = x.a;
        level = x.b;
        grants = eqb x.c 1;
        below = eqb y.a 1;
        base = name_of base;
        who = z.a;
        user = name_of user;
        what = t.a;
        type = t.b;
        value = t.bytes;
        permissions = m.a;
      }) s

  -- the items after those in `before`, at most `n` of them
  unfoldable pub items : ℕ → List Item → Sheet → Verdict (List Item)
  items zero before s = at_end before s (misplaced (permission_grammar top S) s)
  items (suc n) before s = at_end before s (item s λ i rest. items n (before ++ (i ∷ [])) rest)

-- the permissions, "at most 65,536 bytes, 256 items", or the refusal
unfoldable pub permissions_of : Format → Schema → Bytes → Verdict (List Item)
permissions_of f S s = refuse_if (ltb 65536 (length s)) 11 (items f.top S 256 [] (lines f.width s))
