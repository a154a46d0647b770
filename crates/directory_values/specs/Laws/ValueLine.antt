-- Laws of `ValueLine`: what the code decides is what the rules decide.
use Rattle.std.specs.Prelude.{ℕ, ◌≤◌, ◌≡◌, refl, ◌⊎◌, Bool, true, false, not, cond, List, [], ◌∷◌, ◌++◌, ltb}
use Rattle.std.proofs.Common.{sym, ◌∙◌, inl, inr, arith, ltb-false}
use Rattle.std.proofs.Math.Bool.{or-false}
use Rattle.std.proofs.Math.Option.{some}
use Rattle.rules.specs.Lists.{any, last_or}
use Rattle.rules.specs.Sheet.{Bytes}
use Rattle.rules.specs.Columns.{directory_forms, in_form}
use Rattle.rules.specs.Name.{Part, part, allowed, same_part}
use Rattle.rules.specs.Judge.{accept, refuse_if}
use Rattle.rules.specs.Directory.{Stored, is_unread, value_line, step, with_values}
use Rattle.rules.specs.Places.{schema_of}
use Rattle.sheet_line.specs.declared.Line.{Line}
use Rattle.sheet_line.specs.Line.{bytes_of, line_of}
use Rattle.name.specs.Schema.{rank_in, allowed_at}
use Rattle.name.specs.Laws.Schema.{allowed-ranked}
use Rattle.directory_schema.specs.Lines.{columns_fit}
use Rattle.directory_schema.specs.Laws.Lines.{step-form, step_value}
use Rattle.directory_duplicates.specs.Mark.{Mark}
use Rattle.directory_duplicates.specs.Twins.{owner_of, twins, Valued}
use Rattle.directory_duplicates.specs.Noted.{RulingNoted}
use Rattle.directory_duplicates.specs.Rulings.{reading, refusing, marking, ruled_of}
use Rattle.directory_duplicates.specs.Laws.Rulings.{Refused}
use Rattle.directory_values.specs.ValueLine.{value_ruling, brought_by}

-- ---- what the rules decide

-- a value line that was taken
pub record ValueMarked (s : Bytes) (ks table : List ℕ) (number last : ℕ) (x : Line) (r : RulingNoted) : Type 0 where
  pub rises : last ≤ x.a
  pub fit : allowed (schema_of ks) x.a (bytes_of s x) ≡ true
  pub ruling : r ≡ marking s table (owner_of number) (rank_in ks x.a) x.place x.length

-- the line, refused or taken, after the values `vs` of entry `d`
abbrev pub ValueOutcome : ℕ → Bytes → List ℕ → List ℕ → ℕ → ℕ → List Stored → Stored → List Part → Line → RulingNoted → Type 0
ValueOutcome top s ks table number last complete d vs x r =
    Refused top (reading ks complete (some (with_values d vs))) (line_of s x) r
    ⊎ (ValueMarked s ks table number last x r
    × (step top (reading ks complete (some (with_values d vs))) (line_of s x) ≡ accept (reading ks complete (some (with_values d (vs ++ (brought_by s x ∷ [])))))))

pub value-outcome : (top : ℕ) (s : Bytes) (ks table : List ℕ) (number last : ℕ) (complete : List Stored) (d : Stored) (vs : List Part) (ms : List Mark)
    → last ≡ (last_or (part 0 []) vs).type → is_unread d.target ≡ true → Valued s ks (owner_of number) vs ms
    → (x : Line) → columns_fit top x ≡ in_form (directory_forms top) (line_of s x) → x.kind ≡ 3
    → ValueOutcome top s ks table number last complete d vs x (value_ruling top number last x s ks table ms)
unfolding value_ruling ruled_of
value-outcome top s ks table number last complete d vs ms newest unread valued x formed kind =
    go (columns_fit top x) (ltb x.a last) (allowed_at ks (rank_in ks x.a) (bytes_of s x)) (twins s ks (owner_of number) (rank_in ks x.a) (bytes_of s x) ms) refl refl (sym (allowed-ranked ks x.a (bytes_of s x))) refl
  where
    value_same : columns_fit top x ≡ true → step top (reading ks complete (some (with_values d vs))) (line_of s x)
        ≡ refuse_if (ltb x.a last) 3 (refuse_if (not (allowed (schema_of ks) x.a (bytes_of s x))) 4 (refuse_if (any (same_part (schema_of ks) (brought_by s x)) vs) 5
        (accept (reading ks complete (some (with_values d (vs ++ (brought_by s x ∷ []))))))))
    value_same p =
        step_value top (reading ks complete (some (with_values d vs))) (line_of s x) (sym formed ∙ p) kind
        ∙ (unfold value_line in (rw (newest, unread, or-false (ltb x.a (last_or (part 0 []) vs).type))))

    go : (f falls al tw : Bool) → columns_fit top x ≡ f → ltb x.a last ≡ falls → allowed (schema_of ks) x.a (bytes_of s x) ≡ al
        → twins s ks (owner_of number) (rank_in ks x.a) (bytes_of s x) ms ≡ tw
        → ValueOutcome top s ks table number last complete d vs x
        (cond f (cond falls (refusing 3) (cond al (cond tw (refusing 5) (marking s table (owner_of number) (rank_in ks x.a) x.place x.length)) (refusing 4))) (refusing 2))
    go false falls al tw p₁ p₂ p₃ p₄ = inl (record { not = λ z. omega arith; is = step-form top (reading ks complete (some (with_values d vs))) (line_of s x) (sym formed ∙ p₁) })
    go true true al tw p₁ p₂ p₃ p₄ = inl (record { not = λ z. omega arith; is = value_same p₁ ∙ rw p₂ })
    go true false false tw p₁ p₂ p₃ p₄ = inl (record { not = λ z. omega arith; is = value_same p₁ ∙ rw (p₂, p₃) })
    go true false true true p₁ p₂ p₃ p₄ = inl (record { not = λ z. omega arith; is = value_same p₁ ∙ rw (p₂, p₃, ← valued.repeated x.a _ p₃, p₄) })
    go true false true false p₁ p₂ p₃ p₄ =
        inr (record { rises = ltb-false x.a last p₂; fit = p₃; ruling = refl }, value_same p₁ ∙ rw (p₂, p₃, ← valued.repeated x.a _ p₃, p₄))
