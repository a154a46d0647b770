-- #109: what is claimed of moves and of the two forms; #105: of aliases; #106: of lists in the guest's order. `Laws/Theorems` has the proofs.
use Rattle.std.specs.Prelude.{ℕ, ◌≤◌, ◌<◌, ◌≡◌, Bool, true, false, ◌&&◌, cond, leb, ltb, eqb, length, get_or}
use Rattle.std.proofs.Math.Option.{Option, none, some}
use mathlib.Core.List.{List, [], ◌∷◌, Perm}
use Rattle.rules.specs.Lists.{any, all, keep}
use Rattle.rules.specs.Sheet.{Bytes, Line, narrow, wide, end, rows, lines, print}
use Rattle.rules.specs.declared.Format.{Format}
use Rattle.rules.specs.declared.Limits.{Limits}
use Rattle.rules.specs.Judge.{Verdict, accept, refuse}
use Rattle.rules.specs.Value.{identical}
use Rattle.rules.specs.Name.{Name, same_name, order_of}
use Rattle.rules.specs.Directory.{Directory, directory_of, directory_lines, blank, Entry, entry_of, entries_in, aliases}
use Rattle.rules.specs.Permission.{Item}
use Rattle.rules.specs.Decision.{Setting, Requester}
use Rattle.rules.specs.Request.{Ordering}
use Rattle.rules.specs.FilterItem.{is_less}
use Rattle.rules.specs.Aliases.{resolved}
use Rattle.rules.specs.Arrange.{readable, key, before, arranged}
use Rattle.rules.specs.Move.{widened, narrowed}
use Rattle.rules.specs.Serve.{setting_of, serve_at}
use Rattle.rules.specs.Shown.{SameAliases}

-- ---- moves

-- an accepted sheet is its directory's lines, printed
abbrev pub PrintedBack : Type 0
PrintedBack = (f : Format) (s : Bytes) (d : Directory) → directory_of f s ≡ accept d → print f.width (directory_lines d) ≡ s

-- "there and back, if neither move is refused, gives the same bytes", both ways
abbrev pub RoundTrip : Type 0
RoundTrip =
    ((s t u : Bytes) (there back : ℕ) → widened s there ≡ accept t → narrowed t back ≡ accept u → u ≡ s)
    × ((s t u : Bytes) (there back : ℕ) → narrowed s there ≡ accept t → widened t back ≡ accept u → u ≡ s)

-- the moved sheet is accepted, and holds the same directory
abbrev pub MovedAccepted : Type 0
MovedAccepted =
    ((s t : Bytes) (room : ℕ) (d : Directory) → widened s room ≡ accept t → directory_of narrow s ≡ accept d → directory_of wide t ≡ accept d)
    × ((s t : Bytes) (room : ℕ) (d : Directory) → narrowed s room ≡ accept t → directory_of wide s ≡ accept d → directory_of narrow t ≡ accept d)

-- a moved sheet is moved back into every buffer that holds the sheet that it came from: 35 and 36 are given for their reasons alone
abbrev pub BackAgain : Type 0
BackAgain =
    ((s t : Bytes) (there back : ℕ) → widened s there ≡ accept t → length s ≤ back → narrowed t back ≡ accept s)
    × ((s t : Bytes) (there back : ℕ) → narrowed s there ≡ accept t → length s ≤ back → widened t back ≡ accept s)

-- ---- the two forms

-- the column of a line that holds a type; 0 where it has none
abbrev pub type_of : Line → ℕ
type_of x = cond (any (eqb x.kind) (2 ∷ 7 ∷ [])) x.b (cond (any (eqb x.kind) (1 ∷ 3 ∷ 9 ∷ 13 ∷ 14 ∷ 16 ∷ 23 ∷ 24 ∷ 25 ∷ 26 ∷ 27 ∷ [])) x.a 0)

-- "no type is above 999 and all fits": the line's numbers fit six columns
abbrev pub modest : Line → Bool
modest x =
    leb (type_of x) 999
    && (ltb x.kind 1000000 && (ltb x.a 1000000 && (ltb x.b 1000000 && (ltb x.c 1000000 && leb (length x.bytes) 64))))

-- the sheets of a call as lines
pub record Written : Type 0 where
  pub directory : List Line
  pub permissions : List Line
  pub request : List Line

-- the call with these sheets in the form `f`
abbrev pub served_in : Format → Limits → Written → ℕ → Verdict Bytes
served_in f k x room = serve_at f k (print f.width x.directory) (print f.width x.permissions) (print f.width x.request) room

-- no refusal of length: a sheet, an answer or a buffer that does not fit
abbrev pub Fitted : Verdict Bytes → Type 0
Fitted (accept a) = Unit {0}
Fitted (refuse n) = any (eqb n) (1 ∷ 11 ∷ 21 ∷ 31 ∷ 33 ∷ []) ≡ false

-- the same refusal, or answers that are the same lines in their columns, and are read as these lines
abbrev pub SameLines : Verdict Bytes → Verdict Bytes → Type 0
SameLines (accept a) (accept b) =
    (ls : List Line) × (a ≡ print 6 ls) × (b ≡ print 9 ls) × (lines 6 a ≡ rows ls end) × (lines 9 b ≡ rows ls end)
SameLines (refuse n) (refuse m) = n ≡ m
SameLines (accept a) (refuse m) = ⊥
SameLines (refuse n) (accept b) = ⊥

-- "either form answers the same lines alike but for the columns, if no type is above 999 and all fits"
abbrev pub FormsAlike : Type 0
FormsAlike =
    (k : Limits) (x : Written) (room₁ room₂ : ℕ)
    → all modest x.directory ≡ true → all modest x.permissions ≡ true → all modest x.request ≡ true
    → Fitted (served_in narrow k x room₁) → Fitted (served_in wide k x room₂)
    → SameLines (served_in narrow k x room₁) (served_in wide k x room₂)

-- ---- #105: aliases

-- in accepted directories with the same aliases a name is replaced alike, whatever the order of the aliases
abbrev pub ResolvedAlike : Type 0
ResolvedAlike =
    (f : Format) (s₁ s₂ : Bytes) (d₁ d₂ : Directory) → directory_of f s₁ ≡ accept d₁ → directory_of f s₂ ≡ accept d₂
    → d₁.schema ≡ d₂.schema → SameAliases d₁ d₂ → (n : Name)
    → resolved d₁.schema (aliases d₁) n ≡ resolved d₂.schema (aliases d₂) n

-- "a replaced name of more than 8 parts is absent": no entry has it
abbrev pub LongAbsent : Type 0
LongAbsent =
    (f : Format) (s : Bytes) (d : Directory) → directory_of f s ≡ accept d → (n : Name) → 8 < length n
    → any (λ e. same_name d.schema n e.name) (entries_in d) ≡ false

-- ---- #106: lists in the guest's order

-- what is arranged is what was found
abbrev pub Permuted : Type 0
Permuted = (σ : Setting) (o : Option Ordering) (es : List Entry) → Perm (arranged σ o es) es

-- no later element must stand before an earlier one
abbrev pub Ordered : {A : Type 0} → (A → A → Bool) → List A → Type 0
Ordered before [] = Unit {0}
Ordered before (x ∷ xs) = (any (λ y. before y x) xs ≡ false) × Ordered before xs

-- entries of an accepted directory, whichever were found, stand in the order of their keys
abbrev pub InOrder : Type 0
InOrder =
    (f : Format) (s : Bytes) (d : Directory) → directory_of f s ≡ accept d
    → (is : List Item) (u : Requester) (o : Ordering) (chosen : Entry → Bool)
    → Ordered (before (setting_of d is u) o) (arranged (setting_of d is u) (some o) (keep chosen (entries_in d)))

-- "ties in directory order": entries of which none must stand before another stay as they were found
abbrev pub Stable : Type 0
Stable =
    (σ : Setting) (o : Ordering) (es : List Entry) (tied : Entry → Bool)
    → ((x y : Entry) → tied x ≡ true → tied y ≡ true → before σ o x y ≡ false)
    → keep tied (arranged σ (some o) es) ≡ keep tied es

-- "the key is an entry's smallest value of that type with Read granted on type and value": one of them, and none is below it; none where there
-- are none
abbrev pub SmallestKey : Type 0
SmallestKey =
    (f : Format) (s : Bytes) (d : Directory) → directory_of f s ≡ accept d
    → (is : List Item) (u : Requester) (t k : ℕ) → k < length d.entries
    → let σ : Setting = setting_of d is u in
    let e : Entry = entry_of (get_or d.entries k blank) in
    ((v : Bytes) → key σ t e ≡ some v → (any (identical v) (readable σ t e) ≡ true) × (any (λ w. is_less (order_of d.schema t w v)) (readable σ t e) ≡ false))
    × (key σ t e ≡ none → readable σ t e ≡ [])
