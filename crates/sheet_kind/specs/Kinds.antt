-- Document 01, "Sheets" and "Outcomes": the kinds of lines, and the number of each.
use Rattle.std.specs.Prelude.{ℕ, cond, List, [], ◌∷◌, eqb}
use Rattle.sheet_kind.specs.declared.Kind.{Kind}
use Rattle.sheet_kind.specs.declared.Kind.TheVariants.{AttributeType, Entry, Value, Item, Base, UserClass, ProtectedItem, Permissions, NamePart, Requester, Operation, Selection, SelectedType, Assertion, Subset, Ordering, And, Or, Not, Equality, AtLeast, AtMost, Present, Substrings, Piece, Outcome, Comparison, Child, ReturnedEntry, ReturnedType, ReturnedValue, Target, Unknown}

-- document 01's number for each case; no sheet has kind 0
abbrev pub number_of : Kind → ℕ
number_of AttributeType = 1
number_of Entry = 2
number_of Value = 3
number_of Item = 4
number_of Base = 5
number_of UserClass = 6
number_of ProtectedItem = 7
number_of Permissions = 8
number_of NamePart = 9
number_of Requester = 10
number_of Operation = 11
number_of Selection = 12
number_of SelectedType = 13
number_of Assertion = 14
number_of Subset = 15
number_of Ordering = 16
number_of And = 20
number_of Or = 21
number_of Not = 22
number_of Equality = 23
number_of AtLeast = 24
number_of AtMost = 25
number_of Present = 26
number_of Substrings = 27
number_of Piece = 28
number_of Outcome = 30
number_of Comparison = 31
number_of Child = 32
number_of ReturnedEntry = 33
number_of ReturnedType = 34
number_of ReturnedValue = 35
number_of Target = 36
number_of Unknown = 0

-- the lines of a filter and of an answer, K 20 to 28 and K 30 to 35
abbrev pub ranges : List Kind
ranges = And ∷ Or ∷ Not ∷ Equality ∷ AtLeast ∷ AtMost ∷ Present ∷ Substrings ∷ Piece ∷ Outcome ∷ Comparison ∷ Child ∷ ReturnedEntry ∷ ReturnedType ∷ ReturnedValue ∷ []

abbrev pub known_kinds : List Kind
known_kinds = AttributeType ∷ Entry ∷ Value ∷ Item ∷ Base ∷ UserClass ∷ ProtectedItem ∷ Permissions ∷ NamePart ∷ Requester ∷ Operation ∷ Selection ∷ SelectedType ∷ Assertion ∷ Subset ∷ Ordering ∷ Target ∷ ranges

-- the first case of `xs` that has the number `k`
abbrev pub kind_in : List Kind → ℕ → Kind
kind_in [] k = Unknown
kind_in (x ∷ xs) k = cond (eqb k (number_of x)) x (kind_in xs k)

-- what the kind `k` is
unfoldable pub kind_of : ℕ → Kind
kind_of k = kind_in known_kinds k
