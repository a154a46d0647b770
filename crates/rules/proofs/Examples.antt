-- Document 01, "Examples": the eleven starred ones as one table with one theorem, and 12 and 13 as far as they compute quickly. The others are run by a program.
use Rattle.std.specs.Prelude.{◌≡◌, refl, ℕ, zero, suc, ◌+◌, ◌/◌, ◌%◌, Bool, true, false, List, [], ◌∷◌, ◌++◌}
use Prim.Native.Char.{code}
use Prim.Native.String.{String, [] as none', ◌∷◌ as ◌∷'◌}
use Rattle.rules.specs.Sheet
use Rattle.rules.specs.Sheet.{Bytes, Line, line, narrow, print}
use Rattle.rules.specs.Columns
use Rattle.rules.specs.Value
use Rattle.rules.specs.Value.{Piece, text, integer, fits, order, contains}
use Rattle.rules.specs.Name
use Rattle.rules.specs.Name.{Name, part}
use Rattle.rules.specs.Judge
use Rattle.rules.specs.Judge.{accept, refuse, refusal_of}
use Rattle.rules.specs.Directory
use Rattle.rules.specs.Permission
use Rattle.rules.specs.Permission.{Item}
use Rattle.rules.specs.Decision
use Rattle.rules.specs.Decision.{Setting, entry, granted}
use Rattle.rules.specs.Filter
use Rattle.rules.specs.Filter.{conjunction, disjunction, all_undefined, negation}
use Rattle.rules.specs.Request
use Rattle.rules.specs.FilterItem
use Rattle.rules.specs.Aliases
use Rattle.rules.specs.Arrange
use Rattle.rules.specs.Answer
use Rattle.rules.specs.Serve.{exchange, above, judged_at, serve_at, ground, tighter, capped, within, respond, fitting}
use Rattle.rules.specs.declared.Edition.{Edition}
use Rattle.rules.specs.declared.Edition.TheVariants.{LaterLogic}
use Rattle.rules.specs.declared.Truth.{Truth}
use Rattle.rules.specs.declared.Truth.TheVariants.{True, False, Undefined}
use Rattle.std.specs.declared.cmp.Ordering.{Ordering}
use Rattle.std.specs.declared.cmp.Ordering.TheVariants.{Less}

-- the bytes of a text of ASCII characters
abbrev pub bytes_of : String → Bytes
bytes_of none' = []
bytes_of (c ∷' cs) = code c ∷ bytes_of cs

-- a sheet from its lines, each without its byte 10
abbrev pub sheet_of : List String → Bytes
sheet_of [] = []
sheet_of (l ∷ ls) = bytes_of l ++ (10 ∷ sheet_of ls)

-- ---- the starred examples

pub data Example : Type 0 where
  both either : Edition → List Truth → Truth → Example
  negated : Truth → Truth → Example
  -- these items decide for the requester with the name Ann, of level 0, on the entry Bob
  decided : List Item → Bool → Example
  -- two values of a syntax compare so
  compared : ℕ → String → String → Ordering → Example
  -- "any" pieces stand in a text
  contained : List String → String → Bool → Example
  -- a syntax allows a value
  allows : ℕ → String → Bool → Example

abbrev anywhere : List String → List Piece
anywhere [] = []
anywhere (s ∷ ss) = record { place = 1; bytes = bytes_of s } ∷ anywhere ss

abbrev named : String → Name
named s = part 3 (bytes_of s) ∷ []

abbrev deciding : List Item → Setting
deciding is = record {
  schema = record { number = 3; syntax = text } ∷ [];
  items = is;
  requester = record { level = 0; name = named "Ann" };
}

abbrev pub Holds : Example → Type 0
Holds (both ed ts t) = conjunction ed ts ≡ t
Holds (either ed ts t) = disjunction ed ts ≡ t
Holds (negated t u) = negation t ≡ u
Holds (decided is b) = granted (deciding is) (named "Bob") entry 1 ≡ b
Holds (compared s v w o) = order s (bytes_of v) (bytes_of w) ≡ o
Holds (contained ps v b) = contains text (anywhere ps) (bytes_of v) ≡ b
Holds (allows s v b) = fits s (bytes_of v) ≡ b

abbrev pub All : List Example → Type 0
All [] = Unit {0}
All (e ∷ es) = Holds e × All es

-- an item on every entry that names Read
abbrev rule : ℕ → Bool → ℕ → Name → Item
rule precedence grants who user = record {
  precedence = precedence;
  level = 0;
  grants = grants;
  below = true;
  base = [];
  who = who;
  user = user;
  what = 0;
  type = 0;
  value = [];
  permissions = 1;
}

unfoldable pub table : List Example
table =
    -- 1 and 2
    both LaterLogic (Undefined ∷ True ∷ []) Undefined
    ∷ both LaterLogic (Undefined ∷ False ∷ []) False
    -- 3
    ∷ both LaterLogic [] True
    ∷ either LaterLogic [] False
    -- 4
    ∷ negated Undefined Undefined
    -- 5: grant and denial, both precedence 10, all users
    ∷ decided (rule 10 true 0 [] ∷ rule 10 false 0 [] ∷ []) false
    -- 6: the grant for the named user
    ∷ decided (rule 10 true 3 (named "Ann") ∷ rule 10 false 0 [] ∷ []) true
    -- 7: the denial at 11
    ∷ decided (rule 10 true 3 (named "Ann") ∷ rule 11 false 0 [] ∷ []) false
    -- 8
    ∷ decided [] false
    -- 9
    ∷ compared integer "-10" "-9" Less
    -- 10
    ∷ contained ("ana" ∷ "ana" ∷ []) "banana" false
    -- 11
    ∷ allows integer "-0" false
    ∷ allows integer "9223372036854775808" false
    ∷ []

pub starred : All table
unfolding table conjunction disjunction granted Decision.all_grant Decision.highest Decision.rank Decision.explicit Decision.applies Decision.base_covers Decision.who_fits Decision.what_covers Decision.names
    Decision.level_fits Name.covers Name.same_name Name.same_part Name.equal Name.of_syntax Value.same Value.identical order contains Value.matches Value.used Value.find Value.begins Value.normal Value.folded Value.tidied Value.shorten Value.trim Sheet.strip Value.normal_piece Value.small
    fits Value.sized Value.printable Value.integer_of Sheet.numeral Sheet.digits Value.order_bytes
starred = (refl, (refl, (refl, (refl, (refl, (refl, (refl, (refl, (refl, (refl, (refl, (refl, (refl, tt)))))))))))))

-- ---- example 13

unfoldable pub directory : Bytes
directory = sheet_of (
    "     1     3     1     0     0"
    ∷ "     1     5     2     0     0"
    ∷ "     2     0     3     0     3Ann"
    ∷ "     3     3     0     0     3Ann"
    ∷ "     3     5     0     0     2-7"
    ∷ "     2     0     3     0     3Bob"
    ∷ "     3     3     0     0     3Bob"
    ∷ "     3     5     0     0     212"
    ∷ [])

unfoldable pub permissions : Bytes
permissions = sheet_of (
    "     4     0     0     1     0"
    ∷ "     5     1     0     0     0"
    ∷ "     6     0     0     0     0"
    ∷ "     7     0     0     0     0"
    ∷ "     8     7     0     0     0"
    ∷ "     4     0     0     1     0"
    ∷ "     5     1     0     0     0"
    ∷ "     6     0     0     0     0"
    ∷ "     7     2     0     0     0"
    ∷ "     8    33     0     0     0"
    ∷ "     4    10     0     0     0"
    ∷ "     5     0     1     0     0"
    ∷ "     9     3     0     0     3Bob"
    ∷ "     6     0     0     0     0"
    ∷ "     7     0     0     0     0"
    ∷ "     8    15     0     0     0"
    ∷ [])

unfoldable pub request : Bytes
request = sheet_of (
    "    10     0     0     0     0"
    ∷ "    11     4     0     0     0"
    ∷ "    12     0     0     1     0"
    ∷ "    15     2     0     0     0"
    ∷ "    26     5     0     0     0"
    ∷ [])

unfoldable pub printed : Bytes
printed = sheet_of (
    "    30     4     0     0     0"
    ∷ "    33     0     1     0     0"
    ∷ "     9     3     0     0     3Ann"
    ∷ "    34     3     1     0     0"
    ∷ "    35     0     0     0     3Ann"
    ∷ "    34     5     1     0     0"
    ∷ "    35     0     0     0     2-7"
    ∷ [])

pub example-13 : serve_at narrow exchange directory permissions request 65536 ≡ accept printed
unfolding directory permissions request printed serve_at judged_at above ground tighter capped within respond fitting
    Sheet.strip Sheet.digits Sheet.numeral Sheet.column_of Sheet.whole Sheet.front_of Sheet.lines_within Sheet.lines Sheet.leading Sheet.column Sheet.numbers Sheet.line_bytes Sheet.print
    Columns.takes Columns.directory_forms Columns.permission_forms Columns.request_forms Columns.in_form
    Value.integer_of Value.small Value.printable Value.sized fits Value.normal Value.folded Value.tidied Value.shorten Value.trim Value.identical Value.same
    Name.of_syntax Name.known Name.allowed Name.equal Name.same_part Name.same_name Name.covers Name.child_of
    Judge.fold Judge.misplaced Judge.due Judge.due_lines Judge.name_of
    Directory.name_at Directory.entries_of Directory.type_line Directory.lacks_naming Directory.clashes Directory.lacks_target Directory.under_alias Directory.entry_line Directory.value_line Directory.target_line Directory.part_line Directory.step Directory.finish Directory.directory_of Directory.hold
    Directory.held_of Directory.entry_of Directory.entries_in Directory.aliases
    Permission.sound_target Permission.sound_item Permission.item Permission.items Permission.permissions_of
    Decision.base_covers Decision.who_fits Decision.what_covers Decision.names Decision.level_fits Decision.applies Decision.rank Decision.explicit Decision.highest Decision.all_grant granted
    conjunction disjunction all_undefined Filter.evaluate
    Request.filter_line Request.pieces Request.filters Request.filter_of Request.filter Request.selection Request.ordering Request.edition_of Request.operation Request.request Request.request_of
    FilterItem.asserted_type FilterItem.holds FilterItem.some_value FilterItem.defined FilterItem.satisfied FilterItem.decidable FilterItem.item_truth
    Answer.outcome Judge.name_lines Answer.entry_lines Answer.value_lines Answer.limited Answer.selected Answer.type_lines Answer.information Answer.in_subset Answer.candidate Answer.found Answer.matched_name
    Answer.no_such_object Answer.returned Answer.disclosed Answer.search_hit Arrange.arranged Answer.search_hits Answer.answer Answer.answer_to Aliases.leading Aliases.followed
example-13 = refl

-- ---- of example 12

-- entry `k`, named by two letters, with that value
abbrev entry_lines : ℕ → ℕ → List Line
entry_lines parent k = line 2 parent 3 0 ((97 + k / 16) ∷ (97 + k % 16) ∷ []) ∷ line 3 3 0 0 ((97 + k / 16) ∷ (97 + k % 16) ∷ []) ∷ []

-- a type, then entries; the parent of the entry after the first `k` is `parent k`
abbrev entries_to : (ℕ → ℕ) → ℕ → List Line
entries_to parent zero = line 1 3 1 0 [] ∷ []
entries_to parent (suc k) = entries_to parent k ++ entry_lines (parent k) k

-- each entry below the one before
unfoldable pub chain : ℕ → Bytes
chain n = print narrow.width (entries_to (λ k. k) n)

-- all below the root
unfoldable pub flat : ℕ → Bytes
flat n = print narrow.width (entries_to (λ k. 0) n)

-- "depth 8 accepted, 9 gives 3"
pub depths : (refusal_of (Directory.directory_of narrow (chain 8)) ≡ 0) × (refusal_of (Directory.directory_of narrow (chain 9)) ≡ 3)
unfolding chain
    Sheet.strip Sheet.digits Sheet.numeral Sheet.column_of Sheet.whole Sheet.front_of Sheet.lines_within Sheet.lines Sheet.leading Sheet.column Sheet.numbers Sheet.line_bytes Sheet.print
    Columns.takes Columns.directory_forms Columns.in_form Value.integer_of Value.small Value.printable Value.sized fits Value.normal Value.folded Value.tidied Value.shorten Value.trim Value.identical Value.same
    Name.of_syntax Name.known Name.allowed Name.equal Name.same_part Judge.fold
    Directory.name_at Directory.entries_of Directory.type_line Directory.lacks_naming Directory.clashes Directory.lacks_target Directory.under_alias Directory.entry_line Directory.value_line Directory.target_line Directory.part_line Directory.step Directory.finish Directory.directory_of
depths = (refl, refl)

-- all entries, for all users: Read, Browse and ReturnDN
unfoldable pub open' : Bytes
open' = sheet_of (
    "     4     0     0     1     0"
    ∷ "     5     1     0     0     0"
    ∷ "     6     0     0     0     0"
    ∷ "     7     0     0     0     0"
    ∷ "     8     7     0     0     0"
    ∷ [])

-- a list at the root, at most two entries
unfoldable pub list_two : Bytes
list_two = sheet_of ("    10     0     0     0     0" ∷ "    11     3     0     2     0" ∷ [])

-- "limit 2 with two matches: C 0; with three: C 1"
pub limits : (serve_at narrow exchange (flat 2) open' list_two 65536
    ≡ accept (sheet_of ("    30     3     0     0     0" ∷ "    32     3     0     0     2aa" ∷ "    32     3     0     0     2ab" ∷ [])))
    × (serve_at narrow exchange (flat 3) open' list_two 65536
    ≡ accept (sheet_of ("    30     3     0     1     0" ∷ "    32     3     0     0     2aa" ∷ "    32     3     0     0     2ab" ∷ [])))
unfolding flat open' list_two serve_at judged_at above ground tighter capped within respond fitting
    Sheet.strip Sheet.digits Sheet.numeral Sheet.column_of Sheet.whole Sheet.front_of Sheet.lines_within Sheet.lines Sheet.leading Sheet.column Sheet.numbers Sheet.line_bytes Sheet.print
    Columns.takes Columns.directory_forms Columns.permission_forms Columns.request_forms Columns.in_form
    Value.integer_of Value.small Value.printable Value.sized fits Value.normal Value.folded Value.tidied Value.shorten Value.trim Value.identical Value.same
    Name.of_syntax Name.known Name.allowed Name.equal Name.same_part Name.same_name Name.covers Name.child_of
    Judge.fold Judge.misplaced Judge.due Judge.due_lines Judge.name_of
    Directory.name_at Directory.entries_of Directory.type_line Directory.lacks_naming Directory.clashes Directory.lacks_target Directory.under_alias Directory.entry_line Directory.value_line Directory.target_line Directory.part_line Directory.step Directory.finish Directory.directory_of Directory.hold
    Directory.held_of Directory.entry_of Directory.entries_in Directory.aliases
    Permission.sound_target Permission.sound_item Permission.item Permission.items Permission.permissions_of
    Decision.base_covers Decision.who_fits Decision.what_covers Decision.names Decision.level_fits Decision.applies Decision.rank Decision.explicit Decision.highest Decision.all_grant granted
    conjunction disjunction all_undefined Filter.evaluate
    Request.filter_line Request.pieces Request.filters Request.filter_of Request.filter Request.selection Request.ordering Request.edition_of Request.operation Request.request Request.request_of
    FilterItem.asserted_type FilterItem.holds FilterItem.some_value FilterItem.defined FilterItem.satisfied FilterItem.decidable FilterItem.item_truth
    Answer.outcome Judge.name_lines Answer.entry_lines Answer.value_lines Answer.limited Answer.selected Answer.type_lines Answer.information Answer.in_subset Answer.candidate Answer.found Answer.matched_name
    Answer.no_such_object Answer.returned Answer.listed Answer.disclosed Answer.list_hit Answer.list_hits Answer.answer Answer.answer_to Aliases.leading Aliases.followed Aliases.aliased
limits = (refl, refl)

-- a read of the entry "aa", asked for in capitals, with an empty type list
unfoldable pub read_capitals : Bytes
read_capitals = sheet_of (
    "    10     0     0     0     0"
    ∷ "    11     1     1     0     0"
    ∷ "     9     3     0     0     2AA"
    ∷ "    12     1     0     0     0"
    ∷ [])

-- a name is printed as stored, not as asked
pub stored-name : serve_at narrow exchange (flat 1) open' read_capitals 65536
    ≡ accept (sheet_of ("    30     1     0     0     0" ∷ "    33     0     1     0     0" ∷ "     9     3     0     0     2aa" ∷ []))
unfolding flat open' read_capitals serve_at judged_at above ground tighter capped within respond fitting
    Sheet.strip Sheet.digits Sheet.numeral Sheet.column_of Sheet.whole Sheet.front_of Sheet.lines_within Sheet.lines Sheet.leading Sheet.column Sheet.numbers Sheet.line_bytes Sheet.print
    Columns.takes Columns.directory_forms Columns.permission_forms Columns.request_forms Columns.in_form
    Value.integer_of Value.small Value.printable Value.sized fits Value.normal Value.folded Value.tidied Value.shorten Value.trim Value.identical Value.same
    Name.of_syntax Name.known Name.allowed Name.equal Name.same_part Name.same_name Name.covers Name.child_of
    Judge.fold Judge.misplaced Judge.due Judge.due_lines Judge.name_of
    Directory.name_at Directory.entries_of Directory.type_line Directory.lacks_naming Directory.clashes Directory.lacks_target Directory.under_alias Directory.entry_line Directory.value_line Directory.target_line Directory.part_line Directory.step Directory.finish Directory.directory_of Directory.hold
    Directory.held_of Directory.entry_of Directory.entries_in Directory.aliases
    Permission.sound_target Permission.sound_item Permission.item Permission.items Permission.permissions_of
    Decision.base_covers Decision.who_fits Decision.what_covers Decision.names Decision.level_fits Decision.applies Decision.rank Decision.explicit Decision.highest Decision.all_grant granted
    conjunction disjunction all_undefined Filter.evaluate
    Request.filter_line Request.pieces Request.filters Request.filter_of Request.filter Request.selection Request.ordering Request.edition_of Request.operation Request.request Request.request_of
    FilterItem.asserted_type FilterItem.holds FilterItem.some_value FilterItem.defined FilterItem.satisfied FilterItem.decidable FilterItem.item_truth
    Answer.outcome Judge.name_lines Answer.entry_lines Answer.value_lines Answer.limited Answer.selected Answer.type_lines Answer.information Answer.in_subset Answer.candidate Answer.found Answer.matched_name
    Answer.no_such_object Answer.returned Answer.listed Answer.disclosed Answer.read_entry Answer.named Answer.opened Answer.answer Answer.answer_to Aliases.leading Aliases.followed
stored-name = refl

-- "empty directory accepted; empty request 23"
pub empty-directory : Directory.directory_of narrow [] ≡ accept (record { schema = []; entries = [] })
unfolding Directory.directory_of Sheet.lines Sheet.lines_within Judge.fold Directory.finish Directory.lacks_naming Directory.lacks_target Directory.entries_of
empty-directory = refl

pub empty-request : Request.request_of narrow [] [] ≡ refuse 23
unfolding Request.request_of Sheet.lines Sheet.lines_within Request.request Judge.due Judge.misplaced
empty-request = refl
