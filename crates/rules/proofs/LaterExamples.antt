-- Examples of the changes in document 02: #102, #104, #105, #106 and #109.
use Rattle.std.specs.Prelude.{◌≡◌, refl, ℕ, zero, suc, ◌+◌, true, false, List, [], ◌∷◌, ◌++◌}
use Prim.Native.String.{String}
use Rattle.std.proofs.Math.Option.{none, some}
use Rattle.rules.specs.Sheet
use Rattle.rules.specs.Sheet.{Bytes, line, narrow, wide}
use Rattle.rules.specs.Columns
use Rattle.rules.specs.Value
use Rattle.rules.specs.Value.{text, fits, order, contains}
use Rattle.rules.specs.Name
use Rattle.rules.specs.Name.{Schema, Name, part}
use Rattle.rules.specs.Judge
use Rattle.rules.specs.Judge.{accept, refuse, refusal_of}
use Rattle.rules.specs.Directory
use Rattle.rules.specs.Directory.{Alias}
use Rattle.rules.specs.Permission
use Rattle.rules.specs.Decision
use Rattle.rules.specs.Decision.{granted}
use Rattle.rules.specs.Filter
use Rattle.rules.specs.Filter.{conjunction, disjunction, all_undefined}
use Rattle.rules.specs.Request
use Rattle.rules.specs.FilterItem
use Rattle.rules.specs.Aliases
use Rattle.rules.specs.Aliases.{resolved}
use Rattle.rules.specs.Arrange
use Rattle.rules.specs.Answer
use Rattle.rules.specs.Serve.{exchange, above, judged_at, serve_at, ground, tighter, capped, within, respond, fitting}
use Rattle.rules.specs.declared.Edition.TheVariants.{FirstEdition}
use Rattle.rules.specs.declared.Truth.TheVariants.{True, False, Undefined}
use Rattle.std.specs.declared.cmp.Ordering.TheVariants.{Less, Equal, Greater}
use Rattle.rules.proofs.Examples.{sheet_of, Example, both, either, compared, contained, All, open'}

-- ---- #104, the first edition

unfoldable pub first_edition : List Example
first_edition =
    -- "a filter with one or more parts, all undefined, is undefined"
    both FirstEdition (Undefined ∷ []) Undefined
    ∷ either FirstEdition (Undefined ∷ Undefined ∷ []) Undefined
    -- ""and" is true unless a part is false"
    ∷ both FirstEdition (Undefined ∷ True ∷ []) True
    ∷ both FirstEdition (Undefined ∷ False ∷ []) False
    -- ""or" is false unless a part is true"
    ∷ either FirstEdition (Undefined ∷ False ∷ []) False
    ∷ either FirstEdition (Undefined ∷ True ∷ []) True
    -- no parts
    ∷ both FirstEdition [] True
    ∷ either FirstEdition [] False
    ∷ []

pub first-edition : All first_edition
unfolding first_edition conjunction disjunction all_undefined
first-edition = (refl, (refl, (refl, (refl, (refl, (refl, (refl, (refl, tt))))))))

-- ---- #102: blanks in text

unfoldable pub blanks : List Example
blanks =
    -- "drop blanks at both ends and take a run inside as one"
    compared text "Ann" " ANN  " Equal
    ∷ compared text "Room  7" "room 7" Equal
    ∷ compared text "Room7" "Room 7" Greater
    -- "a value of nothing but blanks counts as one blank"
    ∷ compared text "   " " " Equal
    ∷ compared text "   " "a" Less
    -- "in substrings the stored value is treated so"
    ∷ contained ("l  k" ∷ []) "Hotel   Krone" true
    ∷ contained ("lK" ∷ []) "Hotel Krone" false
    -- "a piece only has its runs shortened": it keeps a blank at its ends
    ∷ contained ("l  " ∷ []) "Hotel Krone" true
    ∷ contained ("e " ∷ []) "Hotel Krone " false
    ∷ []

pub blanks-hold : All blanks
unfolding blanks order contains Value.matches Value.used Value.find Value.begins Value.normal Value.normal_piece Value.folded Value.tidied Value.shorten Value.trim Sheet.strip Value.small Value.order_bytes
blanks-hold = (refl, (refl, (refl, (refl, (refl, (refl, (refl, (refl, (refl, tt)))))))))

-- "siblings "Ann" and "Ann " now give 5", and the naming value "Ann" is held as "Ann "
unfoldable pub twins : Bytes
twins = sheet_of (
    "     1     3     1     0     0"
    ∷ "     2     0     3     0     3Ann"
    ∷ "     3     3     0     0     4Ann "
    ∷ "     2     0     3     0     4Ann "
    ∷ [])

pub twins-refused : refusal_of (Directory.directory_of narrow twins) ≡ 5
unfolding twins
    Sheet.strip Sheet.digits Sheet.numeral Sheet.column_of Sheet.whole Sheet.front_of Sheet.lines_within Sheet.lines
    Columns.takes Columns.directory_forms Columns.in_form Value.integer_of Value.small Value.printable Value.sized fits Value.normal Value.folded Value.tidied Value.shorten Value.trim Value.identical Value.same
    Name.of_syntax Name.known Name.allowed Name.equal Name.same_part Judge.fold
    Directory.name_at Directory.entries_of Directory.type_line Directory.lacks_naming Directory.clashes Directory.lacks_target Directory.under_alias Directory.entry_line Directory.value_line Directory.target_line Directory.part_line Directory.step Directory.finish Directory.directory_of
twins-refused = refl

-- ---- #106: lists in the guest's order

-- of type 5, an integer, a has 30 and 4, b has none, c has 12 and 1, and d has 4
unfoldable pub floors : Bytes
floors = sheet_of (
    "     1     3     1     0     0"
    ∷ "     1     5     2     0     0"
    ∷ "     1     6     0     0     0"
    ∷ "     2     0     3     0     1a"
    ∷ "     3     3     0     0     1a"
    ∷ "     3     5     0     0     230"
    ∷ "     3     5     0     0     14"
    ∷ "     2     0     3     0     1b"
    ∷ "     3     3     0     0     1b"
    ∷ "     2     0     3     0     1c"
    ∷ "     3     3     0     0     1c"
    ∷ "     3     5     0     0     212"
    ∷ "     3     5     0     0     11"
    ∷ "     2     0     3     0     1d"
    ∷ "     3     3     0     0     1d"
    ∷ "     3     5     0     0     14"
    ∷ [])

-- all may be found and read but the value 1 of type 5
unfoldable pub all_but_one : Bytes
all_but_one = sheet_of (
    "     4     0     0     1     0"
    ∷ "     5     1     0     0     0"
    ∷ "     6     0     0     0     0"
    ∷ "     7     0     0     0     0"
    ∷ "     8     7     0     0     0"
    ∷ "     4     0     0     1     0"
    ∷ "     5     1     0     0     0"
    ∷ "     6     0     0     0     0"
    ∷ "     7     2     0     0     0"
    ∷ "     8    33     0     0     0"
    ∷ "     4     0     0     0     0"
    ∷ "     5     1     0     0     0"
    ∷ "     6     0     0     0     0"
    ∷ "     7     5     5     0     11"
    ∷ "     8     1     0     0     0"
    ∷ [])

-- a search for names alone, of all that have type 3: its line 11, its line 16, and its filter
unfoldable pub search_by : String → String → List String → Bytes
search_by eleven sixteen filter = sheet_of (
    "    10     0     0     0     0"
    ∷ eleven
    ∷ "    12     1     0     0     0"
    ∷ sixteen
    ∷ "    15     2     0     0     0"
    ∷ filter)

abbrev pub all' : List String
all' = "    26     3     0     0     0" ∷ []

-- line 30, and entries by the last lines of their names
unfoldable pub answered : String → List String → Bytes
answered thirty names = sheet_of (thirty ∷ entries_of names)
  where
    entries_of : List String → List String
    entries_of [] = []
    entries_of (n ∷ ns) = "    33     0     1     0     0" ∷ n ∷ entries_of ns

pub in_order_lem :
    -- rising, at most three: a before d, which has the same key; c, whose 1 may not be read; b has no key
    (serve_at narrow exchange floors all_but_one (search_by "    11     4     0     3     0" "    16     5     0     0     0" all') 65536
    ≡ accept (answered "    30     4     0     1     0" ("     9     3     0     0     1a" ∷ "     9     3     0     0     1d" ∷ "     9     3     0     0     1c" ∷ [])))
    -- falling, by the smallest values too
    × (serve_at narrow exchange floors all_but_one (search_by "    11     4     0     0     0" "    16     5     1     0     0" all') 65536
    ≡ accept (answered "    30     4     0     0     0" ("     9     3     0     0     1c" ∷ "     9     3     0     0     1a" ∷ "     9     3     0     0     1d" ∷ "     9     3     0     0     1b" ∷ [])))
    -- "24, the type is unknown or has no order"
    × (serve_at narrow exchange floors all_but_one (search_by "    11     4     0     0     0" "    16     4     0     0     0" all') 65536 ≡ refuse 24)
    × (serve_at narrow exchange floors all_but_one (search_by "    11     4     0     0     0" "    16     6     0     0     0" all') 65536 ≡ refuse 24)
    -- ".. once 21 to 23 are clear"
    × (serve_at narrow exchange floors all_but_one (search_by "    11     4     0     0     0" "    16     4     0     0     0" []) 65536 ≡ refuse 23)
    × (serve_at narrow exchange floors all_but_one (search_by "    11     4     0     0     0" "    16     4     2     0     0" []) 65536 ≡ refuse 22)
    -- K 16 elsewhere
    × (serve_at narrow exchange floors all_but_one (search_by "    11     4     0     0     0" "    15     2     0     0     0" ("    16     5     0     0     0" ∷ [])) 65536 ≡ refuse 23)
unfolding floors all_but_one search_by answered serve_at judged_at above ground tighter capped within respond fitting
    Sheet.strip Sheet.digits Sheet.numeral Sheet.column_of Sheet.whole Sheet.front_of Sheet.lines_within Sheet.lines Sheet.leading Sheet.column Sheet.numbers Sheet.line_bytes Sheet.print
    Columns.takes Columns.directory_forms Columns.permission_forms Columns.request_forms Columns.in_form
    Value.integer_of Value.small Value.printable Value.sized fits Value.normal Value.folded Value.tidied Value.shorten Value.trim Value.identical Value.same Value.ordered order
    Name.of_syntax Name.known Name.allowed Name.equal Name.order_of Name.same_part Name.same_name Name.covers Name.child_of
    Judge.fold Judge.misplaced Judge.due Judge.due_lines Judge.name_of
    Directory.name_at Directory.entries_of Directory.type_line Directory.lacks_naming Directory.clashes Directory.lacks_target Directory.under_alias Directory.entry_line Directory.value_line Directory.target_line Directory.part_line Directory.step Directory.finish Directory.directory_of Directory.hold
    Directory.held_of Directory.entry_of Directory.entries_in Directory.aliases
    Permission.sound_target Permission.sound_item Permission.item Permission.items Permission.permissions_of
    Decision.base_covers Decision.who_fits Decision.what_covers Decision.names Decision.level_fits Decision.applies Decision.rank Decision.explicit Decision.highest Decision.all_grant granted
    conjunction disjunction all_undefined Filter.evaluate
    Request.filter_line Request.pieces Request.filters Request.filter_of Request.filter Request.selection Request.ordering Request.edition_of Request.operation Request.request Request.request_of
    FilterItem.asserted_type FilterItem.holds FilterItem.some_value FilterItem.defined FilterItem.satisfied FilterItem.decidable FilterItem.item_truth
    Arrange.placed Arrange.arranged_by Arrange.smallest Arrange.readable Arrange.key Arrange.before Arrange.arranged
    Answer.outcome Judge.name_lines Answer.entry_lines Answer.value_lines Answer.limited Answer.selected Answer.type_lines Answer.information Answer.in_subset Answer.candidate Answer.found Answer.matched_name
    Answer.no_such_object Answer.returned Answer.disclosed Answer.search_hit Answer.search_hits Answer.answer Answer.answer_to Aliases.leading Aliases.followed
in_order_lem = (refl, refl, refl, refl, refl, refl, refl)

-- ---- #109, nine columns

-- "types up to 9,999,999", in every sheet
pub wide-types : (Columns.in_form (Columns.directory_forms wide.top) (line 3 9999999 0 0 (65 ∷ [])) ≡ true)
    × (Columns.in_form (Columns.permission_forms wide.top) (line 7 3 9999999 0 []) ≡ true)
    × (Columns.in_form (Columns.request_forms wide.top) (line 26 9999999 0 0 []) ≡ true)
    × (Columns.in_form (Columns.request_forms wide.top) (line 26 10000000 0 0 []) ≡ false)
unfolding Columns.takes Columns.directory_forms Columns.permission_forms Columns.request_forms Columns.in_form
wide-types = (refl, refl, refl, refl)

-- ---- #105: aliases

abbrev text_only : Schema
text_only = record { number = 3; syntax = text } ∷ []

-- the name of one part, a letter
abbrev letter : ℕ → Name
letter k = part 3 ((97 + k) ∷ []) ∷ []

-- `n` aliases, each leading to the next letter
abbrev chained : ℕ → List Alias
chained zero = []
chained (suc n) = record { name = letter n; target = letter (suc n) } ∷ chained n

-- a, b, c and d
abbrev four : Name
four = letter 0 ++ (letter 1 ++ (letter 2 ++ letter 3))

-- "that beginning is replaced by the target"; "after eight replacements a ninth gives outcome 5", also of an alias that leads to itself; "a replaced name
-- of more than 8 parts is .. not replaced again", though it begins with an alias
pub replacements :
    (resolved text_only (chained 1) (letter 0 ++ letter 5) ≡ some (letter 1 ++ letter 5))
    × (resolved text_only (chained 8) (letter 0) ≡ some (letter 8))
    × (resolved text_only (chained 9) (letter 0) ≡ none)
    × (resolved text_only (record { name = letter 0; target = letter 0 } ∷ []) (letter 0) ≡ none)
    × (resolved text_only (record { name = letter 4; target = four ++ four } ∷ chained 1) (letter 4 ++ letter 5) ≡ some (four ++ (four ++ letter 5)))
unfolding Aliases.replaced Aliases.leading Aliases.followed Name.covers Name.same_part Name.equal Name.of_syntax fits Value.sized Value.printable Value.same Value.identical Value.normal Value.folded Value.tidied
    Value.shorten Value.trim Value.small Sheet.strip
replacements = (refl, refl, refl, refl, refl)

-- Bea, an alias of Ann, without its last line, a part of its target
abbrev bea_lines : List String
bea_lines =
    "     1     3     1     0     0"
    ∷ "     2     0     3     0     3Ann"
    ∷ "     3     3     0     0     3Ann"
    ∷ "     2     0     3     1     3Bea"
    ∷ "     3     3     0     0     3Bea"
    ∷ "    36     0     1     0     0"
    ∷ []

-- and with it
abbrev guests : List String
guests = bea_lines ++ ("     9     3     0     0     3Ann" ∷ [])

-- K 9 is due, and a part that the schema lacks gives 4; an alias "has no children"; no part is due any more; "6 counts on the entry's last line", that
-- of an alias cut short too
pub targets-judged :
    (refusal_of (Directory.directory_of narrow (sheet_of guests)) ≡ 0)
    × (refusal_of (Directory.directory_of narrow (sheet_of bea_lines)) ≡ 3)
    × (refusal_of (Directory.directory_of narrow (sheet_of (bea_lines ++ ("     9     4     0     0     3Ann" ∷ [])))) ≡ 4)
    × (refusal_of (Directory.directory_of narrow (sheet_of (guests ++ ("     2     2     3     0     3Cid" ∷ [])))) ≡ 3)
    × (refusal_of (Directory.directory_of narrow (sheet_of (guests ++ ("     9     3     0     0     3Ann" ∷ [])))) ≡ 3)
    × (refusal_of (Directory.directory_of narrow (sheet_of ("     1     3     1     0     0" ∷ "     2     0     3     1     3Bea" ∷ "    36     0     1     0     0" ∷ []))) ≡ 6)
unfolding Sheet.strip Sheet.digits Sheet.numeral Sheet.column_of Sheet.whole Sheet.front_of Sheet.lines_within Sheet.lines
    Columns.takes Columns.directory_forms Columns.in_form Value.integer_of Value.small Value.printable Value.sized fits Value.normal Value.folded Value.tidied Value.shorten Value.trim Value.identical Value.same
    Name.of_syntax Name.known Name.allowed Name.equal Name.same_part Judge.fold
    Directory.name_at Directory.entries_of Directory.type_line Directory.lacks_naming Directory.clashes Directory.lacks_target Directory.under_alias Directory.entry_line Directory.value_line Directory.target_line Directory.part_line Directory.step Directory.finish Directory.directory_of
targets-judged = (refl, refl, refl, refl, refl, refl)

-- a list at the root; a read of Bea, and a search of all below the root, each with an empty type list
abbrev list_all : List String
list_all = "    10     0     0     0     0" ∷ "    11     3     0     0     0" ∷ []

abbrev read_bea : List String
read_bea = "    10     0     0     0     0" ∷ "    11     1     1     0     0" ∷ "     9     3     0     0     3Bea" ∷ "    12     1     0     0     0" ∷ []

abbrev search_all : List String
search_all = "    10     0     0     0     0" ∷ "    11     4     0     0     0" ∷ "    12     1     0     0     0" ∷ "    15     2     0     0     0" ∷ "    20     0     0     0     0" ∷ []

-- "list shows C 1 on an alias"; a read of Bea is one of Ann, "it needs no permission", not DiscloseOnError either; "search judges those it meets as
-- entries"; Bea that leads to Bea: "outcome 5, aliasProblem"
pub guests-answered :
    (serve_at narrow exchange (sheet_of guests) open' (sheet_of list_all) 65536
    ≡ accept (sheet_of ("    30     3     0     0     0" ∷ "    32     3     0     0     3Ann" ∷ "    32     3     0     1     3Bea" ∷ [])))
    × (serve_at narrow exchange (sheet_of guests) open' (sheet_of read_bea) 65536
    ≡ accept (sheet_of ("    30     1     0     0     0" ∷ "    33     0     1     0     0" ∷ "     9     3     0     0     3Ann" ∷ [])))
    × (serve_at narrow exchange (sheet_of guests) open' (sheet_of search_all) 65536
    ≡ accept (sheet_of ("    30     4     0     0     0" ∷ "    33     0     1     0     0" ∷ "     9     3     0     0     3Ann" ∷ "    33     0     1     0     0" ∷ "     9     3     0     0     3Bea" ∷ [])))
    × (serve_at narrow exchange (sheet_of (bea_lines ++ ("     9     3     0     0     3Bea" ∷ []))) open' (sheet_of read_bea) 65536 ≡ accept (sheet_of ("    30     1     5     0     0" ∷ [])))
unfolding open' serve_at judged_at above ground tighter capped within respond fitting
    Sheet.strip Sheet.digits Sheet.numeral Sheet.column_of Sheet.whole Sheet.front_of Sheet.lines_within Sheet.lines Sheet.leading Sheet.column Sheet.numbers Sheet.line_bytes Sheet.print
    Columns.takes Columns.directory_forms Columns.permission_forms Columns.request_forms Columns.in_form
    Value.integer_of Value.small Value.printable Value.sized fits Value.normal Value.folded Value.tidied Value.shorten Value.trim Value.identical Value.same
    Name.of_syntax Name.known Name.allowed Name.equal Name.same_part Name.same_name Name.covers Name.child_of
    Judge.fold Judge.misplaced Judge.due Judge.due_lines Judge.name_of
    Directory.name_at Directory.entries_of Directory.type_line Directory.lacks_naming Directory.clashes Directory.lacks_target Directory.under_alias Directory.entry_line Directory.value_line Directory.target_line Directory.part_line Directory.step Directory.finish Directory.directory_of Directory.hold
    Directory.held_of Directory.entry_of Directory.entries_in Directory.aliases
    Permission.sound_target Permission.sound_item Permission.item Permission.items Permission.permissions_of
    Decision.base_covers Decision.who_fits Decision.what_covers Decision.names Decision.level_fits Decision.applies Decision.rank Decision.explicit Decision.highest Decision.all_grant granted
    conjunction disjunction all_undefined Filter.evaluate
    Request.filter_line Request.pieces Request.filters Request.filter_of Request.filter Request.selection Request.ordering Request.edition_of Request.operation Request.request Request.request_of
    FilterItem.asserted_type FilterItem.holds FilterItem.some_value FilterItem.defined FilterItem.satisfied FilterItem.decidable FilterItem.item_truth
    Answer.outcome Judge.name_lines Answer.entry_lines Answer.value_lines Answer.limited Answer.selected Answer.type_lines Answer.information Answer.in_subset Answer.candidate Answer.found Answer.matched_name
    Answer.no_such_object Answer.returned Answer.listed Answer.disclosed Answer.read_entry Answer.named Answer.opened Answer.list_hit Answer.list_hits Answer.search_hit Arrange.arranged Answer.search_hits Answer.answer Answer.answer_to
    Aliases.replaced Aliases.leading Aliases.followed Aliases.aliased
guests-answered = (refl, refl, refl, refl)
