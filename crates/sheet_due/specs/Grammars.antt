-- The rules' two grammars, by the name that the code has for each; `top` is the highest type.
use Rattle.std.specs.Prelude.{ℕ, Bool, true, List}
use Rattle.rules.specs.Sheet.{Line}
use Rattle.rules.specs.Columns.{Form, permission_forms, request_forms}
use Rattle.rules.specs.Name.{Schema}
use Rattle.rules.specs.Judge as Judge
use Rattle.rules.specs.Permission.{sound_item}
use Rattle.sheet_due.specs.declared.grammar.Grammar.{Grammar}
use Rattle.sheet_due.specs.declared.grammar.Grammar.TheVariants.{Permissions, Request}
use Rattle.sheet_due.specs.declared.grammar.Fault.{Fault}
use Rattle.sheet_due.specs.declared.grammar.Fault.TheVariants.{NotAllowed, OutOfOrder, OutsideSchema}

abbrev pub forms_of : ℕ → Grammar → List Form
forms_of top Permissions = permission_forms top
forms_of top Request = request_forms top

abbrev pub sound_of : Schema → Grammar → Line → Bool
sound_of S Permissions = sound_item S
sound_of S Request = λ x. true

abbrev pub refusals_of : Grammar → ℕ
refusals_of Permissions = 10
refusals_of Request = 20

-- the number of a fault, after that of its sheet
abbrev pub fault_number : Fault → ℕ
fault_number NotAllowed = 2
fault_number OutOfOrder = 3
fault_number OutsideSchema = 4

-- `permission_grammar` and `request_grammar` of the rules
abbrev pub grammar_of : ℕ → Schema → Grammar → Judge.Grammar
grammar_of top S g = record { forms = forms_of top g; sound = sound_of S g; refusals = refusals_of g }
