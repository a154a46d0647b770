use mathlib.Core.Path.{sym, ap, ◌∙◌}
use mathlib.Core.Bool.{Bool, ◌&&◌}
use Rattle.rules.specs.Permission.{FilterMatch}
use Rattle.rules.specs.Decision.{of_type}
use Rattle.tables.specs.Book.{schema}
use Rattle.tables.specs.Held.{type_at}
use Rattle.tables.specs.Sets.{granted_at}
use Rattle.tables.specs.Laws.World.{types-most}
use Rattle.filter_matchable.proofs.matchable.type_matchable.Goals as goal

pub in_word-requires : goal.in_word-requires
in_word-requires c = (types-most c.requires).1

pub returns-then-in_word : goal.returns-then-in_word
returns-then-in_word c = λ σ es d p book held w l k. c.may_type.ensures σ es d p book held w l k ∙ ap (λ (b : Bool). b && granted_at σ es c.args.e (of_type (type_at (schema book) c.args.r)) FilterMatch) (sym c.if-in_word.true ∙ c.in_word.ensures)

pub returns : goal.returns
returns c = λ σ es d p book held w l k. ap (λ (b : Bool). b && granted_at σ es c.args.e (of_type (type_at (schema book) c.args.r)) FilterMatch) (sym c.if-in_word.false ∙ c.in_word.ensures)
