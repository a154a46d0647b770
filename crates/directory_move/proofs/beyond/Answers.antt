use Prim.Native.Nat.{◌/◌}
use mathlib.Core.Path.{sym, ◌∙◌}
use Rattle.std.proofs.Common.{rules, tests}
use Rattle.std.specs.Prelude.{ltb}
use Rattle.std.proofs.lemmas.Iterator.{YieldsList-from_slice}
use Rattle.std.proofs.lemmas.Iterator.Search.{any_from_yields_List}
use Rattle.directory_move.specs.Laws.Move.{beyond-any}
use Rattle.directory_move.proofs.beyond.Goals as goal

pub returns : goal.returns
returns c =
    any_from_yields_List (λ k. ltb c.args.top (k / 4)) _ _ _ c.any.ensures.ran (YieldsList-from_slice c.args.schema.now cc) (λ x b q k. (search (rules, tests), search (rules, tests)))
    ∙ sym (beyond-any c.args.top c.args.schema.now)
