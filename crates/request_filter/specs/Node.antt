-- What a line of a filter begins: an operator with its number of parts, or an item, each with the position after the line and how many more lines are
-- allowed; or the refusal number.
use Rattle.std.specs.Prelude.{ℕ, Result, Ok, Err}
use Rattle.rules.specs.Refusals.{refusal_number}
use Rattle.rules.specs.declared.refusals.Refusal.{Refusal}
use Rattle.request_filter.specs.declared.Node as Begun
use Rattle.request_filter.specs.declared.Node.TheVariants as Variants

pub data Node : Type 0 where
  Operator : ℕ → ℕ → ℕ → Node
  Item : ℕ → ℕ → Node
  Refused : ℕ → Node

-- what a result says
abbrev pub node_in : Result Begun.Node Refusal → Node
node_in (Ok (Variants.Operator n s)) = Operator n s.next s.left
node_in (Ok (Variants.Item s)) = Item s.next s.left
node_in (Err r) = Refused (refusal_number r)
