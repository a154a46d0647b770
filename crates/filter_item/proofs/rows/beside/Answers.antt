use mathlib.Core.Path.{sym, ap, ◌∙◌}
use mathlib.Core.Bool.{Bool, not}
use Rattle.rules.specs.FilterItem.{is_less}
use Rattle.rules.specs.Derived.{reversed}
use Rattle.rules.proofs.Laws.Value.{order-reversed}
use Rattle.std.specs.declared.cmp.Ordering.{Ordering}
use Rattle.filter_item.specs.Rows.{beside_by}
use Rattle.filter_item.proofs.rows.beside.Goals as goal

pub returns-then-least : goal.returns-then-least
returns-then-least c = c.not_below.ensures ∙ ap (λ (o : Ordering). not (is_less o)) c.order-order.ensures ∙ ap (λ (b : Bool). beside_by c.args.s b c.args.v.now c.args.u.now) (sym c.if-least.true)

pub returns : goal.returns
returns c = c.not_above.ensures ∙ ap (λ (o : Ordering). not (is_less (reversed o))) c.order-order.ensures ∙ ap (λ (o : Ordering). not (is_less o)) (sym (order-reversed c.args.s c.args.u.now c.args.v.now)) ∙ ap (λ (b : Bool). beside_by c.args.s b c.args.v.now c.args.u.now) (sym c.if-least.false)
