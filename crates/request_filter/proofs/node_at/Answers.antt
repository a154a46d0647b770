-- The two calls are the definition.
use Rattle.request_filter.specs.Filters.{node_at}
use Rattle.request_filter.proofs.node_at.Goals as goal

pub returns : goal.returns
unfolding node_at
returns c = rw (← c.seen_at.ensures) c.node_by.ensures
