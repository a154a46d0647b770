-- The remaining depth falls; the parts from here are the parts from the start.
use Rattle.std.proofs.Common.{◌≡◌, ◌-◌}
use Rattle.rules.specs.Request.{request_grammar}
use Rattle.request_filter.specs.Filters.{filter_at, parts_at}
use Rattle.request_filter.proofs.+filter_at.Given as goal

abbrev pub decreases-filter_at : goal.decreases-filter_at
decreases-filter_at l = l.depth

abbrev pub invariant-loop : goal.invariant-loop
invariant-loop l =
    let one = filter_at (request_grammar l.fn.f.top) l.fn.f.width l.fn.q (l.fn.depth - 1) in
    parts_at one (l.count - l.counter) l.part.next l.part.left ≡ filter_at (request_grammar l.fn.f.top) l.fn.f.width l.fn.q l.fn.depth l.fn.at l.fn.left
