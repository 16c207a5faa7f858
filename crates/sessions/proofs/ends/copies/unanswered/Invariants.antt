use Rattle.std.proofs.Common.{◌≡◌, ◌++◌, vec_items}
use Rattle.std.specs.Vec.Iter.{into_iter_items}
use Rattle.sessions.specs.Exchanges.{calls_left}
use Rattle.sessions.proofs.ends.copies.unanswered.Given as goal

abbrev pub invariant-loop-call : goal.invariant-loop-call
invariant-loop-call l =
    goal.iterator-loop-call.can_next l.call-iterator
    × goal.iterator-loop-call.is_finite l.call-iterator
    × (calls_left (vec_items l.noted) ≡ l.yielded)
    × (l.yielded ++ into_iter_items l.call-iterator ≡ vec_items l.fn.calls)
