use Rattle.std.proofs.Common.{◌≡◌, ◌*◌, drop}
use Rattle.sessions.specs.Covering.{key_of, Spent, Added}
use Rattle.sessions.proofs.stream.cover_run.Given as goal

-- the pieces that are passed have been covered, and the rest is as it was
abbrev pub invariant-loop-p : goal.invariant-loop-p
invariant-loop-p g l =
    Spent g.R.Route.tally l.initial.engine l.engine l.p
    × Added (key_of l.initial.engine) l.prefix l.first l.p l.initial.run l.run
    × (drop (16 * l.p) l.run ≡ drop (16 * l.p) l.initial.run)
