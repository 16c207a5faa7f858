use Rattle.std.proofs.Common.{◌≡◌, take, drop}
use Rattle.sessions.specs.Exchanges.{answers_given, calls_left, Carried}
use Rattle.sessions.specs.Reading.{held_by}
use Rattle.sessions.proofs.carry.carry_out.Given as goal

-- the calls that are passed have been carried out and answered, and the rest is as it was
abbrev pub invariant-loop-one : goal.invariant-loop-one
invariant-loop-one g l =
    Carried (held_by g.R.Route.tally l.initial.engine l.initial.session) (calls_left (take l.one-index l.initial.one-items)) (answers_given (take l.one-index l.one-items)) (calls_left (take l.one-index l.one-items)) (held_by g.R.Route.tally l.engine l.session)
    × (drop l.one-index l.one-items ≡ drop l.one-index l.initial.one-items)
