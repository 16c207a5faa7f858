use Rattle.std.proofs.Common.{◌≡◌, map, take, vec_items}
use Rattle.sessions.specs.Exchanges.{call_in, calls_left}
use Rattle.sessions.proofs.ends.copies.copies_of.Given as goal

abbrev pub invariant-loop-one : goal.invariant-loop-one
invariant-loop-one l = map call_in (calls_left (vec_items l.copies)) ≡ map call_in (calls_left (take l.one-index l.answered))
