use Rattle.std.proofs.Common.{◌≡◌, ◌+◌, length, take}
use Rattle.cipher.specs.Fips197.{inv_rounds}
use Rattle.cipher.specs.Layout.{columns_state}
use Rattle.cipher.specs.Schedules.{schedule_words}
use Rattle.cipher.proofs.rounds.InvCipherDirection.turn.Given as goal

abbrev pub invariant-loop-key : goal.invariant-loop-key
invariant-loop-key g l = record {
  front : l.key-iterator.iter.rest.now ≡ take (length l.key-iterator.iter.rest.now) l.initial.key-iterator.iter.rest.now;
  through : inv_rounds (length l.key-iterator.iter.rest.now) (schedule_words l.schedule) (columns_state l.t) ≡ inv_rounds (length l.initial.key-iterator.iter.rest.now) (schedule_words l.schedule) (columns_state l.initial.t);
  counted : g.R.Route.tally l.route + length l.key-iterator.iter.rest.now ≡ g.R.Route.tally l.initial.route + length l.initial.key-iterator.iter.rest.now;
  named : g.R.Route.name l.route ≡ g.R.Route.name l.initial.route;
}
