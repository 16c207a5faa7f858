use Rattle.std.proofs.Common.{◌≡◌}
use Rattle.cipher.specs.Asking.{AskedTimes}
use Rattle.cipher.specs.Fips197.{rounds}
use Rattle.cipher.specs.Layout.{columns_state}
use Rattle.cipher.specs.Schedules.{schedule_words}
use Rattle.cipher.proofs.rounds.CipherDirection.turn.Given as goal

abbrev pub invariant-loop-key : goal.invariant-loop-key
invariant-loop-key g l = record {
  through : columns_state l.t ≡ rounds l.key-index (schedule_words l.schedule) (columns_state l.initial.t);
  asked : AskedTimes g.R.Route.tally g.R.Route.name l.initial.route l.route l.key-index;
}
