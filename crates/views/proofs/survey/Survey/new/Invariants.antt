use Rattle.std.proofs.Common.{◌≡◌}
use Rattle.views.proofs.survey.Survey.new.Given as goal

abbrev pub invariant-loop-byte : goal.invariant-loop-byte
invariant-loop-byte l = l.agreeing ≡ l.byte
