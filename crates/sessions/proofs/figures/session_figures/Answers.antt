use Rattle.std.proofs.Common.{refl}
use Rattle.sessions.specs.Calls.{ruled_all}
use Rattle.sessions.proofs.figures.session_figures.Goals as goal

pub returns-clause-hold : goal.returns-clause-hold
unfolding ruled_all
returns-clause-hold c = (refl, (refl, (refl, tt)))
