use Rattle.cipher.specs.Fips197.{sub_bytes}
use Rattle.cipher.proofs.rounds.one_round.Goals as goal

pub returns-clause-value : goal.returns-clause-value
unfolding sub_bytes
returns-clause-value g c = cc
