use Rattle.cipher.specs.Fips197.{inv_sub_bytes}
use Rattle.cipher.proofs.rounds.one_round_back.Goals as goal

pub returns-clause-value : goal.returns-clause-value
unfolding inv_sub_bytes
returns-clause-value g c = cc
