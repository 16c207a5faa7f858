use Rattle.cipher.specs.Fips197.{aes}
use Rattle.cipher.proofs.engine.Engine.encrypt.Goals as goal

pub returns : goal.returns
unfolding aes
returns g c = c.turn.ensures
