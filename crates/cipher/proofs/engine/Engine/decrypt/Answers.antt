use Rattle.cipher.specs.Fips197.{aes_inverse}
use Rattle.cipher.proofs.engine.Engine.decrypt.Goals as goal

pub returns : goal.returns
unfolding aes_inverse
returns g c = c.turn.ensures
