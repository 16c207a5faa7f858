use Rattle.cipher.proofs.Turning.{held_headroom}
use Rattle.cipher.proofs.engine.Engine.headroom.Goals as goal

pub returns : goal.returns
returns g c = held_headroom c.args.self.now.schedule c.in-Some.schedule _ _ _ c.in-Some.is c.rounds.ensures c.tally.ensures
