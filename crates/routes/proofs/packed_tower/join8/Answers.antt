use Rattle.routes.proofs.Packing.{joined_tower}
use Rattle.routes.proofs.packed_tower.join8.Goals as goal

pub returns : goal.returns
returns c = joined_tower c.args.high c.args.low c.requires.second
