use Rattle.std.proofs.Common.{arith}
use Rattle.routes.proofs.Packing.{joined_four}
use Rattle.routes.proofs.packed_tower.join4.Goals as goal

pub returns : goal.returns
returns c = record { made = joined_four c.args.high c.args.low c.requires.second; low = omega arith }
