use lib.Bits.{xor_lt}
use Rattle.routes.proofs.Packing.{two_adds}
use Rattle.routes.proofs.packed_tower.sum2.Goals as goal

pub returns : goal.returns
returns c = record { made = two_adds c.args.a c.args.b; low = xor_lt 2 c.args.a c.args.b c.requires.first c.requires.second }
