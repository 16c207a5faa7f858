use lib.Bits.{xor_lt}
use Rattle.routes.proofs.Packing.{four_adds}
use Rattle.routes.proofs.packed_tower.sum4.Goals as goal

pub returns : goal.returns
returns c = record { made = four_adds c.args.a c.args.b; low = xor_lt 4 c.args.a c.args.b c.requires.first c.requires.second }
