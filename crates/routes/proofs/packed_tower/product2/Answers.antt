use Rattle.routes.proofs.Packing.{product_holds}
use Rattle.routes.proofs.packed_tower.product2.Goals as goal

pub returns : goal.returns
returns c = let h = product_holds c.args.a c.args.b c.requires.first c.requires.second in record { made = h.0; low = h.1 }
