use Rattle.routes.proofs.Packing.{inverse_holds}
use Rattle.routes.proofs.packed_tower.inverse2.Goals as goal

pub returns : goal.returns
returns c = let h = inverse_holds c.args.a c.requires in record { made = h.0; low = h.1 }
