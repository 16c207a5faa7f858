use Rattle.std.proofs.Common.{rules}
use Rattle.fields.proofs.JoinFacts.{out_inverse}
use Rattle.fields.proofs.map.invert_through.Goals as goal

pub returns : goal.returns
returns g c = search (rules, out_inverse g.met.F.Field.laws g.met.F.ByteMap.joined c.args.byte)
