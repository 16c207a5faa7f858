use Rattle.std.proofs.Common.{arith}
use Rattle.sessions.proofs.Covering.{plus_by_places}
use Rattle.sessions.proofs.stream.add.Goals as goal

pub returns : goal.returns
returns c =
    plus_by_places c.args.part.now c.args.pad.now c.loop-i.part (omega arith) (omega arith) (λ k h. c.loop-i.invariant.0 k (omega arith))
