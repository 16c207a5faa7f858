use Rattle.std.proofs.Common.{arith}
use Rattle.fields.proofs.Steps.{masked}
use Rattle.fields.proofs.modular.keep.Goals as goal

pub returns : goal.returns
returns c = masked c.args.byte c.args.bit (omega arith) (omega arith)
