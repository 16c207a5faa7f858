use Rattle.std.proofs.Common.{arith}
use Rattle.routes.specs.Formulas.{table_index}
use Rattle.routes.proofs.table.index_of.Goals as goal

pub returns : goal.returns
unfolding table_index
returns c = record { value = omega (arith, c.bit.ensures.value, c.bit-2.ensures.value, c.bit-3.ensures.value, c.bit-4.ensures.value); bound = omega arith }
