use Rattle.std.proofs.Common.{◌≡◌}
use Rattle.fields.specs.Matrices.{first_columns}
use Rattle.routes.proofs.additive_power.sum_of_columns.Given as goal

abbrev pub invariant-loop-i : goal.invariant-loop-i
invariant-loop-i l = l.sum ≡ first_columns l.i l.columns l.byte
