use Rattle.std.proofs.Common.{◌≡◌}
use Rattle.fields.specs.Matrices.{first_rows}
use Rattle.fields.proofs.matrix.image.Given as goal

abbrev pub invariant-loop-i : goal.invariant-loop-i
invariant-loop-i l = l.image ≡ first_rows l.i l.rows l.byte
