use Rattle.std.proofs.Common.{◌≡◌}
use Rattle.fields.specs.Division.{shifted, summed}
use Rattle.fields.proofs.modular.multiply.Given as goal

abbrev pub invariant-loop-i : goal.invariant-loop-i
invariant-loop-i g l =
    (l.product ≡ summed g.row.DEGREE g.row.MODULUS l.i l.a l.b) × (l.shifted ≡ shifted g.row.DEGREE g.row.MODULUS l.i l.a)
