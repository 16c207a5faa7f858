use Rattle.std.proofs.Common.{◌<◌}
use Rattle.fields.proofs.InPlace.{Replaced}
use Rattle.routes.specs.Inverting.{Inverts}
use Rattle.routes.proofs.formula.Formula.invert_all.Given as goal

abbrev pub invariant-loop-byte : goal.invariant-loop-byte
invariant-loop-byte g l = Replaced (λ a r. (r < 256) × Inverts a r) l.initial.bytes l.bytes l.byte-index
