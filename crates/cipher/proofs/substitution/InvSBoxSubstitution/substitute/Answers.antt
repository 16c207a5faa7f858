use Rattle.std.proofs.Common.{arith}
use Rattle.cipher.proofs.Substitutions.{boxed_back}
use Rattle.cipher.proofs.substitution.InvSBoxSubstitution.substitute.Goals as goal

pub returns-clause-boxed : goal.returns-clause-boxed
returns-clause-boxed g c = boxed_back _ _ _ c.affine_all.ensures (c.invert.ensures.asked.inverts (omega arith))
