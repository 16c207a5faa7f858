use Rattle.std.proofs.Common.{arith}
use Rattle.cipher.proofs.Substitutions.{boxed}
use Rattle.cipher.proofs.substitution.SBoxSubstitution.substitute.Goals as goal

pub returns-clause-boxed : goal.returns-clause-boxed
returns-clause-boxed g c = boxed _ _ _ (c.invert.ensures.asked.inverts (omega arith)) c.affine_all.ensures
