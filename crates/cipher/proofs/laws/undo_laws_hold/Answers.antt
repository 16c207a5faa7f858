use Rattle.cipher.proofs.Undoing.{undo_laws}
use Rattle.cipher.proofs.laws.undo_laws_hold.Goals as goal

pub returns-clause-laws : goal.returns-clause-laws
returns-clause-laws c = undo_laws
