use Rattle.std.proofs.Common.{refl}
use Rattle.fields.specs.Nibbles.{nibble}
use Rattle.fields.specs.WordLaws.{nibble_path}
use Rattle.fields.proofs.nibble.Nibble.low.Goals as goal

pub returns : goal.returns
unfolding nibble
returns c = nibble_path _ _ refl
