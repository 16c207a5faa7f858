use Rattle.std.proofs.Common.{sym, mod-eq_of_lt, arith}
use Rattle.fields.specs.Nibbles.{nibble}
use Rattle.fields.specs.WordLaws.{nibble_path}
use Rattle.fields.proofs.nibble.Nibble.high.Goals as goal

pub returns : goal.returns
unfolding nibble
returns c = nibble_path _ _ (sym (mod-eq_of_lt (omega arith)))
