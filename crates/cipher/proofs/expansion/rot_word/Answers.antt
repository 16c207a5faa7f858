use Rattle.std.proofs.Common.{refl}
use Rattle.cipher.specs.Fips197.{word_at, rot_word}
use Rattle.cipher.proofs.expansion.rot_word.Goals as goal

pub returns : goal.returns
unfolding word_at rot_word
returns c = refl
