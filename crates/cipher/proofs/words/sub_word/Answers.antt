use Rattle.std.proofs.Common.{lit<}
use Rattle.cipher.specs.Fips197.{word_at, word_bytes, sub_word}
use Rattle.cipher.proofs.Lists.{four}
use Rattle.cipher.proofs.words.sub_word.Goals as goal

pub returns-clause-value : goal.returns-clause-value
unfolding word_at word_bytes sub_word
returns-clause-value g c =
    let s = c.substitute.ensures.boxed in
    four (s 0 (lit< tt)) (s 1 (lit< tt)) (s 2 (lit< tt)) (s 3 (lit< tt))
