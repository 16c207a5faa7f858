use Rattle.std.proofs.Common.{sym}
use Rattle.fields.specs.WordLaws.{sum-value}
use Rattle.cipher.specs.Fips197.{word_at, word_bytes, word_sum}
use Rattle.cipher.proofs.Lists.{four}
use Rattle.cipher.proofs.words.add.Goals as goal

pub returns : goal.returns
unfolding word_at word_bytes word_sum
returns c =
    four (sym (sum-value _ _ c.element_fits.fits c.element_fits2.fits)) (sym (sum-value _ _ c.element_fits3.fits c.element_fits4.fits))
    (sym (sum-value _ _ c.element_fits5.fits c.element_fits6.fits)) (sym (sum-value _ _ c.element_fits7.fits c.element_fits8.fits))
