use Rattle.std.proofs.Common.{◌++◌, refl}
use Rattle.fields.proofs.FigureLists.{come_out_both}
use Rattle.fields.specs.Bytes.{byte}
use Rattle.fields.specs.Figures.{ComeOut, field_figures}
use Rattle.fields.specs.Polynomials.{coefficient, carryless, remainder, product_modulo}
use Rattle.fields.specs.Powers.{power}
use Rattle.routes.specs.Figures.{route_figures}
use Rattle.cipher.specs.Figures.{cipher_figures}
use Rattle.cipher.specs.Fips197.{s_box, affine, from_bits, word_at, word_bytes, mix_column}
use Rattle.cipher.proofs.laws.cipher_figures.Goals as goal

computed : ComeOut cipher_figures
unfolding byte power product_modulo carryless remainder coefficient s_box affine from_bits word_at word_bytes mix_column
computed = (refl, (refl, tt))

pub returns-clause-hold : goal.returns-clause-hold
returns-clause-hold c = come_out_both (field_figures ++ route_figures) cipher_figures c.«route_figures».ensures.hold computed
