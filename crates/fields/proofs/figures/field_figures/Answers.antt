use Rattle.std.proofs.Common.{refl}
use Rattle.fields.specs.Figures.{ComeOut, field_figures}
use Rattle.fields.specs.Matrices.{first_columns}
use Rattle.fields.specs.Polynomials.{coefficient, carryless, remainder, product_modulo}
use Rattle.fields.specs.Powers.{power}
use Rattle.fields.specs.Bytes.{byte}
use Rattle.fields.specs.Nibbles.{nibble}
use Rattle.fields.proofs.figures.field_figures.Goals as goal

computed : ComeOut field_figures
unfolding power product_modulo carryless remainder coefficient first_columns byte nibble
computed = (refl, (refl, (refl, (refl, (refl, tt)))))

pub returns : goal.returns
returns c = record { count = refl; hold = computed }
