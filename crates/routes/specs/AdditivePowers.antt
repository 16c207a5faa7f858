-- The exponents of the additive powers that the formulas take. Assumes nothing.
use Rattle.std.specs.Prelude.{ℕ}
use Rattle.routes.specs.declared.additive_power.which.AdditivePower.{AdditivePower}
use Rattle.routes.specs.declared.additive_power.which.AdditivePower.TheVariants.{Fourth, Sixteenth, SixtyFourth}

abbrev pub exponent : AdditivePower → ℕ
exponent Fourth = 4
exponent Sixteenth = 16
exponent SixtyFourth = 64
