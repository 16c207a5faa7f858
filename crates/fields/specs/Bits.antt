-- The field of two elements. Assumes nothing.
use mathlib.Core.Bool.{beq}
use Rattle.std.specs.Prelude.{Bool, true, false, not, ◌&&◌}
use Rattle.fields.specs.declared.bit.Bit.{Bit}

abbrev pub bit : Bool → Bit
bit b = record { value = b }

abbrev pub differ : Bool → Bool → Bool
differ true b = not b
differ false b = b

abbrev pub bit_sum : Bit → Bit → Bit
bit_sum a b = bit (differ a.value b.value)

abbrev pub bit_product : Bit → Bit → Bit
bit_product a b = bit (a.value && b.value)

abbrev pub bit_same : Bit → Bit → Bool
bit_same a b = beq a.value b.value
