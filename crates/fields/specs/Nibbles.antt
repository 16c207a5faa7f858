-- The field of sixteen elements: residues of polynomials over bits modulo x^4 + x + 1. Assumes nothing.
use Rattle.std.specs.Prelude.{ℕ, ◌%◌, Bool, ◌==◌, bit_xor}
use Rattle.std.proofs.Common.{mod-lt, arith, lt→ltb}
use Rattle.fields.specs.Polynomials.{product_modulo}
use Rattle.fields.specs.Powers.{power}
use Rattle.fields.specs.declared.nibble.Nibble.{Nibble}

-- The nibble that the four lowest bits of n make.
unfoldable pub nibble : ℕ → Nibble
nibble n = record { value = n % 16; small = lt→ltb (n % 16) 16 (mod-lt n (omega arith)) }

abbrev pub nibble_sum : Nibble → Nibble → Nibble
nibble_sum a b = nibble (bit_xor a.value b.value)

-- x^4 + x + 1 is 13 as a number in hex.
abbrev pub nibble_product : Nibble → Nibble → Nibble
nibble_product a b = nibble (product_modulo 4 0x13 a.value b.value)

-- In a field of 16 elements the 14th power of a is its inverse, and that of 0 is 0.
abbrev pub nibble_inverse : Nibble → Nibble
nibble_inverse a = power nibble_product (nibble 1) 14 a

abbrev pub nibble_same : Nibble → Nibble → Bool
nibble_same a b = a.value == b.value
