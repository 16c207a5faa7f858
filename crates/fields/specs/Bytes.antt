-- The field of 256 elements of FIPS 197, section 4: residues of polynomials over bits modulo x^8 + x^4 + x^3 + x + 1. Assumes nothing.
use Rattle.std.specs.Prelude.{ℕ, ◌%◌, Bool, ◌==◌, bit_xor}
use Rattle.std.proofs.Common.{mod-lt, arith, lt→ltb}
use Rattle.fields.specs.Polynomials.{product_modulo}
use Rattle.fields.specs.Powers.{power}
use Rattle.fields.specs.declared.byte.Byte.{Byte}

-- The byte that the eight lowest bits of n make.
unfoldable pub byte : ℕ → Byte
byte n = record { value = n % 256; small = lt→ltb (n % 256) 256 (mod-lt n (omega arith)) }

abbrev pub byte_sum : Byte → Byte → Byte
byte_sum a b = byte (bit_xor a.value b.value)

-- x^8 + x^4 + x^3 + x + 1 is 11B as a number in hex.
abbrev pub byte_product : Byte → Byte → Byte
byte_product a b = byte (product_modulo 8 0x11B a.value b.value)

-- The 254th power of a is its inverse, and that of 00 is 00 (FIPS 197, section 4.4).
abbrev pub byte_inverse : Byte → Byte
byte_inverse a = power byte_product (byte 1) 254 a

abbrev pub byte_same : Byte → Byte → Bool
byte_same a b = a.value == b.value
