-- The steps of three formulas for the inverse of a byte. Assumes nothing.
use Rattle.std.specs.Prelude.{ℕ, ◌+◌, ◌*◌, List, [], ◌∷◌, bit_xor}
use Rattle.fields.specs.Bytes.{byte, byte_sum, byte_product}
use Rattle.fields.specs.Polynomials.{coefficient}
use Rattle.fields.specs.Powers.{power}
use Rattle.fields.specs.declared.byte.Byte.{Byte}

-- The n-th power of a byte.
abbrev pub byte_power : ℕ → Byte → Byte
byte_power n a = power byte_product (byte 1) n a

-- a·s·s + s
abbrev pub twisted : Byte → Byte → Byte
twisted a s = byte_sum (byte_product (byte_product a s) s) s

-- The fourth and the eighth power of a byte b that is a 17th power, by its bits: sums of constants at bits 3, 6, 4 and 0.
unfoldable pub by_bits : ℕ → ℕ → ℕ → ℕ → ℕ
by_bits at3 at6 at4 b =
    bit_xor (bit_xor (bit_xor (coefficient 3 b * at3) (coefficient 6 b * at6)) (coefficient 4 b * at4)) (coefficient 0 b)

abbrev pub fourth : Byte → Byte
fourth b = byte (by_bits 0xB0 0xE1 0x0C b.value)

abbrev pub eighth : Byte → Byte
eighth b = byte (by_bits 0xED 0x5C 0x50 b.value)

-- Where the inverse of a 17th power stands in the table: the index is made of bits 3, 6, 5 and 0.
unfoldable pub table_index : ℕ → ℕ
table_index b = coefficient 3 b * 8 + coefficient 6 b * 4 + coefficient 5 b * 2 + coefficient 0 b

abbrev pub inverse_table : List ℕ
inverse_table =
    0x00 ∷ 0x01 ∷ 0x0C ∷ 0xE0 ∷ 0xED ∷ 0x5C ∷ 0xB1 ∷ 0x0D ∷ 0xB0 ∷ 0xE1 ∷ 0xBD ∷ 0xBC ∷ 0x51 ∷ 0xEC ∷ 0x5D ∷ 0x50 ∷ []
