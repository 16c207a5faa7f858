-- The two towers read as bytes, and the maps that join them to the byte field. Assumes nothing.
use Rattle.std.specs.Prelude.{◌≡◌, ℕ, zero, suc, ◌+◌, ◌*◌, ◌/◌, ◌%◌, ◌<◌, true, false, cond, List, [], ◌∷◌, ◌==◌, slice_index}
use Rattle.fields.specs.Bits.{bit, bit_sum, bit_product}
use Rattle.fields.specs.Bytes.{byte, byte_sum, byte_product}
use Rattle.fields.specs.Matrices.{by_columns}
use Rattle.fields.specs.Nibbles.{nibble}
use Rattle.fields.specs.Pairs.{pair, pair_zero, pair_one, pair_marker, pair_sum, pair_product}
use Rattle.fields.specs.Polynomials.{coefficient}
use Rattle.fields.specs.Powers.{power}
use Rattle.fields.specs.declared.bit.Bit.{Bit}
use Rattle.fields.specs.declared.byte.Byte.{Byte}
use Rattle.fields.specs.declared.nibble.Nibble.{Nibble}
use Rattle.fields.specs.declared.pair.Pair.{Pair}

-- ---- reading

-- A pair whose halves are read as numbers below size: the high half first.
abbrev pub read_pair : {F : Type 0} → (F → ℕ) → ℕ → Pair F → ℕ
read_pair read size p = read p.high * size + read p.low

abbrev pub make_pair : {F : Type 0} → (ℕ → F) → ℕ → ℕ → Pair F
make_pair make size n = pair (make (n / size)) (make (n % size))

abbrev pub read_bit : Bit → ℕ
read_bit b = cond b.value 1 0

abbrev pub make_bit : ℕ → Bit
make_bit n = bit (n % 2 == 1)

abbrev pub NibblePair : Type 0
NibblePair = Pair Nibble

abbrev pub read_nibbles : NibblePair → ℕ
read_nibbles = read_pair (λ a. a.value) 16

abbrev pub make_nibbles : ℕ → NibblePair
make_nibbles = make_pair nibble 16

abbrev pub BitTower : Type 0
BitTower = Pair (Pair (Pair Bit))

abbrev pub read_tower : BitTower → ℕ
read_tower = read_pair (read_pair (read_pair read_bit 2) 4) 16

abbrev pub make_tower : ℕ → BitTower
make_tower = make_pair (make_pair (make_pair make_bit 2) 4) 16

-- ---- maps

-- A map joins a field to the byte field: into and out undo each other, and carry sums to sums and products to products. So the field
-- has as many elements as there are bytes, 256.
pub record JoinsBytes {F : Type 0} (sum product : F → F → F) (into : Byte → F) (out : F → Byte) : Type 0 where
  pub out_into : (b : Byte) → out (into b) ≡ b
  pub into_out : (x : F) → into (out x) ≡ x
  pub into_sum : (a b : Byte) → into (byte_sum a b) ≡ sum (into a) (into b)
  pub into_product : (a b : Byte) → into (byte_product a b) ≡ product (into a) (into b)
  pub out_sum : (x y : F) → out (sum x y) ≡ byte_sum (out x) (out y)
  pub out_product : (x y : F) → out (product x y) ≡ byte_product (out x) (out y)

-- The images of 01, 02, 04, .. 80 in the pair over nibbles, read as bytes, and the bytes from which the elements 01, 02, 04, .. 80 come.
abbrev pub nibble_columns : List ℕ
nibble_columns = 0x01 ∷ 0x2E ∷ 0x49 ∷ 0x43 ∷ 0x35 ∷ 0xD0 ∷ 0x3D ∷ 0xE9 ∷ []

abbrev pub nibble_back : List ℕ
nibble_back = 0x01 ∷ 0x5C ∷ 0xE0 ∷ 0x50 ∷ 0x1F ∷ 0xEE ∷ 0x55 ∷ 0x6A ∷ []

-- The same, transposed: row i holds bit i of each column.
abbrev pub nibble_rows : List ℕ
nibble_rows = 0xDD ∷ 0x0A ∷ 0x52 ∷ 0xC6 ∷ 0x70 ∷ 0xD2 ∷ 0xAC ∷ 0xA0 ∷ []

abbrev pub nibble_back_rows : List ℕ
nibble_back_rows = 0x51 ∷ 0xB0 ∷ 0x72 ∷ 0xB2 ∷ 0x5A ∷ 0xA4 ∷ 0xEE ∷ 0x24 ∷ []

abbrev pub into_nibbles : Byte → NibblePair
into_nibbles b = make_nibbles (by_columns nibble_columns b.value)

abbrev pub out_of_nibbles : NibblePair → Byte
out_of_nibbles x = byte (by_columns nibble_back (read_nibbles x))

-- The same for the pile of three pairs over bits.
abbrev pub tower_columns : List ℕ
tower_columns = 0x01 ∷ 0x41 ∷ 0x66 ∷ 0x6C ∷ 0x56 ∷ 0x9A ∷ 0x58 ∷ 0xC4 ∷ []

abbrev pub tower_back : List ℕ
tower_back = 0x01 ∷ 0xBC ∷ 0x5C ∷ 0xB0 ∷ 0xF3 ∷ 0xE7 ∷ 0x03 ∷ 0xDF ∷ []

abbrev pub tower_rows : List ℕ
tower_rows = 0x03 ∷ 0x34 ∷ 0x9C ∷ 0x68 ∷ 0x70 ∷ 0x0C ∷ 0xDE ∷ 0xA0 ∷ []

abbrev pub tower_back_rows : List ℕ
tower_back_rows = 0xF1 ∷ 0xF0 ∷ 0xA6 ∷ 0x86 ∷ 0x9E ∷ 0x3A ∷ 0xB4 ∷ 0xBA ∷ []

abbrev pub into_tower : Byte → BitTower
into_tower b = make_tower (by_columns tower_columns b.value)

abbrev pub out_of_tower : BitTower → Byte
out_of_tower x = byte (by_columns tower_back (read_tower x))

-- ---- the rule of the second map

-- The tower's operations, one pair after another from the bit up.
abbrev two_zero : Pair Bit
two_zero = pair_zero (bit false)

abbrev two_marker : Pair Bit
two_marker = pair_marker (bit false) (bit true)

abbrev two_product : Pair Bit → Pair Bit → Pair Bit
two_product = pair_product (bit true) bit_sum bit_product

abbrev four_zero : Pair (Pair Bit)
four_zero = pair_zero two_zero

abbrev four_marker : Pair (Pair Bit)
four_marker = pair_marker two_zero two_marker

abbrev four_product : Pair (Pair Bit) → Pair (Pair Bit) → Pair (Pair Bit)
four_product = pair_product two_marker (pair_sum bit_sum) two_product

abbrev pub tower_zero : BitTower
tower_zero = pair_zero four_zero

abbrev pub tower_one : BitTower
tower_one = pair_one four_zero (pair_one two_zero (pair_one (bit false) (bit true)))

abbrev pub tower_sum : BitTower → BitTower → BitTower
tower_sum = pair_sum (pair_sum (pair_sum bit_sum))

abbrev pub tower_product : BitTower → BitTower → BitTower
tower_product = pair_product four_marker (pair_sum (pair_sum bit_sum)) four_product

-- The value at t of the terms below x^i of the polynomial p over bits.
unfoldable pub value_at : ℕ → ℕ → BitTower → BitTower
value_at zero p t = tower_zero
value_at (suc i) p t = tower_sum (value_at i p t) (cond (coefficient i p == 1) (power tower_product tower_one i t) tower_zero)

-- The element read as n is a root of the byte field's polynomial, x^8 + x^4 + x^3 + x + 1.
abbrev pub Root : ℕ → Type 0
Root n = value_at 9 0x11B (make_tower n) ≡ tower_zero

-- The image of 02 is the least root, read as a byte, and the other images are its powers.
pub record LeastRoot (columns : List ℕ) : Type 0 where
  pub root : Root (slice_index columns 1)
  pub least : (n : ℕ) → n < slice_index columns 1 → Root n → ⊥
  pub powers : (i : ℕ) → i < 8 → slice_index columns i ≡ read_tower (power tower_product tower_one i (make_tower (slice_index columns 1)))
