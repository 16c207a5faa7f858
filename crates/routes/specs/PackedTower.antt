-- The pile of three pairs over bits, level by level, and how numbers hold its elements: the high half of a pair in the high half of the number.
-- Assumes nothing.
use Rattle.std.specs.Prelude.{ℕ, true, false}
use Rattle.fields.specs.Bits.{bit, bit_sum, bit_product}
use Rattle.fields.specs.Pairs.{pair_zero, pair_marker, pair_sum, pair_product, pair_inverse}
use Rattle.fields.specs.Towers.{BitTower, make_pair, make_bit}
use Rattle.fields.specs.declared.bit.Bit.{Bit}
use Rattle.fields.specs.declared.pair.Pair.{Pair}

-- ---- pairs of bits, in two bits

abbrev pub make_two : ℕ → Pair Bit
make_two = make_pair make_bit 2

abbrev pub two_sum : Pair Bit → Pair Bit → Pair Bit
two_sum = pair_sum bit_sum

abbrev pub two_marker : Pair Bit
two_marker = pair_marker (bit false) (bit true)

abbrev pub two_product : Pair Bit → Pair Bit → Pair Bit
two_product = pair_product (bit true) bit_sum bit_product

abbrev pub two_inverse : Pair Bit → Pair Bit
two_inverse = pair_inverse (bit true) bit_sum bit_product (λ a. a)

-- ---- pairs of these, in four bits

abbrev pub make_four : ℕ → Pair (Pair Bit)
make_four = make_pair make_two 4

abbrev pub four_sum : Pair (Pair Bit) → Pair (Pair Bit) → Pair (Pair Bit)
four_sum = pair_sum two_sum

abbrev pub four_marker : Pair (Pair Bit)
four_marker = pair_marker (pair_zero (bit false)) two_marker

abbrev pub four_product : Pair (Pair Bit) → Pair (Pair Bit) → Pair (Pair Bit)
four_product = pair_product two_marker two_sum two_product

abbrev pub four_inverse : Pair (Pair Bit) → Pair (Pair Bit)
four_inverse = pair_inverse two_marker two_sum two_product two_inverse

-- ---- pairs of those, in eight bits

abbrev pub tower_inverse : BitTower → BitTower
tower_inverse = pair_inverse four_marker four_sum four_product four_inverse
