-- Both towers are joined to the byte field, and the rule of the second map's columns. Assumes nothing.
use Rattle.std.specs.Prelude.{Bool, not, T, ◌==◌, nat_eq, slice_index, refl}
use Rattle.std.proofs.Common.{sym, subst, eqb→eq, T_not}
use Rattle.std.specs.Int.Count.{ones, ones_in}
use Rattle.fields.specs.Bits.{bit_same}
use Rattle.fields.specs.Nibbles.{nibble, nibble_sum, nibble_product, nibble_same}
use Rattle.fields.specs.Matrices.{first_columns, first_rows}
use Rattle.fields.specs.Pairs.{pair_sum, pair_product, pair_same}
use Rattle.fields.specs.Polynomials.{coefficient, carryless, remainder, product_modulo}
use Rattle.fields.specs.Powers.{power}
use Rattle.fields.specs.Towers.{JoinsBytes, read_nibbles, make_nibbles, read_tower, make_tower, nibble_columns, nibble_back, nibble_rows, nibble_back_rows, tower_columns, tower_back, tower_rows, tower_back_rows, into_nibbles, out_of_nibbles, into_tower, out_of_tower, tower_one, tower_sum, tower_product, value_at, Root, LeastRoot}
use Rattle.fields.specs.Additive.{below, below_at}
use Rattle.fields.specs.BitLaws.{bit_laws}
use Rattle.fields.specs.Joins.{Tested, small_columns, undone, multiplies, joins}
use Rattle.fields.specs.PairLaws.{pair_laws}
use Rattle.fields.specs.Readings.{nibbles_readable, tower_readable}
use Rattle.fields.specs.Rows.{transposes, same_basis}
use Rattle.fields.specs.Tables.{Tables, images_right, sources_right}
use Rattle.fields.specs.WordLaws.{nibble_laws}

nibbles_tested : Tested (pair_product (nibble 9) nibble_sum nibble_product) (pair_same nibble_same) make_nibbles nibble_columns nibble_back
unfolding small_columns undone multiplies below first_columns product_modulo carryless remainder coefficient nibble
nibbles_tested = record { small = tt; small_back = tt; forth = tt; and_back = tt; multiplied = tt }

pub nibbles_join : JoinsBytes (pair_sum nibble_sum) (pair_product (nibble 9) nibble_sum nibble_product) into_nibbles out_of_nibbles
nibbles_join = joins (pair_laws nibble_laws) read_nibbles make_nibbles nibbles_readable nibble_columns nibble_back nibbles_tested

tower_tested : Tested tower_product (pair_same (pair_same (pair_same bit_same))) make_tower tower_columns tower_back
unfolding small_columns undone multiplies below first_columns product_modulo carryless remainder coefficient
tower_tested = record { small = tt; small_back = tt; forth = tt; and_back = tt; multiplied = tt }

pub tower_joins : JoinsBytes tower_sum tower_product into_tower out_of_tower
tower_joins = joins (pair_laws (pair_laws (pair_laws bit_laws))) read_tower make_tower tower_readable tower_columns tower_back tower_tested

-- ---- the tables

pub nibble_tables : Tables read_nibbles make_nibbles nibble_columns nibble_back nibble_rows nibble_back_rows
unfolding images_right sources_right transposes same_basis below first_columns first_rows coefficient ones ones_in nibble
nibble_tables = record { images = tt; sources = tt; transposed = tt; back_transposed = tt; basis = tt; back_basis = tt }

pub tower_tables : Tables read_tower make_tower tower_columns tower_back tower_rows tower_back_rows
unfolding images_right sources_right transposes same_basis below first_columns first_rows coefficient ones ones_in
tower_tables = record { images = tt; sources = tt; transposed = tt; back_transposed = tt; basis = tt; back_basis = tt }

-- ---- the least root

no_smaller : Bool
no_smaller = below 0x41 (λ n. not (read_tower (value_at 9 0x11B (make_tower n)) == 0))

no_smaller_root : T no_smaller
unfolding no_smaller below value_at power coefficient
no_smaller_root = tt

are_powers : Bool
are_powers = below 8 (λ i. nat_eq (slice_index tower_columns i) (read_tower (power tower_product tower_one i (make_tower 0x41))))

all_powers : T are_powers
unfolding are_powers below power
all_powers = tt

is_root : Root 0x41
unfolding value_at power coefficient
is_root = refl

pub least_root : LeastRoot tower_columns
unfolding no_smaller are_powers
least_root = record {
  root = is_root;
  least = λ n h r. T_not _ (below_at 0x41 _ no_smaller_root n h) (subst (λ x. T (read_tower x == 0)) (sym r) tt);
  powers = λ i h. eqb→eq _ _ (below_at 8 _ all_powers i h);
}
