-- The 17th powers: their fourth and eighth powers by bits, and the table of their inverses, by one test at every byte. Assumes nothing.
use Rattle.std.proofs.Common.{◌≡◌, ℕ, Bool, ◌&&◌, ◌||◌, T, eqb, get_or, subst, eqb→eq}
use Rattle.fields.specs.Bytes.{byte, byte_product}
use Rattle.fields.specs.Polynomials.{coefficient, carryless, remainder, product_modulo}
use Rattle.fields.specs.Powers.{power}
use Rattle.fields.specs.declared.byte.Byte.{Byte}
use Rattle.fields.specs.Additive.{below, below_at, and_left, and_right}
use Rattle.fields.specs.Residues.{zero_or}
use Rattle.fields.specs.WordLaws.{byte_path, byte_of-value, value_lt}
use Rattle.routes.specs.Formulas.{byte_power, by_bits, fourth, eighth, table_index, inverse_table}

-- The entry of the table for a 17th power.
abbrev pub entry_of : Byte → Byte
entry_of b = byte (get_or inverse_table (table_index b.value) 0)

right_at : ℕ → Bool
right_at n =
    let b = byte_power 17 (byte n) in
    eqb (fourth b).value (byte_power 4 b).value
    && (eqb (eighth b).value (byte_power 8 b).value && (eqb n 0 || eqb (byte_product b (entry_of b)).value (byte 1).value))

all_right : T (below 256 right_at)
unfolding right_at below power byte product_modulo carryless remainder coefficient by_bits table_index
all_right = tt

module _ (a : Byte) where
  abbrev b : Byte
  b = byte_power 17 a

  -- the test at a
  at_a : T (eqb (fourth b).value (byte_power 4 b).value && (eqb (eighth b).value (byte_power 8 b).value && (eqb a.value 0 || eqb (byte_product b (entry_of b)).value (byte 1).value)))
  unfolding right_at
  at_a =
      subst (λ x. let y = byte_power 17 x in T (eqb (fourth y).value (byte_power 4 y).value && (eqb (eighth y).value (byte_power 8 y).value && (eqb a.value 0 || eqb (byte_product y (entry_of y)).value (byte 1).value))))
      (byte_of-value a) (below_at 256 right_at all_right a.value (value_lt a))

  pub fourth_is : fourth b ≡ byte_power 4 b
  fourth_is = byte_path _ _ (eqb→eq _ _ (and_left _ _ at_a))

  pub eighth_is : eighth b ≡ byte_power 8 b
  eighth_is = byte_path _ _ (eqb→eq _ _ (and_left _ _ (and_right _ _ at_a)))

  pub entry_inverts : (a ≡ byte 0 → ⊥) → byte_product b (entry_of b) ≡ byte 1
  unfolding byte
  entry_inverts n =
      let rest = and_right (eqb (fourth b).value (byte_power 4 b).value) _ at_a in
      let last = and_right (eqb (eighth b).value (byte_power 8 b).value) _ rest in
      byte_path _ _ (eqb→eq _ _ (zero_or a.value _ last (λ e. n (byte_path a (byte 0) e))))
