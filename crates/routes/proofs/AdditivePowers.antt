-- Powers whose exponent is a power of two carry sums to sums, so their values at 01, 02, 04, .. 80 tell all others. Assumes nothing.
use Rattle.std.proofs.Common.{◌≡◌, ℕ, zero, suc, ◌+◌, ◌*◌, ◌^◌, Bool, T, eqb, List, [], ◌∷◌, get_or, sym, refl, ap, ◌∙◌, add-one, eqb→eq}
use lib.Bits.{bit_xor}
use Rattle.fields.specs.Bytes.{byte, byte_sum, byte_product}
use Rattle.fields.specs.Laws.{FieldLaws}
use Rattle.fields.specs.Matrices.{first_columns, by_columns}
use Rattle.fields.specs.Polynomials.{coefficient, carryless, remainder, product_modulo}
use Rattle.fields.specs.declared.byte.Byte.{Byte}
use Rattle.fields.specs.Additive.{agree, below, below_at}
use Rattle.fields.specs.FieldFacts.{ring}
use Rattle.fields.specs.Joins.{columns_additive}
use Rattle.fields.specs.PowersLemmas.{first_power, joined_powers}
use Rattle.fields.specs.WordLaws.{byte_laws, byte_path, byte_of-value, value_lt, byte-xor}
use Rattle.routes.specs.Formulas.{byte_power}

-- One column more.
pub columns_more : (i : ℕ) (columns : List ℕ) (n : ℕ) → first_columns (i + 1) columns n ≡ bit_xor (first_columns i columns n) (coefficient i n * get_or columns i 0)
unfolding first_columns
columns_more i columns n = ap (λ j. first_columns j columns n) (add-one i)

-- ---- squares

abbrev square : Byte → Byte
square a = byte_product a a

-- A square k times over.
abbrev squared : ℕ → Byte → Byte
squared zero a = a
squared (suc k) a = square (squared k a)

square_in : {F : Type 0} {zero one marker : F} {sum product : F → F → F} {inverse : F → F} {same : F → F → Bool} (laws : FieldLaws zero one marker sum product inverse same) (a b : F) → product (sum a b) (sum a b) ≡ sum (product a a) (product b b)
square_in laws a b = simp (ring, laws)

squared-sum : (k : ℕ) (a b : Byte) → squared k (byte_sum a b) ≡ byte_sum (squared k a) (squared k b)
squared-sum zero a b = refl
squared-sum (suc k) a b = ap square (squared-sum k a b) ∙ square_in byte_laws (squared k a) (squared k b)

-- ---- by columns

-- The test: the columns are the powers of 01, 02, 04, .. 80.
unfoldable same_columns : ℕ → List ℕ → Bool
same_columns k columns = below 8 (λ i. eqb (squared k (byte (2 ^ i))).value (byte (by_columns columns (2 ^ i))).value)

by_columns_is : (k : ℕ) (columns : List ℕ) → T (same_columns k columns) → (a : Byte) → byte (by_columns columns a.value) ≡ squared k a
unfolding same_columns
by_columns_is k columns t a =
    sym (agree byte_sum (byte 0) byte_laws.sum_self (λ n. squared k (byte n)) (λ n. byte (by_columns columns n))
    (λ x y. ap (squared k) (byte-xor x y) ∙ squared-sum k (byte x) (byte y))
    (λ x y. ap byte (columns_additive 8 columns x y) ∙ byte-xor (by_columns columns x) (by_columns columns y))
    8 (λ i h. byte_path _ _ (eqb→eq _ _ (below_at 8 _ t i h))) a.value (value_lt a))
    ∙ ap (squared k) (byte_of-value a)

-- ---- powers

doubled : (a : Byte) (n : ℕ) {x : Byte} → x ≡ byte_power n a → square x ≡ byte_power (n + n) a
doubled a n is = joined_powers byte_laws a n n refl is is

fourth-squared : (a : Byte) → squared 2 a ≡ byte_power 4 a
fourth-squared a = doubled a 2 (doubled a 1 (first_power byte_laws a))

sixteenth_squared : (a : Byte) → squared 4 a ≡ byte_power 16 a
sixteenth_squared a = doubled a 8 (doubled a 4 (fourth-squared a))

sixty_fourth_squared : (a : Byte) → squared 6 a ≡ byte_power 64 a
sixty_fourth_squared a = doubled a 32 (doubled a 16 (sixteenth_squared a))

abbrev fourths : List ℕ
fourths = 0x01 ∷ 0x10 ∷ 0x1B ∷ 0xAB ∷ 0x5E ∷ 0x97 ∷ 0xB3 ∷ 0xC5 ∷ []

abbrev sixteenths : List ℕ
sixteenths = 0x01 ∷ 0x5E ∷ 0xE4 ∷ 0xE8 ∷ 0x4D ∷ 0x91 ∷ 0x1D ∷ 0x6C ∷ []

abbrev sixty_fourths : List ℕ
sixty_fourths = 0x01 ∷ 0x4D ∷ 0xFA ∷ 0x4A ∷ 0x02 ∷ 0x9A ∷ 0xEF ∷ 0x94 ∷ []

fourths_tested : T (same_columns 2 fourths)
unfolding same_columns below byte product_modulo carryless remainder coefficient first_columns
fourths_tested = tt

sixteenths_tested : T (same_columns 4 sixteenths)
unfolding same_columns below byte product_modulo carryless remainder coefficient first_columns
sixteenths_tested = tt

sixty_fourths_tested : T (same_columns 6 sixty_fourths)
unfolding same_columns below byte product_modulo carryless remainder coefficient first_columns
sixty_fourths_tested = tt

pub fourth-by_columns : (a : Byte) → byte (by_columns fourths a.value) ≡ byte_power 4 a
fourth-by_columns a = by_columns_is 2 fourths fourths_tested a ∙ fourth-squared a

pub sixteenth_by_columns : (a : Byte) → byte (by_columns sixteenths a.value) ≡ byte_power 16 a
sixteenth_by_columns a = by_columns_is 4 sixteenths sixteenths_tested a ∙ sixteenth_squared a

pub sixty_fourth_by_columns : (a : Byte) → byte (by_columns sixty_fourths a.value) ≡ byte_power 64 a
sixty_fourth_by_columns a = by_columns_is 6 sixty_fourths sixty_fourths_tested a ∙ sixty_fourth_squared a
