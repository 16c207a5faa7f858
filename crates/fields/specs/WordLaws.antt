-- The nibble and the byte are such words, and their polynomials and markers pass the tests. Assumes nothing.
use Rattle.std.specs.Prelude.{◌≡◌, ℕ, zero, suc, ◌%◌, ◌<◌, ◌≤◌, T, ◌≢◌, bit_xor, nat_lt, refl}
use Rattle.std.proofs.Common.{sym, ap, ap₂, ◌∙◌, arith, mod-eq_of_lt, ltb→lt, lit<, lit≤}
use mathlib.Core.HLevel.{is_prop→PathP}
use Rattle.std.proofs.lemmas.Nat.{xor_lt, xor_mod}
use Rattle.std.proofs.Math.Nat.{mod-mod}
use Rattle.std.proofs.Math.Dec.{T_prop}
use Rattle.fields.specs.Laws.{FieldLaws}
use Rattle.fields.specs.Polynomials.{coefficient, carryless, remainder, product_modulo, Degree}
use Rattle.fields.specs.Nibbles.{nibble, nibble_sum, nibble_product, nibble_inverse, nibble_same}
use Rattle.fields.specs.Bytes.{byte, byte_sum, byte_product, byte_inverse, byte_same}
use Rattle.fields.specs.declared.nibble.Nibble.{Nibble}
use Rattle.fields.specs.declared.byte.Byte.{Byte}
use Rattle.fields.specs.Additive.{below}
use Rattle.fields.specs.FieldFacts.{equal?, inverse_unique_zero, product_zero}
use Rattle.fields.specs.PowersLemmas.{squares}
use Rattle.fields.specs.Residues.{Words, Passed, commutes, associates, has_one, has_inverses, has_no_root, residue_laws}

pub nibble_path : (a b : Nibble) → a.value ≡ b.value → a ≡ b
nibble_path a b e = λ i. record { value = e i; small = is_prop→PathP (λ j. T (nat_lt (e j) 16)) (λ j. T_prop (nat_lt (e j) 16)) a.small b.small i }

pub byte_path : (a b : Byte) → a.value ≡ b.value → a ≡ b
byte_path a b e = λ i. record { value = e i; small = is_prop→PathP (λ j. T (nat_lt (e j) 256)) (λ j. T_prop (nat_lt (e j) 256)) a.small b.small i }

pub value_lt : (b : Byte) → b.value < 256
value_lt b = ltb→lt b.value 256 b.small

pub byte-value : (n : ℕ) → n < 256 → (byte n).value ≡ n
unfolding byte
byte-value n h = mod-eq_of_lt h

pub byte_of-value : (b : Byte) → byte b.value ≡ b
byte_of-value b = byte_path (byte b.value) b (byte-value b.value (value_lt b))

-- The byte of a sum is the sum of the bytes.
pub byte-xor : (a b : ℕ) → byte (bit_xor a b) ≡ byte_sum (byte a) (byte b)
unfolding byte
byte-xor a b = byte_path _ _ (xor_mod a b 8 ∙ sym (ap (λ n. n % 256) (sym (xor_mod a b 8)) ∙ mod-mod (bit_xor a b) 256 ∙ xor_mod a b 8))

-- The sum of two bytes, as numbers.
pub sum-value : (a b : ℕ) → a < 256 → b < 256 → (byte_sum (byte a) (byte b)).value ≡ bit_xor a b
sum-value a b h l =
    byte-value _ (xor_lt 8 (byte a).value (byte b).value (value_lt (byte a)) (value_lt (byte b))) ∙ ap₂ bit_xor (byte-value a h) (byte-value b l)

nibble-words : Words (λ (a : Nibble). a.value) nibble 4
unfolding nibble
nibble-words = record {
  injective = nibble_path;
  bounded = λ a. ltb→lt a.value 16 a.small;
  made = λ n h. mod-eq_of_lt h;
}

byte-words : Words (λ (a : Byte). a.value) byte 8
byte-words = record { injective = byte_path; bounded = value_lt; made = byte-value }

pub nibble_degree : Degree 4 0x13
nibble_degree = record { above = lit≤ tt; under = lit< tt }

pub byte_degree : Degree 8 0x11B
byte_degree = record { above = lit≤ tt; under = lit< tt }

nibble_passed : Passed 3 0x13 9
unfolding commutes associates has_one has_inverses has_no_root below squares product_modulo carryless remainder coefficient
nibble_passed = record { commutes = tt; associates = tt; has_one = tt; has_inverses = tt; has_no_root = tt }

byte_passed : Passed 7 0x11B 0x20
unfolding commutes associates has_one has_inverses has_no_root below squares product_modulo carryless remainder coefficient
byte_passed = record { commutes = tt; associates = tt; has_one = tt; has_inverses = tt; has_no_root = tt }

pub nibble_laws : FieldLaws (nibble 0) (nibble 1) (nibble 9) nibble_sum nibble_product nibble_inverse nibble_same
nibble_laws = residue_laws (λ (a : Nibble). a.value) nibble 3 0x13 9 nibble-words nibble_degree nibble_passed (lit< tt) 13 refl

pub byte_laws : FieldLaws (byte 0) (byte 1) (byte 0x20) byte_sum byte_product byte_inverse byte_same
byte_laws = residue_laws (λ (a : Byte). a.value) byte 7 0x11B 0x20 byte-words byte_degree byte_passed (lit< tt) 253 refl

-- Where no nibble from 1 to 15 has the product 1 with a, the inverse of a is 0, since a is.
pub none_fits : (a : Nibble) → ((t : ℕ) → 1 ≤ t → t < 16 → nibble_product a (nibble t) ≢ nibble 1) → nibble 0 ≡ nibble_inverse a
unfolding nibble
none_fits a none = elim (equal? nibble_laws a (nibble 0)) [ yes z ↦ inverse_unique_zero nibble_laws a (nibble 0) z refl | no n ↦ absurd (fits n) ]
  where
    r : Nibble
    r = nibble_inverse a

    is_r : nibble r.value ≡ r
    is_r = nibble_path (nibble r.value) r (mod-eq_of_lt (ltb→lt r.value 16 r.small))

    positive : (v : ℕ) → r.value ≡ v → nibble_product a r ≡ nibble 1 → 1 ≤ v
    positive zero e one =
        absurd (nibble_laws.zero_is_not_one (sym (product_zero nibble_laws a) ∙ ap (nibble_product a) (sym (nibble_path r (nibble 0) e)) ∙ one))
    positive (suc v) e one = omega arith

    fits : (a ≢ nibble 0) → ⊥
    fits n =
        none r.value (positive r.value refl (nibble_laws.inverts a n)) (ltb→lt r.value 16 r.small)
        (ap (nibble_product a) is_r ∙ nibble_laws.inverts a n)
