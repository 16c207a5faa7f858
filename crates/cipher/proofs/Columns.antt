-- MIXCOLUMNS and INVMIXCOLUMNS undo each other at a column: the matrices have rows that are rotations of one. Assumes nothing.
use Rattle.std.proofs.Common.{◌≡◌, Bool, refl, ap, ◌∙◌}
use Rattle.fields.specs.Bytes.{byte, byte_sum, byte_product}
use Rattle.fields.specs.Laws.{FieldLaws}
use Rattle.fields.specs.Polynomials.{coefficient, carryless, remainder, product_modulo}
use Rattle.fields.specs.declared.byte.Byte.{Byte}
use Rattle.fields.specs.FieldFacts.{ring}
use Rattle.fields.specs.WordLaws.{byte_laws, byte_path}
use Rattle.cipher.specs.Fips197.{Word, word_of, mix_column, inv_mix_column}
use Rattle.cipher.specs.Layout.{by_matrix}
use Rattle.cipher.specs.Undo.{Inverses}

-- ---- in any field

module _ {F : Type 0} (sum product : F → F → F) (p q r s : F) where
  -- pa + qb + rc + sd
  abbrev row : (a b c d : F) → F
  row a b c d = sum (sum (sum (product p a) (product q b)) (product r c)) (product s d)

-- The product of the matrix of p, q, r, s and that of t, u, v, w is the unit matrix: what stands in its first row.
record UnitMatrix {F : Type 0} (zero one : F) (sum product : F → F → F) (p q r s t u v w : F) : Type 0 where
  first : row sum product p q r s t w v u ≡ one
  second : row sum product p q r s u t w v ≡ zero
  third : row sum product p q r s v u t w ≡ zero
  fourth : row sum product p q r s w v u t ≡ zero

module _ {F : Type 0} {zero one marker : F} {sum product : F → F → F} {inverse : F → F} {same : F → F → Bool} (laws : FieldLaws zero one marker sum product inverse same) where
  abbrev row_in : (p q r s a b c d : F) → F
  row_in = row sum product

  -- The rows of the cipher's matrix, in which a factor 01 is not written.
  first_row : (p q a b c d : F) → sum (sum (sum (product p a) (product q b)) c) d ≡ row_in p q one one a b c d
  first_row p q a b c d = simp (ring, laws)

  second_row : (p q a b c d : F) → sum (sum (sum a (product p b)) (product q c)) d ≡ row_in p q one one b c d a
  second_row p q a b c d = simp (ring, laws)

  third_row : (p q a b c d : F) → sum (sum (sum a b) (product p c)) (product q d) ≡ row_in p q one one c d a b
  third_row p q a b c d = simp (ring, laws)

  fourth_row : (p q a b c d : F) → sum (sum (sum (product q a) b) c) (product p d) ≡ row_in p q one one d a b c
  fourth_row p q a b c d = simp (ring, laws)

  -- The rows of a matrix of rotations.
  rotated : (p q r s a b c d : F) → row_in s p q r a b c d ≡ row_in p q r s b c d a
  rotated p q r s a b c d = simp (ring, laws)

  rotated_twice : (p q r s a b c d : F) → row_in r s p q a b c d ≡ row_in p q r s c d a b
  rotated_twice p q r s a b c d = simp (ring, laws)

  rotated_thrice : (p q r s a b c d : F) → row_in q r s p a b c d ≡ row_in p q r s d a b c
  rotated_thrice p q r s a b c d = simp (ring, laws)

  multiplied_out : (p q r s t u v w a b c d : F) → row_in p q r s (row_in t u v w a b c d) (row_in t u v w b c d a) (row_in t u v w c d a b) (row_in t u v w d a b c) ≡ row_in (row_in p q r s t w v u) (row_in p q r s u t w v) (row_in p q r s v u t w) (row_in p q r s w v u t) a b c d
  multiplied_out p q r s t u v w a b c d = simp (ring, laws)

  by_unit : (a b c d : F) → row_in one zero zero zero a b c d ≡ a
  by_unit a b c d = simp (ring, laws)

  row_undone : (p q r s t u v w : F) → UnitMatrix zero one sum product p q r s t u v w → (a b c d : F) → row_in p q r s (row_in t u v w a b c d) (row_in t u v w b c d a) (row_in t u v w c d a b) (row_in t u v w d a b c) ≡ a
  row_undone p q r s t u v w unit a b c d =
      multiplied_out p q r s t u v w a b c d ∙ (λ i. row_in (unit.first i) (unit.second i) (unit.third i) (unit.fourth i) a b c d) ∙ by_unit a b c d

-- ---- at words

pub word_path : (v w : Word) → v.b0 ≡ w.b0 → v.b1 ≡ w.b1 → v.b2 ≡ w.b2 → v.b3 ≡ w.b3 → v ≡ w
word_path v w e0 e1 e2 e3 = λ i. word_of (e0 i) (e1 i) (e2 i) (e3 i)

abbrev UnitOfBytes : (p q r s t u v w : Byte) → Type 0
UnitOfBytes = UnitMatrix (byte 0) (byte 1) byte_sum byte_product

by_matrix-undone : (p q r s t u v w : Byte) → UnitOfBytes p q r s t u v w → (x : Word) → by_matrix p q r s (by_matrix t u v w x) ≡ x
unfolding by_matrix
by_matrix-undone p q r s t u v w unit x =
    let record { b0 = a; b1 = b; b2 = c; b3 = d } = x in
    let at = row_undone byte_laws p q r s t u v w unit in
    word_path _ x (at a b c d) (at b c d a) (at c d a b) (at d a b c)

abbrev pub x01 : Byte
x01 = byte 0x01

abbrev pub x02 : Byte
x02 = byte 0x02

abbrev pub x03 : Byte
x03 = byte 0x03

abbrev pub x09 : Byte
x09 = byte 0x09

abbrev pub x0b : Byte
x0b = byte 0x0b

abbrev pub x0d : Byte
x0d = byte 0x0d

abbrev pub x0e : Byte
x0e = byte 0x0e

pub mix_is : (x : Word) → mix_column x ≡ by_matrix x02 x03 x01 x01 x
unfolding mix_column by_matrix
mix_is x =
    let record { b0 = a; b1 = b; b2 = c; b3 = d } = x in
    word_path _ _ (first_row byte_laws x02 x03 a b c d) (second_row byte_laws x02 x03 a b c d) (third_row byte_laws x02 x03 a b c d) (fourth_row byte_laws x02 x03 a b c d)

pub inv_mix_is : (x : Word) → inv_mix_column x ≡ by_matrix x0e x0b x0d x09 x
unfolding inv_mix_column by_matrix
inv_mix_is x =
    let record { b0 = a; b1 = b; b2 = c; b3 = d } = x in
    word_path _ _ refl (rotated byte_laws x0e x0b x0d x09 a b c d) (rotated_twice byte_laws x0e x0b x0d x09 a b c d) (rotated_thrice byte_laws x0e x0b x0d x09 a b c d)

forth_unit : UnitOfBytes x0e x0b x0d x09 x02 x03 x01 x01
unfolding byte product_modulo carryless remainder coefficient
forth_unit = record { first = byte_path _ _ refl; second = byte_path _ _ refl; third = byte_path _ _ refl; fourth = byte_path _ _ refl }

back_unit : UnitOfBytes x02 x03 x01 x01 x0e x0b x0d x09
unfolding byte product_modulo carryless remainder coefficient
back_unit = record { first = byte_path _ _ refl; second = byte_path _ _ refl; third = byte_path _ _ refl; fourth = byte_path _ _ refl }

pub mix_column-undone : Inverses mix_column inv_mix_column
mix_column-undone = record {
  back = λ x. inv_mix_is (mix_column x) ∙ ap (by_matrix x0e x0b x0d x09) (mix_is x) ∙ by_matrix-undone x0e x0b x0d x09 x02 x03 x01 x01 forth_unit x;
  forth = λ x. mix_is (inv_mix_column x) ∙ ap (by_matrix x02 x03 x01 x01) (inv_mix_is x) ∙ by_matrix-undone x02 x03 x01 x01 x0e x0b x0d x09 back_unit x;
}
