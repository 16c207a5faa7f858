-- MIXCOLUMNS at a column as one additive map of numbers of 32 bits. Assumes nothing.
use Rattle.std.proofs.Common.{◌≡◌, ℕ, ◌+◌, ◌*◌, ◌/◌, ◌%◌, ◌^◌, ◌<◌, Bool, T, eqb, List, [], ◌∷◌, get_or, ap, ◌∙◌, arith, eqb→eq}
use lib.Bits.{bit_xor}
use Rattle.fields.specs.Bytes.{byte, byte_sum}
use Rattle.fields.specs.Laws.{FieldLaws}
use Rattle.fields.specs.Polynomials.{coefficient, carryless, remainder, product_modulo}
use Rattle.fields.specs.declared.byte.Byte.{Byte}
use Rattle.fields.specs.Additive.{Additive, agree, below, below_at}
use Rattle.fields.specs.FieldFacts.{ring}
use Rattle.fields.specs.WordLaws.{byte_laws, byte_path, byte-xor}
use Rattle.cipher.specs.Fips197.{Word, word_of, word, word_at, word_bytes, mix_column}
use Rattle.cipher.proofs.Lists.{four}
use Rattle.cipher.proofs.Additions.{Map, as_it_is, shr, shl, mask, sum_of, then}

-- ---- as the code has it

abbrev one : Map
one = sum_of (shr 8) (shl 24)

abbrev two : Map
two = sum_of (shr 16) (shl 16)

abbrev three : Map
three = sum_of (shr 24) (shl 8)

abbrev high : Map
high = then (shr 7) (mask 0x01010101)

abbrev doubled : Map
doubled = sum_of (sum_of (sum_of (sum_of (then (mask 0x7F7F7F7F) (shl 1)) high) (then high (shl 1))) (then high (shl 3))) (then high (shl 4))

abbrev mixing : Map
mixing = sum_of (sum_of (sum_of (then (sum_of as_it_is one) doubled) one) two) three

abbrev pub mixed : ℕ → ℕ
mixed = mixing.map

-- ---- as the standard has it

-- The bytes of a number, lowest first.
abbrev low : ℕ → Byte
low v = byte v

abbrev at : ℕ → ℕ → Byte
at i v = byte (v / 2 ^ i)

abbrev pub column : ℕ → Word
column v = word_of (low v) (at 8 v) (at 16 v) (at 24 v)

low_additive : (f : Map) → Additive byte_sum (λ v. low (f.map v))
low_additive f a b = ap byte (f.adds a b) ∙ byte-xor (f.map a) (f.map b)

at_additive : (i : ℕ) (f : Map) → Additive byte_sum (λ v. at i (f.map v))
at_additive i f a b = ap byte ((then f (shr i)).adds a b) ∙ byte-xor (f.map a / 2 ^ i) (f.map b / 2 ^ i)

module _ {F : Type 0} {zero one marker : F} {sum product : F → F → F} {inverse : F → F} {same : F → F → Bool} (laws : FieldLaws zero one marker sum product inverse same) where
  first_adds : (p q a b c d a' b' c' d' : F) → sum (sum (sum (product p (sum a a')) (product q (sum b b'))) (sum c c')) (sum d d') ≡ sum (sum (sum (sum (product p a) (product q b)) c) d) (sum (sum (sum (product p a') (product q b')) c') d')
  first_adds p q a b c d a' b' c' d' = simp (ring, laws)

  second_adds : (p q a b c d a' b' c' d' : F) → sum (sum (sum (sum a a') (product p (sum b b'))) (product q (sum c c'))) (sum d d') ≡ sum (sum (sum (sum a (product p b)) (product q c)) d) (sum (sum (sum a' (product p b')) (product q c')) d')
  second_adds p q a b c d a' b' c' d' = simp (ring, laws)

  third_adds : (p q a b c d a' b' c' d' : F) → sum (sum (sum (sum a a') (sum b b')) (product p (sum c c'))) (product q (sum d d')) ≡ sum (sum (sum (sum a b) (product p c)) (product q d)) (sum (sum (sum a' b') (product p c')) (product q d'))
  third_adds p q a b c d a' b' c' d' = simp (ring, laws)

  fourth_adds : (p q a b c d a' b' c' d' : F) → sum (sum (sum (product q (sum a a')) (sum b b')) (sum c c')) (product p (sum d d')) ≡ sum (sum (sum (sum (product q a) b) c) (product p d)) (sum (sum (sum (product q a') b') c') (product p d'))
  fourth_adds p q a b c d a' b' c' d' = simp (ring, laws)

column_adds : (a b : ℕ) → column (bit_xor a b) ≡ word_of (byte_sum (low a) (low b)) (byte_sum (at 8 a) (at 8 b)) (byte_sum (at 16 a) (at 16 b)) (byte_sum (at 24 a) (at 24 b))
column_adds a b = λ i. word_of (low_additive as_it_is a b i) (at_additive 8 as_it_is a b i) (at_additive 16 as_it_is a b i) (at_additive 24 as_it_is a b i)

-- ---- the two agree

-- The test at each power of two.
agree_at : (ℕ → Byte) → (ℕ → Byte) → Bool
agree_at f g = below 32 (λ i. eqb (f (2 ^ i)).value (g (2 ^ i)).value)

agreeing : (f g : ℕ → Byte) → Additive byte_sum f → Additive byte_sum g → T (agree_at f g) → (v : ℕ) → v < 2 ^ 32 → f v ≡ g v
unfolding agree_at
agreeing f g af ag t =
    agree byte_sum (byte 0) byte_laws.sum_self f g af ag 32 (λ i l. byte_path (f (2 ^ i)) (g (2 ^ i)) (eqb→eq _ _ (below_at 32 (λ j. eqb (f (2 ^ j)).value (g (2 ^ j)).value) t i l)))

abbrev first : ℕ → Byte
first x = low (mixed x)

abbrev first_row : ℕ → Byte
first_row x = (mix_column (column x)).b0

first_row_additive : Additive byte_sum first_row
unfolding mix_column
first_row_additive a b =
    ap (λ w. (mix_column w).b0) (column_adds a b) ∙ first_adds byte_laws (byte 2) (byte 3) (low a) (at 8 a) (at 16 a) (at 24 a) (low b) (at 8 b) (at 16 b) (at 24 b)

first_tested : T (agree_at first first_row)
unfolding agree_at below byte mix_column product_modulo carryless remainder coefficient
first_tested = tt

abbrev second : ℕ → Byte
second x = at 8 (mixed x)

abbrev second_row : ℕ → Byte
second_row x = (mix_column (column x)).b1

second_row_additive : Additive byte_sum second_row
unfolding mix_column
second_row_additive a b =
    ap (λ w. (mix_column w).b1) (column_adds a b) ∙ second_adds byte_laws (byte 2) (byte 3) (low a) (at 8 a) (at 16 a) (at 24 a) (low b) (at 8 b) (at 16 b) (at 24 b)

second_tested : T (agree_at second second_row)
unfolding agree_at below byte mix_column product_modulo carryless remainder coefficient
second_tested = tt

abbrev third : ℕ → Byte
third x = at 16 (mixed x)

abbrev third_row : ℕ → Byte
third_row x = (mix_column (column x)).b2

third_row_additive : Additive byte_sum third_row
unfolding mix_column
third_row_additive a b =
    ap (λ w. (mix_column w).b2) (column_adds a b) ∙ third_adds byte_laws (byte 2) (byte 3) (low a) (at 8 a) (at 16 a) (at 24 a) (low b) (at 8 b) (at 16 b) (at 24 b)

third_tested : T (agree_at third third_row)
unfolding agree_at below byte mix_column product_modulo carryless remainder coefficient
third_tested = tt

abbrev fourth : ℕ → Byte
fourth x = at 24 (mixed x)

abbrev fourth_row : ℕ → Byte
fourth_row x = (mix_column (column x)).b3

fourth_row_additive : Additive byte_sum fourth_row
unfolding mix_column
fourth_row_additive a b =
    ap (λ w. (mix_column w).b3) (column_adds a b) ∙ fourth_adds byte_laws (byte 2) (byte 3) (low a) (at 8 a) (at 16 a) (at 24 a) (low b) (at 8 b) (at 16 b) (at 24 b)

fourth_tested : T (agree_at fourth fourth_row)
unfolding agree_at below byte mix_column product_modulo carryless remainder coefficient
fourth_tested = tt

module _ (v : ℕ) (h : v < 2 ^ 32) where
  -- What is mixed holds the bytes of the mixed column, lowest first.
  pub mixed_bytes : (mixed v % 256 ∷ mixed v / 256 % 256 ∷ mixed v / 65536 % 256 ∷ mixed v / 16777216 % 256 ∷ []) ≡ word_bytes (mix_column (column v))
  unfolding byte word_bytes
  mixed_bytes =
      four
      (ap (λ x. x.value) (agreeing first first_row (low_additive mixing) first_row_additive first_tested v h))
      (ap (λ x. x.value) (agreeing second second_row (at_additive 8 mixing) second_row_additive second_tested v h))
      (ap (λ x. x.value) (agreeing third third_row (at_additive 16 mixing) third_row_additive third_tested v h))
      (ap (λ x. x.value) (agreeing fourth fourth_row (at_additive 24 mixing) fourth_row_additive fourth_tested v h))

-- The column of the number that the four bytes of a word make.
pub column_of : (w bytes : List ℕ) (v : ℕ) → bytes ≡ word_bytes (word w) → v ≡ get_or bytes 0 0 + get_or bytes 1 0 * 256 + get_or bytes 2 0 * 65536 + get_or bytes 3 0 * 16777216 → column v ≡ word w
unfolding byte word_at word_bytes
column_of w bytes v held is =
    let e : v ≡ (byte (get_or w 0 0)).value + (byte (get_or w 1 0)).value * 256 + (byte (get_or w 2 0)).value * 65536 + (byte (get_or w 3 0)).value * 16777216 =
    is ∙ ap (λ bs. get_or bs 0 0 + get_or bs 1 0 * 256 + get_or bs 2 0 * 65536 + get_or bs 3 0 * 16777216) held in
    λ i. word_of (byte_path (low v) (byte (get_or w 0 0)) (omega arith) i) (byte_path (at 8 v) (byte (get_or w 1 0)) (omega arith) i) (byte_path (at 16 v) (byte (get_or w 2 0)) (omega arith) i) (byte_path (at 24 v) (byte (get_or w 3 0)) (omega arith) i)
