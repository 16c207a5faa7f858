-- How arrays of bytes hold words, states and schedules, and what code works out in place of the standard's formulas. Assumes nothing.
use Rattle.std.specs.Prelude.{ℕ, List, [], ◌∷◌, ◌++◌, map, bit_xor, slice_index_or}
use Rattle.fields.specs.Polynomials.{product_modulo}
use Rattle.fields.specs.declared.byte.Byte.{Byte}
use Rattle.cipher.specs.Fips197.{Word, State, word, word_of, state_of, word_bytes, state, state_bytes, round_count, key_schedule, ◌⊕◌, ◌•◌}

-- The state that four arrays of four bytes hold, column by column.
unfoldable pub columns_state : List (List ℕ) → State
columns_state cs = state_of (word (slice_index_or cs 0 [])) (word (slice_index_or cs 1 [])) (word (slice_index_or cs 2 [])) (word (slice_index_or cs 3 []))

-- The words that arrays of four bytes hold.
abbrev pub held_words : List (List ℕ) → List Word
held_words = map word

-- The arrays of four bytes that hold words.
abbrev pub word_lists : List Word → List (List ℕ)
word_lists = map word_bytes

-- All bytes of arrays of bytes, in a row.
unfoldable pub in_a_row : List (List ℕ) → List ℕ
in_a_row [] = []
in_a_row (x ∷ xs) = x ++ in_a_row xs

-- ---- the affine maps of the S-boxes are products with a constant, plus another

-- b·factor modulo x^8 + 1, plus offset.
abbrev pub affine_map : (factor offset b : ℕ) → ℕ
affine_map factor offset b = bit_xor (product_modulo 8 0x101 b factor) offset

-- ---- the matrices of MIXCOLUMNS and INVMIXCOLUMNS have rows that are rotations of one

module _ (p q r s : Byte) where
  abbrev pub byte_row : (a b c d : Byte) → Byte
  byte_row a b c d = p • a ⊕ q • b ⊕ r • c ⊕ s • d

  -- The product of a column and the matrix whose rows are p q r s and its rotations.
  unfoldable pub by_matrix : Word → Word
  by_matrix x = word_of (byte_row x.b0 x.b1 x.b2 x.b3) (byte_row x.b1 x.b2 x.b3 x.b0) (byte_row x.b2 x.b3 x.b0 x.b1) (byte_row x.b3 x.b0 x.b1 x.b2)

-- ---- AES in a direction

-- A block turned under a key of 4·nk bytes, where a state is turned under a number of rounds and the words of a schedule.
abbrev pub aes_by : (State → ℕ → List Word → State) → ℕ → List ℕ → List ℕ → List ℕ
aes_by turned nk key block = state_bytes (turned (state block) (round_count nk) (key_schedule nk key))
