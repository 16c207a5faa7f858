-- The cipher of FIPS 197, in the standard's terms and order. Section numbers are those of the edition of 2023. Assumes nothing.
use Rattle.std.specs.Prelude.{ℕ, zero, suc, ◌+◌, ◌-◌, ◌*◌, ◌/◌, ◌%◌, ◌^◌, true, false, ◌&&◌, List, [], ◌∷◌, ◌++◌, length, ◌==◌, nat_lt, slice_index, slice_index_or}
use Rattle.fields.specs.Bytes.{byte, byte_sum, byte_product, byte_inverse}
use Rattle.fields.specs.Polynomials.{coefficient}
use Rattle.fields.specs.Powers.{power}
use Rattle.fields.specs.declared.byte.Byte.{Byte}

infixl 60 ◌⊕◌
infixl 70 ◌•◌
-- ---- bytes, words and states (sections 3 and 4)

-- The sum of two bytes, ⊕ in the standard.
abbrev pub ◌⊕◌ : Byte → Byte → Byte
◌⊕◌ = byte_sum

-- The product of two bytes, • in the standard.
abbrev pub ◌•◌ : Byte → Byte → Byte
◌•◌ = byte_product

-- A word [b0, b1, b2, b3]: a column of the state, or a word of the key schedule.
pub record Word : Type 0 where
  pub b0 : Byte
  pub b1 : Byte
  pub b2 : Byte
  pub b3 : Byte

-- [b0, b1, b2, b3]
abbrev pub word_of : Byte → Byte → Byte → Byte → Word
word_of b0 b1 b2 b3 = record { b0 = b0; b1 = b1; b2 = b2; b3 = b3 }

-- The word of four bytes 00.
abbrev pub zero_word : Word
zero_word = word_of (byte 0x00) (byte 0x00) (byte 0x00) (byte 0x00)

-- The sum of two words, byte by byte.
unfoldable pub word_sum : Word → Word → Word
word_sum v w = word_of (v.b0 ⊕ w.b0) (v.b1 ⊕ w.b1) (v.b2 ⊕ w.b2) (v.b3 ⊕ w.b3)

-- The state, by its four columns: s[r, c] is byte r of column c. A round key has this form too.
pub record State : Type 0 where
  pub c0 : Word
  pub c1 : Word
  pub c2 : Word
  pub c3 : Word

-- The state of four columns.
abbrev pub state_of : Word → Word → Word → Word → State
state_of c0 c1 c2 c3 = record { c0 = c0; c1 = c1; c2 = c2; c3 = c3 }

-- ---- SBOX (section 5.1.1)

-- The number whose bit i is bits i, for each i below n.
unfoldable pub from_bits : ℕ → (ℕ → ℕ) → ℕ
from_bits zero bits = 0
from_bits (suc i) bits = from_bits i bits + bits i * 2 ^ i

-- b'[i] = b[i] ⊕ b[(i+4) mod 8] ⊕ b[(i+5) mod 8] ⊕ b[(i+6) mod 8] ⊕ b[(i+7) mod 8] ⊕ c[i], where c = {63}
unfoldable pub affine : ℕ → ℕ
affine b =
    from_bits 8 (λ i.
    (coefficient i b + coefficient ((i + 4) % 8) b + coefficient ((i + 5) % 8) b + coefficient ((i + 6) % 8) b + coefficient ((i + 7) % 8) b
    + coefficient i 0x63) % 2)

-- SBOX: the inverse in the field, where that of 00 is 00, and then the affine map.
unfoldable pub s_box : Byte → Byte
s_box b = byte (affine (byte_inverse b).value)

-- ---- the steps of a round (sections 5.1.1 to 5.1.4)

-- The word with f applied to each byte.
abbrev pub each_byte : (Byte → Byte) → Word → Word
each_byte f w = word_of (f w.b0) (f w.b1) (f w.b2) (f w.b3)

-- The state with f applied to each column.
abbrev pub each_column : (Word → Word) → State → State
each_column f s = state_of (f s.c0) (f s.c1) (f s.c2) (f s.c3)

-- SUBBYTES: SBOX at each byte.
unfoldable pub sub_bytes : State → State
sub_bytes = each_column (each_byte s_box)

-- SHIFTROWS: s'[r, c] = s[r, (c+r) mod 4]
unfoldable pub shift_rows : State → State
shift_rows s =
    state_of
    (word_of s.c0.b0 s.c1.b1 s.c2.b2 s.c3.b3)
    (word_of s.c1.b0 s.c2.b1 s.c3.b2 s.c0.b3)
    (word_of s.c2.b0 s.c3.b1 s.c0.b2 s.c1.b3)
    (word_of s.c3.b0 s.c0.b1 s.c1.b2 s.c2.b3)

-- The product of a column and the matrix with the rows 02 03 01 01, 01 02 03 01, 01 01 02 03, 03 01 01 02.
unfoldable pub mix_column : Word → Word
mix_column s =
    word_of
    (byte 0x02 • s.b0 ⊕ byte 0x03 • s.b1 ⊕ s.b2 ⊕ s.b3)
    (s.b0 ⊕ byte 0x02 • s.b1 ⊕ byte 0x03 • s.b2 ⊕ s.b3)
    (s.b0 ⊕ s.b1 ⊕ byte 0x02 • s.b2 ⊕ byte 0x03 • s.b3)
    (byte 0x03 • s.b0 ⊕ s.b1 ⊕ s.b2 ⊕ byte 0x02 • s.b3)

-- MIXCOLUMNS
unfoldable pub mix_columns : State → State
mix_columns = each_column mix_column

-- ADDROUNDKEY: the sum of the state and a round key, column by column.
unfoldable pub add_round_key : State → State → State
add_round_key s k = state_of (word_sum s.c0 k.c0) (word_sum s.c1 k.c1) (word_sum s.c2 k.c2) (word_sum s.c3 k.c3)

-- w[4r .. 4r+3]: the round key of round r.
unfoldable pub round_key : List Word → ℕ → State
round_key w r =
    state_of (slice_index_or w (4 * r) zero_word) (slice_index_or w (4 * r + 1) zero_word) (slice_index_or w (4 * r + 2) zero_word) (slice_index_or w (4 * r + 3) zero_word)

-- ---- CIPHER (section 5.1, algorithm 1)

-- The rounds 1, 2, .. n, each of four steps.
unfoldable pub rounds : ℕ → List Word → State → State
rounds zero w s = s
rounds (suc n) w s = add_round_key (mix_columns (shift_rows (sub_bytes (rounds n w s)))) (round_key w (suc n))

-- CIPHER(in, Nr, w): round key 0, the rounds 1 to Nr-1, and a last round without MIXCOLUMNS.
unfoldable pub cipher : State → ℕ → List Word → State
cipher s nr w = add_round_key (shift_rows (sub_bytes (rounds (nr - 1) w (add_round_key s (round_key w 0))))) (round_key w nr)

-- ---- KEYEXPANSION (section 5.2, algorithm 2)

-- ROTWORD([a0, a1, a2, a3]) = [a1, a2, a3, a0]
unfoldable pub rot_word : Word → Word
rot_word a = word_of a.b1 a.b2 a.b3 a.b0

-- SUBWORD: SBOX at each byte.
unfoldable pub sub_word : Word → Word
sub_word = each_byte s_box

-- Rcon[j] = [x^(j-1), 00, 00, 00], where x is {02}.
unfoldable pub rcon : ℕ → Word
rcon j = word_of (power byte_product (byte 0x01) (j - 1) (byte 0x02)) (byte 0x00) (byte 0x00) (byte 0x00)

-- What the body of the loop makes of temp = w[i-1], before it adds w[i-Nk].
unfoldable pub scheduled : ℕ → ℕ → Word → Word
scheduled nk i temp =
    elim (i % nk == 0) [
      | true ↦ word_sum (sub_word (rot_word temp)) (rcon (i / nk))
      | false ↦ elim (nat_lt 6 nk && i % nk == 4) [ true ↦ sub_word temp | false ↦ temp ]
    ]

-- w[i], from the words w[0], .. w[i-1].
unfoldable pub next_word : ℕ → List Word → Word
next_word nk ws =
    let i = length ws in
    word_sum (slice_index_or ws (i - nk) zero_word) (scheduled nk i (slice_index_or ws (i - 1) zero_word))

-- The key's words, and then n words more.
unfoldable pub key_expansion : ℕ → List Word → ℕ → List Word
key_expansion nk key zero = key
key_expansion nk key (suc n) = let ws = key_expansion nk key n in ws ++ (next_word nk ws ∷ [])

-- ---- INVCIPHER (section 5.3, algorithm 3)

-- INVSHIFTROWS: s'[r, c] = s[r, (c-r) mod 4]
unfoldable pub inv_shift_rows : State → State
inv_shift_rows s =
    state_of
    (word_of s.c0.b0 s.c3.b1 s.c2.b2 s.c1.b3)
    (word_of s.c1.b0 s.c0.b1 s.c3.b2 s.c2.b3)
    (word_of s.c2.b0 s.c1.b1 s.c0.b2 s.c3.b3)
    (word_of s.c3.b0 s.c2.b1 s.c1.b2 s.c0.b3)

-- The inverse of the affine map: b'[i] = b[(i+2) mod 8] ⊕ b[(i+5) mod 8] ⊕ b[(i+7) mod 8] ⊕ d[i], where d = {05}
unfoldable pub inv_affine : ℕ → ℕ
inv_affine b =
    from_bits 8 (λ i.
    (coefficient ((i + 2) % 8) b + coefficient ((i + 5) % 8) b + coefficient ((i + 7) % 8) b + coefficient i 0x05) % 2)

-- INVSBOX: the inverse of the affine map, and then the inverse in the field.
unfoldable pub inv_s_box : Byte → Byte
inv_s_box b = byte_inverse (byte (inv_affine b.value))

-- INVSUBBYTES: INVSBOX at each byte.
unfoldable pub inv_sub_bytes : State → State
inv_sub_bytes = each_column (each_byte inv_s_box)

-- The product of a column and the matrix with the rows 0e 0b 0d 09, 09 0e 0b 0d, 0d 09 0e 0b, 0b 0d 09 0e.
unfoldable pub inv_mix_column : Word → Word
inv_mix_column s =
    word_of
    (byte 0x0e • s.b0 ⊕ byte 0x0b • s.b1 ⊕ byte 0x0d • s.b2 ⊕ byte 0x09 • s.b3)
    (byte 0x09 • s.b0 ⊕ byte 0x0e • s.b1 ⊕ byte 0x0b • s.b2 ⊕ byte 0x0d • s.b3)
    (byte 0x0d • s.b0 ⊕ byte 0x09 • s.b1 ⊕ byte 0x0e • s.b2 ⊕ byte 0x0b • s.b3)
    (byte 0x0b • s.b0 ⊕ byte 0x0d • s.b1 ⊕ byte 0x09 • s.b2 ⊕ byte 0x0e • s.b3)

-- INVMIXCOLUMNS
unfoldable pub inv_mix_columns : State → State
inv_mix_columns = each_column inv_mix_column

-- The rounds n, .. 2, 1 backwards, each of four steps.
unfoldable pub inv_rounds : ℕ → List Word → State → State
inv_rounds zero w s = s
inv_rounds (suc n) w s = inv_rounds n w (inv_mix_columns (add_round_key (inv_sub_bytes (inv_shift_rows s)) (round_key w (suc n))))

-- INVCIPHER(in, Nr, w): round key Nr, the rounds Nr-1 to 1, and a last round without INVMIXCOLUMNS.
unfoldable pub inv_cipher : State → ℕ → List Word → State
inv_cipher s nr w = add_round_key (inv_sub_bytes (inv_shift_rows (inv_rounds (nr - 1) w (add_round_key s (round_key w nr))))) (round_key w 0)

-- ---- blocks and keys as lists of bytes (sections 3.3, 3.4 and 5)

-- in[k .. k+3]: the word of the four bytes from place k on.
unfoldable pub word_at : List ℕ → ℕ → Word
word_at xs k = word_of (byte (slice_index xs k)) (byte (slice_index xs (k + 1))) (byte (slice_index xs (k + 2))) (byte (slice_index xs (k + 3)))

-- The word of four bytes.
abbrev pub word : List ℕ → Word
word xs = word_at xs 0

-- The bytes of a word.
unfoldable pub word_bytes : Word → List ℕ
word_bytes w = w.b0.value ∷ w.b1.value ∷ w.b2.value ∷ w.b3.value ∷ []

-- The first n words of a list of bytes: w[i] = key[4i .. 4i+3]
unfoldable pub words : ℕ → List ℕ → List Word
words zero key = []
words (suc i) key = words i key ++ (word_at key (4 * i) ∷ [])

-- The state of sixteen bytes, column by column: s[r, c] = in[r + 4c]
unfoldable pub state : List ℕ → State
state xs = state_of (word_at xs 0) (word_at xs 4) (word_at xs 8) (word_at xs 12)

-- The sixteen bytes of a state: out[r + 4c] = s[r, c]
unfoldable pub state_bytes : State → List ℕ
state_bytes s = word_bytes s.c0 ++ word_bytes s.c1 ++ word_bytes s.c2 ++ word_bytes s.c3

-- Nr, the number of rounds: 10, 12 and 14 for a key of 4, 6 and 8 words.
abbrev pub round_count : ℕ → ℕ
round_count nk = nk + 6

-- KEYEXPANSION(key): the 4(Nr + 1) words of the schedule, from a key of 4·nk bytes.
unfoldable pub key_schedule : ℕ → List ℕ → List Word
key_schedule nk key = key_expansion nk (words nk key) (4 * (round_count nk + 1) - nk)

-- AES-128, AES-192 and AES-256 at nk = 4, 6 and 8: the cipher of a block of sixteen bytes under a key of 4·nk bytes.
unfoldable pub aes : ℕ → List ℕ → List ℕ → List ℕ
aes nk key block = state_bytes (cipher (state block) (round_count nk) (key_schedule nk key))

-- Their inverses.
unfoldable pub aes_inverse : ℕ → List ℕ → List ℕ → List ℕ
aes_inverse nk key block = state_bytes (inv_cipher (state block) (round_count nk) (key_schedule nk key))
