-- Counter blocks, the pieces of a run, and counter mode in the terms of SP 800-38A. Assumes nothing.
use Rattle.std.specs.Prelude.{ℕ, zero, suc, ◌+◌, ◌-◌, ◌*◌, ◌/◌, ◌%◌, cond, List, [], ◌∷◌, ◌++◌, length, take, drop, bit_xor, nat_lt}

-- ---- counter blocks and runs

-- How many counter blocks a prefix has, 2^32.
abbrev pub counters : ℕ
counters = 4294967296

-- j as four bytes, highest first.
unfoldable pub four_bytes : ℕ → List ℕ
four_bytes j = (j / 16777216) % 256 ∷ (j / 65536) % 256 ∷ (j / 256) % 256 ∷ j % 256 ∷ []

-- Counter block j of a prefix of twelve bytes, for j below 2^32.
unfoldable pub counter_block : List ℕ → ℕ → List ℕ
counter_block prefix j = prefix ++ four_bytes j

-- How many blocks of sixteen bytes a run of n bytes takes, the last one in part.
abbrev pub blocks : ℕ → ℕ
blocks n = (n + 15) / 16

-- Piece p of a run: the sixteen bytes from 16p on, or what is left of them.
unfoldable pub piece : List ℕ → ℕ → List ℕ
piece run p = take 16 (drop (16 * p) run)

-- Exclusive or, byte by byte, as far as both go.
unfoldable pub plus : List ℕ → List ℕ → List ℕ
plus [] ys = []
plus (x ∷ xs) [] = []
plus (x ∷ xs) (y ∷ ys) = bit_xor x y ∷ plus xs ys

-- ---- counter mode (SP 800-38A, section 6.5), with blocks of b = 128 bits

-- P_j, block j of a text, counted from 1. The last may be a partial block, P*_n.
abbrev pub text_block : List ℕ → ℕ → List ℕ
text_block text j = piece text (j - 1)

-- MSB_u(X): the u most significant bits of X, a number of whole bytes.
abbrev pub msb : ℕ → List ℕ → List ℕ
msb u x = take (u / 8) x

-- X_1 ‖ X_2 ‖ .. ‖ X_n
unfoldable pub concatenation : ℕ → (ℕ → List ℕ) → List ℕ
concatenation zero x = []
concatenation (suc n) x = concatenation n x ++ x (suc n)

module _ (ciph : List ℕ → List ℕ) (t : ℕ → List ℕ) where
  -- O_j = CIPH_K(T_j)
  abbrev pub output_block : ℕ → List ℕ
  output_block j = ciph (t j)

  -- C_j = P_j ⊕ O_j for j = 1, 2, .. n-1, and C*_n = P*_n ⊕ MSB_u(O_n), where P*_n has u bits.
  unfoldable pub ctr_block : List ℕ → ℕ → List ℕ
  ctr_block text j =
      let p = text_block text j in
      cond (nat_lt j (blocks (length text))) (plus p (output_block j)) (plus p (msb (8 * length p) (output_block j)))

  -- CTR encryption of P_1 ‖ .. ‖ P*_n, and likewise CTR decryption: C_1 ‖ .. ‖ C*_n.
  unfoldable pub ctr : List ℕ → List ℕ
  ctr text = concatenation (blocks (length text)) (ctr_block text)
