-- That each step of the inverse cipher undoes its step of the cipher, and the other way round. Assumes nothing.
use Rattle.std.specs.Prelude.{◌≡◌, ℕ, ◌<◌, List, length, slice_index}
use Rattle.cipher.specs.Fips197.{Word, State, s_box, inv_s_box, sub_bytes, inv_sub_bytes, shift_rows, inv_shift_rows, mix_columns, inv_mix_columns, add_round_key, cipher, inv_cipher, aes, aes_inverse}

-- f and g undo each other.
pub record Inverses {A : Type 0} (f g : A → A) : Type 0 where
  pub back : (a : A) → g (f a) ≡ a
  pub forth : (a : A) → f (g a) ≡ a

-- SBOX and INVSBOX
abbrev pub BoxesUndo : Type 0
BoxesUndo = Inverses s_box inv_s_box

-- SUBBYTES and INVSUBBYTES
abbrev pub SubBytesUndo : Type 0
SubBytesUndo = Inverses sub_bytes inv_sub_bytes

-- SHIFTROWS and INVSHIFTROWS
abbrev pub ShiftRowsUndo : Type 0
ShiftRowsUndo = Inverses shift_rows inv_shift_rows

-- MIXCOLUMNS and INVMIXCOLUMNS
abbrev pub MixColumnsUndo : Type 0
MixColumnsUndo = Inverses mix_columns inv_mix_columns

-- ADDROUNDKEY undoes itself, under each round key.
abbrev pub AddRoundKeyUndoes : Type 0
AddRoundKeyUndoes = (k s : State) → add_round_key (add_round_key s k) k ≡ s

-- CIPHER and INVCIPHER, for each number of rounds and each schedule.
abbrev pub CiphersUndo : Type 0
CiphersUndo = (nr : ℕ) (w : List Word) → Inverses (λ s. cipher s nr w) (λ s. inv_cipher s nr w)

-- A list of sixteen bytes.
pub record Block (xs : List ℕ) : Type 0 where
  pub sixteen : length xs ≡ 16
  pub bytes : (i : ℕ) → i < 16 → slice_index xs i < 256

-- Deciphering what was enciphered under a key gives the block back.
abbrev pub Deciphers : Type 0
Deciphers = (nk : ℕ) (key block : List ℕ) → Block block → aes_inverse nk key (aes nk key block) ≡ block

-- Enciphering what was deciphered under a key gives the block back.
abbrev pub Enciphers : Type 0
Enciphers = (nk : ℕ) (key block : List ℕ) → Block block → aes nk key (aes_inverse nk key block) ≡ block

pub record UndoLaws : Type 0 where
  pub boxes : BoxesUndo
  pub sub_bytes : SubBytesUndo
  pub shift_rows : ShiftRowsUndo
  pub mix_columns : MixColumnsUndo
  pub add_round_key : AddRoundKeyUndoes
  pub ciphers : CiphersUndo
  pub deciphers : Deciphers
  pub enciphers : Enciphers
