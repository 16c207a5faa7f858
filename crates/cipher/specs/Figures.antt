-- Worked figures of the cipher. Assumes nothing.
use Rattle.std.specs.Prelude.{List, [], ◌∷◌, codes}
use Rattle.fields.specs.Bytes.{byte}
use Rattle.fields.specs.Figures.{Figure}
use Rattle.cipher.specs.Fips197.{s_box, word, word_bytes, mix_column}

abbrev pub cipher_figures : List Figure
cipher_figures =
    record { label = codes "SUBBYTES of 00, 01 and 53"; given = (s_box (byte 0x00)).value ∷ (s_box (byte 0x01)).value ∷ (s_box (byte 0x53)).value ∷ []; published = 0x63 ∷ 0x7C ∷ 0xED ∷ [] }
    ∷ record { label = codes "MIXCOLUMNS of the column DB 13 53 45"; given = word_bytes (mix_column (word (0xDB ∷ 0x13 ∷ 0x53 ∷ 0x45 ∷ []))); published = 0x8E ∷ 0x4D ∷ 0xA1 ∷ 0xBC ∷ [] }
    ∷ []
