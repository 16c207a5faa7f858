-- Worked figures: what the definitions give for some inputs, beside what is published of them. Each later layer adds a list of its own.
-- Assumes nothing.
use Rattle.std.specs.Prelude.{◌≡◌, ℕ, List, [], ◌∷◌, codes}
use Rattle.fields.specs.Bytes.{byte, byte_product, byte_inverse}
use Rattle.fields.specs.Powers.{power}
use Rattle.fields.specs.Towers.{read_nibbles, into_nibbles}

-- A label for people, the numbers that the definitions give, and the numbers that they should be.
pub record Figure : Type 0 where
  pub label : List ℕ
  pub given : List ℕ
  pub published : List ℕ

-- Each figure of a list comes out as published.
abbrev pub ComeOut : List Figure → Type 0
ComeOut [] = Unit {0}
ComeOut (f ∷ fs) = (f.given ≡ f.published) × ComeOut fs

abbrev two : ℕ → ℕ
two n = (power byte_product (byte 1) n (byte 0x02)).value

abbrev pub field_figures : List Figure
field_figures =
    record { label = codes "the product of 53 and CA"; given = (byte_product (byte 0x53) (byte 0xCA)).value ∷ []; published = 0x01 ∷ [] }
    ∷ record { label = codes "the 16th and 17th powers of 02"; given = two 16 ∷ two 17 ∷ []; published = 0x5E ∷ 0xBC ∷ [] }
    ∷ record { label = codes "the inverses of BC and of 02"; given = (byte_inverse (byte 0xBC)).value ∷ (byte_inverse (byte 0x02)).value ∷ []; published = 0xBD ∷ 0x8D ∷ [] }
    ∷ record { label = codes "the inverse of 00"; given = (byte_inverse (byte 0x00)).value ∷ []; published = 0x00 ∷ [] }
    ∷ record { label = codes "the images of 02 and 5C in the pair over nibbles"; given = read_nibbles (into_nibbles (byte 0x02)) ∷ read_nibbles (into_nibbles (byte 0x5C)) ∷ []; published = 0x2E ∷ 0x02 ∷ [] }
    ∷ []
