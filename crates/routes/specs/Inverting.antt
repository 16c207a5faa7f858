-- What it is to invert a byte. Assumes nothing.
use Rattle.std.specs.Prelude.{◌≡◌, ℕ, ◌<◌, ◌⊎◌, List, slice_index}
use Rattle.fields.specs.Bytes.{byte, byte_product}

-- r inverts a: their product in the byte field is 01, or both are 00. A relation and no formula; it determines r.
unfoldable pub Inverts : ℕ → ℕ → Type 0
Inverts a r = (byte_product (byte a) (byte r) ≡ byte 1) ⊎ ((a ≡ 0) × (r ≡ 0))

-- Each of sixteen is a byte, and inverts the one at the same place.
abbrev pub AllInvert : List ℕ → List ℕ → Type 0
AllInvert before after = (i : ℕ) → i < 16 → (slice_index after i < 256) × Inverts (slice_index before i) (slice_index after i)

-- The relation determines what it relates a byte to.
abbrev pub Determined : Type 0
Determined = (a r r' : ℕ) → r < 256 → r' < 256 → Inverts a r → Inverts a r' → r ≡ r'
