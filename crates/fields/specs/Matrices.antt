-- Additive maps of bytes to bytes, by their columns and by their rows. Assumes nothing.
use Rattle.std.specs.Prelude.{◌≡◌, ℕ, zero, suc, ◌+◌, ◌*◌, ◌%◌, ◌^◌, ◌<◌, List, bit_and, bit_xor, count_ones, slice_index}
use Rattle.fields.specs.Polynomials.{coefficient}

-- The image of n by the columns: the sum of the columns at which n has a bit. Column i is the image of 2^i.
unfoldable pub first_columns : ℕ → List ℕ → ℕ → ℕ
first_columns zero columns n = 0
first_columns (suc i) columns n = bit_xor (first_columns i columns n) (coefficient i n * slice_index columns i)

abbrev pub by_columns : List ℕ → ℕ → ℕ
by_columns = first_columns 8

-- The image of n by the rows: its bit i is the parity of the ones in n masked by row i.
abbrev pub parity : ℕ → ℕ → ℕ
parity row n = count_ones (bit_and n row) % 2

unfoldable pub first_rows : ℕ → List ℕ → ℕ → ℕ
first_rows zero rows n = 0
first_rows (suc i) rows n = first_rows i rows n + parity (slice_index rows i) n * 2 ^ i

abbrev pub by_rows : List ℕ → ℕ → ℕ
by_rows = first_rows 8

-- Row i holds bit i of each column.
abbrev pub Transposed : List ℕ → List ℕ → Type 0
Transposed columns rows = (i j : ℕ) → i < 8 → j < 8 → coefficient j (slice_index rows i) ≡ coefficient i (slice_index columns j)
