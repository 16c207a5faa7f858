-- The tables of a map: tests over the whole of each, and what they say of every entry and every byte. Assumes nothing.
use Rattle.std.specs.Prelude.{◌≡◌, ℕ, ◌%◌, ◌^◌, ◌<◌, Bool, T, List, [], ◌∷◌, nat_eq, slice_index}
use Rattle.std.proofs.Common.{sym, ap, ◌∙◌, mod-eq_of_lt}
use Rattle.std.proofs.Math.Dec.{eqb→eq}
use Rattle.std.proofs.Math.Pow.{pow-lt}
use Rattle.fields.specs.Bytes.{byte}
use Rattle.fields.specs.Matrices.{by_columns, by_rows, Transposed}
use Rattle.fields.specs.Additive.{below, below_at}
use Rattle.fields.specs.Rows.{transposes, transposed, same_basis, rows_are_columns}

module _ {F : Type 0} (read : F → ℕ) (make : ℕ → F) (columns back : List ℕ) where
  unfoldable pub images_right : Bool
  images_right = below 8 (λ i. nat_eq (slice_index columns i) (read (make (by_columns columns (2 ^ i % 256)))))

  unfoldable pub sources_right : Bool
  sources_right = below 8 (λ i. nat_eq (read (make (by_columns columns (slice_index back i % 256)))) (2 ^ i))

pub record Tables {F : Type 0} (read : F → ℕ) (make : ℕ → F) (columns back rows back_rows : List ℕ) : Type 0 where
  pub images : T (images_right read make columns back)
  pub sources : T (sources_right read make columns back)
  pub transposed : T (transposes columns rows)
  pub back_transposed : T (transposes back back_rows)
  pub basis : T (same_basis columns rows)
  pub back_basis : T (same_basis back back_rows)

module _ {F : Type 0} {read : F → ℕ} {make : ℕ → F} {columns back rows back_rows : List ℕ} (tables : Tables read make columns back rows back_rows) where
  pub images_at : (i : ℕ) → i < 8 → slice_index columns i ≡ read (make (by_columns columns (byte (2 ^ i)).value))
  unfolding images_right byte
  images_at i h = eqb→eq _ _ (below_at 8 _ tables.images i h)

  pub sources_at : (i : ℕ) → i < 8 → read (make (by_columns columns (byte (slice_index back i)).value)) ≡ 2 ^ i
  unfolding sources_right byte
  sources_at i h = eqb→eq _ _ (below_at 8 _ tables.sources i h)

  pub rows_transposed : Transposed columns rows
  rows_transposed = transposed columns rows tables.transposed

  pub back_rows_transposed : Transposed back back_rows
  back_rows_transposed = transposed back back_rows tables.back_transposed

  pub forth_by_rows : (n : ℕ) → n < 256 → by_rows rows n ≡ by_columns columns n
  forth_by_rows = rows_are_columns columns rows tables.basis

  pub back_by_rows : (n : ℕ) → n < 256 → by_rows back_rows n ≡ by_columns back n
  back_by_rows = rows_are_columns back back_rows tables.back_basis

-- The powers of x below x^8, as bytes, are what the map that alters nothing takes them to.
abbrev pub powers_of_x : List ℕ
powers_of_x = 0x01 ∷ 0x02 ∷ 0x04 ∷ 0x08 ∷ 0x10 ∷ 0x20 ∷ 0x40 ∷ 0x80 ∷ []

powers_right : Bool
powers_right = below 8 (λ i. nat_eq (slice_index powers_of_x i) (2 ^ i))

powers_tested : T powers_right
unfolding powers_right below
powers_tested = tt

powers_at : (i : ℕ) → i < 8 → slice_index powers_of_x i ≡ 2 ^ i
unfolding powers_right
powers_at i h = eqb→eq _ _ (below_at 8 _ powers_tested i h)

power_kept : (i : ℕ) → i < 8 → (byte (2 ^ i)).value ≡ 2 ^ i
unfolding byte
power_kept i h = mod-eq_of_lt (pow-lt h)

pub powers_are_images : (i : ℕ) → i < 8 → slice_index powers_of_x i ≡ (byte (2 ^ i)).value
powers_are_images i h = powers_at i h ∙ sym (power_kept i h)

pub powers_are_sources : (i : ℕ) → i < 8 → (byte (slice_index powers_of_x i)).value ≡ 2 ^ i
powers_are_sources i h = ap (λ n. (byte n).value) (powers_at i h) ∙ power_kept i h
