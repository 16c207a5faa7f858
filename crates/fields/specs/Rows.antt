-- A matrix by its rows: how its loop goes on, that it is additive, and that it is the matrix by columns. Assumes nothing.
use Rattle.std.specs.Prelude.{◌≡◌, ℕ, zero, suc, ◌+◌, ◌*◌, ◌/◌, ◌%◌, ◌^◌, ◌<◌, Bool, T, List, bit_and, bit_xor, nat_eq, slice_index, slice_index_or, refl}
use Rattle.std.proofs.Common.{sym, ap, ap₂, ◌∙◌, subst, mod-lt, mod-eq_of_lt, lt_of_lt_of_le, pow-suc, add_comm, add-one, arith, eqb→eq, pow_pos, pow_mono}
use Rattle.std.proofs.Math.Arith.{bin_ind}
use Rattle.std.proofs.lemmas.Nat.{and_shr, and_mod, xor_shr, xor_mod}
use Rattle.std.specs.Int.Bits.{xor_shifted, xor_self}
use Rattle.std.specs.Int.Count.{ones, ones_step}
use Rattle.std.proofs.Math.Pow.{pow-lt}
use Rattle.fields.specs.Matrices.{first_rows, by_rows, by_columns, parity, Transposed}
use Rattle.fields.specs.Polynomials.{coefficient}
use Rattle.fields.specs.Additive.{Additive, agree, below, below_at, two_ways, bit_times_lt, xor-times, swap_middle}
use Rattle.fields.specs.Joins.{columns_additive}

pub parity_lt : (row n : ℕ) → parity row n < 2
parity_lt row n = mod-lt (ones (bit_and n row)) (omega arith)

pub rows_lt : (i : ℕ) (rows : List ℕ) (n : ℕ) → first_rows i rows n < 2 ^ i
unfolding first_rows
rows_lt zero rows n = pow_pos 0
rows_lt (suc i) rows n =
    let p = parity (slice_index rows i) n in
    two_ways (λ c. first_rows i rows n + c * 2 ^ i < 2 ^ suc i) (omega (arith, rows_lt i rows n, pow-suc 2 i)) (omega (arith, rows_lt i rows n, pow-suc 2 i)) p
    (parity_lt (slice_index rows i) n)

pub rows_more : (i : ℕ) (rows : List ℕ) (n : ℕ) → first_rows (i + 1) rows n ≡ first_rows i rows n + parity (slice_index rows i) n * 2 ^ i
unfolding first_rows
rows_more i rows n = ap (λ j. first_rows j rows n) (add-one i)

-- One turn of the loop, in eight bits.
pub rows_turn : (i : ℕ) (rows : List ℕ) (n image p : ℕ) → i < 8 → image ≡ first_rows i rows n → p ≡ parity (slice_index rows i) n → image + p * 2 ^ i % 256 ≡ first_rows (i + 1) rows n
rows_turn i rows n image p h is bit =
    ap₂ ◌+◌ is (mod-eq_of_lt (bit_times_lt 8 p (2 ^ i) (subst (λ c. c < 2) (sym bit) (parity_lt (slice_index rows i) n)) (pow-lt h)) ∙ ap (λ c. c * 2 ^ i) bit)
    ∙ sym (rows_more i rows n)

pub rows_fit : (i : ℕ) (rows : List ℕ) (n : ℕ) → i < 8 → first_rows (i + 1) rows n < 256
rows_fit i rows n h = lt_of_lt_of_le (rows_lt (i + 1) rows n) (pow_mono {i = i + 1} {j = 8} (omega arith))

-- The parity of ones, lowest digit first.
parity_step : (row n : ℕ) → parity row n ≡ (bit_and (n % 2) (row % 2) + parity (row / 2) (n / 2)) % 2
parity_step row n =
    ap (λ m. m % 2) (ones_step (bit_and n row) ∙ ap₂ ◌+◌ (and_mod n row 1) (ap ones (and_shr n row 1)))
    ∙ (let later : (x o : ℕ) → (x + o) % 2 ≡ (x + o % 2) % 2 = λ x o. omega arith in later _ _)

-- One digit of each of five numbers.
digits_add : Bool
digits_add = below 2 (λ x. below 2 (λ y. below 2 (λ z. below 2 (λ p. below 2 (λ q. nat_eq ((bit_and (bit_xor x y) z + bit_xor p q) % 2) (bit_xor ((bit_and x z + p) % 2) ((bit_and y z + q) % 2)))))))

digits_added : T digits_add
unfolding digits_add below
digits_added = tt

digit_additive : (x y z p q : ℕ) → x < 2 → y < 2 → z < 2 → p < 2 → q < 2 → (bit_and (bit_xor x y) z + bit_xor p q) % 2 ≡ bit_xor ((bit_and x z + p) % 2) ((bit_and y z + q) % 2)
unfolding digits_add
digit_additive x y z p q hx hy hz hp hq =
    eqb→eq _ _ (below_at 2 _ (below_at 2 _ (below_at 2 _ (below_at 2 _ (below_at 2 _ digits_added x hx) y hy) z hz) p hp) q hq)

Adds : ℕ → Type 0
Adds a = (row b : ℕ) → parity row (bit_xor a b) ≡ bit_xor (parity row a) (parity row b)

adds_step : (n : ℕ) → Adds (n / 2) → Adds n
unfolding Adds
adds_step n half row b =
    parity_step row (bit_xor n b)
    ∙ ap₂ (λ x p. (bit_and x (row % 2) + p) % 2) (xor_mod n b 1) (ap (parity (row / 2)) (xor_shr n b 1) ∙ half (row / 2) (b / 2))
    ∙ digit_additive (n % 2) (b % 2) (row % 2) (parity (row / 2) (n / 2)) (parity (row / 2) (b / 2)) (mod-lt n (omega arith)) (mod-lt b (omega arith)) (mod-lt row (omega arith))
    (parity_lt (row / 2) (n / 2)) (parity_lt (row / 2) (b / 2))
    ∙ ap₂ bit_xor (sym (parity_step row n)) (sym (parity_step row b))

pub parity_additive : (row : ℕ) → Additive bit_xor (parity row)
unfolding Adds ones
parity_additive row a b = bin_ind Adds (λ r c. refl) adds_step a row b

-- A bit above the others is added by exclusive or.
rows_xor : (i : ℕ) (rows : List ℕ) (n : ℕ) → first_rows (suc i) rows n ≡ bit_xor (parity (slice_index rows i) n * 2 ^ i) (first_rows i rows n)
unfolding first_rows
rows_xor i rows n = add_comm _ _ ∙ sym (xor_shifted (parity (slice_index rows i) n) i (first_rows i rows n) (rows_lt i rows n))

pub rows_additive : (i : ℕ) (rows : List ℕ) → Additive bit_xor (first_rows i rows)
unfolding first_rows
rows_additive zero rows a b = refl
rows_additive (suc i) rows a b =
    let row = slice_index_or rows i 0 in
    rows_xor i rows (bit_xor a b)
    ∙ ap₂ bit_xor
    (ap (λ c. c * 2 ^ i) (parity_additive row a b) ∙ xor-times (parity row a) (parity row b) (2 ^ i) (parity_lt row a) (parity_lt row b))
    (rows_additive i rows a b)
    ∙ swap_middle (parity row a * 2 ^ i) (parity row b * 2 ^ i) (first_rows i rows a) (first_rows i rows b)
    ∙ ap₂ bit_xor (sym (rows_xor i rows a)) (sym (rows_xor i rows b))

-- ---- the tests: the rows are the columns transposed, and take each power of x to its column

unfoldable pub transposes : List ℕ → List ℕ → Bool
transposes columns rows = below 8 (λ i. below 8 (λ j. nat_eq (coefficient j (slice_index rows i)) (coefficient i (slice_index columns j))))

pub transposed : (columns rows : List ℕ) → T (transposes columns rows) → Transposed columns rows
unfolding transposes
transposed columns rows t i j hi hj = eqb→eq _ _ (below_at 8 _ (below_at 8 _ t i hi) j hj)

unfoldable pub same_basis : List ℕ → List ℕ → Bool
same_basis columns rows = below 8 (λ i. nat_eq (by_rows rows (2 ^ i)) (by_columns columns (2 ^ i)))

pub rows_are_columns : (columns rows : List ℕ) → T (same_basis columns rows) → (n : ℕ) → n < 256 → by_rows rows n ≡ by_columns columns n
unfolding same_basis
rows_are_columns columns rows t =
    agree bit_xor 0 xor_self (by_rows rows) (by_columns columns) (rows_additive 8 rows) (columns_additive 8 columns) 8 (λ i h. eqb→eq _ _ (below_at 8 _ t i h))
