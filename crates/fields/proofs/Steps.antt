-- What the steps of the executable product come to. Assumes nothing.
use Rattle.std.proofs.Common.{◌≡◌, ℕ, suc, ◌+◌, ◌-◌, ◌*◌, ◌/◌, ◌%◌, ◌^◌, ◌<◌, ◌≤◌, sym, ap, ◌∙◌, subst, lt_of_lt_of_le, mod-eq_of_lt, one-mul, zero-mul, arith, pow_mono, shr_lt}
use lib.Bits.{bit_xor, bit_and, and_zero_r, and_mask, xor_mod}
use Rattle.fields.specs.Polynomials.{coefficient, times_x, Degree}
use Rattle.fields.specs.Additive.{two_ways}
use Rattle.fields.specs.Division.{coefficient_double, times_x_lt}

-- A byte masked by 0 - bit.
pub masked : (byte bit : ℕ) → byte < 256 → bit < 2 → bit_and byte ((0 + (256 - bit)) % 256) ≡ bit * byte
masked byte bit h l =
    two_ways (λ c. bit_and byte ((0 + (256 - c)) % 256) ≡ c * byte) (and_zero_r byte ∙ sym (zero-mul byte))
    (and_mask byte 8 ∙ mod-eq_of_lt h ∙ sym (one-mul byte)) bit l

-- The highest of k bits.
pub highest_lt : (k n : ℕ) → 0 < k → n < 2 ^ k → n / 2 ^ (k - 1) < 2
highest_lt k n pos h = shr_lt 1 (k - 1) (subst (λ e. n < 2 ^ e) (let e : k ≡ 1 + (k - 1) = omega arith in e) h)

highest_is : (k n : ℕ) → 0 < k → n < 2 ^ k → coefficient k (n * 2) ≡ n / 2 ^ (k - 1)
unfolding coefficient
highest_is k n pos h =
    ap (λ i. coefficient i (n * 2)) (let e : k ≡ suc (k - 1) = omega arith in e) ∙ coefficient_double (k - 1) n
    ∙ mod-eq_of_lt (highest_lt k n pos h)

-- Multiplication by x in eight bits: what is shifted out above them is what p·x^8 would cancel.
pub wrapped : (k p n : ℕ) → Degree k p → 0 < k → k ≤ 8 → n < 2 ^ k → bit_xor (n * 2 % 256) (n / 2 ^ (k - 1) * bit_and p 255) ≡ times_x k p n
unfolding times_x
wrapped k p n degree pos few h =
    ap (bit_xor (n * 2 % 256))
    (ap (λ q. n / 2 ^ (k - 1) * q) (and_mask p 8)
    ∙ two_ways (λ c. c * (p % 256) ≡ c * p % 256) (zero-mul (p % 256) ∙ sym (ap (λ z. z % 256) (zero-mul p)))
    (one-mul (p % 256) ∙ sym (ap (λ z. z % 256) (one-mul p))) (n / 2 ^ (k - 1)) (highest_lt k n pos h)
    ∙ ap (λ c. c * p % 256) (sym (highest_is k n pos h)))
    ∙ sym (xor_mod (n * 2) (coefficient k (n * 2) * p) 8)
    ∙ mod-eq_of_lt (lt_of_lt_of_le (times_x_lt k p degree n h) (pow_mono few))
