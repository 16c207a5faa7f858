-- The product modulo a polynomial: it is additive, stays below 2^k, and is what shifting and adding gives. Assumes nothing.
use Rattle.std.specs.Prelude.{◌≡◌, ℕ, zero, suc, ◌+◌, ◌-◌, ◌*◌, ◌/◌, ◌%◌, ◌^◌, ◌<◌, ◌≤◌, bit_xor, refl}
use Rattle.std.proofs.Common.{sym, ap₂, ◌∙◌, subst, zero-mul, one-mul, mul_assoc, mul-one, add-zero, add-suc, mod-eq_of_lt, mod-lt, zero-add, lt_of_lt_of_le, one-add, add-one, arith, pow_mono, shl_lt, shr-shr}
use Rattle.std.proofs.Math.Path.{ap, subst₂}
use Rattle.std.proofs.Math.Nat.{pow-suc, add-sub_of_le, div-eq_of_lt}
use Rattle.std.specs.Int.Bits.{xor_self, xor_zero_r, xor_lt}
use Rattle.std.proofs.lemmas.Nat.{xor_block, shl-shr}
use Rattle.std.proofs.Math.Pow.{pow_pos, split, shr_lt}
use Rattle.fields.specs.Polynomials.{coefficient, carryless, remainder, product_modulo, times_x, Degree}
use Rattle.fields.specs.Additive.{two_ways, coefficient_lt, coefficient-xor, swap_middle, bit_times_xor, xor-times, bit_times_lt, Additive, Bilinear, additive_zero}

-- A term of a sum: a bit of b times a number.
pub term_xor : (i n a b : ℕ) → coefficient i (bit_xor a b) * n ≡ bit_xor (coefficient i a * n) (coefficient i b * n)
term_xor i n a b = ap (λ c. c * n) (coefficient-xor i a b) ∙ xor-times (coefficient i a) (coefficient i b) n (coefficient_lt i a) (coefficient_lt i b)

xor_shift : (i a b : ℕ) → bit_xor a b * 2 ^ i ≡ bit_xor (a * 2 ^ i) (b * 2 ^ i)
xor_shift i a b = sym (simp add-zero at (xor_block i a b 0 0 (pow_pos i) (pow_pos i)))

pub carryless_right : (i a : ℕ) → Additive bit_xor (carryless i a)
unfolding carryless
carryless_right zero a b c = refl
carryless_right (suc i) a b c =
    ap₂ bit_xor (carryless_right i a b c) (term_xor i (a * 2 ^ i) b c)
    ∙ swap_middle (carryless i a b) (carryless i a c) (coefficient i b * (a * 2 ^ i)) (coefficient i c * (a * 2 ^ i))

pub carryless_left : (i b : ℕ) → Additive bit_xor (λ a. carryless i a b)
unfolding carryless
carryless_left zero b a c = refl
carryless_left (suc i) b a c =
    ap₂ bit_xor (carryless_left i b a c)
    (ap (λ n. coefficient i b * n) (xor_shift i a c) ∙ bit_times_xor (coefficient i b) (a * 2 ^ i) (c * 2 ^ i) (coefficient_lt i b))
    ∙ swap_middle (carryless i a b) (carryless i c b) (coefficient i b * (a * 2 ^ i)) (coefficient i b * (c * 2 ^ i))

pub remainder-xor : (k p j : ℕ) → Additive bit_xor (remainder k p j)
unfolding remainder
remainder-xor k p zero a b = refl
remainder-xor k p (suc j) a b =
    ap (remainder k p j)
    (ap (bit_xor (bit_xor a b)) (term_xor (k + j) (p * 2 ^ j) a b)
    ∙ swap_middle a b (coefficient (k + j) a * (p * 2 ^ j)) (coefficient (k + j) b * (p * 2 ^ j)))
    ∙ remainder-xor k p j (bit_xor a (coefficient (k + j) a * (p * 2 ^ j))) (bit_xor b (coefficient (k + j) b * (p * 2 ^ j)))

-- An additive map takes a bit times a number to the bit times its image.
additive_bit : (f : ℕ → ℕ) → Additive bit_xor f → (c n : ℕ) → c < 2 → f (c * n) ≡ c * f n
additive_bit f af c n h = two_ways (λ x. f (x * n) ≡ x * f n) (simp zero-mul (additive_zero bit_xor 0 xor_self f af)) (simp one-mul) c h

-- ---- multiplication by x

-- x^i·a modulo p.
unfoldable pub shifted : ℕ → ℕ → ℕ → ℕ → ℕ
shifted k p zero a = a
shifted k p (suc i) a = times_x k p (shifted k p i a)

pub coefficient_double : (i n : ℕ) → coefficient (suc i) (n * 2) ≡ coefficient i n
unfolding coefficient
coefficient_double i n = ap (λ q. q % 2) (ap (λ e. n * 2 / 2 ^ e) (sym (one-add i)) ∙ sym (shr-shr (n * 2) 1 i) ∙ ap (λ q. q / 2 ^ i) (shl-shr n 1))

-- Twice as much by twice as much, one step of the division further up.
step_double : (k p j n : ℕ) → bit_xor (n * 2) (coefficient (k + suc j) (n * 2) * (p * 2 ^ suc j)) ≡ bit_xor n (coefficient (k + j) n * (p * 2 ^ j)) * 2
step_double k p j n =
    ap (bit_xor (n * 2))
    (ap₂ ◌*◌ (ap (λ i. coefficient i (n * 2)) (add-suc k j) ∙ coefficient_double (k + j) n) (ap (λ e. p * e) (pow-suc 2 j) ∙ sym (mul_assoc p (2 ^ j) 2))
    ∙ sym (mul_assoc (coefficient (k + j) n) (p * 2 ^ j) 2))
    ∙ sym (xor_shift 1 n (coefficient (k + j) n * (p * 2 ^ j)))

remainder_double : (k p j n : ℕ) → remainder k p (suc j) (n * 2) ≡ times_x k p (remainder k p j n)
unfolding remainder times_x
remainder_double k p zero n = simp (add-zero, mul-one)
remainder_double k p (suc j) n =
    ap (remainder k p (suc j)) (step_double k p j n) ∙ remainder_double k p j (bit_xor n (coefficient (k + j) n * (p * 2 ^ j)))

-- A number that is short enough needs no more steps.
remainder_less : (k p j n : ℕ) → n < 2 ^ (k + j) → remainder k p (suc j) n ≡ remainder k p j n
unfolding remainder coefficient
remainder_less k p j n h = ap (remainder k p j) (simp (div-eq_of_lt h, zero-mul, xor_zero_r))

remainder_enough : (k p i d n : ℕ) → n < 2 ^ (k + i) → remainder k p (i + d) n ≡ remainder k p i n
remainder_enough k p i zero n h = simp add-zero
remainder_enough k p i (suc d) n h =
    ap (λ j. remainder k p j n) (add-suc i d)
    ∙ remainder_less k p (i + d) n (lt_of_lt_of_le h (pow_mono (omega arith)))
    ∙ remainder_enough k p i d n h

remainder_shift : (k p i a : ℕ) → remainder k p i (a * 2 ^ i) ≡ shifted k p i a
unfolding remainder shifted
remainder_shift k p zero a = mul-one a
remainder_shift k p (suc i) a =
    ap (remainder k p (suc i)) (ap (λ e. a * e) (pow-suc 2 i) ∙ sym (mul_assoc a (2 ^ i) 2))
    ∙ remainder_double k p i (a * 2 ^ i) ∙ ap (times_x k p) (remainder_shift k p i a)

pub remainder_is_shifted : (k p i a : ℕ) → a < 2 ^ k → i ≤ k → remainder k p k (a * 2 ^ i) ≡ shifted k p i a
remainder_is_shifted k p i a h l =
    ap (λ j. remainder k p j (a * 2 ^ i)) (sym (add-sub_of_le l)) ∙ remainder_enough k p i (k - i) (a * 2 ^ i) (shl_lt k i h) ∙ remainder_shift k p i a

-- ---- shifting and adding

-- The sum of x^i·a modulo p over the i below the first number for which b has the term x^i.
unfoldable pub summed : ℕ → ℕ → ℕ → ℕ → ℕ → ℕ
summed k p zero a b = 0
summed k p (suc i) a b = bit_xor (summed k p i a b) (coefficient i b * shifted k p i a)

remainder_is_summed : (k p i a b : ℕ) → a < 2 ^ k → i ≤ k → remainder k p k (carryless i a b) ≡ summed k p i a b
unfolding carryless summed
remainder_is_summed k p zero a b h l = additive_zero bit_xor 0 xor_self (remainder k p k) (remainder-xor k p k)
remainder_is_summed k p (suc i) a b h l =
    remainder-xor k p k (carryless i a b) (coefficient i b * (a * 2 ^ i))
    ∙ ap₂ bit_xor (remainder_is_summed k p i a b h (omega arith))
    (additive_bit (remainder k p k) (remainder-xor k p k) (coefficient i b) (a * 2 ^ i) (coefficient_lt i b)
    ∙ ap (λ n. coefficient i b * n) (remainder_is_shifted k p i a h (omega arith)))

-- One turn more, as a loop counts.
pub summed_more : (k p i a b : ℕ) → summed k p (i + 1) a b ≡ bit_xor (summed k p i a b) (coefficient i b * shifted k p i a)
unfolding summed
summed_more k p i a b = ap (λ j. summed k p j a b) (add-one i)

pub shifted_more : (k p i a : ℕ) → shifted k p (i + 1) a ≡ times_x k p (shifted k p i a)
unfolding shifted
shifted_more k p i a = ap (λ j. shifted k p j a) (add-one i)

pub product_is_summed : (k p a b : ℕ) → a < 2 ^ k → product_modulo k p a b ≡ summed k p k a b
unfolding product_modulo
product_is_summed k p a b h = remainder_is_summed k p k a b h (omega arith)

-- ---- the product's laws that hold for every polynomial

pub product_bilinear : (k p : ℕ) → Bilinear bit_xor (product_modulo k p)
unfolding product_modulo
product_bilinear k p = record {
  left = λ b a c. ap (remainder k p k) (carryless_left k b a c) ∙ remainder-xor k p k (carryless k a b) (carryless k c b);
  right = λ a b c. ap (remainder k p k) (carryless_right k a b c) ∙ remainder-xor k p k (carryless k a b) (carryless k a c);
}

-- A term x^k is cancelled by a polynomial of degree k.
cancelled : (k q r s : ℕ) → q < 2 → r < 2 ^ k → s < 2 ^ k → bit_xor (q * 2 ^ k + r) (q * (1 * 2 ^ k + s)) < 2 ^ k
cancelled k q r s h hr hs =
    two_ways (λ x. bit_xor (x * 2 ^ k + r) (x * (1 * 2 ^ k + s)) < 2 ^ k) (simp (zero-mul, zero-add, xor_zero_r) hr)
    (subst (λ n. n < 2 ^ k) (sym (ap (bit_xor (1 * 2 ^ k + r)) (one-mul (1 * 2 ^ k + s)) ∙ xor_block k 1 1 r s hr hs ∙ simp (zero-mul, zero-add))) (xor_lt k r s hr hs))
    q h

module _ (k p : ℕ) (degree : Degree k p) where
  pub times_x_lt : (n : ℕ) → n < 2 ^ k → times_x k p n < 2 ^ k
  unfolding times_x coefficient
  times_x_lt n h =
      let top : n * 2 / 2 ^ k < 2 = shr_lt 1 k (subst (λ e. n * 2 < 2 ^ e) (sym (one-add k)) (omega (arith, pow-suc 2 k))) in
      let low : p - 2 ^ k < 2 ^ k = omega (arith, pow-suc 2 k, degree.under) in
      let is_p : 1 * 2 ^ k + (p - 2 ^ k) ≡ p = ap (λ e. e + (p - 2 ^ k)) (one-mul (2 ^ k)) ∙ add-sub_of_le degree.above in
      subst₂ (λ a b. bit_xor a b < 2 ^ k) (split (n * 2) k) (ap₂ ◌*◌ (sym (mod-eq_of_lt top)) is_p)
      (cancelled k (n * 2 / 2 ^ k) (n * 2 % 2 ^ k) (p - 2 ^ k) top (mod-lt (n * 2) (pow_pos k)) low)

  pub shifted_lt : (i a : ℕ) → a < 2 ^ k → shifted k p i a < 2 ^ k
  unfolding shifted
  shifted_lt zero a h = h
  shifted_lt (suc i) a h = times_x_lt (shifted k p i a) (shifted_lt i a h)

  pub summed_lt : (i a b : ℕ) → a < 2 ^ k → summed k p i a b < 2 ^ k
  unfolding summed
  summed_lt zero a b h = pow_pos k
  summed_lt (suc i) a b h =
      xor_lt k (summed k p i a b) (coefficient i b * shifted k p i a) (summed_lt i a b h)
      (bit_times_lt k (coefficient i b) (shifted k p i a) (coefficient_lt i b) (shifted_lt i a h))

  pub product_lt : (a b : ℕ) → a < 2 ^ k → product_modulo k p a b < 2 ^ k
  product_lt a b h = subst (λ n. n < 2 ^ k) (sym (product_is_summed k p a b h)) (summed_lt k a b h)
