-- Polynomials over the two bits, as numbers: bit i of a number is the coefficient of x^i, so their sum is exclusive or.
-- Assumes nothing.
use Rattle.std.specs.Prelude.{ℕ, zero, suc, ◌+◌, ◌*◌, ◌/◌, ◌%◌, ◌^◌, ◌<◌, ◌≤◌, bit_xor}

-- The coefficient of x^i in n.
unfoldable pub coefficient : ℕ → ℕ → ℕ
coefficient i n = n / 2 ^ i % 2

-- The carry-less product of a by the lowest k terms of b: the sum of a·x^i over the i below k for which b has the term x^i.
unfoldable pub carryless : ℕ → ℕ → ℕ → ℕ
carryless zero a b = 0
carryless (suc i) a b = bit_xor (carryless i a b) (coefficient i b * (a * 2 ^ i))

-- What long division by p, a polynomial of degree k, leaves of n, a polynomial of degree below k + j: from the highest term down,
-- a term x^(k + j) of n is cancelled by adding p·x^j.
unfoldable pub remainder : ℕ → ℕ → ℕ → ℕ → ℕ
remainder k p zero n = n
remainder k p (suc j) n = remainder k p j (bit_xor n (coefficient (k + j) n * (p * 2 ^ j)))

-- The product of a and b, of degrees below k, modulo p, of degree k.
unfoldable pub product_modulo : ℕ → ℕ → ℕ → ℕ → ℕ
product_modulo k p a b = remainder k p k (carryless k a b)

-- The number p has degree k as a polynomial.
pub record Degree (k p : ℕ) : Type 0 where
  pub above : 2 ^ k ≤ p
  pub under : p < 2 ^ suc k

-- x·n modulo p, of degree k, for an n of degree below k.
unfoldable pub times_x : ℕ → ℕ → ℕ → ℕ
times_x k p n = bit_xor (n * 2) (coefficient k (n * 2) * p)
