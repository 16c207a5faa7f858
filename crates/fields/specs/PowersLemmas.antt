-- Powers under an associative product with a one, and the product of squares that is the power 2^(j + 1) - 2. Assumes nothing.
use Rattle.std.specs.Prelude.{◌≡◌, ℕ, zero, suc, ◌+◌, ◌-◌, ◌*◌, ◌^◌, Bool}
use Rattle.std.proofs.Math.Path.{refl, sym, ap}
use Rattle.std.proofs.Common.{ap₂, ◌∙◌, zero-add, suc-add, add_comm, zero-mul, suc-mul}
use Rattle.std.proofs.Math.Nat.{pow-suc}
use native.Mathlib.Omega.{arith}
use Rattle.std.proofs.Math.Pow.{pow_pos}
use Rattle.fields.specs.Laws.{FieldLaws}
use Rattle.fields.specs.Powers.{power}

-- s^2 · s^4 · .. · s^(2^j)
unfoldable pub squares : {F : Type 0} → (F → F → F) → F → ℕ → F → F
squares product one zero s = one
squares product one (suc j) s = let q = product s s in product q (squares product one j q)

module _ {F : Type 0} (product : F → F → F) (one : F) (assoc : (a b c : F) → product (product a b) c ≡ product a (product b c))
    (comm : (a b : F) → product a b ≡ product b a) (unit : (a : F) → product a one ≡ a) where
  pub power_one : (a : F) → power product one 1 a ≡ a
  unfolding power
  power_one a = unit a

  pub power_add : (m n : ℕ) (a : F) → power product one (m + n) a ≡ product (power product one m a) (power product one n a)
  unfolding power
  power_add zero n a = ap (λ e. power product one e a) (zero-add n) ∙ sym (comm one (power product one n a) ∙ unit (power product one n a))
  power_add (suc m) n a =
      ap (λ e. power product one e a) (suc-add m n) ∙ ap (product a) (power_add m n a)
      ∙ sym (assoc a (power product one m a) (power product one n a))

  -- A power of a square.
  power_square : (n : ℕ) (a : F) → power product one n (product a a) ≡ power product one (n + n) a
  unfolding power
  power_square zero a = refl
  power_square (suc n) a =
      ap (product (product a a)) (power_square n a) ∙ assoc a a (power product one (n + n) a)
      ∙ ap (λ e. power product one e a) (let e : suc (suc (n + n)) ≡ suc n + suc n = omega arith in e)

  pub power_power : (m n : ℕ) (a : F) → power product one m (power product one n a) ≡ power product one (m * n) a
  unfolding power
  power_power zero n a = ap (λ e. power product one e a) (sym (zero-mul n))
  power_power (suc m) n a =
      ap (product (power product one n a)) (power_power m n a) ∙ sym (power_add n (m * n) a)
      ∙ ap (λ e. power product one e a) (add_comm n (m * n) ∙ sym (suc-mul m n))

  pub squares_is_power : (j : ℕ) (a : F) → squares product one j a ≡ power product one (2 ^ suc j - 2) a
  unfolding power squares
  squares_is_power zero a = refl
  squares_is_power (suc j) a =
      let e = 2 ^ suc j - 2 in
      ap (product (product a a)) (squares_is_power j (product a a) ∙ power_square e a)
      ∙ assoc a a (power product one (e + e) a)
      ∙ ap (λ n. power product one n a) (let h : suc (suc (e + e)) ≡ 2 ^ suc (suc j) - 2 = omega (arith, pow-suc 2 (suc j), pow-suc 2 j, pow_pos j) in h)

module _ {F : Type 0} {zero one marker : F} {sum product : F → F → F} {inverse : F → F} {same : F → F → Bool} (laws : FieldLaws zero one marker sum product inverse same) (a : F) where
  -- The first power, where a chain of products begins, and a product of two powers, by which it goes on.
  pub first_power : a ≡ power product one 1 a
  first_power = sym (power_one product one laws.product_assoc laws.product_comm laws.product_one a)

  pub joined_powers : (m n : ℕ) {x y z : F} → z ≡ product x y → x ≡ power product one m a → y ≡ power product one n a → z ≡ power product one (m + n) a
  joined_powers m n is px py = is ∙ ap₂ product px py ∙ sym (power_add product one laws.product_assoc laws.product_comm laws.product_one m n a)

  pub powers_of_powers : (m n : ℕ) → power product one m (power product one n a) ≡ power product one (m * n) a
  powers_of_powers m n = power_power product one laws.product_assoc laws.product_comm laws.product_one m n a
