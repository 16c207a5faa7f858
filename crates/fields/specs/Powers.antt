-- Powers in anything that has a product and a one. Assumes nothing.
use Rattle.std.specs.Prelude.{ℕ, zero, suc}

-- The n-th power of a.
unfoldable pub power : {F : Type 0} → (F → F → F) → F → ℕ → F → F
power product one zero a = one
power product one (suc n) a = product a (power product one n a)
