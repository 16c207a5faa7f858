-- What a field with a marker is. Assumes nothing.
use Rattle.std.specs.Prelude.{◌≡◌, Bool, true, ◌≢◌}

-- The laws of a field in which every element is its own negative, with one named element, its marker, that is t·t + t for no t:
-- so X·X = X + marker has no root in it, and adjoining one gives the next field of a tower.
pub record FieldLaws {F : Type 0} (zero one marker : F) (sum product : F → F → F) (inverse : F → F) (same : F → F → Bool) : Type 0 where
  pub sum_comm : (a b : F) → sum a b ≡ sum b a
  pub sum_assoc : (a b c : F) → sum (sum a b) c ≡ sum a (sum b c)
  pub sum_zero : (a : F) → sum a zero ≡ a
  pub sum_self : (a : F) → sum a a ≡ zero
  pub product_comm : (a b : F) → product a b ≡ product b a
  pub product_assoc : (a b c : F) → product (product a b) c ≡ product a (product b c)
  pub product_one : (a : F) → product a one ≡ a
  pub distributes : (a b c : F) → product a (sum b c) ≡ sum (product a b) (product a c)
  pub zero_is_not_one : zero ≡ one → ⊥
  pub inverse_zero : inverse zero ≡ zero
  pub inverts : (a : F) → (a ≢ zero) → product a (inverse a) ≡ one
  pub no_root : (t : F) → sum (product t t) t ≢ marker
  pub same_means : (a b : F) → same a b ≡ true → a ≡ b
  pub same_holds : (a b : F) → a ≡ b → same a b ≡ true
