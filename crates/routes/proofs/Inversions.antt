-- What it is to invert, against the byte field's inverse, and how a formula comes to it. Assumes nothing.
use Rattle.std.proofs.Common.{◌≡◌, ℕ, zero, suc, ◌+◌, ◌<◌, Bool, true, false, cond, eqb, sym, refl, ap, ◌∙◌, subst, inl, inr, ⊎_elim, arith, lit<}
use lib.Dec.{eqb-suc-zero}
use Rattle.fields.specs.Bytes.{byte, byte_product, byte_inverse}
use Rattle.fields.specs.Powers.{power}
use Rattle.fields.specs.declared.byte.Byte.{Byte}
use Rattle.fields.specs.FieldFacts.{equal?, inverse_unique, inverse_unique_zero, zero_product}
use Rattle.fields.specs.PowersLemmas.{joined_powers}
use Rattle.fields.specs.WordLaws.{byte_laws, byte_path, byte-value, value_lt, byte_of-value}
use Rattle.routes.specs.Formulas.{byte_power, twisted}
use Rattle.routes.specs.Inverting.{Inverts, Determined}
use Rattle.routes.proofs.Cubes.{twist_zero, twist_inverts}

-- ---- the relation and the inverse

-- What inverts a is the byte field's inverse of a.
pub inverts_is : (a r : ℕ) → Inverts a r → byte r ≡ byte_inverse (byte a)
unfolding Inverts
inverts_is a r = ⊎_elim (inverse_unique byte_laws (byte a) (byte r)) (λ z. inverse_unique_zero byte_laws (byte a) (byte r) (ap byte z.0) (ap byte z.1))

pub determined : Determined
determined a r r' h h' i j = sym (byte-value r h) ∙ ap (λ b. b.value) (inverts_is a r i ∙ sym (inverts_is a r' j)) ∙ byte-value r' h'

-- To show that the value of a byte inverts a number.
pub shown : (a : ℕ) (r : Byte) → a < 256 → ((byte a ≡ byte 0 → ⊥) → byte_product (byte a) r ≡ byte 1) → (byte a ≡ byte 0 → r ≡ byte 0) → Inverts a r.value
unfolding Inverts
shown a r h other none =
    elim (equal? byte_laws (byte a) (byte 0)) [
      | yes z ↦ inr (sym (byte-value a h) ∙ ap (λ b. b.value) z ∙ byte-value 0 (lit< tt), ap (λ b. b.value) (none z) ∙ byte-value 0 (lit< tt))
      | no n ↦ inl (ap (byte_product (byte a)) (byte_of-value r) ∙ other n)
    ]

-- The byte field's inverse inverts.
pub inverse_inverts : (a : ℕ) → a < 256 → Inverts a (byte_inverse (byte a)).value
inverse_inverts a h = shown a (byte_inverse (byte a)) h (byte_laws.inverts (byte a)) (λ z. ap byte_inverse z ∙ byte_laws.inverse_zero)

-- ---- powers

-- The 255th power of any byte but 00 is 01.
pub full_order : (a : Byte) → (a ≡ byte 0 → ⊥) → byte_power 255 a ≡ byte 1
unfolding power
full_order a n = byte_laws.inverts a n

zero_power : (n : ℕ) → byte_power (suc n) (byte 0) ≡ byte 0
unfolding power
zero_power n = zero_product byte_laws (byte_power n (byte 0))

pub zero_powered : (n : ℕ) (a : Byte) → a ≡ byte 0 → byte_power (suc n) a ≡ byte 0
zero_powered n a z = ap (byte_power (suc n)) z ∙ zero_power n

-- The cube of a·s, where s is the m-th power of a.
pub cube_power : (a : Byte) (m : ℕ) → byte_product (byte_product (byte_product a (byte_power m a)) (byte_product a (byte_power m a))) (byte_product a (byte_power m a)) ≡ byte_power (suc m + suc m + suc m) a
unfolding power
cube_power a m = joined_powers byte_laws a (suc m + suc m) (suc m) refl (joined_powers byte_laws a (suc m) (suc m) refl refl refl) refl

-- ---- r, or s where r is 00

unfoldable pub picked : Byte → Byte → Byte
picked r s = byte (cond (eqb r.value 0) s.value r.value)

picked_case : (P : Byte → Type 0) (r s : Byte) (v : ℕ) → r.value ≡ v → (r ≡ byte 0 → P s) → ((r ≡ byte 0 → ⊥) → P r) → P (byte (cond (eqb v 0) s.value r.value))
picked_case P r s zero e f g = subst P (sym (byte_of-value s)) (f (byte_path r (byte 0) (e ∙ sym (byte-value 0 (lit< tt)))))
picked_case P r s (suc v) e f g =
    subst P (sym (ap (λ t. byte (cond t s.value r.value)) (eqb-suc-zero v) ∙ byte_of-value r))
    (g (λ z. let h : ◌≡◌ {A = ℕ} (suc v) 0 = sym e ∙ ap (λ b. b.value) z ∙ byte-value 0 (lit< tt) in omega arith))

pub picks : (P : Byte → Type 0) (r s : Byte) → (r ≡ byte 0 → P s) → ((r ≡ byte 0 → ⊥) → P r) → P (picked r s)
unfolding picked
picks P r s = picked_case P r s r.value refl

-- Where a·s is a cube root of 01, what is picked of a·s·s + s and s inverts a.
pub twist_picks : (a s : Byte) → byte_product (byte_product (byte_product a s) (byte_product a s)) (byte_product a s) ≡ byte 1 → byte_product a (picked (twisted a s) s) ≡ byte 1
twist_picks a s cube = picks (λ x. byte_product a x ≡ byte 1) (twisted a s) s (twist_zero byte_laws a s cube) (twist_inverts byte_laws a s cube)

pub picked_value : (r s : Byte) → (picked r s).value ≡ cond (eqb r.value 0) s.value r.value
unfolding picked
picked_value r s = byte-value _ (either (eqb r.value 0))
  where
    either : (t : Bool) → cond t s.value r.value < 256
    either true = value_lt s
    either false = value_lt r
