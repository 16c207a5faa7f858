-- The affine maps as products modulo x^8 + 1, and what a route's answers make of the S-box. Assumes nothing.
use Rattle.std.proofs.Common.{◌≡◌, ℕ, ◌<◌, Bool, T, eqb, List, get_or, sym, ap, ◌∙◌, eqb→eq}
use Rattle.fields.specs.Bytes.{byte, byte_inverse}
use Rattle.fields.specs.Polynomials.{coefficient, carryless, remainder, product_modulo}
use Rattle.fields.specs.Additive.{below, below_at}
use Rattle.fields.specs.WordLaws.{byte-value, value_lt}
use Rattle.routes.specs.Inverting.{AllInvert}
use Rattle.routes.proofs.Inversions.{inverts_is}
use Rattle.cipher.specs.Fips197.{from_bits, affine, inv_affine, s_box, inv_s_box}
use Rattle.cipher.specs.Layout.{affine_map}
use Rattle.cipher.proofs.Boxes.{affine_lt}

-- ---- the affine maps

same_affine : Bool
same_affine = below 256 (λ n. eqb (affine_map 0x1F 0x63 n) (affine n))

affine_tested : T same_affine
unfolding same_affine below product_modulo carryless remainder coefficient affine from_bits
affine_tested = tt

pub affine_is : (n : ℕ) → n < 256 → affine_map 0x1F 0x63 n ≡ affine n
unfolding same_affine
affine_is n h = eqb→eq _ _ (below_at 256 _ affine_tested n h)

same_inv_affine : Bool
same_inv_affine = below 256 (λ n. eqb (affine_map 0x4A 0x05 n) (inv_affine n))

inv_affine_tested : T same_inv_affine
unfolding same_inv_affine below product_modulo carryless remainder coefficient inv_affine from_bits
inv_affine_tested = tt

pub inv_affine_is : (n : ℕ) → n < 256 → affine_map 0x4A 0x05 n ≡ inv_affine n
unfolding same_inv_affine
inv_affine_is n h = eqb→eq _ _ (below_at 256 _ inv_affine_tested n h)

-- ---- the S-box, by a route's answers

pub boxed : (before mid after : List ℕ) → AllInvert before mid → ((i : ℕ) → i < 16 → get_or after i 0 ≡ affine_map 0x1F 0x63 (byte (get_or mid i 0)).value) → (i : ℕ) → i < 16 → get_or after i 0 ≡ (s_box (byte (get_or before i 0))).value
unfolding s_box
boxed before mid after inverted mapped i h =
    mapped i h ∙ affine_is _ (value_lt (byte (get_or mid i 0))) ∙ ap (λ b. affine b.value) (inverts_is (get_or before i 0) (get_or mid i 0) (inverted i h).1)
    ∙ sym (byte-value _ (affine_lt _ (value_lt (byte_inverse (byte (get_or before i 0))))))

pub boxed_back : (before mid after : List ℕ) → ((i : ℕ) → i < 16 → get_or mid i 0 ≡ affine_map 0x4A 0x05 (byte (get_or before i 0)).value) → AllInvert mid after → (i : ℕ) → i < 16 → get_or after i 0 ≡ (inv_s_box (byte (get_or before i 0))).value
unfolding inv_s_box
boxed_back before mid after mapped inverted i h =
    sym (byte-value (get_or after i 0) (inverted i h).0)
    ∙ ap (λ b. b.value) (inverts_is (get_or mid i 0) (get_or after i 0) (inverted i h).1 ∙ ap (λ n. byte_inverse (byte n)) (mapped i h ∙ inv_affine_is _ (value_lt (byte (get_or before i 0)))))
