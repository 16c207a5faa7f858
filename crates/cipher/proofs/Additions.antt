-- Shifts and masks of numbers carry exclusive or to exclusive or. Assumes nothing.
use Rattle.std.proofs.Common.{◌≡◌, ℕ, ◌+◌, ◌*◌, ◌/◌, ◌%◌, ◌^◌, ◌<◌, Bool, T, eqb, sym, refl, ap, ◌∙◌, ap₂, add-zero, mod-lt, arith, eqb→eq, pow_pos}
use lib.Arith.{bin_ind}
use lib.Bits.{bit_xor, bit_and, and_zero_l, and_shr, and_mod, xor_zero_l, xor_shr, xor_mod, xor_block}
use lib.Pow.{split}
use Rattle.fields.specs.Additive.{Additive, below, below_at, swap_middle}

pub shr_additive : (k : ℕ) → Additive bit_xor (λ v. v / 2 ^ k)
shr_additive k a b = xor_shr a b k

pub shl_additive : (k : ℕ) → Additive bit_xor (λ v. v * 2 ^ k % 2 ^ 32)
shl_additive k a b = ap (λ n. n % 2 ^ 32) whole ∙ xor_mod (a * 2 ^ k) (b * 2 ^ k) 32
  where
    whole : bit_xor a b * 2 ^ k ≡ bit_xor (a * 2 ^ k) (b * 2 ^ k)
    whole =
        sym (add-zero (bit_xor a b * 2 ^ k)) ∙ sym (xor_block k a b 0 0 (pow_pos k) (pow_pos k)) ∙ ap₂ bit_xor (add-zero (a * 2 ^ k)) (add-zero (b * 2 ^ k))

-- ---- masks

digits_mask : Bool
digits_mask = below 2 (λ x. below 2 (λ y. below 2 (λ z. eqb (bit_and (bit_xor x y) z) (bit_xor (bit_and x z) (bit_and y z)))))

digits_masked : T digits_mask
unfolding digits_mask below
digits_masked = tt

digit_masked : (x y z : ℕ) → x < 2 → y < 2 → z < 2 → bit_and (bit_xor x y) z ≡ bit_xor (bit_and x z) (bit_and y z)
unfolding digits_mask
digit_masked x y z hx hy hz = eqb→eq _ _ (below_at 2 _ (below_at 2 _ (below_at 2 _ digits_masked x hx) y hy) z hz)

Masks : ℕ → Type 0
Masks a = (m b : ℕ) → bit_and (bit_xor a b) m ≡ bit_xor (bit_and a m) (bit_and b m)

masks_step : (n : ℕ) → Masks (n / 2) → Masks n
unfolding Masks
masks_step n half m b = sym (split (bit_and (bit_xor n b) m) 1) ∙ ap₂ (λ q r. q * 2 + r) halves digits ∙ split (bit_xor (bit_and n m) (bit_and b m)) 1
  where
    halves : bit_and (bit_xor n b) m / 2 ≡ bit_xor (bit_and n m) (bit_and b m) / 2
    halves =
        and_shr (bit_xor n b) m 1 ∙ ap (λ x. bit_and x (m / 2)) (xor_shr n b 1) ∙ half (m / 2) (b / 2)
        ∙ sym (xor_shr (bit_and n m) (bit_and b m) 1 ∙ ap₂ bit_xor (and_shr n m 1) (and_shr b m 1))

    digits : bit_and (bit_xor n b) m % 2 ≡ bit_xor (bit_and n m) (bit_and b m) % 2
    digits =
        and_mod (bit_xor n b) m 1 ∙ ap (λ x. bit_and x (m % 2)) (xor_mod n b 1)
        ∙ digit_masked (n % 2) (b % 2) (m % 2) (mod-lt n (omega arith)) (mod-lt b (omega arith)) (mod-lt m (omega arith))
        ∙ sym (xor_mod (bit_and n m) (bit_and b m) 1 ∙ ap₂ bit_xor (and_mod n m 1) (and_mod b m 1))

pub mask_additive : (m : ℕ) → Additive bit_xor (λ v. bit_and v m)
unfolding Masks
mask_additive m a b = bin_ind Masks at_zero masks_step a m b
  where
    at_zero : Masks 0
    at_zero k c = ap (λ x. bit_and x k) (xor_zero_l c) ∙ sym (ap (λ x. bit_xor x (bit_and c k)) (and_zero_l k) ∙ xor_zero_l (bit_and c k))

-- ---- additive maps, and how they are put together

pub record Map : Type 0 where
  pub map : ℕ → ℕ
  pub adds : Additive bit_xor map

abbrev pub as_it_is : Map
as_it_is = record { map = λ v. v; adds = λ a b. refl }

abbrev pub shr : ℕ → Map
shr k = record { map = λ v. v / 2 ^ k; adds = shr_additive k }

abbrev pub shl : ℕ → Map
shl k = record { map = λ v. v * 2 ^ k % 2 ^ 32; adds = shl_additive k }

abbrev pub mask : ℕ → Map
mask m = record { map = λ v. bit_and v m; adds = mask_additive m }

-- The sum of two maps.
abbrev pub sum_of : Map → Map → Map
sum_of f g =
    record {
      map = λ v. bit_xor (f.map v) (g.map v);
      adds = λ a b. ap₂ bit_xor (f.adds a b) (g.adds a b) ∙ swap_middle (f.map a) (f.map b) (g.map a) (g.map b);
    }

-- One map, and then another.
abbrev pub then : Map → Map → Map
then f g = record { map = λ v. g.map (f.map v); adds = λ a b. ap g.map (f.adds a b) ∙ g.adds (f.map a) (f.map b) }
