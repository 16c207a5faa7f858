-- Maps that carry exclusive or to a sum, and the test that two of them are one. Assumes nothing.
use Rattle.std.specs.Prelude.{◌≡◌, ℕ, zero, suc, ◌*◌, ◌/◌, ◌%◌, ◌^◌, ◌<◌, Bool, true, false, ◌&&◌, T, bit_xor}
use Rattle.std.proofs.Common.{sym, ap, ap₂, ◌∙◌, subst, zero-mul, one-mul, mod-lt, not-suc-le-zero, arith, pow_pos, shr_lt, one-add, ⊎_elim}
use Rattle.std.specs.Int.Bits.{xor_shifted, xor_self, xor_assoc, xor_zero_r}
use Rattle.std.proofs.lemmas.Nat.{xor_comm, xor_shr, xor_mod}
use Rattle.std.proofs.Math.Arith.{lt-one}
use Rattle.std.proofs.Math.Pow.{split}
use Rattle.std.proofs.lemmas.Bool.{cases_eq}
use Rattle.fields.specs.Polynomials.{coefficient}

-- A number below two, by cases.
pub two_ways : (P : ℕ → Type 0) → P 0 → P 1 → (c : ℕ) → c < 2 → P c
two_ways P z o zero h = z
two_ways P z o (suc zero) h = o
two_ways P z o (suc (suc c)) h = let f : ⊥ = omega arith in absurd f

pub coefficient_lt : (i n : ℕ) → coefficient i n < 2
unfolding coefficient
coefficient_lt i n = mod-lt (n / 2 ^ i) (omega arith)

pub coefficient-xor : (i a b : ℕ) → coefficient i (bit_xor a b) ≡ bit_xor (coefficient i a) (coefficient i b)
unfolding coefficient
coefficient-xor i a b = ap (λ n. n % 2) (xor_shr a b i) ∙ xor_mod (a / 2 ^ i) (b / 2 ^ i) 1

pub xor_left_comm : (a b c : ℕ) → bit_xor a (bit_xor b c) ≡ bit_xor b (bit_xor a c)
xor_left_comm a b c = sym (xor_assoc a b c) ∙ ap (λ n. bit_xor n c) (xor_comm a b) ∙ xor_assoc b a c

pub swap_middle : (a b c d : ℕ) → bit_xor (bit_xor a b) (bit_xor c d) ≡ bit_xor (bit_xor a c) (bit_xor b d)
swap_middle a b c d = xor_assoc a b (bit_xor c d) ∙ ap (bit_xor a) (xor_left_comm b c d) ∙ sym (xor_assoc a c (bit_xor b d))

-- A bit times a number is additive in the number and in the bit.
pub bit_times_xor : (c n m : ℕ) → c < 2 → c * bit_xor n m ≡ bit_xor (c * n) (c * m)
bit_times_xor c n m h = two_ways (λ x. x * bit_xor n m ≡ bit_xor (x * n) (x * m)) (simp zero-mul) (simp one-mul) c h

pub xor-times : (c d n : ℕ) → c < 2 → d < 2 → bit_xor c d * n ≡ bit_xor (c * n) (d * n)
xor-times c d n h k =
    two_ways (λ x. bit_xor x d * n ≡ bit_xor (x * n) (d * n)) (simp zero-mul)
    (two_ways (λ y. bit_xor 1 y * n ≡ bit_xor (1 * n) (y * n)) (simp (zero-mul, one-mul, xor_zero_r)) (simp (zero-mul, one-mul, xor_self)) d k) c h

-- A bit times a number of k bits has k bits.
pub bit_times_lt : (k c n : ℕ) → c < 2 → n < 2 ^ k → c * n < 2 ^ k
bit_times_lt k c n h b = two_ways (λ x. x * n < 2 ^ k) (simp zero-mul (pow_pos k)) (simp one-mul b) c h

-- ---- tests at every number below a bound

unfoldable pub below : ℕ → (ℕ → Bool) → Bool
below zero f = true
below (suc n) f = f n && below n f

pub and_left : (a b : Bool) → T (a && b) → T a
and_left true b t = tt
and_left false b t = t

pub and_right : (a b : Bool) → T (a && b) → T b
and_right true b t = t
and_right false b t = absurd t

pub below_at : (n : ℕ) (f : ℕ → Bool) → T (below n f) → (i : ℕ) → i < n → T (f i)
unfolding below
below_at zero f t i h = absurd (not-suc-le-zero h)
below_at (suc n) f t i h =
    ⊎_elim (λ (e : i ≡ n). subst (λ j. T (f j)) (sym e) (and_left (f n) (below n f) t))
    (λ (ne : i ≡ n → ⊥). below_at n f (and_right (f n) (below n f) t) i (omega arith)) (cases_eq i n)

-- ---- additive maps

-- f carries exclusive or to sum.
abbrev pub Additive : {F : Type 0} → (F → F → F) → (ℕ → F) → Type 0
Additive sum f = (a b : ℕ) → f (bit_xor a b) ≡ sum (f a) (f b)

-- The top bit of a number of k + 1 bits, and the rest.
top_and_rest : (k n : ℕ) → n ≡ bit_xor (n / 2 ^ k * 2 ^ k) (n % 2 ^ k)
top_and_rest k n = sym (split n k) ∙ sym (xor_shifted (n / 2 ^ k) k (n % 2 ^ k) (mod-lt n (pow_pos k)))

top_lt : (k n : ℕ) → n < 2 ^ suc k → n / 2 ^ k < 2
top_lt k n h = shr_lt 1 k (subst (λ e. n < 2 ^ e) (sym (one-add k)) h)

-- What holds of 0 and of each power of two below 2^k, and of a ⊕ b where it holds of a and b, holds of every number below 2^k.
pub by_bits : (P : ℕ → Type 0) → P 0 → ((a b : ℕ) → P a → P b → P (bit_xor a b)) → (k : ℕ) → ((i : ℕ) → i < k → P (2 ^ i)) → (n : ℕ) → n < 2 ^ k → P n
by_bits P z x zero basis n h = subst P (sym (lt-one h)) z
by_bits P z x (suc k) basis n h =
    subst P (sym (top_and_rest k n))
    (x (n / 2 ^ k * 2 ^ k) (n % 2 ^ k)
    (two_ways (λ q. P (q * 2 ^ k)) (simp zero-mul z) (simp one-mul (basis k (omega arith))) (n / 2 ^ k) (top_lt k n h))
    (by_bits P z x k (λ i l. basis i (omega arith)) (n % 2 ^ k) (mod-lt n (pow_pos k))))

-- A map of two arguments that is additive in each.
pub record Bilinear {F : Type 0} (sum : F → F → F) (f : ℕ → ℕ → F) : Type 0 where
  pub left : (b : ℕ) → Additive sum (λ a. f a b)
  pub right : (a : ℕ) → Additive sum (f a)

module _ {F : Type 0} (sum : F → F → F) (none : F) (sum_self : (a : F) → sum a a ≡ none) where
  pub additive_zero : (f : ℕ → F) → Additive sum f → f 0 ≡ none
  additive_zero f af = af 0 0 ∙ sum_self (f 0)

  -- Two additive maps that agree on each power of two below 2^k agree on every number below 2^k.
  pub agree : (f g : ℕ → F) → Additive sum f → Additive sum g → (k : ℕ) → ((i : ℕ) → i < k → f (2 ^ i) ≡ g (2 ^ i)) → (n : ℕ) → n < 2 ^ k → f n ≡ g n
  agree f g af ag k basis n h =
      by_bits (λ m. f m ≡ g m) (additive_zero f af ∙ sym (additive_zero g ag)) (λ a b p q. af a b ∙ ap₂ sum p q ∙ sym (ag a b)) k basis n h

  pub agree_twice : (f g : ℕ → ℕ → F) → Bilinear sum f → Bilinear sum g → (k : ℕ) → ((i j : ℕ) → i < k → j < k → f (2 ^ i) (2 ^ j) ≡ g (2 ^ i) (2 ^ j)) → (a b : ℕ) → a < 2 ^ k → b < 2 ^ k → f a b ≡ g a b
  agree_twice f g bf bg k basis a b ha hb =
      agree (λ x. f x b) (λ x. g x b) (bf.left b) (bg.left b) k
      (λ i hi. agree (f (2 ^ i)) (g (2 ^ i)) (bf.right (2 ^ i)) (bg.right (2 ^ i)) k (λ j hj. basis i j hi hj) b hb) a ha
