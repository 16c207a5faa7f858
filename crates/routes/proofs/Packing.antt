-- Numbers that hold elements of the pile of three pairs over bits. Assumes nothing.
use Rattle.std.proofs.Common.{◌≡◌, ℕ, ◌+◌, ◌*◌, ◌/◌, ◌%◌, ◌^◌, ◌<◌, Bool, true, false, T, eqb, sym, refl, ap, ◌∙◌, subst, mod-lt, arith, eqb→eq}
use lib.Bits.{bit_xor, bit_and, bit_or, xor_shr, xor_mod}
use Rattle.fields.specs.Bits.{bit, bit_sum}
use Rattle.fields.specs.Pairs.{pair}
use Rattle.fields.specs.Towers.{read_pair, read_bit, make_bit, make_tower}
use Rattle.fields.specs.declared.bit.Bit.{Bit}
use Rattle.fields.specs.declared.pair.Pair.{Pair}
use Rattle.fields.specs.Additive.{below, below_at, two_ways}
use Rattle.fields.specs.PairLaws.{pair_path}
use Rattle.routes.specs.PackedTower.{make_two, two_sum, two_product, two_inverse, make_four, four_sum}

-- ---- sums

bits_add : (c d : ℕ) → c < 2 → d < 2 → bit (eqb (bit_xor c d) 1) ≡ bit_sum (bit (eqb c 1)) (bit (eqb d 1))
bits_add c d hc hd =
    two_ways (λ x. bit (eqb (bit_xor x d) 1) ≡ bit_sum (bit (eqb x 1)) (bit (eqb d 1)))
    (two_ways (λ y. bit (eqb (bit_xor 0 y) 1) ≡ bit_sum (bit (eqb 0 1)) (bit (eqb y 1))) refl refl d hd)
    (two_ways (λ y. bit (eqb (bit_xor 1 y) 1) ≡ bit_sum (bit (eqb 1 1)) (bit (eqb y 1))) refl refl d hd) c hc

bit_adds : (a b : ℕ) → make_bit (bit_xor a b) ≡ bit_sum (make_bit a) (make_bit b)
bit_adds a b = ap (λ n. bit (eqb n 1)) (xor_mod a b 1) ∙ bits_add (a % 2) (b % 2) (mod-lt a (omega arith)) (mod-lt b (omega arith))

pub two_adds : (a b : ℕ) → make_two (bit_xor a b) ≡ two_sum (make_two a) (make_two b)
two_adds a b = pair_path (ap make_bit (xor_shr a b 1) ∙ bit_adds (a / 2) (b / 2)) (ap make_bit (xor_mod a b 1) ∙ bit_adds (a % 2) (b % 2))

pub four_adds : (a b : ℕ) → make_four (bit_xor a b) ≡ four_sum (make_four a) (make_four b)
four_adds a b = pair_path (ap make_two (xor_shr a b 2) ∙ two_adds (a / 4) (b / 4)) (ap make_two (xor_mod a b 2) ∙ two_adds (a % 4) (b % 4))

-- ---- pairs of bits, by tests at each

abbrev read_two : Pair Bit → ℕ
read_two = read_pair read_bit 2

made_two : (h l : Bool) → make_two (read_two (pair (bit h) (bit l))) ≡ pair (bit h) (bit l)
made_two true true = refl
made_two true false = refl
made_two false true = refl
made_two false false = refl

two_lt : (h l : Bool) → read_two (pair (bit h) (bit l)) < 4
two_lt true true = omega arith
two_lt true false = omega arith
two_lt false true = omega arith
two_lt false false = omega arith

pub holds : (n : ℕ) (x : Pair Bit) → n ≡ read_two x → (make_two n ≡ x) × (n < 4)
holds n x is = (ap make_two is ∙ made_two x.high.value x.low.value, subst (λ m. m < 4) (sym is) (two_lt x.high.value x.low.value))

abbrev mixed : ℕ → ℕ → ℕ
mixed a b = bit_xor (bit_and (bit_and (a / 2 ^ 1) b) 1) (bit_and (bit_and a (b / 2 ^ 1)) 1)

abbrev highs : ℕ → ℕ → ℕ
highs a b = bit_and (a / 2 ^ 1) (b / 2 ^ 1)

abbrev pub times : ℕ → ℕ → ℕ
times a b = bit_or (bit_xor (highs a b) (mixed a b) * 2 ^ 1 % 2 ^ 8) (bit_xor (highs a b) (bit_and (bit_and a b) 1))

times_right : Bool
times_right = below 4 (λ a. below 4 (λ b. eqb (times a b) (read_two (two_product (make_two a) (make_two b)))))

times_tested : T times_right
unfolding times_right below
times_tested = tt

pub product_holds : (a b : ℕ) → a < 4 → b < 4 → (make_two (times a b) ≡ two_product (make_two a) (make_two b)) × (times a b < 4)
unfolding times_right
product_holds a b ha hb =
    holds (times a b) (two_product (make_two a) (make_two b))
    (eqb→eq _ _ (below_at 4 (λ y. eqb (times a y) (read_two (two_product (make_two a) (make_two y))))
    (below_at 4 (λ x. below 4 (λ y. eqb (times x y) (read_two (two_product (make_two x) (make_two y))))) times_tested a ha) b hb))

inverse_right : Bool
inverse_right = below 4 (λ a. eqb (bit_xor a (a / 2 ^ 1)) (read_two (two_inverse (make_two a))))

inverse_tested : T inverse_right
unfolding inverse_right below
inverse_tested = tt

pub inverse_holds : (a : ℕ) → a < 4 → (make_two (bit_xor a (a / 2 ^ 1)) ≡ two_inverse (make_two a)) × (bit_xor a (a / 2 ^ 1) < 4)
unfolding inverse_right
inverse_holds a ha =
    holds (bit_xor a (a / 2 ^ 1)) (two_inverse (make_two a)) (eqb→eq _ _ (below_at 4 (λ x. eqb (bit_xor x (x / 2 ^ 1)) (read_two (two_inverse (make_two x)))) inverse_tested a ha))

-- ---- joined halves

pub joined_four : (h l : ℕ) → l < 4 → make_four (h * 4 + l) ≡ pair (make_two h) (make_two l)
joined_four h l small = pair_path (ap make_two (let e : (h * 4 + l) / 4 ≡ h = omega arith in e)) (ap make_two (let e : (h * 4 + l) % 4 ≡ l = omega arith in e))

pub joined_tower : (h l : ℕ) → l < 16 → make_tower (h * 16 + l) ≡ pair (make_four h) (make_four l)
joined_tower h l small =
    pair_path (ap make_four (let e : (h * 16 + l) / 16 ≡ h = omega arith in e)) (ap make_four (let e : (h * 16 + l) % 16 ≡ l = omega arith in e))
