-- Fields whose elements are read as numbers of k bits, and pairs over them. Assumes nothing.
use Rattle.std.specs.Prelude.{◌≡◌, ℕ, ◌+◌, ◌*◌, ◌/◌, ◌%◌, ◌^◌, ◌<◌, true, false, cond, ◌==◌, bit_xor, refl}
use Rattle.std.proofs.Common.{sym, ap, ap₂, ◌∙◌, subst, mod-eq_of_lt, mod-lt, arith, ltb→lt, pow_pos, pow-add, shr_lt}
use Rattle.std.proofs.Math.Nat.{mod-mod}
use Rattle.std.proofs.Math.Arith.{digits_lt, digits_div, digits_mod}
use Rattle.std.proofs.lemmas.Nat.{xor_shr, xor_mod}
use Rattle.std.proofs.Math.Pow.{split}
use Rattle.fields.specs.Bits.{bit, bit_sum}
use Rattle.fields.specs.Nibbles.{nibble, nibble_sum}
use Rattle.fields.specs.Pairs.{pair_sum}
use Rattle.fields.specs.Towers.{read_pair, make_pair, read_bit, make_bit, read_nibbles, make_nibbles, read_tower, make_tower}
use Rattle.fields.specs.Additive.{Additive, two_ways}
use Rattle.fields.specs.PairLaws.{pair_path}
use Rattle.fields.specs.WordLaws.{nibble_path}

-- Reading and making undo each other, and making is additive.
pub record Readable {F : Type 0} (sum : F → F → F) (read : F → ℕ) (make : ℕ → F) (k : ℕ) : Type 0 where
  pub bounded : (x : F) → read x < 2 ^ k
  pub read_made : (n : ℕ) → n < 2 ^ k → read (make n) ≡ n
  pub made_read : (x : F) → make (read x) ≡ x
  pub additive : Additive sum make

pub pair_readable : {F : Type 0} (sum : F → F → F) (read : F → ℕ) (make : ℕ → F) (k : ℕ) → Readable sum read make k → Readable (pair_sum sum) (read_pair read (2 ^ k)) (make_pair make (2 ^ k)) (k + k)
pair_readable sum read make k r = record {
  bounded = λ x. subst (λ n. read x.high * 2 ^ k + read x.low < n) (sym (pow-add 2 k k)) (digits_lt (r.bounded x.high) (r.bounded x.low));
  read_made = λ n h.
      ap₂ (λ a b. a * 2 ^ k + b) (r.read_made (n / 2 ^ k) (shr_lt k k h)) (r.read_made (n % 2 ^ k) (mod-lt n (pow_pos k))) ∙ split n k;
  made_read = λ x.
      pair_path (ap make (digits_div (read x.high) (r.bounded x.low)) ∙ r.made_read x.high)
      (ap make (digits_mod (read x.high) (r.bounded x.low)) ∙ r.made_read x.low);
  additive = λ a b.
      pair_path (ap make (xor_shr a b k) ∙ r.additive (a / 2 ^ k) (b / 2 ^ k)) (ap make (xor_mod a b k) ∙ r.additive (a % 2 ^ k) (b % 2 ^ k));
}

nibble_readable : Readable nibble_sum (λ a. a.value) nibble 4
unfolding nibble
nibble_readable = record {
  bounded = λ a. ltb→lt a.value 16 a.small;
  read_made = λ n h. mod-eq_of_lt h;
  made_read = λ a. nibble_path _ a (mod-eq_of_lt (ltb→lt a.value 16 a.small));
  additive = λ a b. nibble_path _ _ (sym (mod-mod (bit_xor a b) 16) ∙ ap (λ n. n % 16) (xor_mod a b 4));
}

bit_readable : Readable bit_sum read_bit make_bit 1
bit_readable = record {
  bounded = λ a. elim a.value as (λ v. cond v 1 0 < 2) [ true ↦ omega arith | false ↦ omega arith ];
  read_made = two_below;
  made_read = λ a. elim a.value as (λ v. make_bit (cond v 1 0) ≡ bit v) [ true ↦ refl | false ↦ refl ];
  additive = λ a b. ap (λ n. bit (n == 1)) (xor_mod a b 1) ∙ bits_add (a % 2) (b % 2) (mod-lt a (omega arith)) (mod-lt b (omega arith));
}
  where
    two_below : (n : ℕ) → n < 2 → read_bit (make_bit n) ≡ n
    two_below = two_ways (λ n. read_bit (make_bit n) ≡ n) refl refl

    bits_add : (c d : ℕ) → c < 2 → d < 2 → bit (bit_xor c d == 1) ≡ bit_sum (bit (c == 1)) (bit (d == 1))
    bits_add c d hc hd =
        two_ways (λ x. bit (bit_xor x d == 1) ≡ bit_sum (bit (x == 1)) (bit (d == 1)))
        (two_ways (λ y. bit (bit_xor 0 y == 1) ≡ bit_sum (bit (0 == 1)) (bit (y == 1))) refl refl d hd)
        (two_ways (λ y. bit (bit_xor 1 y == 1) ≡ bit_sum (bit (1 == 1)) (bit (y == 1))) refl refl d hd) c hc

pub nibbles_readable : Readable (pair_sum nibble_sum) read_nibbles make_nibbles 8
nibbles_readable = pair_readable nibble_sum (λ a. a.value) nibble 4 nibble_readable

pub tower_readable : Readable (pair_sum (pair_sum (pair_sum bit_sum))) read_tower make_tower 8
tower_readable =
    pair_readable (pair_sum (pair_sum bit_sum)) (read_pair (read_pair read_bit 2) 4) (make_pair (make_pair make_bit 2) 4) 4
    (pair_readable (pair_sum bit_sum) (read_pair read_bit 2) (make_pair make_bit 2) 2 (pair_readable bit_sum read_bit make_bit 1 bit_readable))
