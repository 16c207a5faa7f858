-- Residues modulo a polynomial over bits are a field with a marker where some tests come out, for any degree and polynomial. Assumes nothing.
use Rattle.std.specs.Prelude.{◌≡◌, ℕ, zero, suc, ◌-◌, ◌^◌, ◌<◌, Bool, not, ◌||◌, T, ◌==◌, ◌≢◌, nat_eq, refl}
use Rattle.std.proofs.Math.Path.{sym, ap, ap₂}
use Rattle.std.proofs.Common.{◌∙◌, subst, arith, lit<, pow_pos, pow_mono, lt_of_lt_of_le}
use Rattle.std.specs.Int.Bits.{bit_xor, xor_self, xor_assoc, xor_zero_r}
use Rattle.std.proofs.lemmas.Nat.{xor_comm, xor_lt}
use Rattle.std.proofs.Math.Dec.{eqb→eq, eqb_refl, T_not, eqb-suc-zero}
use Rattle.fields.specs.Laws.{FieldLaws}
use Rattle.fields.specs.Polynomials.{product_modulo, Degree}
use Rattle.fields.specs.Powers.{power}
use Rattle.fields.specs.Additive.{below, below_at, agree, agree_twice, additive_zero}
use Rattle.fields.specs.Division.{product_bilinear, product_lt}
use Rattle.fields.specs.PowersLemmas.{squares, squares_is_power}
use Rattle.std.proofs.lemmas.Bool.{eqb-true, eq-eqb}

-- A type whose elements are the numbers of k bits.
pub record Words {E : Type 0} (value : E → ℕ) (make : ℕ → E) (k : ℕ) : Type 0 where
  pub injective : (a b : E) → value a ≡ value b → a ≡ b
  pub bounded : (a : E) → value a < 2 ^ k
  pub made : (n : ℕ) → n < 2 ^ k → value (make n) ≡ n

-- ---- the tests, each at the powers of x or at all elements

module _ (k p : ℕ) where
  abbrev times : ℕ → ℕ → ℕ
  times = product_modulo k p

  unfoldable pub commutes : Bool
  commutes = below k (λ i. below k (λ j. nat_eq (times (2 ^ i) (2 ^ j)) (times (2 ^ j) (2 ^ i))))

  unfoldable pub associates : Bool
  associates = below k (λ i. below k (λ j. below k (λ l. nat_eq (times (times (2 ^ i) (2 ^ j)) (2 ^ l)) (times (2 ^ i) (times (2 ^ j) (2 ^ l))))))

  unfoldable pub has_one : Bool
  has_one = below k (λ i. nat_eq (times (2 ^ i) 1) (2 ^ i))

  unfoldable pub has_inverses : ℕ → Bool
  has_inverses j = below (2 ^ k) (λ n. (n == 0) || times n (squares times 1 j n) == 1)

  unfoldable pub has_no_root : ℕ → Bool
  has_no_root m = below (2 ^ k) (λ n. not (bit_xor (times n n) n == m))

-- All tests passed, for the degree j + 1.
pub record Passed (j p m : ℕ) : Type 0 where
  pub commutes : T (commutes (suc j) p)
  pub associates : T (associates (suc j) p)
  pub has_one : T (has_one (suc j) p)
  pub has_inverses : T (has_inverses (suc j) p j)
  pub has_no_root : T (has_no_root (suc j) p m)

-- ---- the laws, of numbers

module _ (k p : ℕ) (degree : Degree k p) where
  open product_bilinear k p use {left, right}

  comm : T (commutes k p) → (a b : ℕ) → a < 2 ^ k → b < 2 ^ k → times k p a b ≡ times k p b a
  unfolding commutes
  comm t =
      agree_twice bit_xor 0 xor_self (times k p) (λ a b. times k p b a) (product_bilinear k p) (record { left = right; right = left }) k
      (λ i j hi hj. eqb→eq _ _ (below_at k _ (below_at k _ t i hi) j hj))

  assoc : T (associates k p) → (a b c : ℕ) → a < 2 ^ k → b < 2 ^ k → c < 2 ^ k → times k p (times k p a b) c ≡ times k p a (times k p b c)
  unfolding associates
  assoc t a b c ha hb hc =
      agree_twice bit_xor 0 xor_self (λ x y. times k p (times k p x y) c) (λ x y. times k p x (times k p y c))
      (record {
        left = λ y x z. ap (λ n. times k p n c) (left y x z) ∙ left c (times k p x y) (times k p z y);
        right = λ x y z. ap (λ n. times k p n c) (right x y z) ∙ left c (times k p x y) (times k p x z);
      })
      (record {
        left = λ y. left (times k p y c);
        right = λ x y z. ap (times k p x) (left c y z) ∙ right x (times k p y c) (times k p z c);
      }) k
      (λ i j hi hj. agree bit_xor 0 xor_self (times k p (times k p (2 ^ i) (2 ^ j))) (λ z. times k p (2 ^ i) (times k p (2 ^ j) z))
      (right (times k p (2 ^ i) (2 ^ j)))
      (λ x y. ap (times k p (2 ^ i)) (right (2 ^ j) x y) ∙ right (2 ^ i) (times k p (2 ^ j) x) (times k p (2 ^ j) y)) k
      (λ l hl. eqb→eq _ _ (below_at k _ (below_at k _ (below_at k _ t i hi) j hj) l hl)) c hc) a b ha hb

  one : T (has_one k p) → (a : ℕ) → a < 2 ^ k → times k p a 1 ≡ a
  unfolding has_one
  one t = agree bit_xor 0 xor_self (λ x. times k p x 1) (λ x. x) (left 1) (λ a b. refl) k (λ i hi. eqb→eq _ _ (below_at k _ t i hi))

-- A number that is 0, or not.
pub zero_or : (n : ℕ) (x : Bool) → T (n == 0 || x) → (n ≢ 0) → T x
zero_or zero x t ne = absurd (ne refl)
zero_or (suc n) x t ne = subst (λ b. T (b || x)) (eqb-suc-zero n) t

-- ---- the laws, of any type of words

module _ {E : Type 0} (value : E → ℕ) (make : ℕ → E) (j p m : ℕ) (words : Words value make (suc j)) (degree : Degree (suc j) p) (passed : Passed j p m) (small : m < 2 ^ suc j) where
  abbrev sum : E → E → E
  sum a b = make (bit_xor (value a) (value b))

  abbrev product : E → E → E
  product a b = make (times (suc j) p (value a) (value b))

  value_sum : (a b : E) → value (sum a b) ≡ bit_xor (value a) (value b)
  value_sum a b = words.made _ (xor_lt (suc j) (value a) (value b) (words.bounded a) (words.bounded b))

  value_product : (a b : E) → value (product a b) ≡ times (suc j) p (value a) (value b)
  value_product a b = words.made _ (product_lt (suc j) p degree (value a) (value b) (words.bounded a))

  value_zero : value (make 0) ≡ 0
  value_zero = words.made 0 (pow_pos (suc j))

  value_one : value (make 1) ≡ 1
  value_one = words.made 1 (lt_of_lt_of_le (lit< tt) (pow_mono {i = 1} {j = suc j} (omega arith)))

  -- An equation between values that holds gives an equation between elements.
  same_value : (n : ℕ) (a b : E) → value a ≡ n → value b ≡ n → a ≡ b
  same_value n a b p q = words.injective a b (p ∙ sym q)

  product_comm : (a b : E) → product a b ≡ product b a
  product_comm a b = ap make (comm (suc j) p degree passed.commutes (value a) (value b) (words.bounded a) (words.bounded b))

  product_assoc : (a b c : E) → product (product a b) c ≡ product a (product b c)
  product_assoc a b c =
      ap make (ap (λ n. times (suc j) p n (value c)) (value_product a b)
      ∙ assoc (suc j) p degree passed.associates (value a) (value b) (value c) (words.bounded a) (words.bounded b) (words.bounded c)
      ∙ ap (times (suc j) p (value a)) (sym (value_product b c)))

  product_one : (a : E) → product a (make 1) ≡ a
  product_one a =
      same_value (value a) _ _ (value_product a (make 1) ∙ ap (times (suc j) p (value a)) value_one ∙ one (suc j) p degree passed.has_one (value a) (words.bounded a)) refl

  value_squares : (i : ℕ) (a : E) → value (squares product (make 1) i a) ≡ squares (times (suc j) p) 1 i (value a)
  unfolding squares
  value_squares zero a = value_one
  value_squares (suc i) a =
      value_product (product a a) (squares product (make 1) i (product a a))
      ∙ ap₂ (times (suc j) p) (value_product a a) (value_squares i (product a a) ∙ ap (squares (times (suc j) p) 1 i) (value_product a a))

  abbrev inverse : E → E
  inverse = power product (make 1) (2 ^ suc j - 2)

  inverts : (a : E) → (a ≢ make 0) → product a (inverse a) ≡ make 1
  unfolding has_inverses
  inverts a ne =
      same_value 1 _ _
      (value_product a (inverse a)
      ∙ ap (times (suc j) p (value a)) (ap value (sym (squares_is_power product (make 1) product_assoc product_comm product_one j a)) ∙ value_squares j a)
      ∙ eqb→eq _ _ (zero_or (value a) _ (below_at (2 ^ suc j) _ passed.has_inverses (value a) (words.bounded a)) (λ e. ne (same_value 0 _ _ e value_zero))))
      value_one

  product_zero : (b : E) → product (make 0) b ≡ make 0
  product_zero b =
      ap make (ap (λ n. times (suc j) p n (value b)) value_zero ∙ additive_zero bit_xor 0 xor_self (λ n. times (suc j) p n (value b)) ((product_bilinear (suc j) p).left (value b)))

  inverse_zero : (e : ℕ) → 2 ^ suc j - 2 ≡ suc e → inverse (make 0) ≡ make 0
  unfolding power
  inverse_zero e is = ap (λ n. power product (make 1) n (make 0)) is ∙ product_zero (power product (make 1) e (make 0))

  pub residue_laws : (e : ℕ) → 2 ^ suc j - 2 ≡ suc e → FieldLaws (make 0) (make 1) (make m) sum product inverse (λ a b. nat_eq (value a) (value b))
  unfolding has_no_root
  residue_laws e is = record {
    sum_comm = λ a b. ap make (xor_comm (value a) (value b));
    sum_assoc = λ a b c. ap make (ap (λ n. bit_xor n (value c)) (value_sum a b) ∙ xor_assoc (value a) (value b) (value c) ∙ ap (bit_xor (value a)) (sym (value_sum b c)));
    sum_zero = λ a. same_value (value a) _ _ (value_sum a (make 0) ∙ ap (bit_xor (value a)) value_zero ∙ xor_zero_r (value a)) refl;
    sum_self = λ a. ap make (xor_self (value a));
    product_comm = product_comm;
    product_assoc = product_assoc;
    product_one = product_one;
    distributes = λ a b c.
        ap make (ap (times (suc j) p (value a)) (value_sum b c) ∙ (product_bilinear (suc j) p).right (value a) (value b) (value c)
        ∙ ap₂ bit_xor (sym (value_product a b)) (sym (value_product a c)));
    zero_is_not_one = λ h. let z : ◌≡◌ {A = ℕ} 0 1 = sym value_zero ∙ ap value h ∙ value_one in omega arith;
    inverse_zero = inverse_zero e is;
    inverts = inverts;
    no_root = λ t h.
        T_not _ (below_at (2 ^ suc j) _ passed.has_no_root (value t) (words.bounded t))
        (subst (λ n. T (n == m)) (sym (ap value h ∙ words.made m small) ∙ value_sum (product t t) t ∙ ap (λ n. bit_xor n (value t)) (value_product t t)) (eqb_refl m));
    same_means = λ a b h. words.injective a b (eqb-true (value a) (value b) h);
    same_holds = λ a b h. eq-eqb (value a) (value b) (ap value h);
  }
