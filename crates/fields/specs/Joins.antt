-- An additive map given by its columns joins a field that is read as bytes to the byte field, where some tests come out. Assumes nothing.
use Rattle.std.specs.Prelude.{◌≡◌, ℕ, zero, suc, ◌*◌, ◌%◌, ◌^◌, ◌<◌, Bool, true, false, T, List, bit_xor, nat_eq, nat_lt, slice_index, refl}
use Rattle.std.proofs.Common.{sym, ap₂, ◌∙◌, arith, eqb→eq, ltb→lt, pow_pos}
use Rattle.std.proofs.Math.Path.{ap}
use Rattle.std.proofs.Math.Nat.{mod-eq_of_lt}
use Rattle.std.specs.Int.Bits.{xor_self}
use Rattle.std.proofs.lemmas.Nat.{xor_lt}
use Rattle.fields.specs.Bytes.{byte, byte_sum, byte_product}
use Rattle.fields.specs.Laws.{FieldLaws}
use Rattle.fields.specs.Matrices.{first_columns, by_columns}
use Rattle.fields.specs.Polynomials.{coefficient, product_modulo}
use Rattle.fields.specs.Towers.{JoinsBytes}
use Rattle.fields.specs.declared.byte.Byte.{Byte}
use Rattle.fields.specs.Additive.{Additive, agree, agree_twice, below, below_at, coefficient_lt, swap_middle, bit_times_lt}
use Rattle.fields.specs.Division.{term_xor, product_bilinear, product_lt}
use Rattle.fields.specs.FieldFacts.{right_distributes}
use Rattle.fields.specs.Readings.{Readable}
use Rattle.fields.specs.WordLaws.{byte_path, byte_degree, value_lt}

pub columns_additive : (i : ℕ) (columns : List ℕ) → Additive bit_xor (first_columns i columns)
unfolding first_columns
columns_additive zero columns a b = refl
columns_additive (suc i) columns a b =
    ap₂ bit_xor (columns_additive i columns a b) (term_xor i (slice_index columns i) a b)
    ∙ swap_middle (first_columns i columns a) (first_columns i columns b) (coefficient i a * slice_index columns i) (coefficient i b * slice_index columns i)

columns_lt : (i : ℕ) (columns : List ℕ) → ((j : ℕ) → j < i → slice_index columns j < 256) → (n : ℕ) → first_columns i columns n < 256
unfolding first_columns
columns_lt zero columns h n = pow_pos 8
columns_lt (suc i) columns h n =
    xor_lt 8 (first_columns i columns n) (coefficient i n * slice_index columns i) (columns_lt i columns (λ j l. h j (omega arith)) n)
    (bit_times_lt 8 (coefficient i n) (slice_index columns i) (coefficient_lt i n) (h i (omega arith)))

T_true : (b : Bool) → T b → b ≡ true
T_true true t = refl
T_true false t = absurd t

-- ---- the tests: entries below 256, the two matrices undo each other, products go to products

unfoldable pub small_columns : List ℕ → Bool
small_columns columns = below 8 (λ i. nat_lt (slice_index columns i) 256)

unfoldable pub undone : List ℕ → List ℕ → Bool
undone columns back = below 8 (λ i. nat_eq (by_columns back (by_columns columns (2 ^ i))) (2 ^ i))

unfoldable pub multiplies : {F : Type 0} → (F → F → F) → (F → F → Bool) → (ℕ → F) → List ℕ → Bool
multiplies product same make columns =
    below 8 (λ i. below 8 (λ j.
    same (make (by_columns columns (product_modulo 8 0x11B (2 ^ i) (2 ^ j))))
    (product (make (by_columns columns (2 ^ i))) (make (by_columns columns (2 ^ j))))))

pub record Tested {F : Type 0} (product : F → F → F) (same : F → F → Bool) (make : ℕ → F) (columns back : List ℕ) : Type 0 where
  pub small : T (small_columns columns)
  pub small_back : T (small_columns back)
  pub forth : T (undone columns back)
  pub and_back : T (undone back columns)
  pub multiplied : T (multiplies product same make columns)

image_lt : (columns : List ℕ) → T (small_columns columns) → (n : ℕ) → by_columns columns n < 256
unfolding small_columns
image_lt columns t = columns_lt 8 columns (λ j h. ltb→lt _ _ (below_at 8 _ t j h))

undone-at : (columns back : List ℕ) → T (undone columns back) → (n : ℕ) → n < 256 → by_columns back (by_columns columns n) ≡ n
unfolding undone
undone-at columns back t =
    agree bit_xor 0 xor_self (λ n. by_columns back (by_columns columns n)) (λ n. n)
    (λ a b. ap (by_columns back) (columns_additive 8 columns a b) ∙ columns_additive 8 back (by_columns columns a) (by_columns columns b))
    (λ a b. refl) 8 (λ i h. eqb→eq _ _ (below_at 8 _ t i h))

module _ {F : Type 0} {zero one marker : F} {sum product : F → F → F} {inverse : F → F} {same : F → F → Bool}
    (laws : FieldLaws zero one marker sum product inverse same) (read : F → ℕ) (make : ℕ → F) (readable : Readable sum read make 8)
    (columns back : List ℕ) (tested : Tested product same make columns back) where
  abbrev image : ℕ → F
  image n = make (by_columns columns n)

  abbrev into : Byte → F
  into b = image b.value

  abbrev out : F → Byte
  out x = byte (by_columns back (read x))

  image_additive : Additive sum image
  image_additive a b = ap make (columns_additive 8 columns a b) ∙ readable.additive (by_columns columns a) (by_columns columns b)

  out_into : (b : Byte) → out (into b) ≡ b
  unfolding byte
  out_into b =
      byte_path _ b
      (ap (λ n. by_columns back n % 256) (readable.read_made _ (image_lt columns tested.small b.value))
      ∙ ap (λ n. n % 256) (undone-at columns back tested.forth b.value (value_lt b)) ∙ mod-eq_of_lt (value_lt b))

  into_out : (x : F) → into (out x) ≡ x
  unfolding byte
  into_out x =
      ap image (mod-eq_of_lt (image_lt back tested.small_back (read x)))
      ∙ ap make (undone-at back columns tested.and_back (read x) (readable.bounded x)) ∙ readable.made_read x

  into_sum : (a b : Byte) → into (byte_sum a b) ≡ sum (into a) (into b)
  unfolding byte
  into_sum a b = ap image (mod-eq_of_lt (xor_lt 8 a.value b.value (value_lt a) (value_lt b))) ∙ image_additive a.value b.value

  image_product : (a b : ℕ) → a < 256 → b < 256 → image (product_modulo 8 0x11B a b) ≡ product (image a) (image b)
  unfolding multiplies
  image_product =
      agree_twice sum zero laws.sum_self (λ a b. image (product_modulo 8 0x11B a b)) (λ a b. product (image a) (image b))
      (record {
        left = λ b a c. ap image ((product_bilinear 8 0x11B).left b a c) ∙ image_additive _ _;
        right = λ a b c. ap image ((product_bilinear 8 0x11B).right a b c) ∙ image_additive _ _;
      })
      (record {
        left = λ b a c. ap (λ x. product x (image b)) (image_additive a c) ∙ right_distributes laws (image a) (image c) (image b);
        right = λ a b c. ap (product (image a)) (image_additive b c) ∙ laws.distributes (image a) (image b) (image c);
      }) 8
      (λ i j hi hj. laws.same_means _ _ (T_true _ (below_at 8 _ (below_at 8 _ tested.multiplied i hi) j hj)))

  into_product : (a b : Byte) → into (byte_product a b) ≡ product (into a) (into b)
  unfolding byte
  into_product a b =
      ap image (mod-eq_of_lt (product_lt 8 0x11B byte_degree a.value b.value (value_lt a))) ∙ image_product a.value b.value (value_lt a) (value_lt b)

  -- what into carries, out carries back
  carried : (op : F → F → F) (bop : Byte → Byte → Byte) → ((a b : Byte) → into (bop a b) ≡ op (into a) (into b)) → (x y : F) → out (op x y) ≡ bop (out x) (out y)
  carried op bop law x y = ap out (sym (law (out x) (out y) ∙ ap₂ op (into_out x) (into_out y))) ∙ out_into (bop (out x) (out y))

  pub joins : JoinsBytes sum product into out
  joins = record {
    out_into = out_into;
    into_out = into_out;
    into_sum = into_sum;
    into_product = into_product;
    out_sum = carried sum byte_sum into_sum;
    out_product = carried product byte_product into_product;
  }
