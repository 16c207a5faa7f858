-- The field of two elements keeps the laws. Assumes nothing.
use Rattle.std.specs.Prelude.{true, false, refl}
use Rattle.std.proofs.Common.{sym, ap}
use Rattle.std.proofs.lemmas.Bool.{false≢true}
use Rattle.fields.specs.declared.bit.Bit.{Bit}
use Rattle.fields.specs.Laws.{FieldLaws}
use Rattle.fields.specs.Bits.{bit, bit_sum, bit_product, bit_same}

-- What is tested of both elements holds of each.
both : (P : Bit → Type 0) → P (bit false) → P (bit true) → (a : Bit) → P a
both P f t a = elim a.value as (λ v. P (bit v)) [ false ↦ f | true ↦ t ]

pub bit_laws : FieldLaws (bit false) (bit true) (bit true) bit_sum bit_product (λ a. a) bit_same
bit_laws = record {
  sum_comm = both _ (both _ refl refl) (both _ refl refl);
  sum_assoc = both _ (both _ (both _ refl refl) (both _ refl refl)) (both _ (both _ refl refl) (both _ refl refl));
  sum_zero = both _ refl refl;
  sum_self = both _ refl refl;
  product_comm = both _ (both _ refl refl) (both _ refl refl);
  product_assoc = both _ (both _ (both _ refl refl) (both _ refl refl)) (both _ (both _ refl refl) (both _ refl refl));
  product_one = both _ refl refl;
  distributes = both _ (both _ (both _ refl refl) (both _ refl refl)) (both _ (both _ refl refl) (both _ refl refl));
  zero_is_not_one = λ e. false≢true (ap (λ x. x.value) e);
  inverse_zero = refl;
  inverts = both _ (λ n. absurd (n refl)) (λ n. refl);
  no_root = both _ (λ e. false≢true (ap (λ x. x.value) e)) (λ e. false≢true (ap (λ x. x.value) e));
  same_means = both _ (both _ (λ e. refl) (λ e. absurd (false≢true e))) (both _ (λ e. absurd (false≢true e)) (λ e. refl));
  same_holds = both _ (both _ (λ e. refl) (λ e. absurd (false≢true (ap (λ x. x.value) e)))) (both _ (λ e. absurd (false≢true (sym (ap (λ x. x.value) e)))) (λ e. refl));
}
