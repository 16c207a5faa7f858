-- What a map that joins a field to the byte field also carries: zero, one and inverses. Assumes nothing.
use Rattle.std.proofs.Common.{◌≡◌, Bool, sym, ap, ◌∙◌}
use Rattle.fields.specs.Bytes.{byte, byte_product, byte_inverse}
use Rattle.fields.specs.Laws.{FieldLaws}
use Rattle.fields.specs.Towers.{JoinsBytes}
use Rattle.fields.specs.declared.byte.Byte.{Byte}
use Rattle.fields.specs.FieldFacts.{equal?, inverse_unique, inverse_unique_zero, one_product}
use Rattle.fields.specs.WordLaws.{byte_laws}

module _ {F : Type 0} {zero one marker : F} {sum product : F → F → F} {inverse : F → F} {same : F → F → Bool} {into : Byte → F} {out : F → Byte}
    (laws : FieldLaws zero one marker sum product inverse same) (joined : JoinsBytes sum product into out) where
  pub into_zero : into (byte 0) ≡ zero
  into_zero = ap into (sym (byte_laws.sum_self (byte 0))) ∙ joined.into_sum (byte 0) (byte 0) ∙ laws.sum_self (into (byte 0))

  pub into_one : into (byte 1) ≡ one
  into_one =
      sym (one_product laws (into (byte 1))) ∙ ap (λ x. product x (into (byte 1))) (sym (joined.into_out one))
      ∙ sym (joined.into_product (out one) (byte 1)) ∙ ap into (byte_laws.product_one (out one)) ∙ joined.into_out one

  pub out_zero : out zero ≡ byte 0
  out_zero = ap out (sym into_zero) ∙ joined.out_into (byte 0)

  pub out_one : out one ≡ byte 1
  out_one = ap out (sym into_one) ∙ joined.out_into (byte 1)

  -- Through the map the field's inverse is the byte field's.
  pub out_inverse : (b : Byte) → out (inverse (into b)) ≡ byte_inverse b
  out_inverse b = elim (equal? byte_laws b (byte 0)) [ yes z ↦ at_zero z | no n ↦ elsewhere n ]
    where
      at_zero : b ≡ byte 0 → out (inverse (into b)) ≡ byte_inverse b
      at_zero z = inverse_unique_zero byte_laws b _ z (ap (λ a. out (inverse (into a))) z ∙ ap (λ x. out (inverse x)) into_zero ∙ ap out laws.inverse_zero ∙ out_zero)

      elsewhere : (b ≡ byte 0 → ⊥) → out (inverse (into b)) ≡ byte_inverse b
      elsewhere n =
          inverse_unique byte_laws b _
          (ap (λ a. byte_product a (out (inverse (into b)))) (sym (joined.out_into b)) ∙ sym (joined.out_product (into b) (inverse (into b)))
          ∙ ap out (laws.inverts (into b) (λ e. n (sym (joined.out_into b) ∙ ap out e ∙ out_zero))) ∙ out_one)
