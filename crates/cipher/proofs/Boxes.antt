-- The S-box and its inverse undo each other. Assumes nothing.
use Rattle.std.proofs.Common.{◌≡◌, ℕ, ◌<◌, Bool, T, eqb, ltb, sym, ap, ◌∙◌, eqb→eq, ltb→lt}
use Rattle.fields.specs.Bytes.{byte, byte_inverse}
use Rattle.fields.specs.Laws.{FieldLaws}
use Rattle.fields.specs.Polynomials.{coefficient}
use Rattle.fields.specs.declared.byte.Byte.{Byte}
use Rattle.fields.specs.Additive.{below, below_at}
use Rattle.fields.specs.FieldFacts.{equal?, inverse_unique, product_comm}
use Rattle.fields.specs.WordLaws.{byte_laws, byte-value, byte_of-value, value_lt}
use Rattle.cipher.specs.Fips197.{from_bits, affine, inv_affine, s_box, inv_s_box}
use Rattle.cipher.specs.Undo.{BoxesUndo}

-- The inverse of the inverse, in any field.
module _ {F : Type 0} {zero one marker : F} {sum product : F → F → F} {inverse : F → F} {same : F → F → Bool} (laws : FieldLaws zero one marker sum product inverse same) where
  pub inverse_twice : (a : F) → inverse (inverse a) ≡ a
  inverse_twice a = elim (equal? laws a zero) [ yes z ↦ at_zero z | no n ↦ sym (inverse_unique laws (inverse a) a (product_comm laws (inverse a) a ∙ laws.inverts a n)) ]
    where
      at_zero : a ≡ zero → inverse (inverse a) ≡ a
      at_zero z = ap (λ x. inverse (inverse x)) z ∙ ap inverse laws.inverse_zero ∙ laws.inverse_zero ∙ sym z

-- ---- the affine map and its inverse, at every byte

-- f takes bytes to bytes, and g takes each back.
abbrev undone : (f g : ℕ → ℕ) → Bool
undone f g = below 256 (λ n. eqb (g (f n)) n)

abbrev small : (ℕ → ℕ) → Bool
small f = below 256 (λ n. ltb (f n) 256)

undone_forth : T (undone affine inv_affine)
unfolding below affine inv_affine from_bits coefficient
undone_forth = tt

undone_back : T (undone inv_affine affine)
unfolding below affine inv_affine from_bits coefficient
undone_back = tt

small-affine : T (small affine)
unfolding below affine from_bits coefficient
small-affine = tt

small-inv_affine : T (small inv_affine)
unfolding below inv_affine from_bits coefficient
small-inv_affine = tt

pub affine_lt : (n : ℕ) → n < 256 → affine n < 256
affine_lt n h = ltb→lt _ _ (below_at 256 _ small-affine n h)

-- Where g takes back the bytes to which f takes bytes, so it does as a map of bytes.
taken_back : (f g : ℕ → ℕ) → T (small f) → T (undone f g) → (b : Byte) → byte (g (byte (f b.value)).value) ≡ b
taken_back f g s u b =
    ap (λ n. byte (g n)) (byte-value _ (ltb→lt _ _ (below_at 256 _ s b.value (value_lt b))))
    ∙ ap byte (eqb→eq _ _ (below_at 256 _ u b.value (value_lt b))) ∙ byte_of-value b

pub boxes_undo : BoxesUndo
unfolding s_box inv_s_box
boxes_undo = record {
  back = λ b. ap byte_inverse (taken_back affine inv_affine small-affine undone_forth (byte_inverse b)) ∙ inverse_twice byte_laws b;
  forth = λ b.
      ap (λ (a : Byte). byte (affine a.value)) (inverse_twice byte_laws (byte (inv_affine b.value)))
      ∙ taken_back inv_affine affine small-inv_affine undone_back b;
}
