-- Why a·s·s + s inverts a where a·s is a cube root of one, and s does where that is zero. Assumes nothing.
use Rattle.std.proofs.Common.{◌≡◌, Bool, sym, ap, ◌∙◌, ⊎_elim}
use Rattle.fields.specs.Laws.{FieldLaws}
use Rattle.fields.specs.FieldFacts.{ring, no_zero_divisors, equal_of_zero_sum, one_product, product_zero}

module _ {F : Type 0} {zero one marker : F} {sum product : F → F → F} {inverse : F → F} {same : F → F → Bool} (laws : FieldLaws zero one marker sum product inverse same) where
  -- (c + 1)(cc + c + 1) = ccc + 1
  factored : (c : F) → product (sum c one) (sum (sum (product c c) c) one) ≡ sum (product (product c c) c) one
  factored c = simp (ring, laws)

  -- a(ass + s) = cc + c, where c = as
  scaled : (a s : F) → product a (sum (product (product a s) s) s) ≡ sum (product (product a s) (product a s)) (product a s)
  scaled a s = simp (ring, laws)

  -- the twist of zero
  pub zero_twist : (a : F) → sum (product (product a zero) zero) zero ≡ zero
  zero_twist a = simp (ring, laws)

  module _ (a s : F) (cube : product (product (product a s) (product a s)) (product a s) ≡ one) where
    abbrev twist : F
    twist = sum (product (product a s) s) s

    -- c = 1 makes the twist zero
    one_twist : product a s ≡ one → twist ≡ zero
    one_twist e = ap (λ c. sum (product c s) s) e ∙ ap (λ x. sum x s) (one_product laws s) ∙ laws.sum_self s

    other_twist : sum (sum (product (product a s) (product a s)) (product a s)) one ≡ zero → product a twist ≡ one
    other_twist e = scaled a s ∙ equal_of_zero_sum laws _ _ e

    pub cube_cases : (P : Type 0) → (product a s ≡ one → twist ≡ zero → P) → (product a twist ≡ one → P) → P
    cube_cases P f g =
        ⊎_elim (λ z. let e = equal_of_zero_sum laws (product a s) one z in f e (one_twist e)) (λ z. g (other_twist z))
        (no_zero_divisors laws _ _ (factored (product a s) ∙ ap (λ x. sum x one) cube ∙ laws.sum_self one))

    pub twist_zero : twist ≡ zero → product a s ≡ one
    twist_zero z = cube_cases (product a s ≡ one) (λ e _. e) (λ e. absurd (laws.zero_is_not_one (sym (product_zero laws a) ∙ ap (product a) (sym z) ∙ e)))

    pub twist_inverts : (twist ≡ zero → ⊥) → product a twist ≡ one
    twist_inverts n = cube_cases (product a twist ≡ one) (λ _ z. absurd (n z)) (λ e. e)
