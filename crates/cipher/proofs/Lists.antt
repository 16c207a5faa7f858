-- Lists written out. Assumes nothing.
use Rattle.std.proofs.Common.{◌≡◌, List, [], ◌∷◌}

-- Four equal parts, equal lists.
pub four : {A : Type 0} {a a' b b' c c' d d' : A} → a ≡ a' → b ≡ b' → c ≡ c' → d ≡ d' → ◌≡◌ {A = List A} (a ∷ b ∷ c ∷ d ∷ []) (a' ∷ b' ∷ c' ∷ d' ∷ [])
four p q r s = λ i. p i ∷ q i ∷ r i ∷ s i ∷ []
