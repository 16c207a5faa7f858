use Rattle.std.proofs.Common.{ℕ, List, [], ◌∷◌, get_or}
use Rattle.cipher.specs.Fips197.{word_bytes, state_bytes}
use Rattle.cipher.specs.Layout.{columns_state}
use Rattle.cipher.proofs.state.to_bytes.Goals as goal

-- four of each of four lists
joined : List ℕ → List ℕ → List ℕ → List ℕ → List ℕ
joined h k m n =
    get_or h 0 0 ∷ get_or h 1 0 ∷ get_or h 2 0 ∷ get_or h 3 0 ∷ get_or k 0 0 ∷ get_or k 1 0 ∷ get_or k 2 0 ∷ get_or k 3 0
    ∷ get_or m 0 0 ∷ get_or m 1 0 ∷ get_or m 2 0 ∷ get_or m 3 0 ∷ get_or n 0 0 ∷ get_or n 1 0 ∷ get_or n 2 0 ∷ get_or n 3 0 ∷ []

pub returns : goal.returns
unfolding joined columns_state state_bytes word_bytes
returns c = λ i. joined (c.plain-a.ensures i) (c.plain-b.ensures i) (c.plain-c.ensures i) (c.plain-d.ensures i)
