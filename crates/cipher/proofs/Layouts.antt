-- What arrays of bytes hold once functions have made them. Assumes nothing.
use Rattle.std.proofs.Common.{◌≡◌, ℕ, ◌<◌, List, [], ◌∷◌, get_or, ap, ◌∙◌, lit<}
use Rattle.fields.specs.Bytes.{byte}
use Rattle.fields.specs.declared.byte.Byte.{Byte}
use Rattle.fields.specs.WordLaws.{byte_of-value}
use Rattle.cipher.specs.Fips197.{Word, word, word_at, word_of, state_of, word_bytes, state, each_byte, each_column}
use Rattle.cipher.specs.Layout.{columns_state}
use Rattle.cipher.proofs.Expansions.{word_again}

-- Four arrays that hold the bytes of words hold the state of these.
pub columns_of : (a b c d : List ℕ) (u v w x : Word) → a ≡ word_bytes u → b ≡ word_bytes v → c ≡ word_bytes w → d ≡ word_bytes x → columns_state (a ∷ b ∷ c ∷ d ∷ []) ≡ state_of u v w x
unfolding columns_state
columns_of a b c d u v w x p q r s = λ i. state_of ((ap word p ∙ word_again u) i) ((ap word q ∙ word_again v) i) ((ap word r ∙ word_again w) i) ((ap word s ∙ word_again x) i)

-- Sixteen bytes that are each the value of a map at those before hold the state with the map at each byte.
pub state_mapped : (f : Byte → Byte) (before after : List ℕ) → ((i : ℕ) → i < 16 → get_or after i 0 ≡ (f (byte (get_or before i 0))).value) → state after ≡ each_column (each_byte f) (state before)
unfolding state word_at
state_mapped f before after h = λ i. state_of (word_of (at 0 (lit< tt) i) (at 1 (lit< tt) i) (at 2 (lit< tt) i) (at 3 (lit< tt) i)) (word_of (at 4 (lit< tt) i) (at 5 (lit< tt) i) (at 6 (lit< tt) i) (at 7 (lit< tt) i)) (word_of (at 8 (lit< tt) i) (at 9 (lit< tt) i) (at 10 (lit< tt) i) (at 11 (lit< tt) i)) (word_of (at 12 (lit< tt) i) (at 13 (lit< tt) i) (at 14 (lit< tt) i) (at 15 (lit< tt) i))
  where
    at : (k : ℕ) → k < 16 → byte (get_or after k 0) ≡ f (byte (get_or before k 0))
    at k l = ap byte (h k l) ∙ byte_of-value (f (byte (get_or before k 0)))

-- Four arrays that each hold the bytes of a map at the word of the array before hold the state with the map at each column.
pub state_of_mapped : (f : Word → Word) (before after : List (List ℕ)) → ((i : ℕ) → i < 4 → get_or after i [] ≡ word_bytes (f (word (get_or before i [])))) → columns_state after ≡ each_column f (columns_state before)
unfolding columns_state
state_of_mapped f before after h = λ i. state_of (at 0 (lit< tt) i) (at 1 (lit< tt) i) (at 2 (lit< tt) i) (at 3 (lit< tt) i)
  where
    at : (k : ℕ) → k < 4 → word (get_or after k []) ≡ f (word (get_or before k []))
    at k l = ap word (h k l) ∙ word_again (f (word (get_or before k [])))
