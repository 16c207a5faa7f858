-- What the words of a command mean: bytes, numbers, and how a line is parted into words. Assumes nothing.
use Rattle.std.specs.Prelude.{◌≡◌, ℕ, ◌+◌, ◌-◌, ◌*◌, ◌^◌, ◌<◌, true, cond, ◌&&◌, ◌⊎◌, List, [], ◌∷◌, ◌++◌, length, take, drop, Some, None, Option, ◌==◌, ◌≢◌, nat_le, slice_index}
use Rattle.std.specs.Str.{NoCharPasses, EmptyOrStartsWithPassing, EmptyOrEndsWithPassing, all_ascii_digits}
use Rattle.std.specs.Char.{is_not_whitespace}

-- ---- bytes

-- The value of a hexadecimal digit, in either case, by its character's code.
abbrev pub digit_of : ℕ → Option ℕ
digit_of c =
    cond (nat_le 48 c && nat_le c 57) (Some (c - 48))
    (cond (nat_le 65 c && nat_le c 70) (Some (c - 55))
    (cond (nat_le 97 c && nat_le c 102) (Some (c - 87)) None))

-- Two digits, the higher first.
abbrev pub joined : Option ℕ → Option ℕ → Option ℕ
joined None l = None
joined (Some h) None = None
joined (Some h) (Some l) = Some (h * 16 + l)

-- A byte is written as exactly two digits.
abbrev pub byte_of : List ℕ → Option ℕ
byte_of text = cond (length text == 2) (joined (digit_of (slice_index text 0)) (digit_of (slice_index text 1))) None

-- A byte before bytes, where both are there.
abbrev pub before : Option ℕ → Option (List ℕ) → Option (List ℕ)
before None bs = None
before (Some b) None = None
before (Some b) (Some bs) = Some (b ∷ bs)

-- Bytes are written as two digits each, one after the other, and nothing else.
unfoldable pub spelt : List ℕ → Option (List ℕ)
spelt [] = Some []
spelt (h ∷ []) = None
spelt (h ∷ l ∷ text) = before (joined (digit_of h) (digit_of l)) (spelt text)

-- The first n bytes of a list are written as the first 2n digits of a text.
abbrev pub SpellsFirst : ℕ → List ℕ → List ℕ → Type 0
SpellsFirst n text bytes =
    (length bytes ≡ n) × ((i : ℕ) → i < n → joined (digit_of (slice_index text (2 * i))) (digit_of (slice_index text (2 * i + 1))) ≡ Some (slice_index bytes i))

-- A text spells bytes: two digits for each, and nothing left over.
abbrev pub Spells : List ℕ → List ℕ → Type 0
Spells text bytes = SpellsFirst (length bytes) text bytes × (length text ≡ 2 * length bytes)

-- A run of bytes as a word: a dash for no bytes, or at least one byte.
abbrev pub run_word : List ℕ → Option (List ℕ)
run_word text = cond (length text == 0) None (cond (length text == 1 && slice_index text 0 == 45) (Some []) (spelt text))

-- ---- numbers

abbrev pub read_on : ℕ → List ℕ → ℕ
read_on n [] = n
read_on n (c ∷ text) = read_on (10 * n + (c - 48)) text

-- A text writes a number: one or more decimal digits, and below 2^64.
abbrev pub Writes : List ℕ → Type 0
Writes text = (all_ascii_digits text ≡ true) × (0 < length text) × (read_on 0 text < 2 ^ 64)

-- The number that a text writes, or none where it writes none.
abbrev pub NumberRead : List ℕ → Option ℕ → Type 0
NumberRead text (Some n) = Writes text × (n ≡ read_on 0 text)
NumberRead text None = Writes text → ⊥

-- ---- words

-- What is left of a text without the white space at both ends.
abbrev pub Trimmed : List ℕ → List ℕ → Type 0
Trimmed text t =
    (m : ℕ) × (n : ℕ) × (t ≡ take n (drop m text)) × NoCharPasses is_not_whitespace (take m text) × NoCharPasses is_not_whitespace (drop n (drop m text)) × ((rest : List ℕ) × EmptyOrStartsWithPassing is_not_whitespace t rest) × EmptyOrEndsWithPassing is_not_whitespace t

-- No character of a text is a space.
abbrev pub Solid : List ℕ → Type 0
Solid text = (i : ℕ) → i < length text → slice_index text i ≢ 32

-- The first word of a text, up to a space, and the rest, both without white space around them.
pub record Parted (text word rest : List ℕ) : Type 0 where
  pub trimmed : List ℕ
  pub trims : Trimmed text trimmed
  pub solid : Solid word
  pub parts : ((word ≡ trimmed) × (rest ≡ [])) ⊎ ((after : List ℕ) × (trimmed ≡ word ++ (32 ∷ after)) × Trimmed after rest)
