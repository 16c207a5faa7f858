-- The two numbers of a refusal: which it is, and a value. Assumes nothing.
use Rattle.std.specs.Prelude.{ℕ}
use Rattle.routes.specs.declared.refusal.Refusal.{Refusal}
use Rattle.routes.specs.declared.refusal.Refusal.TheVariants.{KeyLength, NoKey, BlockLength, RunLength, Remaining, Inversions, PrefixLength, OpeningNumber, StartingTally}

abbrev pub number : Refusal → ℕ
number (KeyLength n) = 1
number NoKey = 2
number (BlockLength n) = 3
number (RunLength n) = 4
number (Remaining n) = 5
number (Inversions n) = 6
number (PrefixLength n) = 7
number (OpeningNumber n) = 8
number (StartingTally n) = 9

abbrev pub value : Refusal → ℕ
value (KeyLength n) = n
value NoKey = 0
value (BlockLength n) = n
value (RunLength n) = n
value (Remaining n) = n
value (Inversions n) = n
value (PrefixLength n) = n
value (OpeningNumber n) = n
value (StartingTally n) = n

-- A refusal by its two numbers.
abbrev pub numbers : Refusal → ℕ × ℕ
numbers r = (number r, value r)
