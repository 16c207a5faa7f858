-- Which way a block is turned. Assumes nothing.
use Rattle.std.specs.Prelude.{ℕ, List}
use Rattle.cipher.specs.Fips197.{aes, aes_inverse}
use Rattle.console.specs.declared.direction.Direction.{Direction}
use Rattle.console.specs.declared.direction.Direction.TheVariants.{Encrypt, Decrypt}

-- Forwards by the cipher, backwards by the inverse cipher.
abbrev pub turned_by : Direction → ℕ → List ℕ → List ℕ → List ℕ
turned_by Encrypt = aes
turned_by Decrypt = aes_inverse
