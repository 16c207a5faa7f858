-- A block encrypted on one route and decrypted on another. Assumes nothing.
use Rattle.std.specs.Prelude.{◌≡◌, ℕ, List}
use Rattle.cipher.specs.Fips197.{aes}
use Rattle.views.specs.declared.round_trip.RoundTrip.{RoundTrip}

-- It comes back. Each route is asked ten times for the key of sixteen bytes, and once a round.
pub record CameBack (key plain : List ℕ) (t : RoundTrip) : Type 0 where
  pub block : t.block ≡ plain
  pub covered : t.covered ≡ aes 4 key plain
  pub back : t.back ≡ plain
  pub sent : t.sent ≡ 20
  pub read : t.read ≡ 20
