-- The exchange of the demonstration. Assumes nothing.
use Rattle.std.specs.Prelude.{◌≡◌, ℕ, List, [], ◌∷◌, map, codes, Result, MatchResult}
use Rattle.routes.specs.declared.name.RouteName.{RouteName}
use Rattle.sessions.specs.Calls.{Call, cover, skip, remaining}
use Rattle.sessions.specs.Exchanges.{call_in, run_in, BothRan}
use Rattle.sessions.specs.Histories.{SetUp}
use Rattle.sessions.specs.declared.call.SessionCall.{SessionCall}
use Rattle.sessions.specs.declared.ends.error.ExchangeError.{ExchangeError}
use Rattle.sessions.specs.declared.ends.error.ExchangeError.TheVariants.{Memory}
use Rattle.console.specs.declared.delivery.Delivery.{Delivery}

-- A reading of a tank.
abbrev pub reading : List ℕ
reading = codes "tank=fermenter 7; volume=212 hl"

abbrev pub delivery_calls : List Call
delivery_calls = remaining ∷ cover reading ∷ skip 6 ∷ skip 4294967296 ∷ remaining ∷ []

abbrev pub delivery_set_up : SetUp
delivery_set_up = record { key = codes "sixteen byte key"; prefix = codes "fermenter 07"; opening = 1000; starting = 500 }

abbrev pub CallsAre : List SessionCall → Type 0
CallsAre cs = map call_in cs ≡ delivery_calls

-- The run of the second call.
abbrev pub second_run : List SessionCall → List ℕ
second_run [] = []
second_run (a ∷ []) = []
second_run (a ∷ b ∷ cs) = run_in b

-- The reading went from one route to the other, as an exchange promises; or memory ran short.
abbrev pub DeliveryMade : RouteName → RouteName → Result Delivery ExchangeError → Type 0
DeliveryMade from to r =
    MatchResult r
    (λ d. (d.from ≡ from) × (d.to ≡ to) × ((cs : List SessionCall) × CallsAre cs × BothRan delivery_set_up cs d.ends.transmitter d.ends.gateway))
    (λ e. e ≡ Memory)
