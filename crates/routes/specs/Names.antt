-- The names of the five routes. Assumes nothing.
use Rattle.std.specs.Prelude.{◌≡◌, ℕ, cond, ◌==◌, List, codes, Option, Some, None, Result, Ok, Err, MatchOption, ◌≢◌}
use Rattle.routes.specs.declared.name.RouteName.{RouteName}
use Rattle.routes.specs.declared.name.RouteName.TheVariants.{Power, Split, Table, NibblePair, BitTower}

abbrev pub name_text : RouteName → List ℕ
name_text Power = codes "power"
name_text Split = codes "split"
name_text Table = codes "table"
name_text NibblePair = codes "nibble-pair"
name_text BitTower = codes "bit-tower"

-- A text names the route whose name it is, or none where it is no route's name.
abbrev pub Named : List ℕ → Option RouteName → Type 0
Named text r = MatchOption r ((n : RouteName) → text ≢ name_text n) (λ n. text ≡ name_text n)

-- What a conversion gave, if it gave something.
abbrev pub ok_of : {A E : Type 0} → Result A E → Option A
ok_of (Ok a) = Some a
ok_of (Err e) = None

-- 0 is power, 1 split, 2 table, 3 nibble-pair, 4 bit-tower; any other number names none.
abbrev pub route_at : ℕ → Option RouteName
route_at n =
    cond (n == 0) (Some Power)
    (cond (n == 1) (Some Split)
    (cond (n == 2) (Some Table)
    (cond (n == 3) (Some NibblePair)
    (cond (n == 4) (Some BitTower) None))))
