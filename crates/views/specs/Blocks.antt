-- A block turned once, on a fresh route. Assumes nothing.
use Rattle.std.specs.Prelude.{◌≡◌, ℕ, ◌+◌, ◌/◌, List, length, Some, None, vec_items, Option, Result, MatchResult}
use Rattle.cipher.specs.Engines.{block_verdict}
use Rattle.cipher.specs.Keys.{key_cost, key_rounds, key_verdict}
use Rattle.routes.specs.Refusals.{numbers}
use Rattle.routes.specs.declared.name.RouteName.{RouteName}
use Rattle.routes.specs.declared.refusal.Refusal.{Refusal}
use Rattle.sessions.specs.Exchanges.{first_of}
use Rattle.console.specs.Directions.{turned_by}
use Rattle.console.specs.declared.direction.Direction.{Direction}
use Rattle.views.specs.declared.turned.TurnedBlock.{TurnedBlock}

-- Why it is refused: the key first, then the block.
abbrev pub once_verdict : List ℕ → List ℕ → Option (ℕ × ℕ)
once_verdict key block = first_of (key_verdict (length key) 0) (block_verdict (Some key) (length block) (key_cost (length key)))

abbrev pub BlockTurned : Direction → RouteName → List ℕ → List ℕ → Result TurnedBlock Refusal → Type 0
BlockTurned direction route key block r =
    MatchResult r
    (λ t. (once_verdict key block ≡ None) × (t.direction ≡ direction) × (t.route ≡ route) × (vec_items t.block ≡ turned_by direction (length key / 4) key block) × (t.tally ≡ key_cost (length key) + key_rounds (length key)))
    (λ e. once_verdict key block ≡ Some (numbers e))
