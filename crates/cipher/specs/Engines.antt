-- What an engine holds, and what its calls promise. Assumes nothing.
use Rattle.std.specs.Prelude.{◌≡◌, ℕ, ◌+◌, ◌-◌, ◌/◌, true, cond, List, length, Some, None, Option, Result, MatchResult, ◌==◌, nat_le}
use Rattle.std.specs.Option.{option_map}
use Rattle.routes.specs.Refusals.{numbers}
use Rattle.routes.specs.Routes.{cap}
use Rattle.routes.specs.declared.refusal.Refusal.{Refusal}
use Rattle.cipher.specs.Keys.{key_length, key_rounds, key_cost, key_verdict}
use Rattle.cipher.specs.Schedules.{schedule_key}
use Rattle.cipher.specs.declared.engine.Engine.{Engine}

-- The key set, or none.
abbrev pub engine_key : {R : Type 0} → Engine R → Option (List ℕ)
engine_key e = option_map schedule_key e.schedule

-- Why a block of n bytes is refused: 2 with 0 where no key is set, then 3 with its length, then 6 with the inversions that are left; or it is
-- taken.
abbrev pub block_verdict : Option (List ℕ) → ℕ → ℕ → Option (ℕ × ℕ)
block_verdict None n tally = Some (2, 0)
block_verdict (Some key) n tally =
    cond (n == 16) (cond (nat_le (tally + key_rounds (length key)) cap) None (Some (6, cap - tally))) (Some (3, n))

-- What an engine tells of its headroom at a tally: the rounds that each block takes under the key set, and the inversions that are left; or none.
abbrev pub Headroom : Option (List ℕ) → ℕ → Option (ℕ × ℕ) → Type 0
Headroom None tally r = r ≡ None
Headroom (Some key) tally r = (key_length (length key) ≡ true) × (r ≡ Some (key_rounds (length key), cap - tally))

module _ {R : Type 0} (tally : R → ℕ) (before after : Engine R) where
  -- A key was set: it is the key now, and the tally rose by its cost; or it was refused, and the engine is as it was.
  abbrev pub KeySet : {X : Type 0} → List ℕ → Result X Refusal → Type 0
  KeySet key r =
      MatchResult r
      (λ _. (key_verdict (length key) (tally before.route) ≡ None) × (engine_key after ≡ Some key) × (tally after.route ≡ tally before.route + key_cost (length key)))
      (λ e. (key_verdict (length key) (tally before.route) ≡ Some (numbers e)) × (after ≡ before))

  -- A block was turned into another under the key set, one route call a round.
  abbrev pub TurnedBy : (ℕ → List ℕ → List ℕ → List ℕ) → Option (List ℕ) → List ℕ → List ℕ → Type 0
  TurnedBy turn None block block' = ⊥
  TurnedBy turn (Some key) block block' =
      (block' ≡ turn (length key / 4) key block) × (engine_key after ≡ Some key) × (tally after.route ≡ tally before.route + key_rounds (length key))

  -- A block was turned, or refused with block and engine as they were.
  abbrev pub Turned : {X : Type 0} → (ℕ → List ℕ → List ℕ → List ℕ) → List ℕ → List ℕ → Result X Refusal → Type 0
  Turned turn block block' r =
      MatchResult r
      (λ _. (block_verdict (engine_key before) (length block) (tally before.route) ≡ None) × TurnedBy turn (engine_key before) block block')
      (λ e. (block_verdict (engine_key before) (length block) (tally before.route) ≡ Some (numbers e)) × (after ≡ before) × (block' ≡ block))
