-- How often a function asks a route: facts about a call and not about a value, so no type carries them. Assumes nothing.
use Rattle.std.specs.Prelude.{◌≡◌, ℕ, ◌+◌, ◌≤◌, List}
use Rattle.routes.specs.Routes.{cap}

-- A route may be asked n times.
abbrev pub CanAsk : {R : Type 0} → (R → ℕ) → R → ℕ → Type 0
CanAsk tally route n = tally route + n ≤ cap

-- A route was asked n times, and keeps its name.
pub record AskedTimes {R : Type 0} (tally : R → ℕ) (name : R → List ℕ) (before after : R) (n : ℕ) : Type 0 where
  pub counted : tally after ≡ tally before + n
  pub named : name after ≡ name before
