-- What a route does, by its tally, the number of times that it was asked. Assumes nothing.
use Rattle.std.specs.Prelude.{◌≡◌, ℕ, ◌+◌, ◌<◌, ◌≤◌, List, replicate, Result, MatchResult}
use Rattle.routes.specs.Inverting.{AllInvert}
use Rattle.routes.specs.Refusals.{numbers}
use Rattle.routes.specs.declared.refusal.Refusal.{Refusal}

-- The most that a tally comes to, 2^40.
abbrev pub cap : ℕ
cap = 1099511627776

-- Made with a starting tally, a route has it for its tally; one above the cap is refused, 9 with that tally.
abbrev pub Made : {R : Type 0} → (R → ℕ) → ℕ → Result R Refusal → Type 0
Made tally start r =
    MatchResult r (λ route. (start ≤ cap) × (tally route ≡ start)) (λ e. (cap < start) × (◌≡◌ {A = ℕ × ℕ} (numbers e) (9, start)))

-- Asked to invert sixteen bytes at a tally: below the cap it inverts each and counts one, at the cap it gives sixteen bytes 00.
pub record Asked (before after : List ℕ) (tally tally' : ℕ) : Type 0 where
  pub inverts : tally < cap → AllInvert before after
  pub counts : tally < cap → tally' ≡ tally + 1
  pub zeroes : cap ≤ tally → after ≡ replicate 16 0
  pub stays : cap ≤ tally → tally' ≡ tally
