-- Inverting sixteen bytes on a route with a starting tally. Assumes nothing.
use Rattle.std.specs.Prelude.{◌≡◌, ℕ, ◌+◌, ◌-◌, cond, List, length, Some, None, Option, Result, MatchResult, ◌==◌, nat_le, nat_lt}
use Rattle.routes.specs.Inverting.{AllInvert}
use Rattle.routes.specs.Refusals.{numbers}
use Rattle.routes.specs.Routes.{cap}
use Rattle.routes.specs.declared.name.RouteName.{RouteName}
use Rattle.routes.specs.declared.refusal.Refusal.{Refusal}
use Rattle.sessions.specs.Calls.{gives_both, refused}
use Rattle.embed.specs.Replies.{left_by, OnNumber}
use Rattle.embed.specs.declared.reply.Reply.{Reply}

-- Why n bytes are not inverted at a tally: 3 with n, then 6 with the inversions that are left; or they are.
abbrev pub block_verdict : ℕ → ℕ → Option (ℕ × ℕ)
block_verdict n tally = cond (n == 16) (cond (nat_lt tally cap) None (Some (6, cap - tally))) (Some (3, n))

-- A starting tally above the cap is refused before that, 9.
abbrev pub invert_verdict : ℕ → ℕ → Option (ℕ × ℕ)
invert_verdict n start = cond (nat_le start cap) (block_verdict n start) (Some (9, start))

-- What is left of a call by its verdict: one inversion is counted, or none.
abbrev pub reply_by : Option (ℕ × ℕ) → ℕ → Reply
reply_by None start = left_by (gives_both 0 0) (start + 1)
reply_by (Some r) start = left_by (refused r.0 r.1) start

-- What is left of the bytes: each inverted, or as it was.
abbrev pub BytesBy : Option (ℕ × ℕ) → List ℕ → List ℕ → Type 0
BytesBy None before after = AllInvert before after
BytesBy (Some r) before after = after ≡ before

pub record InvertReplied (start : ℕ) (before : List ℕ) (reply : Reply) (after : List ℕ) : Type 0 where
  pub replied : reply ≡ reply_by (invert_verdict (length before) start) start
  pub left : BytesBy (invert_verdict (length before) start) before after

-- The tally after one inversion, or why there was none; the bytes are left by the same verdict.
pub record Inverted (start : ℕ) (before : List ℕ) (r : Result ℕ Refusal) (after : List ℕ) : Type 0 where
  pub told : MatchResult r (λ tally. (invert_verdict (length before) start ≡ None) × (tally ≡ start + 1)) (λ e. invert_verdict (length before) start ≡ Some (numbers e))
  pub left : BytesBy (invert_verdict (length before) start) before after

-- On the route that a number names; where it names none, nothing is altered.
abbrev pub InvertAnswered : Option RouteName → ℕ → ℕ → List ℕ → Reply → List ℕ → Type 0
InvertAnswered named number start before reply after = OnNumber named number start (InvertReplied start before) before reply after
