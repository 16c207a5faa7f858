-- Covering one run from a set-up, in a session of its own. Assumes nothing.
use Rattle.std.specs.Prelude.{◌≡◌, ℕ, ◌+◌, ◌-◌, true, false, cond, List, [], ◌∷◌, length, Some, None, Option, nat_le}
use Rattle.cipher.specs.Keys.{key_cost, key_verdict}
use Rattle.routes.specs.Routes.{cap}
use Rattle.routes.specs.declared.name.RouteName.{RouteName}
use Rattle.sessions.specs.Calls.{Answer, cover, covers, refused, taken, ruled, used, call_cost}
use Rattle.sessions.specs.Counters.{counter_block, ctr}
use Rattle.sessions.specs.Exchanges.{set_up_verdict, held_at_end}
use Rattle.sessions.specs.Histories.{SetUp, encrypted}
use Rattle.sessions.specs.Places.{Account, Ran}
use Rattle.embed.specs.Replies.{left_by, OnNumber}
use Rattle.embed.specs.declared.reply.Reply.{Reply}

-- ---- what is answered, from lengths and numbers alone

-- What the rules answer a run of n bytes once a set-up is taken.
abbrev pub ruled_cover : SetUp → ℕ → Answer
ruled_cover u n = ruled (length u.key) u.opening (u.starting + key_cost (length u.key)) (covers n)

-- The tally after that.
abbrev pub ruled_tally : SetUp → ℕ → ℕ
ruled_tally u n = u.starting + key_cost (length u.key) + call_cost (length u.key) (covers n) (ruled_cover u n)

-- The refusal of the set-up, or else what the rules answer.
abbrev pub answer_by : Option (ℕ × ℕ) → Answer → Answer
answer_by None a = a
answer_by (Some r) a = refused r.0 r.1

abbrev pub cover_answer : SetUp → ℕ → Answer
cover_answer u n = answer_by (set_up_verdict u) (ruled_cover u n)

-- What was counted where the set-up is refused: the key's cost where the key was taken, and only the prefix or the opening number was refused.
abbrev pub count_by : Option (ℕ × ℕ) → (before after : ℕ) → ℕ
count_by None before after = after
count_by (Some r) before after = before

abbrev pub refused_tally : SetUp → ℕ
refused_tally u =
    cond (nat_le u.starting cap)
    (count_by (key_verdict (length u.key) u.starting) u.starting (u.starting + key_cost (length u.key)))
    u.starting

abbrev pub cover_tally : SetUp → ℕ → ℕ
cover_tally u n = count_by (set_up_verdict u) (refused_tally u) (ruled_tally u n)

-- ---- what is left of the run

-- The account of a session whose one call covers a run.
abbrev pub one_cover : SetUp → List ℕ → List ℕ → Account
one_cover u run run' =
    record {
      set_up = u;
      events = record { call = cover run; answer = ruled_cover u (length run); left = run' } ∷ [];
      end = held_at_end u (u.opening + used (covers (length run)) (ruled_cover u (length run))) (ruled_tally u (length run));
    }

-- The account is true where the set-up is taken, so that the laws of sessions hold of it. A taken run is CTR encrypted under the key, from the
-- counter block of the opening number on; a refused one is as it was.
pub record RunLeft (u : SetUp) (run run' : List ℕ) : Type 0 where
  pub ran : set_up_verdict u ≡ None → Ran (one_cover u run run')
  pub counter_mode : taken (cover_answer u (length run)) ≡ true → run' ≡ ctr (encrypted u.key) (λ j. counter_block u.prefix (u.opening + (j - 1))) run
  pub kept : taken (cover_answer u (length run)) ≡ false → run' ≡ run

-- ---- what the functions promise

-- An answer, a tally and a run.
pub record Covered (u : SetUp) (run : List ℕ) (answer : Answer) (tally : ℕ) (run' : List ℕ) : Type 0 where
  pub answered : answer ≡ cover_answer u (length run)
  pub counted : tally ≡ cover_tally u (length run)
  pub left : RunLeft u run run'

-- The same in a reply.
pub record CoverReplied (u : SetUp) (run : List ℕ) (reply : Reply) (run' : List ℕ) : Type 0 where
  pub replied : reply ≡ left_by (cover_answer u (length run)) (cover_tally u (length run))
  pub left : RunLeft u run run'

-- On the route that a number names; where it names none, nothing is altered.
abbrev pub CoverAnswered : Option RouteName → ℕ → SetUp → List ℕ → Reply → List ℕ → Type 0
CoverAnswered named number u run reply run' = OnNumber named number u.starting (CoverReplied u run) run reply run'
