-- Covering step by step: when a run is admitted, what each step asks of the engine, and what it leaves. Assumes nothing.
use Rattle.std.specs.Prelude.{◌≡◌, ℕ, ◌+◌, ◌*◌, ◌<◌, ◌≤◌, true, List, length, Result, MatchResult}
use Rattle.cipher.specs.Engines.{engine_key}
use Rattle.cipher.specs.Keys.{key_length, key_rounds}
use Rattle.cipher.specs.declared.engine.Engine.{Engine}
use Rattle.routes.specs.Routes.{cap}
use Rattle.routes.specs.declared.refusal.Refusal.{Refusal}
use Rattle.sessions.specs.Calls.{covers, gives_both, refusal, ruled}
use Rattle.sessions.specs.Counters.{counters, blocks, counter_block, piece, plus}
use Rattle.sessions.specs.Histories.{Held, encrypted}
use Rattle.sessions.specs.Reading.{key_or_none}

-- ---- admitting a run

-- A run of n bytes may be covered at h, in k blocks.
pub record Admits (h : Held) (n k : ℕ) : Type 0 where
  pub answered : ruled (length h.key) h.next h.tally (covers n) ≡ gives_both h.next k
  pub keyed : key_length (length h.key) ≡ true
  pub count : k ≡ blocks n
  pub room : h.next + k ≤ counters
  pub paid : h.tally + key_rounds (length h.key) * k ≤ cap

-- It may be covered, or is refused as the rules say.
abbrev pub Admitted : Held → ℕ → Result ℕ Refusal → Type 0
Admitted h n r = MatchResult r (Admits h n) (λ e. ruled (length h.key) h.next h.tally (covers n) ≡ refusal e)

-- ---- the engine

-- The key that an engine holds, or no bytes.
abbrev pub key_of : {R : Type 0} → Engine R → List ℕ
key_of e = key_or_none (engine_key e)

module _ {R : Type 0} (tally : R → ℕ) where
  -- An engine has a key, and inversions left for k blocks.
  pub record Ready (e : Engine R) (k : ℕ) : Type 0 where
    pub keyed : key_length (length (key_of e)) ≡ true
    pub paid : tally e.route + key_rounds (length (key_of e)) * k ≤ cap

  -- It has encrypted k blocks.
  pub record Spent (e e' : Engine R) (k : ℕ) : Type 0 where
    pub same_key : key_of e' ≡ key_of e
    pub counts : tally e'.route ≡ tally e.route + key_rounds (length (key_of e)) * k

-- ---- the run

-- To its first k pieces were added the encryptions of the counter blocks from a number on.
abbrev pub Added : (key prefix : List ℕ) → ℕ → ℕ → List ℕ → List ℕ → Type 0
Added key prefix first k run run' =
    (p : ℕ) → p < k → piece run' p ≡ plus (piece run p) (encrypted key (counter_block prefix (first + p)))
