-- What a session and an engine hold, read off their values, and what the calls promise in those terms. Assumes nothing.
use Rattle.std.specs.Prelude.{◌≡◌, ℕ, cond, List, [], length, Some, None, Ok, Err, Option, Result, MatchResult, ◌==◌, nat_le}
use Rattle.cipher.specs.Engines.{engine_key}
use Rattle.cipher.specs.declared.engine.Engine.{Engine}
use Rattle.routes.specs.Refusals.{numbers}
use Rattle.routes.specs.declared.refusal.Refusal.{Refusal}
use Rattle.sessions.specs.Calls.{Answer, cover, skip, remaining, gives, gives_both, refusal}
use Rattle.sessions.specs.Counters.{counters}
use Rattle.sessions.specs.Histories.{Held, Event, Promised}
use Rattle.sessions.specs.declared.session.Session.{Session}
use Rattle.sessions.specs.declared.used.Used.{Used}

-- ---- what is held

-- The key set, or no bytes where none is.
abbrev pub key_or_none : Option (List ℕ) → List ℕ
key_or_none None = []
key_or_none (Some key) = key

-- What a session holds, beside a key and a tally.
abbrev pub held_with : List ℕ → ℕ → Session → Held
held_with key tally s = record { key = key; prefix = s.prefix; next = s.next; tally = tally }

-- What a session and its engine hold, where the engine's route has a tally.
abbrev pub held_by : {R : Type 0} → (R → ℕ) → Engine R → Session → Held
held_by tally e s = held_with (key_or_none (engine_key e)) (tally e.route) s

-- ---- what happened

-- The answer in what a call gave: a number, or the numbers it used.
abbrev pub answer_from : {X : Type 0} → (X → Answer) → Result X Refusal → Answer
answer_from says (Ok x) = says x
answer_from says (Err e) = refusal e

abbrev pub number_given : Result ℕ Refusal → Answer
number_given = answer_from gives

abbrev pub numbers_given : Result Used Refusal → Answer
numbers_given = answer_from (λ u. gives_both u.first u.count)

-- A run was covered, n numbers were skipped, or it was asked how many remain.
abbrev pub covering : List ℕ → Result Used Refusal → List ℕ → Event
covering run r run' = record { call = cover run; answer = numbers_given r; left = run' }

abbrev pub skipping : ℕ → Result ℕ Refusal → Event
skipping n r = record { call = skip n; answer = number_given r; left = [] }

abbrev pub asking : ℕ → Event
asking n = record { call = remaining; answer = gives n; left = [] }

-- ---- what the calls promise that need no engine

-- The number at which a session opens: 0 where none is given.
abbrev pub opening_number : Option ℕ → ℕ
opening_number None = 0
opening_number (Some n) = n

-- Why a session is not opened under a prefix of n bytes: 7 with n, then 8 with the opening number; or it is.
abbrev pub open_verdict : ℕ → ℕ → Option (ℕ × ℕ)
open_verdict n at = cond (n == 12) (cond (nat_le at counters) None (Some (8, at))) (Some (7, n))

abbrev pub Opened : List ℕ → Option ℕ → Result Session Refusal → Type 0
Opened prefix at r =
    MatchResult r
    (λ s. (open_verdict (length prefix) (opening_number at) ≡ None) × (s.prefix ≡ prefix) × (s.next ≡ opening_number at))
    (λ e. open_verdict (length prefix) (opening_number at) ≡ Some (numbers e))

-- Whatever the key and the tally, which stay as they are.
abbrev pub Remained : Session → ℕ → Type 0
Remained s n = (key : List ℕ) (tally : ℕ) → Promised (held_with key tally s) (asking n) (held_with key tally s)

abbrev pub Skipped : Session → ℕ → Result ℕ Refusal → Session → Type 0
Skipped s n r s' = (key : List ℕ) (tally : ℕ) → Promised (held_with key tally s) (skipping n r) (held_with key tally s')
