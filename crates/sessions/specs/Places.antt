-- Sessions that have ended, chains of them, and places: which session, which of its calls, which piece of its run. Assumes nothing.
use Rattle.std.specs.Prelude.{◌≡◌, ℕ, ◌+◌, ◌<◌, List, [], ◌∷◌, take, slice_index_or}
use Rattle.sessions.specs.Calls.{remaining, gives}
use Rattle.sessions.specs.Counters.{counter_block}
use Rattle.sessions.specs.Histories.{Held, Event, History, SetUp, Allowed, opened, covered_by, used_all}

-- ---- one session

-- The account of a session that has ended: its set-up, its events, and what was held at its end.
pub record Account : Type 0 where
  pub set_up : SetUp
  pub events : List Event
  pub end : Held

-- The account is true: the set-up was allowed, and the events are a history from there to the end.
pub record Ran (s : Account) : Type 0 where
  pub allowed : Allowed s.set_up
  pub history : History (opened s.set_up) s.events s.end

-- What stands past the end of a list: an event that covers nothing.
abbrev pub no_event : Event
no_event = record { call = remaining; answer = gives 0; left = [] }

-- Event i of a list, counted from 0.
abbrev pub event_at : List Event → ℕ → Event
event_at es i = slice_index_or es i no_event

-- A covered block: which call, and which piece of its run.
pub record Place (es : List Event) : Type 0 where
  pub call : ℕ
  pub piece : ℕ
  pub is_covered : piece < covered_by (event_at es call)

-- The event at a place.
abbrev pub event_of : (es : List Event) → Place es → Event
event_of es x = event_at es x.call

-- The number of piece p of call i: the opening number, what the taken calls before it used, and its place in the run.
unfoldable pub number_at : Account → (i p : ℕ) → ℕ
number_at s i p = s.set_up.opening + used_all (take i s.events) + p

-- The counter block of piece p of call i.
abbrev pub counter_block_at : Account → (i p : ℕ) → List ℕ
counter_block_at s i p = counter_block s.set_up.prefix (number_at s i p)

-- The counter block of a place.
abbrev pub block_of : (s : Account) → Place s.events → List ℕ
block_of s x = counter_block_at s x.call x.piece

-- ---- chains

-- Sessions under one prefix, each but the first opened at the number at which the one before ended. Keys and tallies are free.
pub data Chain : List Account → Type 0 where
  last : {s : Account} → Ran s → Chain (s ∷ [])
  before : {s t : Account} {ss : List Account} → Ran s → t.set_up.prefix ≡ s.set_up.prefix → t.set_up.opening ≡ s.end.next → Chain (t ∷ ss) → Chain (s ∷ t ∷ ss)

-- What stands past the end of a chain: an account with no events.
abbrev pub no_account : Account
no_account =
    record { set_up = record { key = []; prefix = []; opening = 0; starting = 0 }; events = []; end = record { key = []; prefix = []; next = 0; tally = 0 } }

-- Session i of a chain, counted from 0.
abbrev pub session_at : List Account → ℕ → Account
session_at ss i = slice_index_or ss i no_account

-- A covered block of a chain: which session, and the place in it.
pub record ChainPlace (ss : List Account) : Type 0 where
  pub session : ℕ
  pub place : Place (session_at ss session).events

-- The counter block of a place in a chain.
abbrev pub chain_block_of : (ss : List Account) → ChainPlace ss → List ℕ
chain_block_of ss x = block_of (session_at ss x.session) x.place
