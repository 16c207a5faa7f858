-- Lists of calls as values, what carrying them out comes to, and what two ends make of them. Assumes nothing.
use Rattle.std.specs.Prelude.{◌≡◌, ℕ, ◌+◌, ◌*◌, cond, List, [], ◌∷◌, map, length, Some, None, vec_items, Option, Result, MatchResult, nat_le}
use Rattle.cipher.specs.Keys.{key_cost, key_rounds, key_verdict}
use Rattle.routes.specs.Refusals.{numbers}
use Rattle.routes.specs.Routes.{cap}
use Rattle.routes.specs.declared.refusal.Refusal.{Refusal}
use Rattle.sessions.specs.Calls.{Call, Shape, Answer, cover, skip, remaining, gives, gives_both, shape, run_of, ruled_all}
use Rattle.sessions.specs.Histories.{Held, Event, Promised, History, SetUp, opened, used_all, covered_all}
use Rattle.sessions.specs.Laws.{Fed}
use Rattle.sessions.specs.Places.{Account, Ran}
use Rattle.sessions.specs.Reading.{answer_from, opening_number, open_verdict}
use Rattle.sessions.specs.declared.agreement.Agreement.{Agreement}
use Rattle.sessions.specs.declared.call.Answered.{Answered}
use Rattle.sessions.specs.declared.call.SessionCall.{SessionCall}
use Rattle.sessions.specs.declared.call.SessionCall.TheVariants.{Cover, Skip, Remaining}
use Rattle.sessions.specs.declared.call.Given.{Given}
use Rattle.sessions.specs.declared.call.Given.TheVariants.{Left, Used}
use Rattle.sessions.specs.declared.ends.BothEnds.{BothEnds}
use Rattle.sessions.specs.declared.ends.end.End.{End}
use Rattle.sessions.specs.declared.ends.error.ExchangeError.{ExchangeError}
use Rattle.sessions.specs.declared.ends.error.ExchangeError.TheVariants.{NotSetUp, Memory}

-- ---- calls and answers as values

abbrev pub call_in : SessionCall → Call
call_in (Cover run) = cover (vec_items run)
call_in (Skip n) = skip n
call_in Remaining = remaining

abbrev pub given_in : Given → Answer
given_in (Left n) = gives n
given_in (Used u) = gives_both u.first u.count

abbrev pub answer_in : Result Given Refusal → Answer
answer_in = answer_from given_in

abbrev pub shape_in : SessionCall → Shape
shape_in c = shape (call_in c)

abbrev pub run_in : SessionCall → List ℕ
run_in c = run_of (call_in c)

-- ---- carrying calls out

-- What happened: a call as it was passed, its answer, and the call with its run as it was left.
abbrev pub event_in : SessionCall → Result Given Refusal → SessionCall → Event
event_in c a c' = record { call = call_in c; answer = answer_in a; left = run_in c' }

-- A call was carried out: as it is promised, and its shape is kept.
pub record CarriedOne (h : Held) (c : SessionCall) (a : Result Given Refusal) (c' : SessionCall) (h' : Held) : Type 0 where
  pub promised : Promised h (event_in c a c') h'
  pub same_shape : shape_in c' ≡ shape_in c

-- The events of a list, call by call.
unfoldable pub events_in : List SessionCall → List (Result Given Refusal) → List SessionCall → List Event
events_in [] as' cs' = []
events_in (c ∷ cs) [] cs' = []
events_in (c ∷ cs) (a ∷ as') [] = []
events_in (c ∷ cs) (a ∷ as') (c' ∷ cs') = event_in c a c' ∷ events_in cs as' cs'

-- A list was carried out, one call after the other: one answer to each call, and the shapes are kept.
pub record Carried (h : Held) (cs : List SessionCall) (as' : List (Result Given Refusal)) (cs' : List SessionCall) (h' : Held) : Type 0 where
  pub history : History h (events_in cs as' cs') h'
  pub all_answered : length as' ≡ length cs
  pub same_shapes : map shape_in cs' ≡ map shape_in cs

-- The calls of a list that was carried out, with their runs as they were left, and their answers.
abbrev pub calls_left : List Answered → List SessionCall
calls_left = map (λ a. a.call)

abbrev pub answers_given : List Answered → List (Result Given Refusal)
answers_given = map (λ a. a.answer)

-- ---- one end

-- A set-up, by what is passed: it opens at 0 where no number is given.
abbrev pub set_up_with : List ℕ → List ℕ → Option ℕ → ℕ → SetUp
set_up_with key prefix at start = record { key = key; prefix = prefix; opening = opening_number at; starting = start }

-- The set-up of an end, by what is agreed and its route's tally.
abbrev pub agreed : Agreement → ℕ → SetUp
agreed a start = set_up_with a.key.now a.prefix.now a.at start

-- The first refusal of two, if there is one.
abbrev pub first_of : Option (ℕ × ℕ) → Option (ℕ × ℕ) → Option (ℕ × ℕ)
first_of None other = other
first_of (Some e) other = Some e

-- Why a set-up is refused: 9 with the starting tally; then its key, 1 or 6; then its prefix, 7, or its opening number, 8; or it is taken.
abbrev pub set_up_verdict : SetUp → Option (ℕ × ℕ)
set_up_verdict u =
    cond (nat_le u.starting cap)
    (first_of (key_verdict (length u.key) u.starting) (open_verdict (length u.prefix) u.opening))
    (Some (9, u.starting))

-- What is held at the end of a session from a set-up.
abbrev pub held_at_end : SetUp → (closed tally : ℕ) → Held
held_at_end u closed tally = record { key = u.key; prefix = u.prefix; next = closed; tally = tally }

-- A session was run through from a set-up, and the number at which it closed is told; or the set-up was refused.
abbrev pub RunThrough : SetUp → List SessionCall → List (Result Given Refusal) → List SessionCall → ℕ → Result ℕ Refusal → Type 0
RunThrough u cs as' cs' tally r =
    MatchResult r
    (λ closed. (set_up_verdict u ≡ None) × Carried (opened u) cs as' cs' (held_at_end u closed tally))
    (λ e. set_up_verdict u ≡ Some (numbers e))

-- The account of an end that was passed a list of calls.
abbrev pub account_of : SetUp → List SessionCall → End → Account
account_of u cs end =
    record {
      set_up = u;
      events = events_in cs (answers_given (vec_items end.answered)) (calls_left (vec_items end.answered));
      end = held_at_end u end.closed end.tally;
    }

-- An end ran from a set-up: its account is true, it has one answer to each call, and its calls keep their shapes.
pub record EndRan (u : SetUp) (cs : List SessionCall) (end : End) : Type 0 where
  pub ran : Ran (account_of u cs end)
  pub all_answered : length (vec_items end.answered) ≡ length cs
  pub same_shapes : map shape_in (calls_left (vec_items end.answered)) ≡ map shape_in cs

-- Why an end did not run: the set-up was refused, or memory ran short.
abbrev pub Failed : SetUp → ExchangeError → Type 0
Failed u (NotSetUp e) = set_up_verdict u ≡ Some (numbers e)
Failed u Memory = Unit {0}

abbrev pub Ended : SetUp → List SessionCall → Result End ExchangeError → Type 0
Ended u cs r = MatchResult r (EndRan u cs) (Failed u)

-- ---- two ends

-- Both ends ran from one set-up, the gateway on what the transmitter left; and what the laws come to for these two.
pub record BothRan (u : SetUp) (cs : List SessionCall) (transmitter gateway : End) : Type 0 where
  pub at_transmitter : EndRan u cs transmitter
  pub at_gateway : EndRan u (calls_left (vec_items transmitter.answered)) gateway
  pub fed : Fed (account_of u cs transmitter).events (account_of u (calls_left (vec_items transmitter.answered)) gateway).events
  pub runs_come_back : map run_in (calls_left (vec_items gateway.answered)) ≡ map run_in cs
  pub same_answers : map answer_in (answers_given (vec_items gateway.answered)) ≡ map answer_in (answers_given (vec_items transmitter.answered))
  pub answers_are_the_rules : map answer_in (answers_given (vec_items transmitter.answered)) ≡ ruled_all (length u.key) u.opening (u.starting + key_cost (length u.key)) (map shape_in cs)
  pub tally_is_the_sum : transmitter.tally ≡ u.starting + key_cost (length u.key) + key_rounds (length u.key) * covered_all (account_of u cs transmitter).events
  pub closed_at_the_sum : transmitter.closed ≡ u.opening + used_all (account_of u cs transmitter).events
  pub same_tally : gateway.tally ≡ transmitter.tally
  pub same_closing : gateway.closed ≡ transmitter.closed

abbrev pub Exchanged : SetUp → List SessionCall → Result BothEnds ExchangeError → Type 0
Exchanged u cs r = MatchResult r (λ x. BothRan u cs x.transmitter x.gateway) (Failed u)
