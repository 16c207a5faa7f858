-- The laws of counter sessions: what holds of every session that has ended, whoever carried it out and by whatever route. Assumes nothing.
use Rattle.std.specs.Prelude.{◌≡◌, ℕ, ◌+◌, ◌-◌, ◌*◌, ◌<◌, ◌≤◌, true, false, List, [], ◌∷◌, length, take}
use Rattle.cipher.specs.Keys.{key_rounds, key_cost}
use Rattle.routes.specs.Routes.{cap}
use Rattle.sessions.specs.Calls.{Call, cover, gives_both, taken, ruled_all}
use Rattle.sessions.specs.Counters.{counters, piece, plus, ctr}
use Rattle.sessions.specs.Histories.{Held, Event, SetUp, encrypted, began, shape_of, calls_of, shapes, answers, runs_before, runs_after, used_all, covered_all, Allowed}
use Rattle.sessions.specs.Places.{Account, Ran, Place, Chain, ChainPlace, event_at, event_of, number_at, counter_block_at, block_of, chain_block_of}

-- ---- 1. answers are the rules' answers

-- They are worked out from the key's length, the starting tally, the opening number and the shapes of the calls alone.
abbrev pub AnswersAreTheRules : Type 0
AnswersAreTheRules =
    (s : Account) → Ran s
    → let n = length s.set_up.key in
    answers s.events ≡ ruled_all n s.set_up.opening (s.set_up.starting + key_cost n) (shapes s.events)

-- ---- 2. the other end uncovers

-- A gateway's list beside a transmitter's: the same shapes, each call fed the run that the transmitter's left.
pub data Fed : List Event → List Event → Type 0 where
  fed_none : Fed [] []
  fed_then : {e e' : Event} {es es' : List Event} → shape_of e' ≡ shape_of e → began e' ≡ e.left → Fed es es' → Fed (e ∷ es) (e' ∷ es')

-- The gateway's runs end as the transmitter's began, and its answers are the transmitter's, call by call; both end alike.
pub record Uncovers (transmitter gateway : Account) : Type 0 where
  pub runs : runs_after gateway.events ≡ runs_before transmitter.events
  pub same_answers : answers gateway.events ≡ answers transmitter.events
  pub same_end : gateway.end ≡ transmitter.end

abbrev pub TheOtherEndUncovers : Type 0
TheOtherEndUncovers =
    (s s' : Account) → Ran s → Ran s' → s'.set_up ≡ s.set_up → Fed s.events s'.events
    → Uncovers s s'

-- ---- 3. what is added

-- To each covered block is added the encryption of its counter block under the key, cut to the block's length.
abbrev pub CounterBlocksAreAdded : Type 0
CounterBlocksAreAdded =
    (s : Account) → Ran s → (x : Place s.events)
    → let e = event_of s.events x in
    piece e.left x.piece ≡ plus (piece (began e) x.piece) (encrypted s.set_up.key (block_of s x))

-- A refused call leaves its run.
abbrev pub RefusedCallsLeaveTheirRun : Type 0
RefusedCallsLeaveTheirRun =
    (s : Account) → Ran s → (i : ℕ) → i < length s.events
    → let e = event_at s.events i in
    taken e.answer ≡ false → e.left ≡ began e

-- A taken call leaves the CTR encryption of its run under the key, where T_j is the counter block of piece j-1.
abbrev pub TakenCallsAreCounterMode : Type 0
TakenCallsAreCounterMode =
    (s : Account) → Ran s → (i : ℕ) → i < length s.events
    → let e = event_at s.events i in
    taken e.answer ≡ true → e.left ≡ ctr (encrypted s.set_up.key) (λ j. counter_block_at s i (j - 1)) (began e)

-- ---- 4. no counter block twice

-- In one session, places with the same counter block are the same place.
abbrev pub NoCounterBlockTwice : Type 0
NoCounterBlockTwice =
    (s : Account) → Ran s → (x y : Place s.events) → block_of s x ≡ block_of s y
    → (x.call ≡ y.call) × (x.piece ≡ y.piece)

-- So are they along a chain.
abbrev pub NoCounterBlockTwiceInAChain : Type 0
NoCounterBlockTwiceInAChain =
    (ss : List Account) → Chain ss → (x y : ChainPlace ss) → chain_block_of ss x ≡ chain_block_of ss y
    → (x.session ≡ y.session) × (x.place.call ≡ y.place.call) × (x.place.piece ≡ y.place.piece)

-- ---- 5. the tally's sum

-- At the end: the key and the prefix of the set-up, and the sums of the numbers used and of the blocks covered, within their bounds.
pub record EndsAt (s : SetUp) (es : List Event) (h : Held) : Type 0 where
  pub same_key : h.key ≡ s.key
  pub same_prefix : h.prefix ≡ s.prefix
  pub next_sum : h.next ≡ s.opening + used_all es
  pub tally_sum : h.tally ≡ s.starting + key_cost (length s.key) + key_rounds (length s.key) * covered_all es
  pub next_within : h.next ≤ counters
  pub tally_within : h.tally ≤ cap

abbrev pub TheTallyIsTheSum : Type 0
TheTallyIsTheSum = (s : Account) → Ran s → EndsAt s.set_up s.events s.end

-- ---- 6. a listener learns lengths only

-- What two sessions have in common where only bytes differ: those of keys, prefixes and runs.
pub record AlikeInLengths (s s' : Account) : Type 0 where
  pub key_lengths : length s.set_up.key ≡ length s'.set_up.key
  pub openings : s.set_up.opening ≡ s'.set_up.opening
  pub startings : s.set_up.starting ≡ s'.set_up.starting
  pub all_shapes : shapes s.events ≡ shapes s'.events

-- Their answers are equal, call by call, and so are the tallies and the numbers at which they end.
pub record AlikeToAListener (s s' : Account) : Type 0 where
  pub same_answers : answers s.events ≡ answers s'.events
  pub same_tally : s.end.tally ≡ s'.end.tally
  pub same_next : s.end.next ≡ s'.end.next

abbrev pub AListenerLearnsLengthsOnly : Type 0
AListenerLearnsLengthsOnly = (s s' : Account) → Ran s → Ran s' → AlikeInLengths s s' → AlikeToAListener s s'

-- ---- besides

-- Adding twice gives back what there was, as far as the second list goes.
abbrev pub AddingTwiceUndoes : Type 0
AddingTwiceUndoes = (xs ys : List ℕ) → plus (plus xs ys) ys ≡ take (length ys) xs

-- Counter mode is its own inverse.
abbrev pub CounterModeUndoesItself : Type 0
CounterModeUndoesItself =
    (key : List ℕ) (t : ℕ → List ℕ) (text : List ℕ)
    → ctr (encrypted key) t (ctr (encrypted key) t text) ≡ text

-- An empty run is always covered.
abbrev pub EmptyRunsAreTaken : Type 0
EmptyRunsAreTaken =
    (s : Account) → Ran s → (i : ℕ) → i < length s.events
    → let e = event_at s.events i in
    e.call ≡ cover [] → e.answer ≡ gives_both (number_at s i 0) 0

-- From every set-up that is allowed, every list of calls can be carried out: the laws speak of something.
abbrev pub EveryListCanBeCarriedOut : Type 0
EveryListCanBeCarriedOut =
    (u : SetUp) → Allowed u → (calls : List Call)
    → (s : Account) × Ran s × (s.set_up ≡ u) × (calls_of s.events ≡ calls)

-- To every session of a transmitter there is one of a gateway that is fed what it left.
abbrev pub EverySessionCanBeFedOn : Type 0
EverySessionCanBeFedOn =
    (s : Account) → Ran s
    → (s' : Account) × Ran s' × (s'.set_up ≡ s.set_up) × Fed s.events s'.events

-- All of it.
pub record SessionLaws : Type 0 where
  pub answers_are_the_rules : AnswersAreTheRules
  pub the_other_end_uncovers : TheOtherEndUncovers
  pub counter_blocks_are_added : CounterBlocksAreAdded
  pub refused_calls_leave_their_run : RefusedCallsLeaveTheirRun
  pub taken_calls_are_counter_mode : TakenCallsAreCounterMode
  pub no_counter_block_twice : NoCounterBlockTwice
  pub no_counter_block_twice_in_a_chain : NoCounterBlockTwiceInAChain
  pub the_tally_is_the_sum : TheTallyIsTheSum
  pub a_listener_learns_lengths_only : AListenerLearnsLengthsOnly
  pub adding_twice_undoes : AddingTwiceUndoes
  pub counter_mode_undoes_itself : CounterModeUndoesItself
  pub empty_runs_are_taken : EmptyRunsAreTaken
  pub every_list_can_be_carried_out : EveryListCanBeCarriedOut
  pub every_session_can_be_fed_on : EverySessionCanBeFedOn
