-- What a session promises of each call, and histories: lists of calls that were carried out one after the other. Assumes nothing.
use Rattle.std.specs.Prelude.{◌≡◌, ℕ, ◌+◌, ◌/◌, ◌<◌, ◌≤◌, true, false, List, [], ◌∷◌, map, length}
use Rattle.cipher.specs.Fips197.{aes}
use Rattle.cipher.specs.Keys.{key_length, key_cost}
use Rattle.routes.specs.Routes.{cap}
use Rattle.sessions.specs.Calls.{Call, Shape, Answer, shape, run_of, taken, ruled, used, covered, call_cost}
use Rattle.sessions.specs.Counters.{counters, counter_block, piece, plus}

-- What a session and its engine hold. A key of no bytes stands for no key.
pub record Held : Type 0 where
  pub key : List ℕ
  pub prefix : List ℕ
  pub next : ℕ
  pub tally : ℕ

-- A call that was carried out, its answer, and the run as the call left it.
pub record Event : Type 0 where
  pub call : Call
  pub answer : Answer
  pub left : List ℕ

-- ---- an event by its parts

-- What a listener sees of its call.
abbrev pub shape_of : Event → Shape
shape_of e = shape e.call

-- The run that its call was passed.
abbrev pub began : Event → List ℕ
began e = run_of e.call

-- How many counter numbers it used.
abbrev pub used_by : Event → ℕ
used_by e = used (shape_of e) e.answer

-- How many blocks it covered.
abbrev pub covered_by : Event → ℕ
covered_by e = covered (shape_of e) e.answer

-- What it cost under a key of n bytes, in route calls.
abbrev pub cost_of : ℕ → Event → ℕ
cost_of n e = call_cost n (shape_of e) e.answer

-- ---- the promise

-- The encryption of a block under a key of 16, 24 or 32 bytes, by FIPS 197.
unfoldable pub encrypted : List ℕ → List ℕ → List ℕ
encrypted key block = aes (length key / 4) key block

-- What every call promises: how what is held before, the call with its answer and its run, and what is held after belong together.
pub record Promised (h : Held) (e : Event) (h' : Held) : Type 0 where
  pub answered : e.answer ≡ ruled (length h.key) h.next h.tally (shape_of e)
  pub same_key : h'.key ≡ h.key
  pub same_prefix : h'.prefix ≡ h.prefix
  pub advances : h'.next ≡ h.next + used_by e
  pub counts : h'.tally ≡ h.tally + cost_of (length h.key) e
  pub same_length : length e.left ≡ length (began e)
  pub adds : (p : ℕ) → p < covered_by e → piece e.left p ≡ plus (piece (began e) p) (encrypted h.key (counter_block h.prefix (h.next + p)))
  pub refuses : taken e.answer ≡ false → e.left ≡ began e

-- A history from what is held at its start to what is held at its end.
pub data History : Held → List Event → Held → Type 0 where
  none : {h : Held} → History h [] h
  then : {h h' h'' : Held} {e : Event} {es : List Event} → Promised h e h' → History h' es h'' → History h (e ∷ es) h''

-- ---- set-ups

-- What both ends agree on before the first call.
pub record SetUp : Type 0 where
  pub key : List ℕ
  pub prefix : List ℕ
  pub opening : ℕ
  pub starting : ℕ

-- A set-up that is not refused.
pub record Allowed (s : SetUp) : Type 0 where
  pub key_of_allowed_length : key_length (length s.key) ≡ true
  pub prefix_of_twelve : length s.prefix ≡ 12
  pub opening_within : s.opening ≤ counters
  pub key_paid : s.starting + key_cost (length s.key) ≤ cap

-- What is held when a history begins: setting the key has been counted.
abbrev pub opened : SetUp → Held
opened s = record { key = s.key; prefix = s.prefix; next = s.opening; tally = s.starting + key_cost (length s.key) }

-- ---- a list of events by its parts

-- Its calls, their shapes and their answers.
abbrev pub calls_of : List Event → List Call
calls_of = map (λ e. e.call)

abbrev pub shapes : List Event → List Shape
shapes = map shape_of

abbrev pub answers : List Event → List Answer
answers = map (λ e. e.answer)

-- The runs as they were passed, and as they were left, call by call.
abbrev pub runs_before : List Event → List (List ℕ)
runs_before = map began

abbrev pub runs_after : List Event → List (List ℕ)
runs_after = map (λ e. e.left)

-- How many counter numbers all calls used.
unfoldable pub used_all : List Event → ℕ
used_all [] = 0
used_all (e ∷ es) = used_by e + used_all es

-- How many blocks all calls covered.
unfoldable pub covered_all : List Event → ℕ
covered_all [] = 0
covered_all (e ∷ es) = covered_by e + covered_all es
