-- Every call can be carried out as it is promised, so every list of calls has a history. Assumes nothing.
use Rattle.std.proofs.Common.{◌≡◌, ℕ, ◌+◌, ◌<◌, true, false, cond, List, [], ◌∷◌, map, length, sym, refl, ap, ◌∙◌, ⊎_elim, arith}
use Rattle.std.proofs.lemmas.Bool.{cases_Bool, cond-true, cond-false, cond_both}
use Rattle.std.proofs.lemmas.List.{nil_from_length}
use Rattle.sessions.specs.Calls.{Call, cover, skip, remaining, covers, Answer, shape, run_of, taken, ruled, used, covered, call_cost}
use Rattle.sessions.specs.Counters.{counter_block, piece, plus, ctr}
use Rattle.sessions.specs.Histories.{Held, Event, Promised, History, none, then, SetUp, Allowed, opened, encrypted, calls_of, shapes}
use Rattle.sessions.specs.Laws.{Fed, fed_none, fed_then, EveryListCanBeCarriedOut, EverySessionCanBeFedOn}
use Rattle.sessions.specs.Places.{Account, Ran}
use Rattle.sessions.proofs.Pieces.{length_ctr, piece_of_ctr}
use Rattle.sessions.proofs.Steps.{length-encrypted, covers_the_run, covers_nothing, counter_blocks, from_one}

-- ---- one call

-- How a call is answered at h, what it leaves of its run, and what is held after it.
abbrev answer_at : Held → Call → Answer
answer_at h c = ruled (length h.key) h.next h.tally (shape c)

abbrev in_counter_mode : Held → Call → List ℕ
in_counter_mode h c = ctr (encrypted h.key) (counter_blocks h) (run_of c)

abbrev pub carried : Held → Call → Event
carried h c = record { call = c; answer = answer_at h c; left = cond (taken (answer_at h c)) (in_counter_mode h c) (run_of c) }

abbrev pub held_after : Held → Call → Held
held_after h c =
    record {
      key = h.key;
      prefix = h.prefix;
      next = h.next + used (shape c) (answer_at h c);
      tally = h.tally + call_cost (length h.key) (shape c) (answer_at h c);
    }

module _ (h : Held) (c : Call) where
  abbrev answer : Answer
  answer = answer_at h c

  adds_pieces : (p : ℕ) → p < covered (shape c) answer → piece (carried h c).left p ≡ plus (piece (run_of c) p) (encrypted h.key (counter_block h.prefix (h.next + p)))
  adds_pieces p l = ⊎_elim when_taken when_refused (cases_Bool (taken answer))
    where
      when_taken : taken answer ≡ true → piece (carried h c).left p ≡ plus (piece (run_of c) p) (encrypted h.key (counter_block h.prefix (h.next + p)))
      when_taken t =
          ap (λ r. piece r p) (cond-true (taken answer) (in_counter_mode h c) (run_of c) t) ∙ piece_of_ctr (encrypted h.key) (counter_blocks h) (length-encrypted h.key) (run_of c) p (rw (covers_the_run c answer t) at l) ∙ ap (λ b. plus (piece (run_of c) p) (encrypted h.key b)) (from_one h p)

      when_refused : taken answer ≡ false → piece (carried h c).left p ≡ plus (piece (run_of c) p) (encrypted h.key (counter_block h.prefix (h.next + p)))
      when_refused t = absurd (omega (arith, covers_nothing (shape c) answer t))

  pub carried_promised : Promised h (carried h c) (held_after h c)
  carried_promised =
      record {
        answered = refl;
        same_key = refl;
        same_prefix = refl;
        advances = refl;
        counts = refl;
        same_length = cond_both (taken (answer_at h c)) (in_counter_mode h c) (run_of c) (λ r. length r ≡ length (run_of c)) (λ _. length_ctr (encrypted h.key) (counter_blocks h) (length-encrypted h.key) (run_of c)) (λ _. refl);
        adds = adds_pieces;
        refuses = λ t. cond-false (taken (answer_at h c)) (in_counter_mode h c) (run_of c) t;
      }

-- ---- lists of calls

unfoldable pub carried_all : Held → List Call → List Event
carried_all h [] = []
carried_all h (c ∷ cs) = carried h c ∷ carried_all (held_after h c) cs

unfoldable pub held_after_all : Held → List Call → Held
held_after_all h [] = h
held_after_all h (c ∷ cs) = held_after_all (held_after h c) cs

pub carried_history : (h : Held) (cs : List Call) → History h (carried_all h cs) (held_after_all h cs)
unfolding carried_all held_after_all
carried_history h [] = none
carried_history h (c ∷ cs) = then (carried_promised h c) (carried_history (held_after h c) cs)

pub carried-calls : (h : Held) (cs : List Call) → calls_of (carried_all h cs) ≡ cs
unfolding carried_all
carried-calls h [] = refl
carried-calls h (c ∷ cs) = ap (λ xs. c ∷ xs) (carried-calls (held_after h c) cs)

pub carried-shapes : (h : Held) (cs : List Call) → shapes (carried_all h cs) ≡ map shape cs
unfolding carried_all
carried-shapes h [] = refl
carried-shapes h (c ∷ cs) = ap (λ xs. shape c ∷ xs) (carried-shapes (held_after h c) cs)

-- The account of a session that carries out a list of calls.
abbrev pub account : SetUp → List Call → Account
account u cs = record { set_up = u; events = carried_all (opened u) cs; end = held_after_all (opened u) cs }

pub account_ran : (u : SetUp) → Allowed u → (cs : List Call) → Ran (account u cs)
account_ran u allowed cs = record { allowed = allowed; history = carried_history (opened u) cs }

pub every_list_can_be_carried_out : EveryListCanBeCarriedOut
every_list_can_be_carried_out u allowed cs = (account u cs, account_ran u allowed cs, refl, carried-calls (opened u) cs)

-- ---- the other end's calls

-- The call that is fed the run that an event left.
abbrev fed_call : Call → List ℕ → Call
fed_call (cover run) left = cover left
fed_call (skip n) left = skip n
fed_call remaining left = remaining

abbrev pub feeds : Event → Call
feeds e = fed_call e.call e.left

fed_shape : (c : Call) (left : List ℕ) → length left ≡ length (run_of c) → shape (fed_call c left) ≡ shape c
fed_shape (cover run) left same = ap covers same
fed_shape (skip n) left same = refl
fed_shape remaining left same = refl

fed_run : (c : Call) (left : List ℕ) → length left ≡ length (run_of c) → run_of (fed_call c left) ≡ left
fed_run (cover run) left same = refl
fed_run (skip n) left same = sym (nil_from_length left same)
fed_run remaining left same = sym (nil_from_length left same)

fed_on : {h h' : Held} {es : List Event} → History h es h' → (g : Held) → Fed es (carried_all g (map feeds es))
unfolding carried_all
fed_on none g = fed_none
fed_on (then {e = e} promise rest) g =
    fed_then (fed_shape e.call e.left promise.same_length) (fed_run e.call e.left promise.same_length) (fed_on rest (held_after g (feeds e)))

pub every_session_can_be_fed_on : EverySessionCanBeFedOn
every_session_can_be_fed_on s ran =
    let u = s.set_up in
    let cs = map feeds s.events in
    (account u cs, account_ran u ran.allowed cs, refl, fed_on ran.history (opened u))
