-- What holds at each call of a history, and that no counter block of a history occurs at two places. Assumes nothing.
use Rattle.std.proofs.Common.{◌≡◌, ℕ, zero, suc, ◌+◌, ◌-◌, ◌<◌, ◌≤◌, List, [], ◌∷◌, length, take, sym, refl, ap, ◌∙◌, ap₂, ⊎_elim, suc-le-suc, zero-le, le_of_suc-le-suc, not-suc-le-zero, arith}
use mathlib.Core.Path.{fun_ext}
use Rattle.std.proofs.lemmas.Bool.{cases_order, both_ways}
use Rattle.cipher.specs.Keys.{key_length}
use Rattle.routes.specs.Routes.{cap}
use Rattle.sessions.specs.Calls.{gives_both, shape, ruled}
use Rattle.sessions.specs.Counters.{counters, counter_block, piece, plus, ctr}
use Rattle.sessions.specs.Histories.{Held, Event, Promised, History, none, then, opened, encrypted, shape_of, began, used_by, covered_by, used_all}
use Rattle.sessions.specs.Laws.{CounterBlocksAreAdded, RefusedCallsLeaveTheirRun, TakenCallsAreCounterMode, NoCounterBlockTwice, EmptyRunsAreTaken}
use Rattle.sessions.specs.Places.{Account, Ran, Place, event_at, event_of, number_at, counter_block_at}
use Rattle.sessions.proofs.Histories.{sums}
use Rattle.sessions.proofs.Numbers.{counter_blocks_apart, ruled_empty}
use Rattle.sessions.proofs.Steps.{taken_is_ctr, next_stays_within, tally_stays_within, covered≤used}

-- ---- the step of call i

-- What was held when call i of a history was made, and its promise.
pub record Step (h : Held) (es : List Event) (i : ℕ) : Type 0 where
  pub at : Held
  pub after : Held
  pub promise : Promised at (event_at es i) after
  pub same_key : at.key ≡ h.key
  pub same_prefix : at.prefix ≡ h.prefix
  pub reached : at.next ≡ h.next + used_all (take i es)
  pub next_within : h.next ≤ counters → at.next ≤ counters
  pub tally_within : h.tally ≤ cap → at.tally ≤ cap

pub step : {h h' : Held} {es : List Event} → History h es h' → (i : ℕ) → i < length es → Step h es i
unfolding used_all
step none i l = absurd (not-suc-le-zero l)
step (then {h} {h'} promise rest) zero l =
    record {
      at = h;
      after = h';
      promise = promise;
      same_key = refl;
      same_prefix = refl;
      reached = omega arith;
      next_within = λ w. w;
      tally_within = λ w. w;
    }
step (then {h} {h'} promise rest) (suc i) l =
    let later = step rest i (le_of_suc-le-suc l) in
    record {
      at = later.at;
      after = later.after;
      promise = later.promise;
      same_key = later.same_key ∙ promise.same_key;
      same_prefix = later.same_prefix ∙ promise.same_prefix;
      reached = omega arith;
      next_within = λ w. later.next_within (next_stays_within promise w);
      tally_within = λ w. later.tally_within (tally_stays_within promise w);
    }

-- A place stands within its list.
pub in_range : (es : List Event) (i p : ℕ) → p < covered_by (event_at es i) → i < length es
in_range [] i p h = absurd (not-suc-le-zero h)
in_range (e ∷ es) zero p h = suc-le-suc zero-le
in_range (e ∷ es) (suc i) p h = suc-le-suc (in_range es i p h)

-- ---- what is added

-- The counter block of piece p of call i is the one that the call's promise has.
blocks_here : (s : Account) {i : ℕ} (here : Step (opened s.set_up) s.events i) (p : ℕ) → counter_block here.at.prefix (here.at.next + p) ≡ counter_block_at s i p
unfolding number_at
blocks_here s here p = rw (here.same_prefix, here.reached)

pub counter_blocks_are_added : CounterBlocksAreAdded
counter_blocks_are_added s ran x =
    let here = step ran.history x.call (in_range s.events x.call x.piece x.is_covered) in
    here.promise.adds x.piece x.is_covered ∙ ap₂ (λ k b. plus (piece (began (event_of s.events x)) x.piece) (encrypted k b)) here.same_key (blocks_here s here x.piece)

pub refused_calls_leave_their_run : RefusedCallsLeaveTheirRun
refused_calls_leave_their_run s ran i l = (step ran.history i l).promise.refuses

pub taken_calls_are_counter_mode : TakenCallsAreCounterMode
taken_calls_are_counter_mode s ran i l t =
    let here = step ran.history i l in
    taken_is_ctr here.promise t ∙ ap₂ (λ k b. ctr (encrypted k) b (began (event_at s.events i))) here.same_key (fun_ext (λ j. blocks_here s here (j - 1)))

pub empty_runs_are_taken : EmptyRunsAreTaken
unfolding number_at
empty_runs_are_taken s ran i l e =
    let here = step ran.history i l in
    let at = here.at in
    let key_set : length at.key ≡ 0 → ⊥ = λ z. both_ways (key_length (length s.set_up.key)) (ap key_length (ap length (sym here.same_key) ∙ z)) ran.allowed.key_of_allowed_length in
    here.promise.answered ∙ ap (ruled (length at.key) at.next at.tally) (ap shape e) ∙ ruled_empty (length at.key) at.next at.tally key_set (here.tally_within ran.allowed.key_paid) ∙ ap (λ n. gives_both n 0) (omega arith)

-- ---- no counter block twice

-- The numbers of a call come before those of every later call, and all of them before the end.
numbers-before : (es : List Event) (i j : ℕ) → i < j → i < length es → used_all (take i es) + used_by (event_at es i) ≤ used_all (take j es)
unfolding used_all
numbers-before [] i j b l = absurd (not-suc-le-zero l)
numbers-before (e ∷ es) zero zero b l = absurd (not-suc-le-zero b)
numbers-before (e ∷ es) zero (suc j) b l = omega arith
numbers-before (e ∷ es) (suc i) zero b l = absurd (not-suc-le-zero b)
numbers-before (e ∷ es) (suc i) (suc j) b l = omega (arith, numbers-before es i j (le_of_suc-le-suc b) (le_of_suc-le-suc l))

numbers_end : (es : List Event) (i : ℕ) → i < length es → used_all (take i es) + used_by (event_at es i) ≤ used_all es
unfolding used_all
numbers_end [] i l = absurd (not-suc-le-zero l)
numbers_end (e ∷ es) zero l = omega arith
numbers_end (e ∷ es) (suc i) l = omega (arith, numbers_end es i (le_of_suc-le-suc l))

-- The number of a place.
abbrev pub number_of : (s : Account) → Place s.events → ℕ
number_of s x = number_at s x.call x.piece

module _ (s : Account) (ran : Ran s) where
  -- It lies between the opening number and the number at the end, which is at most 2^32.
  pub number_within : (x : Place s.events) → (s.set_up.opening ≤ number_of s x) × (number_of s x < s.end.next) × (s.end.next ≤ counters)
  unfolding number_at
  number_within x =
      let e = event_of s.events x in
      let total = sums ran.history in
      let bound = total.next_within ran.allowed.opening_within in
      let last = numbers_end s.events x.call (in_range s.events x.call x.piece x.is_covered) in
      omega (arith, x.is_covered, covered≤used (shape_of e) e.answer, total.next_sum)

  earlier : (x y : Place s.events) → x.call < y.call → number_of s x < number_of s y
  unfolding number_at
  earlier x y b =
      let e = event_of s.events x in
      let first = numbers-before s.events x.call y.call b (in_range s.events x.call x.piece x.is_covered) in
      omega (arith, x.is_covered, covered≤used (shape_of e) e.answer)

  pub numbers_apart : (x y : Place s.events) → number_of s x ≡ number_of s y → (x.call ≡ y.call) × (x.piece ≡ y.piece)
  unfolding number_at
  numbers_apart x y same = ⊎_elim at_one (⊎_elim (λ b. before b) (λ b. after b)) (cases_order x.call y.call)
    where
      at_one : x.call ≡ y.call → (x.call ≡ y.call) × (x.piece ≡ y.piece)
      at_one e = (e, omega (arith, ap (λ i. used_all (take i s.events)) e))

      before : x.call < y.call → (x.call ≡ y.call) × (x.piece ≡ y.piece)
      before b = absurd (omega (arith, earlier x y b))

      after : y.call < x.call → (x.call ≡ y.call) × (x.piece ≡ y.piece)
      after b = absurd (omega (arith, earlier y x b))

pub no_counter_block_twice : NoCounterBlockTwice
no_counter_block_twice s ran x y same =
    let wx = number_within s ran x in
    let wy = number_within s ran y in
    numbers_apart s ran x y (counter_blocks_apart s.set_up.prefix (number_of s x) (number_of s y) (omega arith) (omega arith) same)
