-- What holds along every history: answers, sums, bounds, and what a listener learns. Assumes nothing.
use Rattle.std.proofs.Common.{◌≡◌, ℕ, ◌+◌, ◌*◌, ◌≤◌, List, [], ◌∷◌, length, sym, refl, ◌∙◌, subst, ap₂, mul-zero, mul-add, arith}
use Rattle.cipher.specs.Keys.{key_rounds}
use Rattle.routes.specs.Routes.{cap}
use Rattle.sessions.specs.Calls.{Shape, ruled, used, call_cost, ruled_all}
use Rattle.sessions.specs.Counters.{counters}
use Rattle.sessions.specs.Histories.{Held, Event, Promised, History, none, then, opened, shape_of, covered_by, shapes, answers, runs_before, runs_after, used_all, covered_all}
use Rattle.sessions.specs.Laws.{AnswersAreTheRules, TheOtherEndUncovers, Fed, fed_none, fed_then, TheTallyIsTheSum, AListenerLearnsLengthsOnly, AlikeInLengths}
use Rattle.sessions.specs.Places.{Account}
use Rattle.sessions.proofs.Steps.{next_stays_within, tally_stays_within, same_answer, same_held, uncovers_run}

-- ---- answers

-- What is held after a call is worked out from what the rules are worked out from.
onward : {A : Type 0} (f : (key next tally : ℕ) → A) {h h' : Held} {e : Event} → Promised h e h'
    → let n = length h.key in
    let a = ruled n h.next h.tally (shape_of e) in
    f (length h'.key) h'.next h'.tally ≡ f n (h.next + used (shape_of e) a) (h.tally + call_cost n (shape_of e) a)
onward f promise = rw (promise.same_key, promise.advances, promise.counts, promise.answered)

answers_from : {h h' : Held} {es : List Event} → History h es h' → answers es ≡ ruled_all (length h.key) h.next h.tally (shapes es)
unfolding ruled_all
answers_from none = refl
answers_from (then {es = es} promise rest) =
    ap₂ (λ x xs. x ∷ xs) promise.answered (answers_from rest ∙ onward (λ k n t. ruled_all k n t (shapes es)) promise)

pub answers_are_the_rules : AnswersAreTheRules
answers_are_the_rules s ran = answers_from ran.history

-- ---- the other end

record Undone (es es' : List Event) (h h' : Held) : Type 0 where
  runs : runs_after es' ≡ runs_before es
  same_answers : answers es' ≡ answers es
  same_end : h' ≡ h

undone : {h h' h'' : Held} {es es' : List Event} → Fed es es' → History h es h' → History h es' h'' → Undone es es' h' h''
undone fed_none none none = record { runs = refl; same_answers = refl; same_end = refl }
undone {h'' = h''} (fed_then {es' = es'} same_shape fed feds) (then promise rest) (then again rest') =
    let later = undone feds rest (subst (λ g. History g es' h'') (same_held promise again same_shape fed) rest') in
    record {
      runs = ap₂ (λ x xs. x ∷ xs) (uncovers_run promise again same_shape fed) later.runs;
      same_answers = ap₂ (λ x xs. x ∷ xs) (same_answer promise again same_shape fed) later.same_answers;
      same_end = later.same_end;
    }

pub the_other_end_uncovers : TheOtherEndUncovers
the_other_end_uncovers s s' ran ran' same fed =
    let done = undone fed ran.history (subst (λ u. History (opened u) s'.events s'.end) same ran'.history) in
    record { runs = done.runs; same_answers = done.same_answers; same_end = done.same_end }

-- ---- sums and bounds

pub record Sums (h : Held) (es : List Event) (h' : Held) : Type 0 where
  pub same_key : h'.key ≡ h.key
  pub same_prefix : h'.prefix ≡ h.prefix
  pub next_sum : h'.next ≡ h.next + used_all es
  pub tally_sum : h'.tally ≡ h.tally + key_rounds (length h.key) * covered_all es
  pub next_within : h.next ≤ counters → h'.next ≤ counters
  pub tally_within : h.tally ≤ cap → h'.tally ≤ cap

pub sums : {h h' : Held} {es : List Event} → History h es h' → Sums h es h'
unfolding used_all covered_all
sums {h} none =
    record {
      same_key = refl;
      same_prefix = refl;
      next_sum = omega arith;
      tally_sum = omega (arith, mul-zero (key_rounds (length h.key)));
      next_within = λ l. l;
      tally_within = λ l. l;
    }
sums (then {h} {h'} {e = e} {es = es} promise rest) =
    let later = sums rest in
    record {
      same_key = later.same_key ∙ promise.same_key;
      same_prefix = later.same_prefix ∙ promise.same_prefix;
      next_sum = omega arith;
      tally_sum = omega (arith, rw promise.same_key at later.tally_sum, mul-add (key_rounds (length h.key)) (covered_by e) (covered_all es));
      next_within = λ l. later.next_within (next_stays_within promise l);
      tally_within = λ l. later.tally_within (tally_stays_within promise l);
    }

pub the_tally_is_the_sum : TheTallyIsTheSum
the_tally_is_the_sum s ran =
    let total = sums ran.history in
    record {
      same_key = total.same_key;
      same_prefix = total.same_prefix;
      next_sum = total.next_sum;
      tally_sum = total.tally_sum;
      next_within = total.next_within ran.allowed.opening_within;
      tally_within = total.tally_within ran.allowed.key_paid;
    }

-- ---- a listener

-- A function of the next number and the tally at the end of a list of calls, from nothing but what the rules are worked out from.
end_after : {A : Type 0} → ((next tally : ℕ) → A) → (key next tally : ℕ) → List Shape → A
end_after f key next tally [] = f next tally
end_after f key next tally (s ∷ ss) =
    let answer = ruled key next tally s in
    end_after f key (next + used s answer) (tally + call_cost key s answer) ss

end_from : {A : Type 0} (f : (next tally : ℕ) → A) {h h' : Held} {es : List Event} → History h es h' → f h'.next h'.tally ≡ end_after f (length h.key) h.next h.tally (shapes es)
unfolding end_after
end_from f none = refl
end_from f (then {es = es} promise rest) = end_from f rest ∙ onward (λ k n t. end_after f k n t (shapes es)) promise

-- Two sessions that are alike in lengths, by any function of what the rules are worked out from.
alike : {A : Type 0} (f : (key next tally : ℕ) → List Shape → A) (s s' : Account) → AlikeInLengths s s'
    → f (length s.set_up.key) s.set_up.opening (opened s.set_up).tally (shapes s.events) ≡ f (length s'.set_up.key) s'.set_up.opening (opened s'.set_up).tally (shapes s'.events)
alike f s s' a = rw (a.key_lengths, a.openings, a.startings, a.all_shapes)

pub a_listener_learns_lengths_only : AListenerLearnsLengthsOnly
a_listener_learns_lengths_only s s' ran ran' a =
    record {
      same_answers = answers_from ran.history ∙ alike ruled_all s s' a ∙ sym (answers_from ran'.history);
      same_tally = end_from (λ n t. t) ran.history ∙ alike (end_after (λ n t. t)) s s' a ∙ sym (end_from (λ n t. t) ran'.history);
      same_next = end_from (λ n t. n) ran.history ∙ alike (end_after (λ n t. n)) s s' a ∙ sym (end_from (λ n t. n) ran'.history);
    }
