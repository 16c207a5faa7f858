-- Set-ups that are taken, the ends that run from them, and what two ends make of one list. Assumes nothing.
use Rattle.std.proofs.Common.{◌≡◌, ℕ, ◌+◌, ◌≤◌, true, false, leb, List, [], ◌∷◌, map, length, Some, None, vec_items, Option, Result, sym, refl, ap, ◌∙◌, subst, ap₂, ⊎_elim, arith}
use lib.ListN.{length-map}
use Rattle.std.proofs.lemmas.Bool.{le-leb, cond-true, cond-false, cases_Bool}
use Rattle.std.proofs.lemmas.Bool.Decides.{nat_tests}
use Rattle.cipher.specs.Engines.{engine_key}
use Rattle.cipher.specs.Keys.{key_cost, key_verdict}
use Rattle.cipher.specs.declared.engine.Engine.{Engine}
use Rattle.routes.specs.Routes.{cap}
use Rattle.routes.specs.declared.refusal.Refusal.{Refusal}
use Rattle.sessions.specs.Counters.{counters}
use Rattle.sessions.specs.Calls.{shape, ruled_all}
use Rattle.sessions.specs.Exchanges.{call_in, answer_in, shape_in, run_in, calls_left, answers_given, events_in, first_of, set_up_verdict, held_at_end, account_of, Carried, EndRan, BothRan}
use Rattle.sessions.specs.Histories.{SetUp, Allowed, opened, answers, shapes, runs_before, runs_after}
use Rattle.sessions.specs.Laws.{Fed, fed_none, fed_then, Uncovers}
use Rattle.sessions.specs.Places.{Ran}
use Rattle.sessions.specs.Reading.{key_or_none, open_verdict, held_by}
use Rattle.sessions.specs.declared.call.SessionCall.{SessionCall}
use Rattle.sessions.specs.declared.call.Given.{Given}
use Rattle.sessions.specs.declared.ends.end.End.{End}
use Rattle.sessions.specs.declared.session.Session.{Session}
use Rattle.sessions.proofs.Exchanges.{same_lengths}
use Rattle.sessions.proofs.Histories.{sums, answers_are_the_rules, the_other_end_uncovers, the_tally_is_the_sum}
use Rattle.sessions.proofs.Numbers.{key_taken}
use Rattle.sessions.proofs.Steps.{held_path}

-- ---- set-ups

module _ (u : SetUp) where
  abbrev key_says : Option (ℕ × ℕ)
  key_says = key_verdict (length u.key) u.starting

  abbrev open_says : Option (ℕ × ℕ)
  open_says = open_verdict (length u.prefix) u.opening

  -- A set-up that nothing refuses is taken.
  pub verdict_none : u.starting ≤ cap → key_says ≡ None → open_says ≡ None → set_up_verdict u ≡ None
  verdict_none within key-none Open-none =
      cond-true (leb u.starting cap) (first_of key_says open_says) (Some (9, u.starting)) (le-leb u.starting cap within) ∙ ap₂ first_of key-none Open-none

  neither : (a b : Option (ℕ × ℕ)) → first_of a b ≡ None → (a ≡ None) × (b ≡ None)
  neither None b e = (refl, e)
  neither (Some x) b e = let no_way : ⊥ = grind arith in absurd no_way

  both_none : set_up_verdict u ≡ None → first_of key_says open_says ≡ None
  both_none e = ⊎_elim when_within when_above (cases_Bool (leb u.starting cap))
    where
      when_within : leb u.starting cap ≡ true → first_of key_says open_says ≡ None
      when_within b = sym (cond-true (leb u.starting cap) (first_of key_says open_says) (Some (9, u.starting)) b) ∙ e

      when_above : leb u.starting cap ≡ false → first_of key_says open_says ≡ None
      when_above b =
          let refused : ◌≡◌ {A = Option (ℕ × ℕ)} (Some (9, u.starting)) None = sym (cond-false (leb u.starting cap) (first_of key_says open_says) (Some (9, u.starting)) b) ∙ e in
          let no_way : ⊥ = grind arith in
          absurd no_way

  opens : open_says ≡ None → (length u.prefix ≡ 12) × (u.opening ≤ counters)
  opens e = grind (arith, nat_tests)

  -- It is one that is allowed.
  pub allowed_by : set_up_verdict u ≡ None → Allowed u
  allowed_by e =
      let none = neither key_says open_says (both_none e) in
      let key_fits = key_taken (length u.key) u.starting none.0 in
      let open-fits = opens none.1 in
      record { key_of_allowed_length = key_fits.0; prefix_of_twelve = open-fits.0; opening_within = open-fits.1; key_paid = key_fits.1 }

-- ---- one end

-- What is held when the key is set and the session opened is what the set-up says.
pub held_at_start : {R : Type 0} (tally : R → ℕ) (u : SetUp) (e : Engine R) (s : Session) → engine_key e ≡ Some u.key → tally e.route ≡ u.starting + key_cost (length u.key) → s.prefix ≡ u.prefix → s.next ≡ u.opening → held_by tally e s ≡ opened u
held_at_start tally u e s key-is tally-is prefix-is next-is =
    held_path (held_by tally e s) (opened u) (ap key_or_none key-is) prefix-is next-is tally-is

-- So is what is held at the end, but for the numbers.
pub run_carried : {R : Type 0} (tally : R → ℕ) (u : SetUp) (e e' : Engine R) (s s' : Session) (closed : ℕ) {cs cs' : List SessionCall} {as' : List (Result Given Refusal)} → engine_key e ≡ Some u.key → tally e.route ≡ u.starting + key_cost (length u.key) → s.prefix ≡ u.prefix → s.next ≡ u.opening → closed ≡ s'.next → Carried (held_by tally e s) cs as' cs' (held_by tally e' s') → Carried (opened u) cs as' cs' (held_at_end u closed (tally e'.route))
run_carried tally u e e' s s' closed {cs = cs} {cs' = cs'} {as' = as'} key-is tally-is prefix-is next-is closed_is carried =
    subst (λ h. Carried (opened u) cs as' cs' h) finish from_start
  where
    from_start : Carried (opened u) cs as' cs' (held_by tally e' s')
    from_start =
        subst (λ h. Carried h cs as' cs' (held_by tally e' s')) (held_at_start tally u e s key-is tally-is prefix-is next-is) carried

    finish : held_by tally e' s' ≡ held_at_end u closed (tally e'.route)
    finish =
        held_path (held_by tally e' s') (held_at_end u closed (tally e'.route)) (sums from_start.history).same_key (sums from_start.history).same_prefix (sym closed_is) refl

-- ---- lists of events by their parts

record Parts (cs : List SessionCall) (as' : List (Result Given Refusal)) (cs' : List SessionCall) : Type 0 where
  answers_are : answers (events_in cs as' cs') ≡ map answer_in as'
  shapes_are : shapes (events_in cs as' cs') ≡ map shape_in cs
  before_are : runs_before (events_in cs as' cs') ≡ map run_in cs
  after_are : runs_after (events_in cs as' cs') ≡ map run_in cs'

parts : (cs : List SessionCall) (as' : List (Result Given Refusal)) (cs' : List SessionCall) → length as' ≡ length cs → length cs' ≡ length cs → Parts cs as' cs'
unfolding events_in
parts [] [] [] p q = record { answers_are = refl; shapes_are = refl; before_are = refl; after_are = refl }
parts [] [] (c' ∷ cs') p q = let no_way : ⊥ = omega arith in absurd no_way
parts [] (a ∷ as') cs' p q = let no_way : ⊥ = omega arith in absurd no_way
parts (c ∷ cs) [] cs' p q = let no_way : ⊥ = omega arith in absurd no_way
parts (c ∷ cs) (a ∷ as') [] p q = let no_way : ⊥ = omega arith in absurd no_way
parts (c ∷ cs) (a ∷ as') (c' ∷ cs') p q =
    let rest = parts cs as' cs' (omega arith) (omega arith) in
    record {
      answers_are = ap (λ xs. answer_in a ∷ xs) rest.answers_are;
      shapes_are = ap (λ xs. shape_in c ∷ xs) rest.shapes_are;
      before_are = ap (λ xs. run_in c ∷ xs) rest.before_are;
      after_are = ap (λ xs. run_in c' ∷ xs) rest.after_are;
    }

-- A second end that is passed what the first left is fed.
fed_in : (cs : List SessionCall) (as' : List (Result Given Refusal)) (cs' : List SessionCall) (bs : List (Result Given Refusal)) (ds : List SessionCall) → length as' ≡ length cs → length bs ≡ length cs' → length ds ≡ length cs' → map shape_in cs' ≡ map shape_in cs → Fed (events_in cs as' cs') (events_in cs' bs ds)
unfolding events_in
fed_in [] as' [] bs ds p q r same = fed_none
fed_in [] as' (c' ∷ cs') bs ds p q r same = let no_way : ⊥ = omega (arith, same_lengths [] (c' ∷ cs') same) in absurd no_way
fed_in (c ∷ cs) [] cs' bs ds p q r same = let no_way : ⊥ = omega arith in absurd no_way
fed_in (c ∷ cs) (a ∷ as') [] bs ds p q r same = let no_way : ⊥ = omega (arith, same_lengths (c ∷ cs) [] same) in absurd no_way
fed_in (c ∷ cs) (a ∷ as') (c' ∷ cs') [] ds p q r same = let no_way : ⊥ = omega arith in absurd no_way
fed_in (c ∷ cs) (a ∷ as') (c' ∷ cs') (b ∷ bs) [] p q r same = let no_way : ⊥ = omega arith in absurd no_way
fed_in (c ∷ cs) (a ∷ as') (c' ∷ cs') (b ∷ bs) (d ∷ ds) p q r same =
    fed_then (cc) refl (fed_in cs as' cs' bs ds (omega arith) (omega arith) (omega arith) (cc))

-- ---- copies

-- An end that is passed copies of calls is an end that is passed the calls.
copied_events : (cs ds : List SessionCall) (as' : List (Result Given Refusal)) (cs' : List SessionCall) → map call_in cs ≡ map call_in ds → events_in cs as' cs' ≡ events_in ds as' cs'
unfolding events_in
copied_events [] [] as' cs' e = refl
copied_events [] (d ∷ ds) as' cs' e = let no_way : ⊥ = omega (arith, ap length e) in absurd no_way
copied_events (c ∷ cs) [] as' cs' e = let no_way : ⊥ = omega (arith, ap length e) in absurd no_way
copied_events (c ∷ cs) (d ∷ ds) [] cs' e = refl
copied_events (c ∷ cs) (d ∷ ds) (a ∷ as') [] e = refl
copied_events (c ∷ cs) (d ∷ ds) (a ∷ as') (c' ∷ cs') e =
    let same_head : call_in c ≡ call_in d = cc in
    ap₂ (λ call es. record { call = call; answer = answer_in a; left = run_in c' } ∷ es) same_head (copied_events cs ds as' cs' (cc))

copied_shapes : (cs ds : List SessionCall) → map call_in cs ≡ map call_in ds → map shape_in cs ≡ map shape_in ds
copied_shapes [] [] e = refl
copied_shapes [] (d ∷ ds) e = let no_way : ⊥ = omega (arith, ap length e) in absurd no_way
copied_shapes (c ∷ cs) [] e = let no_way : ⊥ = omega (arith, ap length e) in absurd no_way
copied_shapes (c ∷ cs) (d ∷ ds) e =
    let same_head : call_in c ≡ call_in d = cc in
    ap₂ (λ call xs. shape call ∷ xs) same_head (copied_shapes cs ds (cc))

pub copied_ran : (u : SetUp) (cs ds : List SessionCall) (end : End) → map call_in cs ≡ map call_in ds → EndRan u cs end → EndRan u ds end
copied_ran u cs ds end same ran =
    let same_shape = copied_shapes cs ds same in
    record {
      ran = subst (λ es. Ran record { set_up = u; events = es; end = held_at_end u end.closed end.tally }) (copied_events cs ds (answers_given (vec_items end.answered)) (calls_left (vec_items end.answered)) same) ran.ran;
      all_answered = ran.all_answered ∙ same_lengths ds cs same_shape;
      same_shapes = ran.same_shapes ∙ same_shape;
    }

-- ---- two ends

-- An end gave one answer to each call.
all_given : (u : SetUp) (cs : List SessionCall) (end : End) → EndRan u cs end → length (answers_given (vec_items end.answered)) ≡ length cs
all_given u cs end ran = length-map (vec_items end.answered) (λ a. a.answer) ∙ ran.all_answered

pub both_ran : (u : SetUp) (cs : List SessionCall) (t g : End) → EndRan u cs t → EndRan u (calls_left (vec_items t.answered)) g → BothRan u cs t g
both_ran u cs t g at-t at_g =
    record {
      at_transmitter = at-t;
      at_gateway = at_g;
      fed = fed_calls;
      runs_come_back = sym parts_g.after_are ∙ back.runs ∙ parts_t.before_are;
      same_answers = sym parts_g.answers_are ∙ back.same_answers ∙ parts_t.answers_are;
      answers_are_the_rules = sym parts_t.answers_are ∙ answers_are_the_rules (account_of u cs t) at-t.ran ∙ ap (ruled_all (length u.key) u.opening (u.starting + key_cost (length u.key))) parts_t.shapes_are;
      tally_is_the_sum = (the_tally_is_the_sum (account_of u cs t) at-t.ran).tally_sum;
      closed_at_the_sum = (the_tally_is_the_sum (account_of u cs t) at-t.ran).next_sum;
      same_tally = ap (λ h. h.tally) back.same_end;
      same_closing = ap (λ h. h.next) back.same_end;
    }
  where
    sent_all : length (calls_left (vec_items t.answered)) ≡ length cs
    sent_all = same_lengths cs (calls_left (vec_items t.answered)) at-t.same_shapes

    left_all : length (calls_left (vec_items g.answered)) ≡ length (calls_left (vec_items t.answered))
    left_all = same_lengths (calls_left (vec_items t.answered)) (calls_left (vec_items g.answered)) at_g.same_shapes

    parts_t : Parts cs (answers_given (vec_items t.answered)) (calls_left (vec_items t.answered))
    parts_t = parts cs (answers_given (vec_items t.answered)) (calls_left (vec_items t.answered)) (all_given u cs t at-t) sent_all

    parts_g : Parts (calls_left (vec_items t.answered)) (answers_given (vec_items g.answered)) (calls_left (vec_items g.answered))
    parts_g = parts (calls_left (vec_items t.answered)) (answers_given (vec_items g.answered)) (calls_left (vec_items g.answered)) (all_given u (calls_left (vec_items t.answered)) g at_g) left_all

    fed_calls : Fed (account_of u cs t).events (account_of u (calls_left (vec_items t.answered)) g).events
    fed_calls =
        fed_in cs (answers_given (vec_items t.answered)) (calls_left (vec_items t.answered)) (answers_given (vec_items g.answered)) (calls_left (vec_items g.answered)) (all_given u cs t at-t) (all_given u (calls_left (vec_items t.answered)) g at_g) left_all at-t.same_shapes

    back : Uncovers (account_of u cs t) (account_of u (calls_left (vec_items t.answered)) g)
    back = the_other_end_uncovers (account_of u cs t) (account_of u (calls_left (vec_items t.answered)) g) at-t.ran at_g.ran refl fed_calls
