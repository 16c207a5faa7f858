-- Calls as values: what carrying out one and carrying out a list come to. Assumes nothing.
use Rattle.std.proofs.Common.{◌≡◌, ℕ, ◌+◌, ◌<◌, ◌≤◌, List, [], ◌∷◌, ◌++◌, map, length, get_or, take, drop, set, vec_items, vec_len, Ok, Err, IsOkAnd, MatchResult, Result, Vec, sym, refl, ap, ◌∙◌, subst, ap₂, add-zero, arith, length-append, get_or-drop, take_all, drop-drop, drop-set-lt}
use mathlib.Core.List.{map-append}
use lib.ListN.{length-map}
use Rattle.std.proofs.lemmas.List.{with_items_is, take_more, take_more_set}
use Rattle.std.proofs.lemmas.List.Elements.{same_from_all_zip}
use Rattle.std.specs.Vec.{with_items}
use Rattle.std.specs.declared.alloc.Global.{Global}
use Rattle.routes.specs.declared.refusal.Refusal.{Refusal}
use Rattle.sessions.specs.Calls.{Answer, cover, skip, covers}
use Rattle.sessions.specs.Exchanges.{call_in, given_in, answer_in, shape_in, run_in, event_in, events_in, calls_left, answers_given, CarriedOne, Carried}
use Rattle.sessions.specs.Histories.{Held, Event, Promised, History, none, then}
use Rattle.sessions.specs.Reading.{answer_from}
use Rattle.sessions.specs.contracts.call.SessionCallClone.TheImpl.{by_variants}
use Rattle.sessions.specs.declared.call.Answered.{Answered}
use Rattle.sessions.specs.declared.call.SessionCall.{SessionCall}
use Rattle.sessions.specs.declared.call.SessionCall.TheVariants.{Cover, Skip, Remaining}
use Rattle.sessions.specs.declared.call.Given.{Given}

-- ---- one call

-- A run of a vector that keeps its length is what the vector holds afterwards.
pub run_left : (v : Vec ℕ Global) (xs ys : List ℕ) → length xs ≡ vec_len v → length ys ≡ length xs → ys ≡ vec_items (with_items v ys)
run_left v xs ys size same = sym (with_items_is v ys (same ∙ size))

-- What a call gave, noted as an answer.
pub answered : {X : Type 0} (note : X → Given) (r : Result X Refusal) (a : Result Given Refusal) → MatchResult r (λ x. IsOkAnd a (λ y. y ≡ note x)) (λ e. a ≡ Err e) → answer_in a ≡ answer_from (λ x. given_in (note x)) r
answered note (Ok x) (Ok y) h = ap given_in h
answered note (Ok x) (Err e) h = absurd h
answered note (Err d) a h = ap answer_in h

module _ {h h' : Held} {c : SessionCall} (a : Result Given Refusal) {given : Answer} (noted : answer_in a ≡ given) where
  -- A run was covered in place.
  pub carried_cover : (v : Vec ℕ Global) (xs ys : List ℕ) → c ≡ Cover v → xs ≡ vec_items v → length xs ≡ vec_len v → length ys ≡ length xs → Promised h record { call = cover xs; answer = given; left = ys } h' → CarriedOne h c a (Cover (with_items v ys)) h'
  carried_cover v xs ys is holds size same promised =
      record {
        promised = subst (λ e. Promised h e h') (λ i. record { call = event_is i; answer = sym noted i; left = run_left v xs ys size same i }) promised;
        same_shape = ap (λ zs. covers (length zs)) (sym (run_left v xs ys size same)) ∙ ap covers same ∙ ap (λ zs. covers (length zs)) holds ∙ ap shape_in (sym is);
      }
    where
      event_is : cover xs ≡ call_in c
      event_is = ap cover holds ∙ ap call_in (sym is)

  -- A call with no run is left as it is.
  pub carried_as_is : (c' : SessionCall) → c ≡ c' → Promised h record { call = call_in c'; answer = given; left = run_in c' } h' → CarriedOne h c a c' h'
  carried_as_is c' is promised =
      record {
        promised = subst (λ e. Promised h e h') (λ i. record { call = call_in (sym is i); answer = sym noted i; left = run_in c' }) promised;
        same_shape = ap shape_in (sym is);
      }

-- ---- a list of calls

-- One more event at the end of a history.
pub history_more : {h h' h'' : Held} {es : List Event} {e : Event} → History h es h' → Promised h' e h'' → History h (es ++ e ∷ []) h''
history_more none last = then last none
history_more (then first rest) last = then first (history_more rest last)

events_more : (cs : List SessionCall) (as' : List (Result Given Refusal)) (cs' : List SessionCall) (c : SessionCall) (a : Result Given Refusal) (c' : SessionCall) → length as' ≡ length cs → length cs' ≡ length cs → events_in (cs ++ c ∷ []) (as' ++ a ∷ []) (cs' ++ c' ∷ []) ≡ events_in cs as' cs' ++ event_in c a c' ∷ []
unfolding events_in
events_more [] [] [] c a c' p q = refl
events_more [] [] (d' ∷ cs') c a c' p q = let no_way : ⊥ = omega arith in absurd no_way
events_more [] (b ∷ as') cs' c a c' p q = let no_way : ⊥ = omega arith in absurd no_way
events_more (d ∷ cs) [] cs' c a c' p q = let no_way : ⊥ = omega arith in absurd no_way
events_more (d ∷ cs) (b ∷ as') [] c a c' p q = let no_way : ⊥ = omega arith in absurd no_way
events_more (d ∷ cs) (b ∷ as') (d' ∷ cs') c a c' p q = ap (λ es. event_in d b d' ∷ es) (events_more cs as' cs' c a c' (omega arith) (omega arith))

pub same_lengths : (cs cs' : List SessionCall) → map shape_in cs' ≡ map shape_in cs → length cs' ≡ length cs
same_lengths cs cs' same = sym (length-map cs' shape_in) ∙ ap length same ∙ length-map cs shape_in

pub carried_none : (h : Held) → Carried h [] [] [] h
unfolding events_in
carried_none h = record { history = none; all_answered = refl; same_shapes = refl }

pub carried_more : {h h' h'' : Held} {cs cs' : List SessionCall} {as' : List (Result Given Refusal)} {c c' : SessionCall} {a : Result Given Refusal} → Carried h cs as' cs' h' → CarriedOne h' c a c' h'' → Carried h (cs ++ c ∷ []) (as' ++ a ∷ []) (cs' ++ c' ∷ []) h''
carried_more {h = h} {h'' = h''} {cs = cs} {cs' = cs'} {as' = as'} {c = c} {c' = c'} {a = a} all one =
    record {
      history = subst (λ es. History h es h'') (sym (events_more cs as' cs' c a c' all.all_answered (same_lengths cs cs' all.same_shapes))) (history_more all.history one.promised);
      all_answered = length-append as' (a ∷ []) ∙ ap (λ n. n + 1) all.all_answered ∙ sym (length-append cs (c ∷ []));
      same_shapes = map-append shape_in cs' (c' ∷ []) ∙ ap₂ (λ xs x. xs ++ x ∷ []) all.same_shapes one.same_shape ∙ sym (map-append shape_in cs (c ∷ []));
    }

-- One more call of a list that is carried out, and noted with its answer.
pub noted_more : {h h' h'' : Held} {cs : List SessionCall} (xs ys : List Answered) {c : SessionCall} (x : Answered) → ys ≡ xs ++ x ∷ [] → Carried h cs (answers_given xs) (calls_left xs) h' → CarriedOne h' c x.answer x.call h'' → Carried h (cs ++ c ∷ []) (answers_given ys) (calls_left ys) h''
noted_more {h = h} {h'' = h''} {cs = cs} xs ys {c = c} x noted all one =
    subst (λ as'. Carried h (cs ++ c ∷ []) as' (calls_left ys) h'') (sym answers_are) (subst (λ cs'. Carried h (cs ++ c ∷ []) (answers_given xs ++ x.answer ∷ []) cs' h'') (sym calls_are) (carried_more all one))
  where
    answers_are : answers_given ys ≡ answers_given xs ++ x.answer ∷ []
    answers_are = ap answers_given noted ∙ map-append (λ a. a.answer) xs (x ∷ [])

    calls_are : calls_left ys ≡ calls_left xs ++ x.call ∷ []
    calls_are = ap calls_left noted ∙ map-append (λ a. a.call) xs (x ∷ [])

-- One more call of a list that is carried out in place: `before` is the list as it was passed, and `now'` as it is.
module _ (before now' : List Answered) (i : ℕ) (below : i < length now') (sized : length now' ≡ length before) (rest : drop i now' ≡ drop i before) where
  same_call : (d : Answered) → get_or now' i d ≡ get_or before i d
  same_call d = at_start now' ∙ ap (λ xs. get_or xs 0 d) rest ∙ sym (at_start before)
    where
      at_start : (xs : List Answered) → get_or xs i d ≡ get_or (drop i xs) 0 d
      at_start xs = sym (get_or-drop i xs 0 d ∙ ap (λ n. get_or xs n d) (add-zero i))

  pub carried_next : {h h' h'' : Held} (d x : Answered) → Carried h (calls_left (take i before)) (answers_given (take i now')) (calls_left (take i now')) h' → CarriedOne h' (get_or now' i d).call x.answer x.call h'' → Carried h (calls_left (take (i + 1) before)) (answers_given (take (i + 1) (set now' i x))) (calls_left (take (i + 1) (set now' i x))) h''
  carried_next {h = h} {h'' = h''} d x all one =
      subst (λ cs. Carried h cs (answers_given (take (i + 1) (set now' i x))) (calls_left (take (i + 1) (set now' i x))) h'') (sym here) (noted_more (take i now') (take (i + 1) (set now' i x)) x (take_more_set now' i x below) all one)
    where
      here : calls_left (take (i + 1) before) ≡ calls_left (take i before) ++ (get_or now' i d).call ∷ []
      here =
          ap calls_left (take_more before i d (omega arith)) ∙ map-append (λ a. a.call) (take i before) (get_or before i d ∷ []) ∙ ap (λ y. calls_left (take i before) ++ y.call ∷ []) (sym (same_call d))

  pub rest_next : (x : Answered) → drop (i + 1) (set now' i x) ≡ drop (i + 1) before
  rest_next x = drop-set-lt (i + 1) now' i x (omega arith) ∙ sym (drop-drop 1 i now') ∙ ap (drop 1) rest ∙ drop-drop 1 i before

-- The whole list has been carried out, in the place where it stands.
pub carried_all : {h h' : Held} (before now' given left : List Answered) (i : ℕ) → length before ≤ i → length now' ≤ i → before ≡ given → left ≡ now' → Carried h (calls_left (take i before)) (answers_given (take i now')) (calls_left (take i now')) h' → Carried h (calls_left given) (answers_given left) (calls_left left) h'
carried_all {h = h} {h' = h'} before now' given left i p q passed kept all =
    subst (λ xs. Carried h (calls_left xs) (answers_given left) (calls_left left) h') (take_all i before p ∙ passed) (subst (λ xs. Carried h (calls_left (take i before)) (answers_given xs) (calls_left xs) h') (take_all i now' q ∙ sym kept) all)

-- ---- copies

-- A clone of a call is the same call.
pub cloned : (c c' : SessionCall) → by_variants c c' → call_in c' ≡ call_in c
cloned (Cover v) (Cover w) h = ap cover (same_from_all_zip _ (vec_items v) (vec_items w) h.0 (λ x y same. same))
cloned (Cover v) (Skip m) h = absurd h
cloned (Cover v) Remaining h = absurd h
cloned (Skip n) (Cover w) h = absurd h
cloned (Skip n) (Skip m) h = ap skip h
cloned (Skip n) Remaining h = absurd h
cloned Remaining (Cover w) h = absurd h
cloned Remaining (Skip m) h = absurd h
cloned Remaining Remaining h = refl

-- One more call of a list has been copied.
pub copied_more : (xs copies copies' : List Answered) (copy d : Answered) (i : ℕ) → i < length xs → copies' ≡ copies ++ copy ∷ [] → map call_in (calls_left copies) ≡ map call_in (calls_left (take i xs)) → call_in copy.call ≡ call_in (get_or xs i d).call → map call_in (calls_left copies') ≡ map call_in (calls_left (take (i + 1) xs))
copied_more xs copies copies' copy d i below pushed all one =
    ap (λ ys. map call_in (calls_left ys)) pushed ∙ ap (map call_in) (map-append (λ a. a.call) copies (copy ∷ [])) ∙ map-append call_in (calls_left copies) (copy.call ∷ []) ∙ ap₂ (λ cs c. cs ++ c ∷ []) all one ∙ sym (map-append call_in (calls_left (take i xs)) (x.call ∷ [])) ∙ ap (map call_in) (sym (map-append (λ a. a.call) (take i xs) (x ∷ []))) ∙ ap (λ ys. map call_in (calls_left ys)) (sym (take_more xs i d below))
  where
    x : Answered
    x = get_or xs i d
