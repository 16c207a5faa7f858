-- That no counter block occurs at two places of a chain. Assumes nothing.
use Rattle.std.proofs.Common.{◌≡◌, ℕ, zero, suc, ◌<◌, ◌≤◌, List, [], ◌∷◌, sym, refl, ap, ◌∙◌, not-suc-le-zero, arith}
use Rattle.sessions.specs.Counters.{counters, counter_block}
use Rattle.sessions.specs.Laws.{NoCounterBlockTwiceInAChain}
use Rattle.sessions.specs.Places.{Account, Ran, Place, Chain, last, before, session_at}
use Rattle.sessions.proofs.Histories.{the_tally_is_the_sum}
use Rattle.sessions.proofs.Numbers.{counter_blocks_apart}
use Rattle.sessions.proofs.Places.{number_of, number_within, numbers_apart}

-- Past the end of a chain there is no place.
no_place : {A : Type 0} → Place [] → A
no_place x = absurd (not-suc-le-zero x.is_covered)

-- A place of session i of a chain.
abbrev PlaceAt : List Account → ℕ → Type 0
PlaceAt ss i = Place (session_at ss i).events

-- Its number lies between the number at which the chain was opened and 2^32, and its prefix is that of the chain.
record InChain (s : Account) (ss : List Account) (i : ℕ) (x : PlaceAt (s ∷ ss) i) : Type 0 where
  from : s.set_up.opening ≤ number_of (session_at (s ∷ ss) i) x
  below : number_of (session_at (s ∷ ss) i) x < counters
  under : (session_at (s ∷ ss) i).set_up.prefix ≡ s.set_up.prefix

in_first : {s : Account} {ss : List Account} → Ran s → (x : PlaceAt (s ∷ ss) 0) → InChain s ss 0 x
in_first {s} ran x = let w = number_within s ran x in record { from = omega arith; below = omega arith; under = refl }

in_chain : {s : Account} {ss : List Account} → Chain (s ∷ ss) → (i : ℕ) (x : PlaceAt (s ∷ ss) i) → InChain s ss i x
in_chain (last ran) zero x = in_first ran x
in_chain (last ran) (suc i) x = no_place x
in_chain (before ran same_prefix onward chain) zero x = in_first ran x
in_chain (before {s} ran same_prefix onward chain) (suc i) x =
    let later = in_chain chain i x in
    let end = (the_tally_is_the_sum s ran).next_sum in
    record { from = omega arith; below = later.below; under = later.under ∙ same_prefix }

-- A place of the first session has a smaller number than one of a later session.
first_before_later : {s t : Account} {ss : List Account} → Ran s → t.set_up.opening ≡ s.end.next → Chain (t ∷ ss) → (x : Place s.events) (j : ℕ) (y : PlaceAt (t ∷ ss) j) → number_of s x < number_of (session_at (t ∷ ss) j) y
first_before_later {s} ran onward chain x j y =
    let w = number_within s ran x in
    let later = in_chain chain j y in
    omega arith

-- Two places of a chain are one.
abbrev SamePlace : (ss : List Account) (i : ℕ) (x : PlaceAt ss i) (j : ℕ) (y : PlaceAt ss j) → Type 0
SamePlace ss i x j y = (i ≡ j) × (x.call ≡ y.call) × (x.piece ≡ y.piece)

numbers_apart_in_chain : {s : Account} {ss : List Account} → Chain (s ∷ ss) → (i : ℕ) (x : PlaceAt (s ∷ ss) i) (j : ℕ) (y : PlaceAt (s ∷ ss) j) → number_of (session_at (s ∷ ss) i) x ≡ number_of (session_at (s ∷ ss) j) y → SamePlace (s ∷ ss) i x j y
numbers_apart_in_chain (last {s} ran) zero x zero y same = let one = numbers_apart s ran x y same in (refl, one.0, one.1)
numbers_apart_in_chain (last ran) zero x (suc j) y same = no_place y
numbers_apart_in_chain (last ran) (suc i) x zero y same = no_place x
numbers_apart_in_chain (last ran) (suc i) x (suc j) y same = no_place x
numbers_apart_in_chain (before {s} ran same_prefix onward chain) zero x zero y same = let one = numbers_apart s ran x y same in (refl, one.0, one.1)
numbers_apart_in_chain (before ran same_prefix onward chain) zero x (suc j) y same = absurd (omega (arith, first_before_later ran onward chain x j y))
numbers_apart_in_chain (before ran same_prefix onward chain) (suc i) x zero y same = absurd (omega (arith, first_before_later ran onward chain y i x))
numbers_apart_in_chain (before ran same_prefix onward chain) (suc i) x (suc j) y same =
    let later = numbers_apart_in_chain chain i x j y same in
    (ap suc later.0, later.1, later.2)

pub no_counter_block_twice_in_a_chain : NoCounterBlockTwiceInAChain
no_counter_block_twice_in_a_chain [] chain x y same = no_place x.place
no_counter_block_twice_in_a_chain (s ∷ ss) chain x y same =
    let at = in_chain chain x.session x.place in
    let at' = in_chain chain y.session y.place in
    let n = number_of (session_at (s ∷ ss) x.session) x.place in
    let n' = number_of (session_at (s ∷ ss) y.session) y.place in
    let one_prefix : counter_block s.set_up.prefix n ≡ counter_block s.set_up.prefix n' = ap (λ p. counter_block p n) (sym at.under) ∙ same ∙ ap (λ p. counter_block p n') at'.under in
    numbers_apart_in_chain chain x.session x.place y.session y.place (counter_blocks_apart s.set_up.prefix n n' at.below at'.below one_prefix)
