-- Sessions that meet every premise of the laws: calls taken and refused of all kinds, and a chain of three. Assumes nothing.
use Rattle.std.proofs.Common.{◌≡◌, ℕ, ◌-◌, List, [], ◌∷◌, replicate, refl, ap, ◌∙◌, lit<, lit≤}
use Rattle.routes.specs.Routes.{cap}
use Rattle.sessions.specs.Calls.{Call, cover, skip, remaining, gives, gives_both, refused, ruled_all}
use Rattle.sessions.specs.Histories.{Held, Promised, SetUp, Allowed, opened, answers}
use Rattle.sessions.specs.Places.{Account, Ran, Chain, last, before, ChainPlace}
use Rattle.sessions.proofs.Carrying.{carried, held_after, carried_promised, carried_all, held_after_all, carried-shapes, carried_history, account, account_ran}
use Rattle.sessions.proofs.Histories.{answers_are_the_rules}

-- ---- calls of all kinds

-- A set-up with n bytes of key.
abbrev with_key : (n opening starting : ℕ) → SetUp
with_key n opening starting = record { key = replicate n 1; prefix = replicate 12 2; opening = opening; starting = starting }

abbrev zeros : ℕ → Call
zeros n = cover (replicate n 0)

-- After the key is set 30 inversions are left.
abbrev near_the_cap : SetUp
near_the_cap = with_key 16 0 (cap - 40)

near_the_cap_allowed : Allowed near_the_cap
near_the_cap_allowed = record { key_of_allowed_length = refl; prefix_of_twelve = refl; opening_within = lit≤ tt; key_paid = lit≤ tt }

abbrev calls : List Call
calls =
    remaining ∷ zeros 17 ∷ zeros 17 ∷ zeros 65537 ∷ skip 4294967296 ∷ skip 4294967293 ∷ zeros 17 ∷ zeros 16 ∷ zeros 0 ∷ remaining ∷ skip 1 ∷ skip 0 ∷ []

pub all_kinds_ran : Ran (account near_the_cap calls)
all_kinds_ran = account_ran near_the_cap near_the_cap_allowed calls

pub all_kinds_answers : answers (carried_all (opened near_the_cap) calls)
    ≡ gives 4294967296 ∷ gives_both 0 2 ∷ refused 6 10 ∷ refused 4 65537 ∷ refused 5 4294967294 ∷ gives 1 ∷ refused 5 1 ∷ gives_both 4294967295 1 ∷ gives_both 4294967296 0 ∷ gives 0 ∷ refused 5 0 ∷ gives 0 ∷ []
unfolding ruled_all
all_kinds_answers = answers_are_the_rules (account near_the_cap calls) all_kinds_ran ∙ ap (ruled_all 16 0 (cap - 30)) (carried-shapes (opened near_the_cap) calls)

-- Where no key is set a cover is refused, and that is promised too.
abbrev keyless : Held
keyless = record { key = []; prefix = replicate 12 2; next = 0; tally = 0 }

pub keyless_promised : Promised keyless (carried keyless (zeros 1)) (held_after keyless (zeros 1))
keyless_promised = carried_promised keyless (zeros 1)

pub keyless_refused : (carried keyless (zeros 1)).answer ≡ refused 2 0
keyless_refused = refl

-- ---- a chain of three, with keys of three lengths

abbrev first : Account
first = account (with_key 16 0 0) (zeros 17 ∷ skip 3 ∷ [])

abbrev second : Account
second = account (with_key 24 5 100) (zeros 16 ∷ [])

abbrev third : Account
third = account (with_key 32 6 7) (remaining ∷ zeros 33 ∷ [])

first_ran : Ran first
first_ran = record { allowed = record { key_of_allowed_length = refl; prefix_of_twelve = refl; opening_within = lit≤ tt; key_paid = lit≤ tt }; history = carried_history _ _ }

second_ran : Ran second
second_ran = record { allowed = record { key_of_allowed_length = refl; prefix_of_twelve = refl; opening_within = lit≤ tt; key_paid = lit≤ tt }; history = carried_history _ _ }

third_ran : Ran third
third_ran = record { allowed = record { key_of_allowed_length = refl; prefix_of_twelve = refl; opening_within = lit≤ tt; key_paid = lit≤ tt }; history = carried_history _ _ }

pub three_chained : Chain (first ∷ second ∷ third ∷ [])
unfolding held_after_all
three_chained = before first_ran refl refl (before second_ran refl refl (last third_ran))

-- The last block that it covers: session 2, call 1, piece 2.
pub last_place : ChainPlace (first ∷ second ∷ third ∷ [])
unfolding carried_all
last_place = record { session = 2; place = record { call = 1; piece = 2; is_covered = lit< tt } }
