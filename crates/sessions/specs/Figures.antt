-- Worked figures of sessions. Assumes nothing.
use Rattle.std.specs.Prelude.{◌≡◌, ℕ, ◌+◌, ◌-◌, ◌≤◌, List, [], ◌∷◌, ◌++◌, Some, None, codes, Option}
use Rattle.cipher.specs.Keys.{key_verdict}
use Rattle.fields.specs.Figures.{Figure}
use Rattle.routes.specs.Routes.{cap}
use Rattle.sessions.specs.Calls.{Answer, covers, gives, gives_both, refused, ruled, ruled_all, call_cost}

-- The numbers of an answer, of a list of answers, and of a key's refusal.
abbrev pub answer_numbers : Answer → List ℕ
answer_numbers (gives a) = a ∷ []
answer_numbers (gives_both a b) = a ∷ b ∷ []
answer_numbers (refused a b) = a ∷ b ∷ []

abbrev pub all_numbers : List Answer → List ℕ
all_numbers [] = []
all_numbers (a ∷ as') = answer_numbers a ++ all_numbers as'

abbrev pub verdict_numbers : Option (ℕ × ℕ) → List ℕ
verdict_numbers None = []
verdict_numbers (Some r) = r.0 ∷ r.1 ∷ []

-- The figures, each beside what is published.
abbrev pub session_figures : List Figure
session_figures =
    record { label = codes "17 bytes covered from number 7 on, at a tally of 10: what is given, and the cost"; given = answer_numbers (ruled 16 7 10 (covers 17)) ++ call_cost 16 (covers 17) (ruled 16 7 10 (covers 17)) ∷ []; published = 7 ∷ 2 ∷ 20 ∷ [] }
    ∷ record { label = codes "16 bytes, 1 byte and none covered from number 4294967295 on"; given = all_numbers (ruled_all 16 4294967295 10 (covers 16 ∷ covers 1 ∷ covers 0 ∷ [])); published = 4294967295 ∷ 1 ∷ 5 ∷ 0 ∷ 4294967296 ∷ 0 ∷ [] }
    ∷ record { label = codes "a key of 16 bytes at a starting tally of 2^40 - 10, taken, and of 2^40 - 9, refused"; given = verdict_numbers (key_verdict 16 (cap - 10)) ++ verdict_numbers (key_verdict 16 (cap - 9)); published = 6 ∷ 9 ∷ [] }
    ∷ []

-- The first of them at every tally that leaves 20 inversions.
abbrev pub SeventeenBytesFromSeven : Type 0
SeventeenBytesFromSeven =
    (tally : ℕ) → tally + 20 ≤ cap
    → (ruled 16 7 tally (covers 17) ≡ gives_both 7 2) × (◌≡◌ {A = ℕ} (call_cost 16 (covers 17) (ruled 16 7 tally (covers 17))) 20)
