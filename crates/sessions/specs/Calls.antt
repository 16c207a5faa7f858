-- The calls of a session, what a listener sees of them, and the rules by which they are answered. Assumes nothing.
use Rattle.std.specs.Prelude.{ℕ, ◌+◌, ◌-◌, ◌*◌, Bool, true, false, cond, List, [], ◌∷◌, length, ◌==◌, nat_lt}
use Rattle.cipher.specs.Keys.{key_rounds}
use Rattle.routes.specs.Refusals.{number, value}
use Rattle.routes.specs.Routes.{cap}
use Rattle.routes.specs.declared.refusal.Refusal.{Refusal}
use Rattle.routes.specs.declared.refusal.Refusal.TheVariants.{NoKey, RunLength, Remaining, Inversions}
use Rattle.sessions.specs.Counters.{counters, blocks}

-- A call: cover a run of bytes, skip n numbers, or ask how many remain.
pub data Call : Type 0 where
  cover : List ℕ → Call
  skip : ℕ → Call
  remaining : Call

-- What a listener sees of a call: its kind, and the length of its run or its n.
pub data Shape : Type 0 where
  covers : ℕ → Shape
  skips : ℕ → Shape
  asks : Shape

-- The shape of a call.
abbrev pub shape : Call → Shape
shape (cover run) = covers (length run)
shape (skip n) = skips n
shape remaining = asks

-- The run that a call was passed, empty but for cover.
abbrev pub run_of : Call → List ℕ
run_of (cover run) = run
run_of (skip n) = []
run_of remaining = []

-- What a call answers: one number, two numbers, or the two numbers of a refusal.
pub data Answer : Type 0 where
  gives : ℕ → Answer
  gives_both : ℕ → ℕ → Answer
  refused : ℕ → ℕ → Answer

-- Whether a call was taken, that is, not refused.
abbrev pub taken : Answer → Bool
taken (gives a) = true
taken (gives_both a b) = true
taken (refused a b) = false

-- A refusal by its two numbers.
abbrev pub refusal : Refusal → Answer
refusal r = refused (number r) (value r)

-- How many numbers remain from the next number on.
abbrev pub remains : ℕ → ℕ
remains next = counters - next

-- What it costs to cover k blocks under a key of n bytes, in route calls.
abbrev pub cover_cost : ℕ → ℕ → ℕ
cover_cost n k = key_rounds n * k

-- The longest run that is covered by one call, in bytes.
abbrev pub longest_run : ℕ
longest_run = 65536

-- The rules: what a call of a shape is answered at a key's length (0 where no key is set), a next number and a tally.
abbrev pub ruled : (key next tally : ℕ) → Shape → Answer
ruled key next tally (covers n) =
    cond (key == 0) (refusal NoKey)
    (cond (nat_lt longest_run n) (refusal (RunLength n))
    (cond (nat_lt (remains next) (blocks n)) (refusal (Remaining (remains next)))
    (cond (nat_lt cap (tally + cover_cost key (blocks n))) (refusal (Inversions (cap - tally)))
    (gives_both next (blocks n)))))
ruled key next tally (skips n) = cond (nat_lt (remains next) n) (refusal (Remaining (remains next))) (gives (remains next - n))
ruled key next tally asks = gives (remains next)

-- How many counter numbers a call used: none where it was refused.
abbrev pub used : Shape → Answer → ℕ
used (covers n) answer = cond (taken answer) (blocks n) 0
used (skips n) answer = cond (taken answer) n 0
used asks answer = 0

-- How many blocks a call covered: none where it was refused.
abbrev pub covered : Shape → Answer → ℕ
covered (covers n) answer = cond (taken answer) (blocks n) 0
covered (skips n) answer = 0
covered asks answer = 0

-- What a call cost under a key of n bytes, in route calls.
abbrev pub call_cost : ℕ → Shape → Answer → ℕ
call_cost n s answer = cover_cost n (covered s answer)

-- The rules through a list of calls: the answers, from nothing but a key's length, the numbers at which the list begins, and its shapes.
unfoldable pub ruled_all : (key next tally : ℕ) → List Shape → List Answer
ruled_all key next tally [] = []
ruled_all key next tally (s ∷ ss) =
    let answer = ruled key next tally s in
    answer ∷ ruled_all key (next + used s answer) (tally + call_cost key s answer) ss
