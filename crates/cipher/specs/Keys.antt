-- Keys: which lengths there are, what setting one costs in route calls, and when it is refused. Assumes nothing.
use Rattle.std.specs.Prelude.{◌≡◌, ℕ, zero, suc, ◌+◌, ◌-◌, ◌*◌, ◌/◌, ◌%◌, Bool, cond, ◌&&◌, ◌||◌, List, [], ◌∷◌, take, replicate, Some, None, Option, ◌==◌, nat_le, nat_lt}
use Rattle.routes.specs.Routes.{cap}
use Rattle.cipher.specs.Fips197.{key_schedule, round_count}
use Rattle.cipher.specs.Layout.{word_lists, in_a_row}

-- A key of 16, 24 or 32 bytes.
abbrev pub key_length : ℕ → Bool
key_length n = n == 16 || (n == 24 || n == 32)

-- The rounds of a key of n bytes: 10, 12 and 14.
abbrev pub key_rounds : ℕ → ℕ
key_rounds n = round_count (n / 4)

-- What setting a key of n bytes costs: one route call for each word of its schedule that is substituted.
abbrev pub key_cost : ℕ → ℕ
key_cost n = cond (n == 16) 10 (cond (n == 24) 8 13)

-- Why a key of n bytes is refused at a tally: 1 with its length, then 6 with the inversions that are left; or it is taken.
abbrev pub key_verdict : ℕ → ℕ → Option (ℕ × ℕ)
key_verdict n tally = cond (key_length n) (cond (nat_le (tally + key_cost n) cap) None (Some (6, cap - tally))) (Some (1, n))

-- ---- the schedule of a key of nk words

-- How many words it has.
abbrev pub schedule_length : ℕ → ℕ
schedule_length nk = 4 * (round_count nk + 1)

-- Arrays of four bytes, the first of which are the schedule of the key that stands in the first nk.
abbrev pub ScheduleHeld : ℕ → List (List ℕ) → Type 0
ScheduleHeld nk arrays = take (schedule_length nk) arrays ≡ word_lists (key_schedule nk (in_a_row (take nk arrays)))

-- Arrays of four bytes 00.
abbrev pub zero_arrays : ℕ → List (List ℕ)
zero_arrays n = replicate n (0 ∷ 0 ∷ 0 ∷ 0 ∷ [])

-- The route calls that word i costs: one where it is substituted.
abbrev pub word_cost : ℕ → ℕ → ℕ
word_cost nk i = cond (i % nk == 0 || (nat_lt 6 nk && i % nk == 4)) 1 0

-- What the n words after the key cost.
unfoldable pub words_cost : ℕ → ℕ → ℕ
words_cost nk zero = 0
words_cost nk (suc n) = words_cost nk n + word_cost nk (nk + n)
