-- The schedule that an expanded key holds, and what it is to expand one. Assumes nothing.
use Rattle.std.specs.Prelude.{◌≡◌, ℕ, ◌+◌, ◌-◌, ◌/◌, ◌<◌, ◌≤◌, cond, List, length, take, Some, None, Option, Result, MatchOption, MatchResult, ◌==◌, nat_le, slice_index_or}
use Rattle.routes.specs.Refusals.{numbers}
use Rattle.routes.specs.Routes.{cap}
use Rattle.routes.specs.declared.refusal.Refusal.{Refusal}
use Rattle.cipher.specs.Fips197.{Word, word_bytes, zero_word, key_schedule, round_count}
use Rattle.cipher.specs.Keys.{key_cost, key_verdict, schedule_length}
use Rattle.cipher.specs.Layout.{held_words, in_a_row}
use Rattle.cipher.specs.declared.schedule.KeySchedule.{KeySchedule}

-- The key, which stands in the first words.
abbrev pub schedule_key : KeySchedule → List ℕ
schedule_key s = in_a_row (take s.key_words s.words)

-- How many rounds the cipher has.
abbrev pub schedule_rounds : KeySchedule → ℕ
schedule_rounds s = round_count s.key_words

-- The words in use.
abbrev pub schedule_words : KeySchedule → List Word
schedule_words s = held_words (take (schedule_length s.key_words) s.words)

-- Word i, or none past the end.
abbrev pub HasWord : KeySchedule → ℕ → Option (List ℕ) → Type 0
HasWord s i r =
    MatchOption r (schedule_length s.key_words ≤ i) (λ w.
    (i < schedule_length s.key_words) × (w ≡ word_bytes (slice_index_or (key_schedule s.key_words (schedule_key s)) i zero_word)))

-- A key was expanded over a route.
module _ {R : Type 0} (tally : R → ℕ) (name : R → List ℕ) (key : List ℕ) (before after : R) where
  pub record Taken (s : KeySchedule) : Type 0 where
    pub verdict : key_verdict (length key) (tally before) ≡ None
    pub key_held : schedule_key s ≡ key
    pub size : s.key_words ≡ length key / 4
    pub counted : tally after ≡ tally before + key_cost (length key)
    pub named : name after ≡ name before

  pub record Refused (e : Refusal) : Type 0 where
    pub verdict : key_verdict (length key) (tally before) ≡ Some (numbers e)
    pub unasked : after ≡ before

  abbrev pub Expanded : Result KeySchedule Refusal → Type 0
  Expanded r = MatchResult r Taken Refused

-- Why a block of n bytes is refused at a tally under a schedule: 3 with its length, then 6 with the inversions that are left; or it is taken.
abbrev pub turn_verdict : KeySchedule → ℕ → ℕ → Option (ℕ × ℕ)
turn_verdict s n tally = cond (n == 16) (cond (nat_le (tally + schedule_rounds s) cap) None (Some (6, cap - tally))) (Some (3, n))
