-- A KeySchedule is the schedule of its key, word by word and round key by round key. Assumes nothing.
use Rattle.std.proofs.Common.{◌≡◌, ℕ, ◌+◌, ◌*◌, ◌/◌, ◌<◌, ◌≤◌, [], ◌∷◌, List, length, take, get_or, sym, ap, ◌∙◌, arith, length-take}
use Rattle.std.proofs.Math.Seq.{take-length}
use Rattle.std.specs.Simd.{first_chunks}
use Rattle.std.proofs.lemmas.List.{length-map, length-take-le}
use Rattle.cipher.specs.Fips197.{word_bytes, zero_word, key_schedule, round_key, round_count}
use Rattle.cipher.specs.Keys.{schedule_length}
use Rattle.cipher.specs.Layout.{held_words, columns_state}
use Rattle.cipher.specs.Schedules.{schedule_key, schedule_words}
use Rattle.cipher.specs.declared.schedule.KeySchedule.{KeySchedule}
use Rattle.cipher.proofs.Expansions.{held_again, held_at, held_round_key, take_four, chunk_at, schedule_full}

module _ (s : KeySchedule) where
  pub schedule_is : schedule_words s ≡ key_schedule s.key_words (schedule_key s)
  schedule_is = ap held_words s.expanded ∙ held_again _

  full : length (key_schedule s.key_words (schedule_key s)) ≡ schedule_length s.key_words
  full = schedule_full s.key_words (schedule_key s)

  -- The words in use are there.
  pub schedule_room : schedule_length s.key_words ≤ length s.words
  schedule_room =
      let e = sym (length-take (schedule_length s.key_words) s.words) ∙ ap length s.expanded ∙ length-map (key_schedule s.key_words (schedule_key s)) word_bytes ∙ full in
      omega arith

  pub schedule_word : (i : ℕ) → i < schedule_length s.key_words → get_or s.words i [] ≡ word_bytes (get_or (key_schedule s.key_words (schedule_key s)) i zero_word)
  schedule_word i h = held_at s.words (schedule_length s.key_words) _ s.expanded i h full

  -- The four words of round r are its round key.
  pub schedule_round_key : (r : ℕ) → r ≤ round_count s.key_words → columns_state (get_or s.words (4 * r) [] ∷ get_or s.words (4 * r + 1) [] ∷ get_or s.words (4 * r + 2) [] ∷ get_or s.words (4 * r + 3) [] ∷ []) ≡ round_key (schedule_words s) r
  schedule_round_key r h =
      held_round_key s.words (schedule_length s.key_words) _ s.expanded schedule_room r (omega arith) ∙ ap (λ ws. round_key ws r) (sym schedule_is)

  -- The chunks of the words in use are the round keys.
  pub chunk_round_key : (used : List (List ℕ)) → used ≡ take (schedule_length s.key_words) s.words → (n r : ℕ) → n ≡ length used / 4 → r ≤ round_count s.key_words → columns_state (get_or (first_chunks 4 n used) r []) ≡ round_key (schedule_words s) r
  chunk_round_key used is n r e h =
      let long : length used ≡ schedule_length s.key_words = ap length is ∙ length-take-le _ s.words schedule_room in
      ap columns_state (chunk_at [] n r used (omega arith) ∙ take_four [] used (4 * r) (omega arith))
      ∙ held_round_key used (schedule_length s.key_words) _ (ap (λ m. take m used) (sym long) ∙ take-length used ∙ is ∙ s.expanded) (omega arith) r (omega arith)
      ∙ ap (λ ws. round_key ws r) (sym schedule_is)
