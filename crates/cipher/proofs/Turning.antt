-- A block turned under a schedule is turned under its key. Assumes nothing.
use Rattle.std.proofs.Common.{◌≡◌, ℕ, zero, suc, ◌+◌, ◌-◌, ◌*◌, ◌/◌, ◌<◌, ◌≤◌, cond, eqb, leb, List, [], ◌∷◌, length, get_or, take, Some, None, Option, sym, refl, ap, ◌∙◌, subst, ap₂, not-suc-le-zero, arith, length-append}
use Rattle.std.proofs.lemmas.Bool.Decides.{nat_tests}
use Rattle.std.specs.Option.{option_map}
use Rattle.routes.specs.Routes.{cap}
use Rattle.cipher.specs.Engines.{engine_key, block_verdict, Headroom, TurnedBy}
use Rattle.cipher.specs.Keys.{key_length}
use Rattle.cipher.specs.Fips197.{Word, State, word_bytes, state, state_bytes, key_schedule, round_count}
use Rattle.cipher.specs.Layout.{in_a_row, aes_by}
use Rattle.cipher.specs.Schedules.{schedule_key, schedule_words, schedule_rounds, turn_verdict}
use Rattle.cipher.specs.declared.engine.Engine.{Engine}
use Rattle.cipher.specs.declared.schedule.KeySchedule.{KeySchedule}
use Rattle.cipher.proofs.Schedules.{schedule_is, schedule_room, schedule_word}

-- Arrays of four bytes in a row.
row-length : (k : ℕ) (xs : List (List ℕ)) → k ≤ length xs → ((i : ℕ) → i < k → length (get_or xs i []) ≡ 4) → length (in_a_row (take k xs)) ≡ 4 * k
unfolding in_a_row
row-length zero xs h fours = refl
row-length (suc k) [] h fours = absurd (not-suc-le-zero h)
row-length (suc k) (x ∷ xs) h fours =
    length-append x (in_a_row (take k xs))
    ∙ (let first : length x ≡ 4 = fours 0 (omega arith) in
    let rest : length (in_a_row (take k xs)) ≡ 4 * k = row-length k xs (omega arith) (λ i l. fours (suc i) (omega arith)) in
    omega arith)

four_bytes : (w : Word) → length (word_bytes w) ≡ 4
unfolding word_bytes
four_bytes w = refl

module _ (s : KeySchedule) where
  key_bytes : length (schedule_key s) ≡ 4 * s.key_words
  key_bytes =
      row-length s.key_words s.words (omega (arith, schedule_room s))
      (λ i h. ap length (schedule_word s i (omega arith)) ∙ four_bytes _)

  pub key_quarter : length (schedule_key s) / 4 ≡ s.key_words
  key_quarter = omega (arith, key_bytes)

  pub same_verdict : (n tally : ℕ) → block_verdict (Some (schedule_key s)) n tally ≡ turn_verdict s n tally
  same_verdict n tally = ap (λ k. cond (eqb n 16) (cond (leb (tally + round_count k) cap) None (Some (6, cap - tally))) (Some (3, n))) key_quarter

  -- the schedule's rounds and words are those of its key
  of_key : (f : ℕ → List Word → List ℕ) → f (schedule_rounds s) (schedule_words s) ≡ f (round_count (length (schedule_key s) / 4)) (key_schedule (length (schedule_key s) / 4) (schedule_key s))
  of_key f = ap (f (schedule_rounds s)) (schedule_is s) ∙ ap (λ k. f (round_count k) (key_schedule k (schedule_key s))) (sym key_quarter)

  pub turns : (turned : State → ℕ → List Word → State) (block : List ℕ) → state_bytes (turned (state block) (schedule_rounds s) (schedule_words s)) ≡ aes_by turned (length (schedule_key s) / 4) (schedule_key s) block
  turns turned block = of_key (λ nr w. state_bytes (turned (state block) nr w))

  -- A block of sixteen bytes is refused for its rounds alone.
  pub verdict_late : (n tally : ℕ) → n ≡ 16 → cap - tally < schedule_rounds s → turn_verdict s n tally ≡ Some (6, cap - tally)
  verdict_late n tally e h = grind (arith, nat_tests)

  pub verdict_taken : (n tally : ℕ) → n ≡ 16 → tally ≤ cap → schedule_rounds s ≤ cap - tally → turn_verdict s n tally ≡ None
  verdict_taken n tally e l h = grind (arith, nat_tests)

-- The verdict of an engine that holds a schedule.
pub held_verdict : (o : Option KeySchedule) (s : KeySchedule) (n t t' : ℕ) {v : Option (ℕ × ℕ)} → o ≡ Some s → t ≡ t' → turn_verdict s n t ≡ v → block_verdict (option_map schedule_key o) n t' ≡ v
held_verdict o s n t t' is told verdict =
    ap₂ (λ p u. block_verdict (option_map schedule_key p) n u) is (sym told) ∙ same_verdict s n t ∙ verdict

-- The headroom of an engine that holds a schedule.
pub held_headroom : (o : Option KeySchedule) (s : KeySchedule) (n t t' : ℕ) → o ≡ Some s → n ≡ schedule_rounds s → t ≡ t' → Headroom (option_map schedule_key o) t' (Some (n, cap - t))
held_headroom o s n t t' is rounds told =
    subst (λ p. Headroom (option_map schedule_key p) t' (Some (n, cap - t))) (sym is) (
      ap key_length (key_bytes s) ∙ s.sized,
      ap₂ (λ (m u : ℕ). Some (m, cap - u)) (rounds ∙ ap round_count (sym (key_quarter s))) told,
    )

-- A block was turned under the schedule that an engine holds, and its rounds were counted: it was turned under the key set.
pub turned_by :
    {R : Type 0} (tally : R → ℕ) (turn : ℕ → List ℕ → List ℕ → List ℕ) (before after : Engine R) (s : KeySchedule) (block block' : List ℕ)
    → before.schedule ≡ Some s → after.schedule ≡ before.schedule → block' ≡ turn (length (schedule_key s) / 4) (schedule_key s) block
    → tally after.route ≡ tally before.route + schedule_rounds s
    → TurnedBy tally before after turn (engine_key before) block block'
turned_by tally turn before after s block block' held same value counted =
    subst (λ o. TurnedBy tally before after turn o block block') (sym (ap (option_map schedule_key) held)) (
      value,
      ap (option_map schedule_key) (same ∙ held),
      counted ∙ ap (λ k. tally before.route + round_count k) (sym (key_quarter s)),
    )
