-- How the rounds go on. Assumes nothing.
use Rattle.std.proofs.Common.{◌≡◌, ℕ, ◌+◌, ◌-◌, ◌<◌, ◌≤◌, List, [], ◌∷◌, ◌++◌, length, get_or, take, drop, sym, ap, ◌∙◌, le_refl, add-one, arith}
use Rattle.std.proofs.Math.Seq.{take-append_seam, get_or-append_seam}
use Rattle.std.proofs.lemmas.List.{take-take, get_or-take, get_or-drop, length-append, length-take, length-take-le, length-drop}
use Rattle.cipher.specs.Fips197.{Word, State, rounds, inv_rounds, add_round_key, mix_columns, shift_rows, sub_bytes, round_key, inv_mix_columns, inv_shift_rows, inv_sub_bytes}
use Rattle.cipher.specs.Layout.{columns_state}

-- Round n + 1 of the cipher, from those before.
pub round_step : (n : ℕ) (w : List Word) (s : State) → rounds (n + 1) w s ≡ add_round_key (mix_columns (shift_rows (sub_bytes (rounds n w s)))) (round_key w (n + 1))
unfolding rounds
round_step n w s =
    ap (λ m. rounds m w s) (add-one n) ∙ ap (λ m. add_round_key (mix_columns (shift_rows (sub_bytes (rounds n w s)))) (round_key w m)) (sym (add-one n))

pub inv_round_step : (n : ℕ) (w : List Word) (s : State) → inv_rounds (n + 1) w s ≡ inv_rounds n w (inv_mix_columns (add_round_key (inv_sub_bytes (inv_shift_rows s)) (round_key w (n + 1))))
unfolding inv_rounds
inv_round_step n w s =
    ap (λ m. inv_rounds m w s) (add-one n) ∙ ap (λ m. inv_rounds n w (inv_mix_columns (add_round_key (inv_sub_bytes (inv_shift_rows s)) (round_key w m)))) (sym (add-one n))

-- The round keys, and those between the first and the last.
module _ (keys : List (List (List ℕ))) (nr : ℕ) (w : List Word) (count : length keys ≡ nr + 1) (keyed : (r : ℕ) → r ≤ nr → columns_state (get_or keys r []) ≡ round_key w r) where
  abbrev inner : List (List (List ℕ))
  inner = take (length keys - 1 - 1) (drop 1 keys)

  pub inner-length : length inner ≡ nr - 1
  inner-length = length-take-le (length keys - 1 - 1) (drop 1 keys) (omega (arith, length-drop 1 keys)) ∙ omega arith

  pub inner_key : (k : ℕ) → k < nr - 1 → columns_state (get_or inner k []) ≡ round_key w (k + 1)
  inner_key k h =
      ap columns_state (get_or-take (length keys - 1 - 1) (drop 1 keys) k [] (omega arith) ∙ get_or-drop 1 keys k [] ∙ ap (λ m. get_or keys m []) (let e : 1 + k ≡ k + 1 = omega arith in e))
      ∙ keyed (k + 1) (omega arith)

  pub last_key : columns_state (get_or keys (length keys - 1) []) ≡ round_key w nr
  last_key = ap (λ m. columns_state (get_or keys m [])) (let e : length keys - 1 ≡ nr = omega arith in e) ∙ keyed nr (le_refl nr)

-- What is left of a list once its last was taken off, where it was the front of another.
module _ {A : Type 0} (d : A) (all old new : List A) (x : A) (front : old ≡ take (length old) all) (taken : old ≡ new ++ (x ∷ [])) where
  pub popped-length : length old ≡ length new + 1
  popped-length = ap length taken ∙ length-append new (x ∷ [])

  pub popped_front : new ≡ take (length new) all
  popped_front = sym (take-append_seam new (x ∷ [])) ∙ ap (take (length new)) (sym taken ∙ front) ∙ take-take (length new) (length old) all (omega (arith, popped-length))

  pub popped-last : x ≡ get_or all (length new) d
  popped-last =
      sym (get_or-append_seam new x [] d) ∙ ap (λ xs. get_or xs (length new) d) (sym taken ∙ front)
      ∙ get_or-take (length old) all (length new) d (omega (arith, popped-length))

  pub popped_room : length new < length all
  popped_room = omega (arith, popped-length, ap length front, length-take (length old) all)
