-- Counter blocks are told apart by their numbers, and the rules keep numbers and tallies within their bounds. Assumes nothing.
use Rattle.std.proofs.Common.{◌≡◌, ℕ, ◌+◌, ◌*◌, ◌/◌, ◌%◌, ◌<◌, ◌≤◌, true, List, get_or, None, ap, zero-le, mul-zero, arith}
use mathlib.Core.List.{append_cancel_left}
use Rattle.std.proofs.lemmas.Bool.{ne_eqb, le-ltb}
use Rattle.std.proofs.lemmas.Bool.Decides.{nat_tests}
use Rattle.cipher.specs.Keys.{key_rounds, key_length, key_cost, key_verdict}
use Rattle.routes.specs.Routes.{cap}
use Rattle.sessions.specs.Calls.{Shape, covers, skips, asks, gives_both, ruled, used, call_cost, remains}
use Rattle.sessions.specs.Counters.{counters, four_bytes, counter_block}

-- ---- counter blocks

four_bytes_apart : (j k : ℕ) → j < counters → k < counters → four_bytes j ≡ four_bytes k → j ≡ k
unfolding four_bytes
four_bytes_apart j k hj hk e =
    let a : (j / 16777216) % 256 ≡ (k / 16777216) % 256 = ap (λ b. get_or b 0 0) e in
    let b : (j / 65536) % 256 ≡ (k / 65536) % 256 = ap (λ b. get_or b 1 0) e in
    let c : (j / 256) % 256 ≡ (k / 256) % 256 = ap (λ b. get_or b 2 0) e in
    let d : j % 256 ≡ k % 256 = ap (λ b. get_or b 3 0) e in
    omega arith

pub counter_blocks_apart : (prefix : List ℕ) (j k : ℕ) → j < counters → k < counters → counter_block prefix j ≡ counter_block prefix k → j ≡ k
unfolding counter_block
counter_blocks_apart prefix j k hj hk e = four_bytes_apart j k hj hk (append_cancel_left prefix (four_bytes j) (four_bytes k) e)

-- ---- the rules

module _ (key next tally : ℕ) where
  -- The next number and the tally stay within their bounds.
  pub within : (s : Shape) → next ≤ counters → next + used s (ruled key next tally s) ≤ counters
  within (covers n) h = grind (arith, nat_tests)
  within (skips n) h = grind (arith, nat_tests)
  within asks h = omega arith

  pub within_cap : (s : Shape) → tally ≤ cap → tally + call_cost key s (ruled key next tally s) ≤ cap
  within_cap (covers n) h = grind (arith, nat_tests)
  within_cap (skips n) h = omega (arith, mul-zero (key_rounds key))
  within_cap asks h = omega (arith, mul-zero (key_rounds key))

  -- An empty run is taken where a key is set.
  pub ruled_empty : (key ≡ 0 → ⊥) → tally ≤ cap → ruled key next tally (covers 0) ≡ gives_both next 0
  ruled_empty key_set l =
      let no_cost : tally + key_rounds key * 0 ≤ cap = omega (arith, mul-zero (key_rounds key)) in
      rw (ne_eqb key 0 key_set, le-ltb (remains next) 0 zero-le, le-ltb cap (tally + key_rounds key * 0) no_cost)

-- A key that is not refused at a tally is one of an allowed length that the tally leaves room for, as a set-up asks for it.
pub key_taken : (n tally : ℕ) → key_verdict n tally ≡ None → (key_length n ≡ true) × (tally + key_cost n ≤ cap)
key_taken n tally none = grind (arith, nat_tests)
